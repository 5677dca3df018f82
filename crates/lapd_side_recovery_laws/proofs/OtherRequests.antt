-- A request for another link leaves a link unchanged.
use Rattle.std.proofs.Common.{◌≡◌, ℕ, ◌<◌, ◌==◌, ◌&&◌, nat_lt, if◌then◌else◌, List, [], ◌∷◌, length, Bool, true, false, Option, Some, Result, Ok, Err, refl, sym, ap, subst, ◌∙◌}
use Rattle.std.specs.Prelude.{IfOk, option_map}
use Rattle.lapd_frame.specs.declared.Sapi.{Sapi}
use Rattle.lapd_frame.specs.declared.Side.TheVariants as side
use Rattle.lapd_frame.specs.Frame.{n201, spelling}
use Rattle.lapd_link_definition.specs.declared.event.LinkFault.TheVariants.{NotEstablished, TooLong}
use Rattle.lapd_link_definition.specs.Input as input
use Rattle.lapd_link_definition.specs.Input.{Input}
use Rattle.lapd_tei.specs.declared.phase.Phase.{Phase}
use Rattle.lapd_tei.specs.declared.phase.Phase.TheVariants.{Unassigned, Awaiting, Assigned}
use Rattle.lapd_tei.specs.Message.{group_tei}
use Rattle.lapd_tei.specs.Terminal.{tei_of}
use Rattle.lapd_table.specs.declared.link_id.LinkId.{LinkId}
use Rattle.lapd_table.specs.LinkId.{id_eq}
use Rattle.lapd_sides_links.specs.declared.config.Config.{Config}
use Rattle.lapd_sides_links.specs.declared.primitive.What.TheVariants as what
use Rattle.lapd_sides_links.specs.declared.side_fault.SideKind.{SideKind}
use Rattle.lapd_sides_links.specs.declared.side_fault.SideKind.TheVariants.{NoLink, Link}
use Rattle.lapd_sides_links.specs.Links.{Reaction, is_served, of_sapi}
use Rattle.lapd_sides.specs.declared.request.Request.{Request}
use Rattle.lapd_sides.specs.declared.request.Request.TheVariants as request
use Rattle.lapd_sides.specs.Network.{Network, group_frame, network_requested, network_rules, unit_to_group}
use Rattle.lapd_sides.specs.SideState.{Rules, SideState, link_of}
use Rattle.lapd_sides.specs.User.{User, forgets, user_requested, user_rules, wants, with_tei_or}
use Rattle.lapd_side_events.specs.Interface.{network_behaviour, or_named, user_behaviour}
use Rattle.lapd_side_events.specs.SideView.{SideView, Ask, accepted, if_granted, or_unmoved}
use Rattle.lapd_two_side_laws.specs.Primitives.{given_to}
use Rattle.lapd_two_side_laws.proofs.Asked.{one_given}
use Rattle.lapd_two_side_laws.proofs.EventOnLink as its
use Rattle.lapd_two_side_laws.proofs.LinkParts.{other_acts, spelled_is_for}
use Rattle.lapd_two_side_laws.proofs.Managed.{not_of_group}
use Rattle.lapd_two_side_laws.proofs.Reactions.{HoldsOfLinks, Inputs, IsNoExpiry, Law, if_either, linked}
use Rattle.lapd_two_side_laws.proofs.Requests.{sent_to_group}
use Rattle.lapd_side_recovery_laws.specs.Quiet.{AsksOther, named_by}

some_id : (a b : LinkId) → Some a ≡ Some b → a ≡ b
some_id a b h = cc

some_tei : (a b : ℕ) → Some a ≡ Some b → a ≡ b
some_tei a b h = cc

module _ {M : Type 0} (rules : Rules M) (config : Config) (id : LinkId) (low : id.tei < 127) where
  abbrev Passes : Law M
  Passes = its.Passes rules config id low false

  abbrev IsOther : Inputs
  IsOther other input octets = id_eq id other ≡ false

  others : (now : ℕ) → HoldsOfLinks rules now Passes IsOther
  others now = record {
    still = λ s. its.nothing rules config id low false s;
    counts = λ s. its.nothing rules config id low false s;
    reports = λ at octets s. record {
      links = refl;
      frames = refl;
      delivered = its.group_is_other rules config id low false at (what.UnitUp octets);
    };
    steps = λ other input octets s b plain apart done.
        other_acts rules.side id other s.served.links now input octets b apart done;
  }

  granted : (s : SideState M) (r : Result (Reaction (SideState M)) SideKind) → IfOk r (Passes s)
      → Passes s (or_unmoved s r)
  granted s (Ok a) h = h
  granted s (Err kind) h = its.nothing rules config id low false s

none_accepted : (S : Type 0) (id own : LinkId) (message : List ℕ)
    (r : Result (Reaction S) SideKind) → id_eq id own ≡ false
    → given_to id (if_granted own message r) ≡ []
none_accepted S id own message (Ok a) apart =
    one_given id own message ∙ ap (λ (b : Bool). if b then message ∷ [] else []) apart
none_accepted S id own message (Err kind) apart = refl

module _ (config : Config) (id : LinkId) (low : id.tei < 127) where
  -- ---- A network side.

  abbrev PassesNetwork : Network → Reaction Network → Type 0
  PassesNetwork = Passes network_rules config id low

  to_group : (at : Sapi) (octets : List ℕ) (s : Network)
      → PassesNetwork s (sent_to_group at octets s)
  to_group at octets s = record {
    links = refl;
    frames = ap (λ (b : Bool). if b then spelling side.Network (group_frame at octets) ∷ [] else [])
        (spelled_is_for side.Network id (group_frame at octets) ∙ not_of_group at id low);
    delivered = refl;
  }

  unit_passes : (other : LinkId) (octets : List ℕ) (now : ℕ) (s : Network) (test : Bool)
      → id_eq id other ≡ false
      → IfOk (if test then unit_to_group other.sapi octets s
      else link_of side.Network now other (input.UnitData (length octets)) octets s)
      (PassesNetwork s)
  unit_passes other octets now s true apart =
      if_either (λ (r : Result (Reaction Network) SideKind). IfOk r (PassesNetwork s))
      (nat_lt n201 (length octets)) (Err (Link TooLong)) (Ok (sent_to_group other.sapi octets s))
      tt (to_group other.sapi octets s)
  unit_passes other octets now s false apart =
      linked (others network_rules config id low now) other (input.UnitData (length octets)) octets
      s tt apart

  network_passes : (asked : Request) (now : ℕ) (s : Network) (other : LinkId)
      → named_by asked ≡ Some other → id_eq id other ≡ false
      → IfOk (network_requested config asked now s) (PassesNetwork s)
  unfolding network_requested
  network_passes (request.Establish x) now s other is apart =
      linked (others network_rules config id low now) x input.Establish [] s tt
      (subst (λ (k : LinkId). id_eq id k ≡ false) (sym (some_id x other is)) apart)
  network_passes (request.Release x) now s other is apart =
      linked (others network_rules config id low now) x input.Release [] s tt
      (subst (λ (k : LinkId). id_eq id k ≡ false) (sym (some_id x other is)) apart)
  network_passes (request.Unit x octets) now s other is apart =
      unit_passes x octets.items now s (is_served config x.sapi && (x.tei == group_tei))
      (subst (λ (k : LinkId). id_eq id k ≡ false) (sym (some_id x other is)) apart)
  network_passes (request.Give x message) now s other is apart =
      linked (others network_rules config id low now) x (input.Give message.items) [] s tt
      (subst (λ (k : LinkId). id_eq id k ≡ false) (sym (some_id x other is)) apart)
  network_passes (request.Busy x true) now s other is apart =
      linked (others network_rules config id low now) x input.BusyOn [] s tt
      (subst (λ (k : LinkId). id_eq id k ≡ false) (sym (some_id x other is)) apart)
  network_passes (request.Busy x false) now s other is apart =
      linked (others network_rules config id low now) x input.BusyOff [] s tt
      (subst (λ (k : LinkId). id_eq id k ≡ false) (sym (some_id x other is)) apart)
  network_passes request.AskTei now s other is apart = cc
  network_passes (request.Check tei) now s other is apart = cc
  network_passes (request.Remove tei) now s other is apart = cc
  network_passes request.CheckAll now s other is apart = cc
  network_passes request.RemoveAll now s other is apart = cc

  network_gives_none : (asked : Request) (now : ℕ) (v : SideView Network) (other : LinkId)
      → named_by asked ≡ Some other → id_eq id other ≡ false
      → given_to id (accepted (network_behaviour config) (Ask asked now) v) ≡ []
  network_gives_none (request.Give x message) now v other is apart =
      none_accepted Network id x message.items
      ((network_behaviour config).requested (request.Give x message) now v.now)
      (subst (λ (k : LinkId). id_eq id k ≡ false) (sym (some_id x other is)) apart)
  network_gives_none asked now v other is apart = refl

  pub network_asks_other : (v : SideView Network) (asked : Request) (now : ℕ) (other : LinkId)
      → named_by asked ≡ Some other → id_eq id other ≡ false
      → AsksOther (network_behaviour config) side.Network id (Ask asked now) v
  network_asks_other v asked now other is apart = record {
    passes = granted network_rules config id low v.now (network_requested config asked now v.now)
        (network_passes asked now v.now other is apart);
    none_given = network_gives_none asked now v other is apart;
  }

  -- ---- A user side, which has one TEI.

  abbrev PassesUser : User → Reaction User → Type 0
  PassesUser = Passes user_rules config id low

  of_own : (phase : Phase) (at : Sapi) (what_for : Input) (octets : List ℕ)
      (otherwise : Result (Reaction User) SideKind) (now : ℕ) (s : User) (tei : ℕ)
      → IsNoExpiry what_for → tei_of phase ≡ Some tei → id_eq id (of_sapi at tei) ≡ false
      → IfOk (with_tei_or now phase at what_for octets otherwise s) (PassesUser s)
  of_own (Assigned by own) at what_for octets otherwise now s tei plain is apart =
      linked (others user_rules config id low now) (of_sapi at own) what_for octets s plain
      (subst (λ (n : ℕ). id_eq id (of_sapi at n) ≡ false) (sym (some_tei own tei is)) apart)
  of_own Unassigned at what_for octets otherwise now s tei plain is apart = cc
  of_own (Awaiting purpose count ri) at what_for octets otherwise now s tei plain is apart = cc

  user_passes : (asked : Request) (now : ℕ) (s : User) (other : LinkId) (tei : ℕ)
      → named_by asked ≡ Some other → tei_of s.management.terminal ≡ Some tei
      → id_eq id (of_sapi other.sapi tei) ≡ false
      → IfOk (user_requested config asked now s) (PassesUser s)
  unfolding user_requested
  user_passes (request.Establish x) now s other tei is has apart =
      of_own s.management.terminal x.sapi input.Establish [] (wants config now x.sapi s) now s tei
      tt has (subst (λ (k : LinkId). id_eq id (of_sapi k.sapi tei) ≡ false)
      (sym (some_id x other is)) apart)
  user_passes (request.Release x) now s other tei is has apart =
      of_own s.management.terminal x.sapi input.Release [] (forgets x.sapi s) now s tei tt has
      (subst (λ (k : LinkId). id_eq id (of_sapi k.sapi tei) ≡ false) (sym (some_id x other is))
      apart)
  user_passes (request.Unit x octets) now s other tei is has apart =
      of_own s.management.terminal x.sapi (input.UnitData (length octets.items)) octets.items
      (Err NoLink) now s tei tt has
      (subst (λ (k : LinkId). id_eq id (of_sapi k.sapi tei) ≡ false) (sym (some_id x other is))
      apart)
  user_passes (request.Give x message) now s other tei is has apart =
      of_own s.management.terminal x.sapi (input.Give message.items) [] (Err (Link NotEstablished))
      now s tei tt has
      (subst (λ (k : LinkId). id_eq id (of_sapi k.sapi tei) ≡ false) (sym (some_id x other is))
      apart)
  user_passes (request.Busy x true) now s other tei is has apart =
      of_own s.management.terminal x.sapi input.BusyOn [] (Err NoLink) now s tei tt has
      (subst (λ (k : LinkId). id_eq id (of_sapi k.sapi tei) ≡ false) (sym (some_id x other is))
      apart)
  user_passes (request.Busy x false) now s other tei is has apart =
      of_own s.management.terminal x.sapi input.BusyOff [] (Err NoLink) now s tei tt has
      (subst (λ (k : LinkId). id_eq id (of_sapi k.sapi tei) ≡ false) (sym (some_id x other is))
      apart)
  user_passes request.AskTei now s other tei is has apart = cc
  user_passes (request.Check t) now s other tei is has apart = cc
  user_passes (request.Remove t) now s other tei is has apart = cc
  user_passes request.CheckAll now s other tei is has apart = cc
  user_passes request.RemoveAll now s other tei is has apart = cc

  user_means : (v : SideView User) (x : LinkId) (tei : ℕ)
      → tei_of v.now.management.terminal ≡ Some tei
      → (user_behaviour config).means v.now x ≡ of_sapi x.sapi tei
  user_means v x tei has = ap (λ (o : Option ℕ). or_named x (option_map (of_sapi x.sapi) o)) has

  user_gives_none : (asked : Request) (now : ℕ) (v : SideView User) (other : LinkId) (tei : ℕ)
      → named_by asked ≡ Some other → tei_of v.now.management.terminal ≡ Some tei
      → id_eq id (of_sapi other.sapi tei) ≡ false
      → given_to id (accepted (user_behaviour config) (Ask asked now) v) ≡ []
  user_gives_none (request.Give x message) now v other tei is has apart =
      none_accepted User id ((user_behaviour config).means v.now x) message.items
      ((user_behaviour config).requested (request.Give x message) now v.now)
      (ap (id_eq id) (user_means v x tei has)
      ∙ subst (λ (k : LinkId). id_eq id (of_sapi k.sapi tei) ≡ false) (sym (some_id x other is))
      apart)
  user_gives_none asked now v other tei is has apart = refl

  pub user_asks_other : (v : SideView User) (asked : Request) (now : ℕ) (other : LinkId) (tei : ℕ)
      → named_by asked ≡ Some other → tei_of v.now.management.terminal ≡ Some tei
      → id_eq id (of_sapi other.sapi tei) ≡ false
      → AsksOther (user_behaviour config) side.User id (Ask asked now) v
  user_asks_other v asked now other tei is has apart = record {
    passes = granted user_rules config id low v.now (user_requested config asked now v.now)
        (user_passes asked now v.now other tei is has apart);
    none_given = user_gives_none asked now v other tei is has apart;
  }
