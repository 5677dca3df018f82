-- Every event of a side leaves a link unchanged, is one step of it, or adds or removes it, whatever
-- octets arrive.
use Rattle.std.proofs.Common.{◌≡◌, ◌⊎◌, inl, inr, ℕ, ◌<◌, ◌==◌, List, [], ◌∷◌, Bool, true, false, if◌then◌else◌, Option, Some, None, Result, Ok, Err, refl, sym, ap, subst, arith}
use Rattle.std.proofs.lemmas.Bool.Decides.{nat_tests}
use Rattle.lapd_timers.specs.declared.timer.Timer.{Timer}
use Rattle.lapd_timers.specs.declared.timer.Timer.TheVariants.{T200, T201, T202, T203}
use Rattle.lapd_timers.specs.Due.{Timers}
use Rattle.lapd_frame.specs.declared.Address.{Address}
use Rattle.lapd_frame.specs.declared.Side.{Side}
use Rattle.lapd_frame.specs.declared.fault_kind.FaultKind.{FaultKind}
use Rattle.lapd_frame.specs.declared.frame_fault.FrameFault.{FrameFault}
use Rattle.lapd_frame.specs.Address.{other_side}
use Rattle.lapd_frame.specs.Frame.{Fields}
use Rattle.lapd_frame.specs.Reading.{frame_at}
use Rattle.lapd_mod128.specs.Counting.{Tagged}
use Rattle.lapd_link_definition.specs.Counts.{messages_of}
use Rattle.lapd_link_definition.specs.End.{End, StepState}
use Rattle.lapd_link_definition.specs.Input.{Input, Heard, Faulty, Expiry}
use Rattle.lapd_link_definition.specs.Table.{step}
use Rattle.lapd_tei.specs.Message.{message_at, group_tei}
use Rattle.lapd_table.specs.declared.link_id.LinkId.{LinkId}
use Rattle.lapd_table.specs.LinkId.{id_eq, id_of_address}
use Rattle.lapd_table.specs.Octets.{event_by, fault_for}
use Rattle.lapd_table.proofs.Ids.{same_id_eq}
use Rattle.lapd_sides_links.specs.declared.config.Config.{Config}
use Rattle.lapd_sides_links.specs.declared.side_fault.SideKind.{SideKind}
use Rattle.lapd_sides_links.specs.Effects.{Effects, stopped}
use Rattle.lapd_sides_links.specs.Links.{Links, Linked, Reaction, in_links, link_acts}
use Rattle.lapd_sides.specs.declared.request.Request.{Request}
use Rattle.lapd_sides.specs.Management.{is_management, is_ui, is_unit_to_group}
use Rattle.lapd_two_side_laws.specs.Addressed.{is_named, is_for}
use Rattle.lapd_side_events.specs.Interface.{fresh_link}
use Rattle.lapd_two_side_laws.specs.Owed.{PassesBy, IsStep, IsUnmovedBy, ServesLink}
use Rattle.lapd_two_side_laws.specs.Premises.{IsGivenOnce}
use Rattle.lapd_two_side_laws.specs.Primitives.{given_to}
use Rattle.lapd_side_events.specs.SideView.{Behaviour, SideView, SideEvent, Take, Lose, Expire, Ask, Overhear, unmoved, takes_first, runs_on, may_expire, or_unmoved, accepted_by, accepted, reaction}
use Rattle.lapd_two_side_laws.proofs.LinkParts.{absent_acts, own_granted, passes_by_nothing}
use Rattle.lapd_two_side_laws.proofs.Managed.{and_not}
use Rattle.lapd_two_side_laws.proofs.SideEvents.{none_accepted}
use Rattle.lapd_sides.specs.SideState.{SideState, Rules, among_links, or_discarded, link_of, unit_from_group, message_received, data_received, fault_received, received, takes}
use Rattle.lapd_two_side_laws.proofs.EventOnLink.{ServesMeant}

-- ---- The effect of an event on a link, with the messages that the link accepts.

module _ (side : Side) (id : LinkId) (fresh : Linked) where
  pub record IsNoStep (before now : Links) (effects : Effects) (messages : List (List ℕ)) : Type 0
    where
      pub at : ℕ
      pub stays : IsUnmovedBy side id at fresh false before now effects
      pub none : messages ≡ []

  pub record IsOneStep (before now : Links) (effects : Effects) (messages : List (List ℕ)) : Type 0
    where
      pub at : ℕ
      pub input : Input
      pub octets : List ℕ
      pub change : Timers → Timers
      pub is_step : IsStep side id at input octets change before now effects
      pub messages_are : messages ≡ messages_of input

  abbrev pub Affects : Links → Links → Effects → List (List ℕ) → Type 0
  Affects before now effects messages = IsNoStep before now effects messages
      ⊎ IsOneStep before now effects messages

  pub unaffected : (before now : Links) (effects : Effects) → PassesBy side id before now effects
      → Affects before now effects []
  unaffected before now effects passes = inl (record { at = 0; stays = inl passes; none = refl })

  -- an input of the link that is no message, if the link accepts it
  own_input : (now : ℕ) (input : Input) (octets : List ℕ) (links : Links) (b : Reaction Links)
      (l : Option Linked) → messages_of input ≡ [] → links id ≡ l
      → in_links id (link_acts side id now input octets) links ≡ Ok b
      → Affects links b.after b.effects []
  own_input now input octets links b None none is done =
      unaffected links b.after b.effects (absent_acts side id id links now input octets b is done)
  own_input now input octets links b (Some l) none is done = inr (record {
    at = now;
    input = input;
    octets = octets;
    change = λ t. t;
    is_step = (own_granted side id links now input octets l b is done).is_step;
    messages_are = sym none;
  })

-- no frame of a link is for the group TEI
not_to_group : (id : LinkId) (frame : Fields) → id.tei < 127
    → id_eq id (id_of_address frame.address) ≡ true → is_unit_to_group frame ≡ false
not_to_group id frame low named =
    let same : id.tei ≡ frame.address.tei =
    ap (λ (k : LinkId). k.tei) (same_id_eq id (id_of_address frame.address) named) in
    and_not (is_ui frame.control) (frame.address.tei == group_tei)
    (grind (arith, nat_tests, same, low))

-- ---- The link's own octets arrive.

module _ {M : Type 0} (rules : Rules M) (config : Config) (meant : ServesMeant rules config)
    (id : LinkId) (low : id.tei < 127) (now : ℕ) (s : SideState M) where
  abbrev AffectsIt : Reaction (SideState M) → Type 0
  AffectsIt a = Affects rules.side id (fresh_link config id) s.served.links
      a.after.served.links a.effects []

  its_input : (input : Input) (octets : List ℕ) (r : Result (Reaction Links) SideKind)
      → messages_of input ≡ []
      → in_links id (link_acts rules.side id now input octets) s.served.links ≡ r
      → AffectsIt (or_discarded s (among_links s r))
  its_input input octets (Ok b) none is = own_input rules.side id (fresh_link config id) now
      input octets s.served.links b (s.served.links id) none refl is
  its_input input octets (Err kind) none is = unaffected rules.side id (fresh_link config id)
      s.served.links s.served.links _ (passes_by_nothing rules.side id s.served.links)

  its_link : (other : LinkId) (input : Input) (octets : List ℕ) → messages_of input ≡ []
      → id_eq id other ≡ true
      → AffectsIt (or_discarded s (link_of rules.side now other input octets s))
  unfolding link_of
  its_link other input octets none same =
      subst (λ (k : LinkId). AffectsIt (or_discarded s (among_links s
      (in_links k (link_acts rules.side k now input octets) s.served.links))))
      (same_id_eq id other same) (its_input input octets
      (in_links id (link_acts rules.side id now input octets) s.served.links) none refl)

  its_fault : (kind : FaultKind) (address : Option Address)
      → is_named id (fault_for address kind) ≡ true
      → AffectsIt (fault_received rules.side now kind address s)
  its_fault kind None named = cc
  its_fault kind (Some address) named =
      its_link (id_of_address address) (Faulty kind) [] refl named

  its_frame : (r : Result Fields FrameFault) → is_named id (event_by r) ≡ true
      → AffectsIt (received rules config now r s)
  its_frame (Ok frame) named =
      let group = not_to_group id frame low named in
      let does = or_discarded s (link_of rules.side now (id_of_address frame.address)
      (Heard frame.control frame.address.role) frame.info s) in
      let all = unit_from_group frame.address.sapi frame.info s in
      subst (λ (b : Bool). AffectsIt
      (if b then message_received rules config now (message_at frame.info) s
      else data_received rules config now frame s))
      (sym (and_not (is_management frame.address.sapi) (is_unit_to_group frame) group))
      (subst (λ (b : Bool). AffectsIt (if b then all else does))
      (sym (meant.spares frame group))
      (its_link (id_of_address frame.address) (Heard frame.control frame.address.role)
      frame.info refl named))
  its_frame (Err fault) named = its_fault fault.kind fault.address named

  pub takes_its : (octets : List ℕ) → is_for (other_side rules.side) id octets ≡ true
      → AffectsIt (takes rules config octets now s)
  unfolding takes
  takes_its octets named = its_frame (frame_at (other_side rules.side) octets) named

-- ---- Every event.

module _ (S : Type 0) (w : Behaviour S) (side : Side) (id : LinkId)
    (serves : ServesLink w side id false) (own : (octets : List ℕ) (now : ℕ) (s : S)
    → is_for (other_side side) id octets ≡ true
    → Affects side id (w.fresh id) (w.served s).links
    (w.served (w.takes octets now s).after).links (w.takes octets now s).effects []) where
  abbrev pub AffectsSide : S → Reaction S → List (List ℕ) → Type 0
  AffectsSide s a messages = Affects side id (w.fresh id) (w.served s).links
      (w.served a.after).links a.effects messages

  abbrev pub IsOnce : S → Reaction S → Type 0
  IsOnce s a = IsGivenOnce id (w.served s).links false a.effects

  nothing : (s : S) → AffectsSide s (unmoved s) []
  nothing s = unaffected side id (w.fresh id) (w.served s).links (w.served s).links _
      (passes_by_nothing side id (w.served s).links)

  unmoved_at : (now : ℕ) (s : S) (a : Reaction S) → IsUnmovedBy side id now (w.fresh id) false
      (w.served s).links (w.served a.after).links a.effects → AffectsSide s a []
  unmoved_at now s a stays = inl (record { at = now; stays = stays; none = refl })

  takes_by : (now : ℕ) (octets : List ℕ) (s : S) (test : Bool)
      → is_for (other_side side) id octets ≡ test → IsOnce s (w.takes octets now s)
      → AffectsSide s (w.takes octets now s) []
  takes_by now octets s true is once = own octets now s is
  takes_by now octets s false is once =
      unmoved_at now s (w.takes octets now s) (serves.takes_other octets now s is once)

  first_taken : (now : ℕ) (line : List (List ℕ)) (s : S) → IsOnce s (takes_first w now line s)
      → AffectsSide s (takes_first w now line s) []
  first_taken now [] s once = nothing s
  first_taken now (octets ∷ line) s once =
      takes_by now octets s (is_for (other_side side) id octets) refl once

  -- ---- A timer expires.

  steps_by : (timer : Timer) (e : End)
      → (done : StepState) × (step Tagged (Expiry timer) e ≡ Ok done)
  unfolding step
  steps_by timer e = (_, refl)

  own_expires : (now : ℕ) (timer : Timer) (s : S) (l : Option Linked) → (w.served s).links id ≡ l
      → runs_on timer l ≡ true → AffectsSide s (w.expires now timer (Some id) s) []
  own_expires now timer s None is runs = cc
  own_expires now timer s (Some l) is runs =
      let done = steps_by timer l.end in
      inr (record {
        at = now;
        input = Expiry timer;
        octets = [];
        change = stopped timer;
        is_step = serves.expires_own now timer s l done.0 is done.1;
        messages_are = refl;
      })

  some_id : (a b : LinkId) → Some a ≡ Some b → a ≡ b
  some_id a b h = cc

  expires_by : (now : ℕ) (timer : Timer) (other : LinkId) (s : S) (test : Bool)
      → id_eq id other ≡ test → runs_on timer ((w.served s).links other) ≡ true
      → IsOnce s (w.expires now timer (Some other) s)
      → AffectsSide s (w.expires now timer (Some other) s) []
  expires_by now timer other s true is runs once =
      let same : other ≡ id = sym (same_id_eq id other is) in
      subst (λ (k : LinkId). AffectsSide s (w.expires now timer (Some k) s) []) (sym same)
      (own_expires now timer s ((w.served s).links id) refl
      (subst (λ (k : LinkId). runs_on timer ((w.served s).links k) ≡ true) same runs))
  expires_by now timer other s false is runs once =
      unmoved_at now s (w.expires now timer (Some other) s)
      (serves.expires_other now timer (Some other) s
      (λ k e. subst (λ (x : LinkId). id_eq id x ≡ false) (some_id other k e) is) once)

  expires_if : (test : Bool) (s : S) (a : Reaction S)
      → (test ≡ true → IsOnce s a → AffectsSide s a []) → IsOnce s (if test then a else unmoved s)
      → AffectsSide s (if test then a else unmoved s) []
  expires_if true s a does once = does refl once
  expires_if false s a does once = nothing s

  none_is_some : (k : LinkId) → None ≡ Some k → ⊥
  none_is_some k h = cc

  expires_of : (now : ℕ) (timer : Timer) (of : Option LinkId) (s : S)
      → may_expire timer of (w.served s) ≡ true → IsOnce s (w.expires now timer of s)
      → AffectsSide s (w.expires now timer of s) []
  expires_of now timer None s runs once = unmoved_at now s (w.expires now timer None s)
      (serves.expires_other now timer None s (λ k e. absurd (none_is_some k e)) once)
  expires_of now T200 (Some other) s runs once =
      expires_by now T200 other s (id_eq id other) refl runs once
  expires_of now T203 (Some other) s runs once =
      expires_by now T203 other s (id_eq id other) refl runs once
  expires_of now T201 (Some other) s runs once = cc
  expires_of now T202 (Some other) s runs once = cc

  -- ---- A request.

  asks : (request : Request) (now : ℕ) (s : S) (r : Result (Reaction S) SideKind)
      → w.requested request now s ≡ r → IsOnce s (or_unmoved s r)
      → AffectsSide s (or_unmoved s r) (given_to id (accepted_by w request now s))
  asks request now s (Ok a) is once = elim (serves.asked request now s a is once) [
    | inl none ↦ inl (record { at = now; stays = none.proceeds; none = none.none_given })
    | inr one ↦ inr (record {
      at = now;
      input = one.input;
      octets = one.octets;
      change = λ t. t;
      is_step = one.is_step;
      messages_are = one.given_is;
    })
  ]
  asks request now s (Err kind) is once =
      subst (λ more. AffectsSide s (unmoved s) (given_to id more))
      (sym (none_accepted S w side id request now s kind is)) (nothing s)

  pub each_effect : (event : SideEvent) (v : SideView S) → IsOnce v.now (reaction w event v)
      → AffectsSide v.now (reaction w event v) (given_to id (accepted w event v))
  each_effect (Take now) v once = first_taken now v.incoming v.now once
  each_effect (Lose at) v once = nothing v.now
  each_effect (Expire timer of now) v once =
      expires_if (may_expire timer of (w.served v.now)) v.now (w.expires now timer of v.now)
      (λ runs once. expires_of now timer of v.now runs once) once
  each_effect (Ask request now) v once =
      asks request now v.now (w.requested request now v.now) refl once
  each_effect (Overhear octets now) v once =
      takes_by now octets v.now (is_for (other_side side) id octets) refl once
