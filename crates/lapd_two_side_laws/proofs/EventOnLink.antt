-- The effect of each event of a side on one of its links.
use Rattle.std.proofs.Common.{◌≡◌, ◌⊎◌, inl, ℕ, ◌<◌, ◌==◌, List, [], ◌∷◌, length, Bool, true, false, if◌then◌else◌, Option, Some, None, Result, Ok, Err, refl, sym, ap, subst, ◌∙◌, arith}
use Rattle.std.specs.Prelude.{IfOk}
use Rattle.std.specs.List.{cons_option}
use Rattle.std.proofs.lemmas.Bool.Decides.{nat_tests}
use Rattle.lapd_timers.specs.declared.timer.Timer.{Timer}
use Rattle.lapd_timers.specs.Due.{Timers}
use Rattle.lapd_frame.specs.declared.Sapi.{Sapi}
use Rattle.lapd_frame.specs.declared.Address.{Address}
use Rattle.lapd_frame.specs.declared.fault_kind.FaultKind.{FaultKind}
use Rattle.lapd_frame.specs.declared.frame_fault.FrameFault.{FrameFault}
use Rattle.lapd_frame.specs.Address.{other_side}
use Rattle.lapd_frame.specs.Frame.{Fields, content_fault}
use Rattle.lapd_frame.specs.Reading.{frame_at}
use Rattle.lapd_frame.proofs.FrameAt.{frame_again}
use Rattle.lapd_mod128.specs.Counting.{Tagged}
use Rattle.lapd_link_definition.specs.Counts.{messages_of}
use Rattle.lapd_link_definition.specs.End.{StepState}
use Rattle.lapd_link_definition.specs.Input as input
use Rattle.lapd_link_definition.specs.Input.{Input, Heard, Expiry}
use Rattle.lapd_link_definition.specs.Table.{step}
use Rattle.lapd_tei.specs.Message.{message_at, group_tei}
use Rattle.lapd_pair_laws.specs.Line.{Flight}
use Rattle.lapd_table.specs.declared.link_id.LinkId.{LinkId}
use Rattle.lapd_table.specs.LinkId.{id_eq}
use Rattle.lapd_table.specs.Octets.{event_by, fault_for}
use Rattle.lapd_sides_links.specs.declared.config.Config.{Config}
use Rattle.lapd_sides_links.specs.declared.primitive.What.{What}
use Rattle.lapd_sides_links.specs.declared.primitive.What.TheVariants as what
use Rattle.lapd_sides_links.specs.declared.side_fault.SideKind.{SideKind}
use Rattle.lapd_sides_links.specs.Effects.{stopped}
use Rattle.lapd_sides_links.specs.Links.{Links, Linked, Reaction, in_links, link_acts, link_expires, parameters_for}
use Rattle.lapd_sides_links.specs.Messages.{Message}
use Rattle.lapd_sides.specs.declared.request.Request.{Request}
use Rattle.lapd_sides.specs.declared.request.Request.TheVariants as request
use Rattle.lapd_sides.specs.Management.{carries_message, is_management, is_ui, is_unit_to_group}
use Rattle.lapd_sides.specs.SideState.{SideState, Rules, unmoved, discards, with_links, among_links, or_discarded, or_unmoved, primitive_of_group, unit_from_group, link_of, message_received, data_received, received, takes, with_stopped, expires}
use Rattle.lapd_two_side_laws.specs.Owed.{PassesBy, IsStep, IsUnmovedBy, IsRequest, IsNoRequest, ServesLink}
use Rattle.lapd_two_side_laws.specs.Addressed.{is_named, is_for, parts_of, spelled}
use Rattle.lapd_side_events.specs.Interface.{behaviour, fresh_link, or_named}
use Rattle.lapd_side_events.specs.SideView.{if_granted, accepted_by}
use Rattle.lapd_two_side_laws.specs.Primitives.{link_primitives}
use Rattle.lapd_two_side_laws.specs.Premises.{IsGivenOnce}
use Rattle.lapd_two_side_laws.proofs.Asked.{IsMoveRequest, establish_request, release_request, busy_request, free_request, give_request, unit_request, granted_part, none_given, one_given}
use Rattle.lapd_two_side_laws.proofs.LinkParts.{absent_refuses, absent_acts, other_acts, other_expires, own_is_step, own_acts, own_expires, passes_by_nothing}
use Rattle.lapd_two_side_laws.proofs.Timed.{new_is_timed}
use Rattle.lapd_two_side_laws.proofs.Managed.{and_not, not_of_group}
use Rattle.lapd_two_side_laws.proofs.Reactions.{AnyInput, HoldsOfLinks, HoldsOfMessages, Inputs, Law, PermitsFault, PermitsFrame, PermitsRequest, takes_so}

-- The laws of a link need this of the rules: a frame that is not to the group TEI is for its link,
-- and a message is for the link that is meant.
pub record ServesMeant {M : Type 0} (rules : Rules M) (config : Config) : Type 0 where
  pub spares : (frame : Fields) → is_unit_to_group frame ≡ false
      → rules.is_for_layer_3 config frame ≡ false
  pub gives : (id own : LinkId) (message : Message) (now : ℕ) (s : SideState M)
      → rules.link_of_call s.management id ≡ Some own
      → rules.requested config (request.Give id message) now s
      ≡ link_of rules.side now own (input.Give message.items) [] s
  pub refuses : (id : LinkId) (message : Message) (now : ℕ) (s : SideState M)
      (a : Reaction (SideState M)) → rules.link_of_call s.management id ≡ None
      → rules.requested config (request.Give id message) now s ≡ Ok a → ⊥

module _ {M : Type 0} (rules : Rules M) (config : Config) (id : LinkId) (low : id.tei < 127)
    (removed : Bool) where
  abbrev pub Passes : Law M
  Passes s a = PassesBy rules.side id s.served.links a.after.served.links a.effects

  abbrev pub Stays : Law M
  Stays s a = IsGivenOnce id s.served.links removed a.effects

  abbrev pub IsUnmoved : ℕ → Law M
  IsUnmoved now s a = IsUnmovedBy rules.side id now (fresh_link config id) removed s.served.links
      a.after.served.links a.effects

  abbrev pub Steps : ℕ → Input → List ℕ → (Timers → Timers) → Law M
  Steps now input octets change s a = IsStep rules.side id now input octets change
      s.served.links a.after.served.links a.effects

  abbrev pub Spares : ℕ → Law M
  Spares now s a = Stays s a → IsUnmoved now s a

  pub nothing : (s : SideState M) → Passes s (unmoved s)
  nothing s = passes_by_nothing rules.side id s.served.links

  -- ---- Other links.

  -- primitives for the group TEI are for no link
  pub group_is_other : (at : Sapi) (w : What)
      → link_primitives id (primitive_of_group at w) ≡ []
  group_is_other at w = ap (λ (b : Bool). cons_option (if b then Some w else None) [])
      (not_of_group at id low)

  unit_to_all : (at : Sapi) (octets : List ℕ) (s : SideState M)
      → Passes s (unit_from_group at octets s)
  unit_to_all at octets s = record {
    links = refl;
    frames = refl;
    delivered = group_is_other at (what.UnitUp octets);
  }

  abbrev pub IsOther : Inputs
  IsOther other input octets = id_eq id other ≡ false

  others : (now : ℕ) → HoldsOfLinks rules now (Spares now) IsOther
  others now = record {
    still = λ s once. inl (nothing s);
    counts = λ s once. inl (nothing s);
    reports = λ at octets s once. inl (unit_to_all at octets s);
    steps = λ other input octets s b plain apart done once.
        inl (other_acts rules.side id other s.served.links now input octets b apart done);
  }

  is_other : (r : Result Fields FrameFault) → is_named id (event_by r) ≡ false
      → PermitsFrame IsOther r
  is_other (Ok frame) apart = apart
  is_other (Err fault) apart = of_fault fault.kind fault.address apart
    where
      of_fault : (kind : FaultKind) (address : Option Address)
          → is_named id (fault_for address kind) ≡ false
          → PermitsFault IsOther kind address
      of_fault kind None apart = tt
      of_fault kind (Some address) apart = apart

  -- a link that does not exist stays so, whichever link takes an input
  abbrev pub IsWithout : ℕ → Law M
  IsWithout now s a = s.served.links id ≡ None → Spares now s a

  pub without : (now : ℕ) → HoldsOfLinks rules now (IsWithout now) AnyInput
  without now = record {
    still = λ s none once. inl (nothing s);
    counts = λ s none once. inl (nothing s);
    reports = λ at octets s none once. inl (unit_to_all at octets s);
    steps = λ other input octets s b plain permits done none once.
        inl (absent_acts rules.side id other s.served.links now input octets b none done);
  }

  module _ (hears : (now : ℕ) → HoldsOfMessages rules config now (Spares now)) where
    pub takes_other : (octets : List ℕ) (now : ℕ) (s : SideState M)
        → is_for (other_side rules.side) id octets ≡ false
        → Spares now s (takes rules config octets now s)
    takes_other octets now s apart =
        takes_so (others now) config (hears now) octets s
        (is_other (frame_at (other_side rules.side) octets) apart)

  -- ---- The link itself.

  no_unit : (frame : Flight) → is_unit_to_group (parts_of id frame) ≡ false
  no_unit frame = and_not (is_ui frame.control) (id.tei == group_tei) (grind (arith, nat_tests))

  -- no frame of a link is a message of TEI management
  pub plain : (frame : Flight) → carries_message (parts_of id frame) ≡ false
  plain frame = and_not (is_management id.sapi) _ (no_unit frame)

  module _ (meant : ServesMeant rules config) (frame : Flight) (now : ℕ) (s : SideState M)
      (proper : content_fault frame.role frame.control (length frame.info) ≡ None) where
    abbrev Octets : List ℕ
    Octets = spelled (other_side rules.side) id frame

    abbrev OnLink : Result (Reaction Links) SideKind
    OnLink = in_links id (link_acts rules.side id now (Heard frame.control frame.role) frame.info)
        s.served.links

    -- the link's octets are for it alone
    for_link : (Goal : Reaction (SideState M) → Type 0)
        → Goal (or_discarded s (among_links s OnLink))
        → Goal (takes rules config Octets now s)
    unfolding takes link_of
    for_link Goal h =
        subst (λ (r : Result Fields FrameFault). Goal (received rules config now r s))
        (sym (frame_again (other_side rules.side) (parts_of id frame) proper))
        (subst (λ (b : Bool). Goal (if b
        then message_received rules config now (message_at frame.info) s
        else data_received rules config now (parts_of id frame) s)) (sym (plain frame))
        (subst (λ (b : Bool). Goal (if b then unit_from_group id.sapi frame.info s
        else or_discarded s (among_links s OnLink)))
        (sym (meant.spares (parts_of id frame) (no_unit frame))) h))

    pub takes_own : (l : Linked) (d : StepState) → s.served.links id ≡ Some l
        → step Tagged (Heard frame.control frame.role) l.end ≡ Ok d
        → Steps now (Heard frame.control frame.role) frame.info (λ t. t) s
        (takes rules config Octets now s)
    takes_own l d was done =
        let input = Heard frame.control frame.role in
        for_link (Steps now input frame.info (λ t. t) s)
        (subst (λ (o : Result (Reaction Links) SideKind). Steps now input frame.info (λ t. t) s
        (or_discarded s (among_links s o)))
        (sym (own_acts rules.side id s.served.links now input frame.info l d was done))
        (own_is_step rules.side id s.served.links now input frame.info (λ t. t) l d was done))

    -- the link's octets are discarded if the link does not exist
    pub takes_absent : s.served.links id ≡ None → Passes s (takes rules config Octets now s)
    takes_absent none =
        let input = Heard frame.control frame.role in
        for_link (Passes s) (subst (λ (o : Result (Reaction Links) SideKind).
        Passes s (or_discarded s (among_links s o)))
        (sym (absent_refuses rules.side id s.served.links now input frame.info none))
        (nothing s))

  -- ---- A timer expires.

  or_unmoved_passes : (s : SideState M) (r : Result (Reaction Links) SideKind)
      → ((b : Reaction Links) → r ≡ Ok b
      → PassesBy rules.side id s.served.links b.after b.effects)
      → Passes s (or_unmoved s (among_links s r))
  or_unmoved_passes s (Ok b) each = each b refl
  or_unmoved_passes s (Err kind) each = nothing s

  pub expires_other : ((now : ℕ) (timer : Timer) (s : SideState M)
      → Spares now s (rules.times_out config now (with_stopped timer s)))
      → (now : ℕ) (timer : Timer) (of : Option LinkId) (s : SideState M)
      → ((other : LinkId) → of ≡ Some other → id_eq id other ≡ false)
      → Spares now s (expires rules config now timer of s)
  unfolding expires
  expires_other times_out now timer None s apart = times_out now timer s
  expires_other times_out now timer (Some other) s apart = λ once.
      inl (or_unmoved_passes s
      (in_links other (link_expires rules.side other now timer) s.served.links) (λ b done.
      other_expires rules.side id other s.served.links now timer b (apart other refl) done))

  pub expires_own : (now : ℕ) (timer : Timer) (s : SideState M) (l : Linked) (d : StepState)
      → s.served.links id ≡ Some l → step Tagged (Expiry timer) l.end ≡ Ok d
      → Steps now (Expiry timer) [] (stopped timer) s
      (expires rules config now timer (Some id) s)
  unfolding expires
  expires_own now timer s l d was done =
      subst (λ (o : Result (Reaction Links) SideKind). Steps now (Expiry timer) []
      (stopped timer) s (or_unmoved s (among_links s o)))
      (sym (own_expires rules.side id s.served.links now timer l d was done))
      (own_is_step rules.side id s.served.links now (Expiry timer) [] (stopped timer) l d was done)

  -- ---- Requests.

  abbrev IsAsked : ℕ → List (LinkId × List ℕ) → Law M
  IsAsked now given s a = IsNoRequest rules.side id now (fresh_link config id) removed
      s.served.links a.after.served.links a.effects given
      ⊎ IsRequest rules.side id now s.served.links a.after.served.links a.effects given

  -- of a request without a message
  abbrev pub Asks : ℕ → Law M
  Asks now s a = Stays s a → IsAsked now [] s a

  pub no_request : (now : ℕ) (s : SideState M) (a : Reaction (SideState M)) → Spares now s a
      → Asks now s a
  no_request now s a spared once = inl (record { proceeds = spared once; none_given = refl })

  abbrev pub IsMove : Inputs
  IsMove other input octets = IsMoveRequest rules.side input octets × (messages_of input ≡ [])

  pub asked_links : (now : ℕ) → HoldsOfLinks rules now (Asks now) IsMove
  asked_links now = record {
    still = λ s. no_request now s (unmoved s) (λ once. inl (nothing s));
    counts = λ s. no_request now s (discards s) (λ once. inl (nothing s));
    reports = λ at octets s. no_request now s (unit_from_group at octets s)
        (λ once. inl (unit_to_all at octets s));
    steps = λ other input octets s b plain move done once.
        granted_part rules.side id (fresh_link config id) removed s.served.links now other input
        octets b [] move.0 (none_given (id_eq id other) (messages_of input) move.1) done;
  }

  abbrev pub GivesNone : Request → Type 0
  GivesNone (request.Give other message) = ⊥
  GivesNone asked = Unit {0}

  pub moves : (m : M) (asked : Request) → GivesNone asked → PermitsRequest rules IsMove m asked
  moves m (request.Establish other) none = λ own is. (establish_request rules.side, refl)
  moves m (request.Release other) none = λ own is. (release_request rules.side, refl)
  moves m (request.Unit other octets) none = λ own is. (unit_request rules.side octets.items, refl)
  moves m (request.Give other message) none = absurd none
  moves m (request.Busy other true) none = λ own is. (busy_request rules.side, refl)
  moves m (request.Busy other false) none = λ own is. (free_request rules.side, refl)
  moves m request.AskTei none = tt
  moves m (request.Check tei) none = tt
  moves m (request.Remove tei) none = tt
  moves m request.CheckAll none = tt
  moves m request.RemoveAll none = tt

  module _ (meant : ServesMeant rules config)
      (requested : (now : ℕ) (asked : Request) (s : SideState M) → GivesNone asked
      → IfOk (rules.requested config asked now s) (Asks now s)) (now : ℕ) (s : SideState M)
      (a : Reaction (SideState M)) (once : Stays s a) where
    by_link : (own : LinkId) (message : List ℕ) (r : Result (Reaction Links) SideKind)
        → in_links own (link_acts rules.side own now (input.Give message) []) s.served.links ≡ r
        → among_links s r ≡ Ok a → IsAsked now ((own, message) ∷ []) s a
    by_link own message (Ok b) done is =
        let same : with_links s b ≡ a = cc in
        subst (IsAsked now ((own, message) ∷ []) s) same (granted_part rules.side id
        (fresh_link config id) removed s.served.links now own (input.Give message) [] b
        ((own, message) ∷ []) (give_request rules.side message) (one_given id own message) done)
    by_link own message (Err kind) done is = cc

    -- a message is for the link that is meant
    giving : (other : LinkId) (message : Message) (own : Option LinkId)
        → rules.link_of_call s.management other ≡ own
        → rules.requested config (request.Give other message) now s ≡ Ok a
        → IsAsked now (accepted_by (behaviour rules config) (request.Give other message) now s) s a
    unfolding link_of
    giving other message (Some own) its is =
        subst (λ (given : List (LinkId × List ℕ)). IsAsked now given s a)
        (sym (ap (if_granted (or_named other (rules.link_of_call s.management other)) message.items)
        is
        ∙ ap (λ (o : Option LinkId). (or_named other o, message.items) ∷ []) its))
        (by_link own message.items _ refl
        (sym (meant.gives other own message now s its) ∙ is))
    giving other message None its is = absurd (meant.refuses other message now s a its is)

    other_asked : (asked : Request) → GivesNone asked
        → rules.requested config asked now s ≡ Ok a → IsAsked now [] s a
    other_asked asked none is =
        subst (λ r. IfOk r (Asks now s)) is (requested now asked s none) once

    pub asked : (asked : Request) → rules.requested config asked now s ≡ Ok a
        → IsAsked now (accepted_by (behaviour rules config) asked now s) s a
    asked (request.Give other message) is =
        giving other message (rules.link_of_call s.management other) refl is
    asked (request.Establish other) is = other_asked (request.Establish other) tt is
    asked (request.Release other) is = other_asked (request.Release other) tt is
    asked (request.Unit other octets) is = other_asked (request.Unit other octets) tt is
    asked (request.Busy other on) is = other_asked (request.Busy other on) tt is
    asked request.AskTei is = other_asked request.AskTei tt is
    asked (request.Check tei) is = other_asked (request.Check tei) tt is
    asked (request.Remove tei) is = other_asked (request.Remove tei) tt is
    asked request.CheckAll is = other_asked request.CheckAll tt is
    asked request.RemoveAll is = other_asked request.RemoveAll tt is

  -- ---- Every event, if TEI management spares the link.

  pub record SparesLink : Type 0 where
    pub meant : ServesMeant rules config
    pub hears : (now : ℕ) → HoldsOfMessages rules config now (Spares now)
    pub times_out : (now : ℕ) (timer : Timer) (s : SideState M)
        → Spares now s (rules.times_out config now (with_stopped timer s))
    pub requested : (now : ℕ) (asked : Request) (s : SideState M) → GivesNone asked
        → IfOk (rules.requested config asked now s) (Asks now s)

  pub serves : SparesLink → ServesLink (behaviour rules config) rules.side id removed
  serves spared = record {
    takes_other = takes_other spared.hears;
    takes_own = λ frame now s l d proper was done.
        takes_own spared.meant frame now s proper l d was done;
    takes_absent = λ frame now s proper none. takes_absent spared.meant frame now s proper none;
    fresh_is_timed = new_is_timed (parameters_for config id.sapi) config.durations;
    expires_other = expires_other spared.times_out;
    expires_own = expires_own;
    asked = λ request now s a is once.
        asked spared.meant spared.requested now s a once request is;
  }
