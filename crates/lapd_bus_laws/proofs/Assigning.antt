-- Each event of the network is a step of its assigner, which sends the messages of this step, or
-- leaves the assigner unchanged and assigns no TEI.
use Rattle.std.proofs.Common.{◌≡◌, ◌⊎◌, inl, inr, ℕ, List, [], ◌∷◌, Bool, true, false, if◌then◌else◌, Option, Some, None, Result, Ok, Err, refl, sym, ap, subst}
use Rattle.std.specs.Prelude.{IfOk, filter}
use Rattle.std.specs.List.{filter_map, list_any}
use Rattle.lapd_timers.specs.declared.timer.Timer.{Timer}
use Rattle.lapd_frame.specs.declared.Side.TheVariants as side
use Rattle.lapd_frame.specs.declared.frame_fault.FrameFault.{FrameFault}
use Rattle.lapd_frame.specs.Frame.{Fields, spelling}
use Rattle.lapd_frame.specs.Reading.{frame_at}
use Rattle.lapd_tei.specs.declared.assigner.AssignerEvent.{AssignerEvent}
use Rattle.lapd_tei.specs.declared.assigner.AssignerEvent.TheVariants as event
use Rattle.lapd_tei.specs.declared.check.Check.{Check}
use Rattle.lapd_tei.specs.declared.fault.TeiFault.{TeiFault}
use Rattle.lapd_tei.specs.declared.kind.TeiKind.TheVariants as kind
use Rattle.lapd_tei.specs.declared.message.TeiMessage.{TeiMessage}
use Rattle.lapd_tei.specs.declared.out.TeiOut.{TeiOut}
use Rattle.lapd_tei.specs.declared.out.TeiOut.TheVariants as out
use Rattle.lapd_tei.specs.Assigner.{AssignerState, assigner_step}
use Rattle.lapd_tei.specs.Message.{group_tei, message_at}
use Rattle.lapd_tei.specs.Out.{remove, sent}
use Rattle.lapd_table.specs.declared.link_id.LinkId.{LinkId}
use Rattle.lapd_sides_links.specs.declared.config.Config.{Config}
use Rattle.lapd_sides_links.specs.declared.side_fault.SideKind.{SideKind}
use Rattle.lapd_sides_links.specs.Effects.{message_sent}
use Rattle.lapd_sides_links.specs.Links.{Links, Reaction, in_links, link_expires}
use Rattle.lapd_sides.specs.declared.request.Request.{Request}
use Rattle.lapd_sides.specs.AllTeis.{check_of_all, holds_any}
use Rattle.lapd_sides.specs.Management.{carries_message, manages}
use Rattle.lapd_sides.specs.SideState as sides
use Rattle.lapd_sides.specs.SideState.{among_links, data_received, expires, message_received, received, takes, with_links, with_stopped}
use Rattle.lapd_sides.specs.Network.{Network, network_rules, assigner_acts, group_frame, network_requested}
use Rattle.lapd_side_events.specs.Interface.{network_behaviour}
use Rattle.lapd_two_side_laws.specs.Owed.{PassesBy}
use Rattle.lapd_side_events.specs.SideView.{SideView, SideEvent, Take, Lose, Expire, Ask, Overhear, unmoved, takes_first, may_expire, or_unmoved, reaction}
use Rattle.lapd_two_side_laws.proofs.LinkParts.{absent_acts, expiry_passes}
use Rattle.lapd_two_side_laws.proofs.Reactions.{AnyInput, HoldsOfLinks, Law, any_frame, each_request, faulty, frame_data}
use Rattle.lapd_two_side_laws.proofs.Requests.{network_asked}
use Rattle.lapd_side_events.specs.Bus.{OverhearsNothing}
use Rattle.lapd_bus_laws.specs.Healing.{message_if_any, message_in_frame, message_in, is_about, HasNoManagementLink, management_id}
use Rattle.lapd_bus_laws.proofs.Assigns.{group_is_other}
use Rattle.lapd_bus_laws.proofs.Carried.{permitted, sent_messages, links_carry_none, receives_message}

-- no message among these frames assigns a TEI
abbrev pub AssignNone : List (List ℕ) → Type 0
AssignNone frames = (tei : ℕ)
    → list_any (is_about kind.Assigned tei) (filter_map (message_in side.Network) frames) ≡ false

-- the assigner is unchanged, and no TEI is assigned
pub record PassesAssigner (s : Network) (a : Reaction Network) : Type 0 where
  pub management : a.after.management ≡ s.management
  pub assigns : AssignNone a.effects.frames

-- the assigner does this step
pub record StepsAssigner (s : Network) (e : AssignerEvent) (a : Reaction Network) : Type 0 where
  pub management : a.after.management ≡ (assigner_step s.management e).now
  pub messages : filter_map (message_in side.Network) a.effects.frames
      ≡ filter permitted (sent (assigner_step s.management e).outs)

-- a check or a removal is requested
abbrev pub IsRequested : AssignerEvent → Type 0
IsRequested (event.Check tei) = Unit {0}
IsRequested (event.Remove tei) = Unit {0}
IsRequested other = ⊥

pub record StepsAsRequested (s : Network) (a : Reaction Network) : Type 0 where
  pub step : AssignerEvent
  pub requested : IsRequested step
  pub steps : StepsAssigner s step a

abbrev pub StepsOnRequest : Network → Reaction Network → Type 0
StepsOnRequest s a = PassesAssigner s a ⊎ StepsAsRequested s a

-- the octets carry this message, or none
abbrev pub StepsByMessage : Option TeiMessage → Network → Reaction Network → Type 0
StepsByMessage None s a = PassesAssigner s a
StepsByMessage (Some m) s a = StepsAssigner s (event.Heard m) a

abbrev pub StepsByFirst : List (List ℕ) → Network → Reaction Network → Type 0
StepsByFirst [] s a = PassesAssigner s a
StepsByFirst (octets ∷ rest) s a = StepsByMessage (message_in side.User octets) s a

abbrev pub StepsByExpiry : Option LinkId → Network → Reaction Network → Type 0
StepsByExpiry None s a = PassesAssigner s a ⊎ StepsAssigner s event.T201 a
StepsByExpiry (Some id) s a = PassesAssigner s a

abbrev pub StepsByEvent : SideEvent → SideView Network → Reaction Network → Type 0
StepsByEvent (Take now) v a = StepsByFirst v.incoming v.now a
StepsByEvent (Lose at) v a = PassesAssigner v.now a
StepsByEvent (Expire timer of now) v a = StepsByExpiry of v.now a
StepsByEvent (Ask request now) v a = StepsOnRequest v.now a
StepsByEvent (Overhear octets now) v a = ⊥

-- ---- Links.

module _ (now : ℕ) where
  by_link : (s : Network) (b : Reaction Links)
      → PassesBy side.Network management_id s.served.links b.after b.effects
      → PassesAssigner s (with_links s b)
  by_link s b passes = record {
    management = refl;
    assigns = λ t. ap (list_any (is_about kind.Assigned t))
        (links_carry_none side.Network b.effects.frames passes.frames);
  }

  abbrev Passing : Law AssignerState
  Passing s a = HasNoManagementLink s → PassesAssigner s a

  of_links : HoldsOfLinks network_rules now Passing AnyInput
  of_links = record {
    still = λ s none. record { management = refl; assigns = λ t. refl };
    counts = λ s none. record { management = refl; assigns = λ t. refl };
    reports = λ at octets s none. record { management = refl; assigns = λ t. refl };
    steps = λ id input octets s b plain permits done none. by_link s b
        (absent_acts side.Network management_id id s.served.links now input octets b none done);
  }

module _ (config : Config) (now : ℕ) (s : Network) (none : HasNoManagementLink s) where
  acts : (e : AssignerEvent) → StepsAssigner s e (assigner_acts config now e s)
  unfolding assigner_acts manages
  acts e = record {
    management = refl;
    messages = sent_messages side.Network (assigner_step s.management e).outs;
  }

  -- ---- Octets from the line.

  without_message : (r : Result Fields FrameFault) → message_in_frame r ≡ None
      → PassesAssigner s (received network_rules config now r s)
  without_message (Err fault) is =
      faulty (of_links now) fault.kind fault.address s
      (any_frame AnyInput (λ id control role info. tt) (λ id kind. tt) (Err fault)) none
  without_message (Ok frame) is = by (carries_message frame) is
    where
      no_message : (found : Result TeiMessage TeiFault) → message_if_any found ≡ None
          → PassesAssigner s (message_received network_rules config now found s)
      no_message (Ok m) is = cc
      no_message (Err fault) is = (of_links now).still s none

      by : (test : Bool) → (if test then message_if_any (message_at frame.info) else None) ≡ None
          → PassesAssigner s (if test then message_received network_rules config now
          (message_at frame.info) s else data_received network_rules config now frame s)
      by true is = no_message (message_at frame.info) is
      by false is = frame_data (of_links now) config frame s tt none

  octets_step : (octets : List ℕ) → StepsByMessage (message_in side.User octets) s
      (takes network_rules config octets now s)
  unfolding takes
  octets_step octets = by (message_in side.User octets) refl
    where
      by : (o : Option TeiMessage) → message_in side.User octets ≡ o
          → StepsByMessage o s (received network_rules config now (frame_at side.User octets) s)
      by None is = without_message (frame_at side.User octets) is
      by (Some m) is = subst (λ (a : Reaction Network). StepsAssigner s (event.Heard m) a)
          (sym (receives_message network_rules config now (frame_at side.User octets) m s is))
          (acts (event.Heard m))

-- ---- Messages to all terminals assign nothing.

abbrev SendsNone : List TeiOut → Type 0
SendsNone outs = AssignNone (filter_map (message_sent side.Network) outs)

check_sends_none : (check : Option Check) → SendsNone (check_of_all check)
check_sends_none None = λ t.
    ap (list_any (is_about kind.Assigned t)) (sent_messages side.Network (check_of_all None))
check_sends_none (Some check) = λ t. refl

removal_sends_none : (held : Bool) → SendsNone (if held then []
    else out.Send (remove group_tei) ∷ out.Send (remove group_tei) ∷ [])
removal_sends_none true = λ t. refl
removal_sends_none false = λ t. ap (list_any (is_about kind.Assigned t))
    (sent_messages side.Network (out.Send (remove group_tei) ∷ out.Send (remove group_tei) ∷ []))

-- ---- Timers and requests.

module _ (config : Config) (now : ℕ) where
  abbrev Requesting : Law AssignerState
  Requesting s a = HasNoManagementLink s → StepsOnRequest s a

  requesting_links : HoldsOfLinks network_rules now Requesting AnyInput
  requesting_links = record {
    still = λ s none. inl ((of_links now).still s none);
    counts = λ s none. inl ((of_links now).counts s none);
    reports = λ at octets s none. inl ((of_links now).reports at octets s none);
    steps = λ id input octets s b plain permits done none.
        inl ((of_links now).steps id input octets s b plain permits done none);
  }

  requested : (asked : Request) (s : Network)
      → IfOk (network_requested config asked now s) (Requesting s)
  requested asked s =
      network_asked requesting_links config
      (λ tei s none. inr (record {
        step = event.Check tei;
        requested = tt;
        steps = acts config now s none (event.Check tei);
      }))
      (λ tei s none. inr (record {
        step = event.Remove tei;
        requested = tt;
        steps = acts config now s none (event.Remove tei);
      }))
      (λ at octets s served none. inl (record {
        management = refl;
        assigns = λ t. ap (list_any (is_about kind.Assigned t))
            (links_carry_none side.Network (spelling side.Network (group_frame at octets) ∷ [])
            (group_is_other config at octets served));
      }))
      (λ s none. inl (record {
        management = refl;
        assigns = check_sends_none s.management.check;
      }))
      (λ s none. inl (record {
        management = refl;
        assigns = removal_sends_none (holds_any s.management.held);
      })) asked s (each_request network_rules s.management asked)

  or_nothing : (s : Network) (none : HasNoManagementLink s)
      (r : Result (Reaction Network) SideKind) → IfOk r (Requesting s)
      → StepsOnRequest s (or_unmoved s r)
  or_nothing s none (Ok a) h = h none
  or_nothing s none (Err kind) h = inl ((of_links now).still s none)

  expiring : (s : Network) (none : HasNoManagementLink s) (timer : Timer) (of : Option LinkId)
      → StepsByExpiry of s (expires network_rules config now timer of s)
  unfolding expires
  expiring s none timer (Some other) = or_still
      (in_links other (link_expires side.Network other now timer) s.served.links)
      (λ b done. by_link now s b
      (expiry_passes side.Network management_id other s.served.links now timer b none done))
    where
      or_still : (r : Result (Reaction Links) SideKind)
          → ((b : Reaction Links) → r ≡ Ok b → PassesAssigner s (with_links s b))
          → PassesAssigner s (sides.or_unmoved s (among_links s r))
      or_still (Ok b) each = each b refl
      or_still (Err kind) each = (of_links now).still s none
  expiring s none timer None =
      let h = acts config now (with_stopped timer s) none event.T201 in
      inr (record { management = h.management; messages = h.messages })

-- ---- Every event.

passes_expiry : (of : Option LinkId) (s : Network) → StepsByExpiry of s (unmoved s)
passes_expiry None s = inl (record { management = refl; assigns = λ t. refl })
passes_expiry (Some id) s = record { management = refl; assigns = λ t. refl }

pub event_steps : (config : Config) (event : SideEvent) (v : SideView Network)
    → HasNoManagementLink v.now → OverhearsNothing event
    → StepsByEvent event v (reaction (network_behaviour config) event v)
event_steps config (Take now) v none ok = first v.incoming
  where
    first : (line : List (List ℕ)) → StepsByFirst line v.now
        (takes_first (network_behaviour config) now line v.now)
    first [] = (of_links now).still v.now none
    first (octets ∷ rest) = octets_step config now v.now none octets
event_steps config (Lose at) v none ok = record { management = refl; assigns = λ t. refl }
event_steps config (Expire timer of now) v none ok = by_test (may_expire timer of v.now.served)
  where
    by_test : (test : Bool) → StepsByExpiry of v.now
        (if test then expires network_rules config now timer of v.now else unmoved v.now)
    by_test true = expiring config now v.now none timer of
    by_test false = passes_expiry of v.now
event_steps config (Ask request now) v none ok = or_nothing config now v.now none
    (network_requested config request now v.now) (requested config now request v.now)
event_steps config (Overhear octets now) v none ok = absurd ok
