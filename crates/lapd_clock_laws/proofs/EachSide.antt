-- Each event of a side moves the deadline of a link's T200 only later, sends a command with P=1
-- only with T200, and answers only a command with P=1 that it takes.
use Rattle.std.proofs.Common.{◌≡◌, ℕ, ◌+◌, ◌≤◌, ◌<◌, ◌&&◌, List, [], ◌∷◌, Bool, true, false, if◌then◌else◌, Option, Some, None, Result, Ok, Err, refl, sym, ap, subst, ◌∙◌}
use Rattle.lapd_timers.specs.declared.timer.Timer.{Timer}
use Rattle.lapd_timers.specs.Due.{last_moment}
use Rattle.lapd_frame.specs.declared.Sapi.{Sapi}
use Rattle.lapd_frame.specs.declared.Side.{Side}
use Rattle.lapd_frame.specs.declared.Side.TheVariants as side
use Rattle.lapd_frame.specs.declared.Address.{Address}
use Rattle.lapd_frame.specs.declared.fault_kind.FaultKind.{FaultKind}
use Rattle.lapd_frame.specs.declared.frame_fault.FrameFault.{FrameFault}
use Rattle.lapd_frame.specs.Address.{other_side}
use Rattle.lapd_frame.specs.Frame.{Fields, spelling}
use Rattle.lapd_frame.specs.Reading.{frame_at}
use Rattle.lapd_mod128.specs.Counting.{Tagged}
use Rattle.lapd_link_definition.specs.End.{StepState}
use Rattle.lapd_link_definition.specs.Input.{Input, Heard, Faulty, Expiry}
use Rattle.lapd_link_definition.specs.Table.{step}
use Rattle.lapd_tei.specs.declared.assigner.AssignerEvent.{AssignerEvent}
use Rattle.lapd_tei.specs.declared.assigner.AssignerEvent.TheVariants as assigner
use Rattle.lapd_tei.specs.declared.terminal.TerminalEvent.{TerminalEvent}
use Rattle.lapd_tei.specs.declared.terminal.TerminalEvent.TheVariants as terminal
use Rattle.lapd_tei.specs.declared.out.TeiOut.{TeiOut}
use Rattle.lapd_tei.specs.Assigner.{assigner_step}
use Rattle.lapd_table.specs.declared.link_id.LinkId.{LinkId}
use Rattle.lapd_table.specs.LinkId.{id_eq, id_of_address}
use Rattle.lapd_table.specs.Octets.{event_by}
use Rattle.lapd_table.proofs.Ids.{same_id_eq}
use Rattle.lapd_sides_links.specs.declared.config.Config.{Config}
use Rattle.lapd_sides_links.specs.declared.side_fault.SideKind.{SideKind}
use Rattle.lapd_sides_links.specs.Effects.{message_sent, stopped}
use Rattle.lapd_sides_links.specs.Links.{Links, Linked, Reaction, in_links, is_served, link_acts, link_expires}
use Rattle.lapd_sides.specs.AllTeis.{check_of_all, removal_of_all}
use Rattle.lapd_sides.specs.Network.{Network, network_rules, assigner_acts, group_frame, sends_to_all}
use Rattle.lapd_sides.specs.SideState.{Rules, SideState, unmoved, discards, unit_from_group, with_stopped}
use Rattle.lapd_sides.specs.User.{User, user_rules, gives_up_pending, terminal_acts}
use Rattle.lapd_side_events.specs.Interface.{behaviour}
use Rattle.lapd_side_events.specs.SideView.{SideView, SideEvent, Take, Lose, Expire, Ask, Overhear, reaction}
use Rattle.lapd_two_side_laws.specs.Addressed.{is_named, is_for, those_for, reads_as_poll, is_poll_for}
use Rattle.lapd_two_side_laws.proofs.LinkParts.{absent_acts, absent_expires, none_pass, other_acts, other_expires, own_expires, own_granted, own_is_step, own_reaction, spelled_is_for}
use Rattle.lapd_two_side_laws.proofs.Managed.{message_is_other, not_of_group}
use Rattle.lapd_two_side_laws.proofs.Reactions.{AnyRequest, Inputs, IsOfRequest, Law, HoldsOfLinks, HoldsOfRules, HoldsOfEvents, PermitsEvent, PermitsFault, PermitsFirst, PermitsFrame, any_request, moment_or, reacts}
use Rattle.lapd_two_side_laws.proofs.Requests.{HoldsInTurn, by_events, forgotten_by, network_asked, sent_to_group, step_at, terminal_so, user_asked}
use Rattle.lapd_clock_laws.specs.Clock.{moment_of}
use Rattle.lapd_clock_laws.specs.InTime.{OverhearsOthers}
use Rattle.lapd_clock_laws.proofs.LinkDeadlines.{Continues, manages_continues, no_change, one_after_another, passes_on, step_continues, stopping, t200_of, with_other_frames}
use Rattle.lapd_clock_laws.proofs.PolledRows.{polls}

both_true : (a b : Bool) → a ≡ true → b ≡ true → (a && b) ≡ true
both_true true b p q = q
both_true false b p q = cc

module _ (least : ℕ) (id : LinkId) (low : id.tei < 127) (polled : Bool) where
  -- an input of the link is a command with P=1 only if it is known to be one
  abbrev Knows : Inputs
  Knows other input octets = id_eq id other ≡ true → polls input ≡ true → polled ≡ true

  -- ---- Among the links of a side.

  module _ (side : Side) (now : ℕ) (in_range : now + least ≤ last_moment) where
    abbrev Goes : Links → Links → List (List ℕ) → Type 0
    Goes before after frames =
        Continues least now side id polled (before id) (after id) frames

    own_acts_on : (input : Input) (octets : List ℕ) (links : Links) (l : Option Linked)
        (a : Reaction Links) → links id ≡ l → (polls input ≡ true → polled ≡ true)
        → in_links id (link_acts side id now input octets) links ≡ Ok a
        → Goes links a.after a.effects.frames
    own_acts_on input octets links None a was knows done = passes_on least now side id polled
        links a.after a.effects (absent_acts side id id links now input octets a was done)
    own_acts_on input octets links (Some l) a was knows done =
        step_continues least now side id polled in_range input octets (λ t. t)
        (no_change least now side id polled) knows links a.after a.effects
        (own_granted side id links now input octets l a was done).is_step

    acts_on : (other : LinkId) (input : Input) (octets : List ℕ) (links : Links)
        (a : Reaction Links) (test : Bool) → id_eq id other ≡ test → Knows other input octets
        → in_links other (link_acts side other now input octets) links ≡ Ok a
        → Goes links a.after a.effects.frames
    acts_on other input octets links a false apart knows done =
        passes_on least now side id polled links a.after a.effects
        (other_acts side id other links now input octets a apart done)
    acts_on other input octets links a true same knows done =
        own_acts_on input octets links (links id) a refl (knows same)
        (ap (λ (k : LinkId). in_links k (link_acts side k now input octets) links)
        (same_id_eq id other same) ∙ done)

    steps_by : (timer : Timer) (l : Linked)
        → (s : StepState) × (step Tagged (Expiry timer) l.end ≡ Ok s)
    unfolding step
    steps_by timer l = (_, refl)

    same_reaction : (x y : Reaction Links) (r : Result (Reaction Links) SideKind) → r ≡ Ok x
        → r ≡ Ok y → x ≡ y
    same_reaction x y r hx hy = cc

    own_expires_on : (timer : Timer) (links : Links) (l : Option Linked) (a : Reaction Links)
        → links id ≡ l → in_links id (link_expires side id now timer) links ≡ Ok a
        → Goes links a.after a.effects.frames
    own_expires_on timer links None a was done =
        absurd (absent_expires side id links now timer a was done)
    own_expires_on timer links (Some l) a was done =
        let s = steps_by timer l in
        let own = own_reaction side id links now (Expiry timer) [] (stopped timer) l s.0 was s.1 in
        subst (λ (b : Reaction Links). Goes links b.after b.effects.frames)
        (same_reaction own a (in_links id (link_expires side id now timer) links)
        (own_expires side id links now timer l s.0 was s.1) done)
        (step_continues least now side id polled in_range (Expiry timer) [] (stopped timer)
        (stopping least now side id polled timer) (λ any. cc) links own.after own.effects
        (own_is_step side id links now (Expiry timer) [] (stopped timer) l s.0 was s.1))

    expires_on : (other : LinkId) (timer : Timer) (links : Links) (a : Reaction Links)
        (test : Bool) → id_eq id other ≡ test
        → in_links other (link_expires side other now timer) links ≡ Ok a
        → Goes links a.after a.effects.frames
    expires_on other timer links a false apart done =
        passes_on least now side id polled links a.after a.effects
        (other_expires side id other links now timer a apart done)
    expires_on other timer links a true same done =
        own_expires_on timer links (links id) a refl
        (ap (λ (k : LinkId). in_links k (link_expires side k now timer) links)
        (same_id_eq id other same) ∙ done)

  -- ---- Every reaction of a side.

  module _ {M : Type 0} (rules : Rules M) where
    abbrev pub GoesOn : ℕ → Law M
    GoesOn now s a = now + least ≤ last_moment
        → Continues least now rules.side id polled (s.served.links id) (a.after.served.links id)
        a.effects.frames

    stays : (now : ℕ) (s : SideState M) (a : Reaction (SideState M))
        → a.after.served.links id ≡ s.served.links id
        → those_for rules.side id a.effects.frames ≡ [] → GoesOn now s a
    stays now s a same none in_range = with_other_frames least now rules.side id polled
        (s.served.links id) (a.after.served.links id) a.effects.frames none
        (λ deadline is.
        subst (λ (o : Option Linked). t200_of o ≡ Some deadline)
        same is) (λ long l is. long l (sym same ∙ is))

    of_links : (now : ℕ) → HoldsOfLinks rules now (GoesOn now) Knows
    of_links now = record {
      still = λ s. stays now s (unmoved s) refl refl;
      counts = λ s. stays now s (discards s) refl refl;
      reports = λ at octets s. stays now s (unit_from_group at octets s) refl refl;
      steps = λ other input octets s b plain knows done in_range.
          acts_on rules.side now in_range other input octets s.served.links b (id_eq id other)
          refl knows done;
    }

  of_request : (other : LinkId) (input : Input) (octets : List ℕ) → IsOfRequest input
      → Knows other input octets
  of_request other (Heard control role) octets h = absurd h
  of_request other (Faulty kind) octets h = absurd h
  of_request other (Expiry timer) octets h = absurd h
  of_request other input octets h = λ same any. (let no : false ≡ true = any in cc)

  module _ (config : Config) (enough : least ≤ config.durations.t200) (now : ℕ) where
    -- ---- A network side.

    assigning : (e : AssignerEvent) (s : Network)
        → GoesOn network_rules now s (assigner_acts config now e s)
    unfolding assigner_acts
    assigning e s in_range = manages_continues least now side.Network id polled config enough low
        (assigner_step s.management e).outs s.served

    to_group : (at : Sapi) (octets : List ℕ) (s : Network) → is_served config at ≡ true
        → GoesOn network_rules now s (sent_to_group at octets s)
    to_group at octets s served = stays network_rules now s (sent_to_group at octets s) refl
        (ap (λ (b : Bool). if b then spelling side.Network (group_frame at octets) ∷ [] else [])
        (spelled_is_for side.Network id (group_frame at octets) ∙ not_of_group at id low))

    to_all : (messages : List TeiOut) (s : Network)
        → GoesOn network_rules now s (sends_to_all messages s)
    to_all messages s = stays network_rules now s (sends_to_all messages s) refl
        (none_pass (is_for side.Network id) (message_sent side.Network) messages
        (λ out. message_is_other side.Network id out low))

    pub network_goes_on : HoldsOfRules network_rules config now (GoesOn network_rules now)
        AnyRequest
    network_goes_on = record {
      hears = λ m. assigning (assigner.Heard m);
      times_out = λ timer s may. assigning assigner.T201 (with_stopped timer s);
      requested = λ asked s any.
          network_asked (of_links network_rules now) config
          (λ tei. assigning (assigner.Check tei)) (λ tei. assigning (assigner.Remove tei))
          to_group (λ s. to_all (check_of_all s.management.check) s)
          (λ s. to_all (removal_of_all s.management.held) s) asked s
          (any_request network_rules Knows of_request s.management asked);
    }

    -- ---- A user side.

    in_turn : HoldsInTurn (GoesOn user_rules now)
    in_turn = record {
      kept = λ pending s a h. h;
      both = λ s a does first each in_range. one_after_another least now side.User id polled
          (s.served.links id) (a.after.served.links id) ((does a.after).after.served.links id)
          a.effects.frames (does a.after).effects.frames (first in_range)
          (each a.after in_range);
      gives_up = λ s. stays user_rules now s (gives_up_pending s) refl refl;
    }

    acting : (e : ℕ → TerminalEvent) (s : User)
        → GoesOn user_rules now s (terminal_acts config now e s)
    acting e s = terminal_so (of_links user_rules now) in_turn (λ other same any. cc) config
        (λ e s in_range. manages_continues least now side.User id polled config enough low
        (step_at e s).outs s.served) e s

    pub user_goes_on : HoldsOfRules user_rules config now (GoesOn user_rules now) AnyRequest
    user_goes_on = record {
      hears = λ m. acting (terminal.Heard m);
      times_out = λ timer s may. acting terminal.T202 (with_stopped timer s);
      requested = λ asked s any.
          user_asked (of_links user_rules now) config (by_events config now
          (GoesOn user_rules now) AnyRequest (acting terminal.Ask) (acting terminal.Want)
          (acting (λ ri. terminal.Leave)) (λ pending s a h. h)
          (λ at s. stays user_rules now s (forgotten_by at s) refl refl)) asked s any
          (any_request user_rules Knows of_request s.management asked);
    }

-- ---- Every event of a side.

-- the event takes a command with P=1 of the link
abbrev pub takes_poll : Side → LinkId → SideEvent → List (List ℕ) → Bool
takes_poll from id (Take now) [] = false
takes_poll from id (Take now) (octets ∷ line) = is_poll_for from id octets
takes_poll from id other line = false

same_moment : (event : SideEvent) (latest : ℕ) → moment_or latest event ≡ moment_of event latest
same_moment (Take now) latest = refl
same_moment (Lose at) latest = refl
same_moment (Expire timer of now) latest = refl
same_moment (Ask request now) latest = refl
same_moment (Overhear octets now) latest = refl

module _ {M : Type 0} (rules : Rules M) (config : Config) (least : ℕ) (id : LinkId)
    (low : id.tei < 127)
    (law : (polled : Bool) (now : ℕ)
    → HoldsOfRules rules config now (GoesOn least id low polled rules now) AnyRequest) where
  frame_knows : (polled : Bool) (r : Result Fields FrameFault)
      → ((is_named id (event_by r) && reads_as_poll r) ≡ true → polled ≡ true)
      → PermitsFrame (Knows least id low polled) r
  frame_knows polled (Ok frame) h = λ same any.
      h (both_true (id_eq id (id_of_address frame.address))
      (polls (Heard frame.control frame.address.role)) same any)
  frame_knows polled (Err fault) h = of_fault fault.kind fault.address
    where
      of_fault : (kind : FaultKind) (address : Option Address)
          → PermitsFault (Knows least id low polled) kind address
      of_fault kind None = tt
      of_fault kind (Some address) = λ same any. (let no : false ≡ true = any in cc)

  other_knows : (polled : Bool) (r : Result Fields FrameFault)
      → is_named id (event_by r) ≡ false → PermitsFrame (Knows least id low polled) r
  other_knows polled r apart = frame_knows polled r (λ both.
      (let no : false ≡ true = ap (λ (b : Bool). b && reads_as_poll r) (sym apart) ∙ both in cc))

  abbrev Taken : SideEvent → SideView (SideState M) → Bool
  Taken event v = takes_poll (other_side rules.side) id event v.incoming

  event_knows : (event : SideEvent) (v : SideView (SideState M))
      → OverhearsOthers id rules.side event
      → PermitsEvent rules (Knows least id low (Taken event v)) (λ now. AnyRequest) event v
  event_knows (Take now) v others = first v.incoming
    where
      first : (line : List (List ℕ))
          → PermitsFirst rules
          (Knows least id low (takes_poll (other_side rules.side) id (Take now) line)) line
      first [] = tt
      first (octets ∷ line) =
          frame_knows (is_poll_for (other_side rules.side) id octets)
          (frame_at (other_side rules.side) octets) (λ h. h)
  event_knows (Lose at) v others = tt
  event_knows (Expire timer of now) v others = tt
  event_knows (Ask request now) v others = tt
  event_knows (Overhear octets now) v others =
      other_knows false (frame_at (other_side rules.side) octets) others

  events : (polled : Bool) (now : ℕ) → HoldsOfEvents rules config now
      (GoesOn least id low polled rules now) (Knows least id low polled) AnyRequest
  events polled now = record {
    links = of_links least id low polled rules now;
    expires = λ other timer s b done in_range. expires_on least id low polled rules.side now
        in_range other timer s.served.links b (id_eq id other) refl done;
    by_rules = law polled now;
  }

  pub event_goes_on : (event : SideEvent) (v : SideView (SideState M)) (latest : ℕ)
      → OverhearsOthers id rules.side event → moment_of event latest + least ≤ last_moment
      → Continues least (moment_of event latest) rules.side id (Taken event v)
      (v.now.served.links id) ((reaction (behaviour rules config) event v).after.served.links id)
      (reaction (behaviour rules config) event v).effects.frames
  event_goes_on event v latest others in_range =
      subst (λ (now : ℕ). GoesOn least id low (Taken event v) rules now v.now
      (reaction (behaviour rules config) event v)) (same_moment event latest)
      (reacts {R = λ now. GoesOn least id low (Taken event v) rules now}
      (events (Taken event v)) latest event v (event_knows event v others)) in_range
