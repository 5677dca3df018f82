-- Each event of a side keeps the timer of TEI management as its end requires it, and so does each
-- run of an interface.
use Rattle.std.proofs.Common.{ℕ, false, List, [], ◌∷◌, Option, Some, None, refl, sym, subst}
use Rattle.std.specs.Prelude.{is_some}
use Rattle.rand_pcg.specs.Lcg.{Lcg}
use Rattle.lapd_timers.specs.declared.timer.Timer.TheVariants.{T200, T201, T202, T203}
use Rattle.lapd_timers.specs.Due.{Timers, all_stopped}
use Rattle.lapd_frame.specs.declared.Side.{Side}
use Rattle.lapd_frame.specs.declared.Side.TheVariants as side
use Rattle.lapd_tei.specs.declared.assigner.AssignerEvent.{AssignerEvent}
use Rattle.lapd_tei.specs.declared.assigner.AssignerEvent.TheVariants as assigner
use Rattle.lapd_tei.specs.declared.phase.Phase.{Phase}
use Rattle.lapd_tei.specs.declared.terminal.TerminalEvent.{TerminalEvent}
use Rattle.lapd_tei.specs.declared.terminal.TerminalEvent.TheVariants as terminal
use Rattle.lapd_tei.specs.Assigner.{AssignerState}
use Rattle.lapd_tei.specs.Terminal.{is_awaiting}
use Rattle.lapd_sides_links.specs.declared.config.Config.{Config}
use Rattle.lapd_sides.specs.Management.{manages}
use Rattle.lapd_sides.specs.Network.{Network, new_network, network_rules, assigner_acts}
use Rattle.lapd_sides.specs.SideState.{SideState, Rules, with_stopped}
use Rattle.lapd_sides.specs.User.{User, TerminalState, new_user, user_rules, next_reference, pending_after, terminal_acts}
use Rattle.lapd_side_events.specs.Interface.{Configs, Interface, Move, behaviour, user_behaviour, network_behaviour, new_interface, by_user, by_network, side_does, happens, run}
use Rattle.lapd_two_side_laws.specs.ManagementTimers.{RunsAlone, HasTimerOfTerminal, HasTimerOfAssigner, HaveTimersOfManagement}
use Rattle.lapd_side_events.specs.SideView.{SideEvent, SideView, reaction, does}
use Rattle.lapd_two_side_laws.proofs.ManagementTimers.{assigner_row, awaits_before, checks_before, expired_201, expired_202, terminal_row}
use Rattle.lapd_two_side_laws.proofs.ReportsNoTei.{pending_aside}
use Rattle.lapd_two_side_laws.proofs.Reactions.{Law, HoldsOfLinks, HoldsOfRules, HoldsOfEvents, AnyInput, AnyRequest, each_event, each_request, reacts}
use Rattle.lapd_two_side_laws.proofs.Requests.{by_events, network_asked, step_at, stepped_by, user_asked}

-- `Waits m t` says that the timers are right for TEI management with this state. Only a step of it
-- changes either.
abbrev Waiting : {M : Type 0} → (M → Timers → Type 0) → Law M
Waiting Waits s a =
    Waits s.management s.served.timers → Waits a.after.management a.after.served.timers

module _ {M : Type 0} (rules : Rules M) (config : Config) (Waits : M → Timers → Type 0) where
  of_links : (now : ℕ) → HoldsOfLinks rules now (Waiting Waits) AnyInput
  of_links now = record {
    still = λ s h. h;
    counts = λ s h. h;
    reports = λ at octets s h. h;
    steps = λ id input octets s b plain permits done h. h;
  }

  module _ (law : (now : ℕ) → HoldsOfRules rules config now (Waiting Waits) AnyRequest) where
    events : (now : ℕ) → HoldsOfEvents rules config now (Waiting Waits) AnyInput AnyRequest
    events now = record {
      links = of_links now;
      expires = λ id timer s b done h. h;
      by_rules = law now;
    }

    reaction_waits : (event : SideEvent) (v : SideView (SideState M))
        → Waiting Waits v.now (reaction (behaviour rules config) event v)
    reaction_waits event v =
        reacts {R = λ now. Waiting Waits} events 0 event v (each_event rules event v)

-- ---- A network side.

abbrev Checks : AssignerState → Timers → Type 0
Checks a t = RunsAlone T201 (is_some a.check) t

module _ (config : Config) where
  assigning : (now : ℕ) (e : AssignerEvent) (s : Network)
      → RunsAlone T201 (checks_before s.management e) s.served.timers
      → HasTimerOfAssigner (assigner_acts config now e s).after
  unfolding assigner_acts manages
  assigning now e s h = assigner_row now s.served.timers s.management e h

  network_waits : (now : ℕ) → HoldsOfRules network_rules config now (Waiting Checks) AnyRequest
  network_waits now = record {
    hears = λ m. assigning now (assigner.Heard m);
    times_out = λ timer s may h. assigning now assigner.T201 (with_stopped timer s)
        (expired_201 timer (is_some s.management.check) s.served.timers h may);
    requested = λ asked s any.
        network_asked (of_links network_rules config Checks now) config
        (λ tei. assigning now (assigner.Check tei)) (λ tei. assigning now (assigner.Remove tei))
        (λ at octets s served h. h) (λ s h. h) (λ s h. h) asked s
        (each_request network_rules s.management asked);
  }

  pub network_timer : (event : SideEvent) (v : SideView Network) → HasTimerOfAssigner v.now
      → HasTimerOfAssigner (reaction (network_behaviour config) event v).after
  network_timer = reaction_waits network_rules config Checks network_waits

pub new_network_waits : (config : Config) (known : List ℕ)
    → HasTimerOfAssigner (new_network config known)
new_network_waits config known T200 = refl
new_network_waits config known T201 = refl
new_network_waits config known T202 = refl
new_network_waits config known T203 = refl

-- ---- A user side.

abbrev Awaits : TerminalState → Timers → Type 0
Awaits m t = RunsAlone T202 (is_awaiting m.terminal) t

module _ (config : Config) where
  acting : (now : ℕ) (e : ℕ → TerminalEvent) (s : User)
      → RunsAlone T202 (awaits_before s.management.terminal
      (e (next_reference s.management.random))) s.served.timers
      → HasTimerOfTerminal (terminal_acts config now e s).after
  unfolding terminal_acts manages
  acting now e s h =
      let done = step_at e s in
      let middle = (stepped_by config now done s).after in
      let rest = pending_after now done.outs middle in
      let aside = pending_aside now done.outs middle in
      subst (λ (p : Phase). RunsAlone T202 (is_awaiting p) rest.after.served.timers)
      (sym aside.terminal) (subst (RunsAlone T202 (is_awaiting done.now)) (sym aside.timers)
      (terminal_row now s.served.timers s.management.terminal
      (e (next_reference s.management.random)) h))

  user_waits : (now : ℕ) → HoldsOfRules user_rules config now (Waiting Awaits) AnyRequest
  user_waits now = record {
    hears = λ m. acting now (terminal.Heard m);
    times_out = λ timer s may h. acting now terminal.T202 (with_stopped timer s)
        (expired_202 timer (is_awaiting s.management.terminal) s.served.timers h may);
    requested = λ asked s any.
        user_asked (of_links user_rules config Awaits now) config (by_events config now
        (Waiting Awaits) AnyRequest (acting now terminal.Ask) (acting now terminal.Want)
        (acting now (λ ri. terminal.Leave)) (λ pending s a h. h) (λ at s h. h)) asked s any
        (each_request user_rules s.management asked);
  }

  pub user_timer : (event : SideEvent) (v : SideView User) → HasTimerOfTerminal v.now
      → HasTimerOfTerminal (reaction (user_behaviour config) event v).after
  user_timer = reaction_waits user_rules config Awaits user_waits

all_stopped_202 : (config : Config) → RunsAlone T202 false (all_stopped config.durations)
all_stopped_202 config T200 = refl
all_stopped_202 config T201 = refl
all_stopped_202 config T202 = refl
all_stopped_202 config T203 = refl

pub new_user_waits : (config : Config) (fixed : Option ℕ) (random : Lcg)
    → HasTimerOfTerminal (new_user config fixed random)
new_user_waits config None random = λ timer. all_stopped_202 config timer
new_user_waits config (Some tei) random = λ timer. all_stopped_202 config timer

-- ---- Every run of an interface.

module _ (c : Configs) where
  move_preserves : (who : Side) (side_event : SideEvent) (i : Interface) → HaveTimersOfManagement i
      → HaveTimersOfManagement (side_does c who side_event i)
  unfolding does
  move_preserves side.User side_event i h = (user_timer c.user side_event (by_user i) h.0, h.1)
  move_preserves side.Network side_event i h =
      (h.0, network_timer c.network side_event (by_network i) h.1)

  run_preserves : (moves : List Move) (i : Interface) → HaveTimersOfManagement i
      → HaveTimersOfManagement (run c moves i)
  run_preserves [] i h = h
  run_preserves (move ∷ moves) i h =
      run_preserves moves (happens c move i) (move_preserves move.side move.event i h)

  pub run_waits : (fixed : Option ℕ) (random : Lcg) (known : List ℕ) (moves : List Move)
      → HaveTimersOfManagement
      (run c moves (new_interface (new_user c.user fixed random) (new_network c.network known)))
  run_waits fixed random known moves =
      run_preserves moves
      (new_interface (new_user c.user fixed random) (new_network c.network known))
      (new_user_waits c.user fixed random, new_network_waits c.network known)
