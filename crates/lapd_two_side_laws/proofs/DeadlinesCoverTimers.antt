-- A side's next deadline is no later than the timer of each link that is not in state 4, nor than
-- the timer of TEI management.
use Rattle.std.proofs.Common.{◌≡◌, ◌⊎◌, inl, inr, ℕ, not, Bool, true, false, Option, Some, None, refl, ap, ◌∙◌, arith}
use Rattle.std.specs.Prelude.{is_some, option_map}
use Rattle.std.proofs.lemmas.Bool.{cases_lt}
use Rattle.lapd_timers.specs.declared.timer.Timer.{Timer}
use Rattle.lapd_timers.specs.declared.timer.Timer.TheVariants.{T200, T201, T202, T203}
use Rattle.lapd_timers.specs.Due.{deadline_of}
use Rattle.lapd_link_definition.specs.declared.state.State.{State}
use Rattle.lapd_link_definition.specs.declared.state.State.TheVariants.{TeiAssigned, AwaitingEstablishment, AwaitingRelease, MultipleFrameEstablished, TimerRecovery}
use Rattle.lapd_link_definition.specs.RunningTimers.{AreTimersOf}
use Rattle.lapd_table.specs.declared.link_id.LinkId.{LinkId}
use Rattle.lapd_sides_links.specs.declared.running_timer.RunningTimer.{RunningTimer}
use Rattle.lapd_sides_links.specs.Expiries.{Runs, of_served, IsNextDeadline}
use Rattle.lapd_sides_links.specs.Links.{Linked, Served, IsOfLink}
use Rattle.lapd_tei.specs.Terminal.{is_awaiting}
use Rattle.lapd_sides.specs.Network.{Network}
use Rattle.lapd_sides.specs.User.{User}
use Rattle.lapd_two_side_laws.specs.ExactTimers.{HaveExactTimers, IsNoLaterThan, IsWoken}
use Rattle.lapd_two_side_laws.specs.ManagementTimers.{HasTimerOfTerminal, HasTimerOfAssigner, IsAwaited}
use Rattle.lapd_two_side_laws.proofs.ExactLinks.{runs_by_state}
use Rattle.lapd_two_side_laws.proofs.Timed.{is_on}

one_in_7 : (t200 t203 : Bool) → t203 ≡ not t200 → (t200 ≡ true) ⊎ (t203 ≡ true)
one_in_7 true t203 h = inl refl
one_in_7 false t203 h = inr h

one_runs : (state : State) (t200 t203 : Bool) (AllAcknowledged : Type 0)
    → AreTimersOf state t200 t203 AllAcknowledged → (state ≡ TeiAssigned → ⊥)
    → (t200 ≡ true) ⊎ (t203 ≡ true)
one_runs TeiAssigned t200 t203 A h open_link = absurd (open_link refl)
one_runs AwaitingEstablishment t200 t203 A h open_link = inl h.0
one_runs AwaitingRelease t200 t203 A h open_link = inl h.0
one_runs MultipleFrameEstablished t200 t203 A h open_link = one_in_7 t200 t203 h.0
one_runs TimerRecovery t200 t203 A h open_link = inl h.0

there : (o : Option ℕ) → is_some o ≡ true → (deadline : ℕ) × (o ≡ Some deadline)
there (Some deadline) h = (deadline, refl)
there None h = cc

-- the next deadline is no later than that of any running timer
is_no_later_than : (s : Served) (e : RunningTimer) (next : Option ℕ) → Runs (of_served s) e
    → IsNextDeadline s next → IsNoLaterThan e.deadline next
is_no_later_than s e None runs h =
    absurd (h e.deadline e (record { runs = runs; is_past = omega arith }))
is_no_later_than s e (Some moment) runs h = elim (cases_lt e.deadline moment) [
  | inl early ↦ absurd (h.before e.deadline early e (record { runs = runs; is_past = omega arith }))
  | inr late ↦ record { moment = moment; is_next = refl; no_later = late }
]

module _ (s : Served) (next : Option ℕ) (h : IsNextDeadline s next) where
  -- a timer of a link
  module _ (id : LinkId) (linked : Linked) (is_there : s.links id ≡ Some linked) where
    link_timer : (timer : Timer) (deadline : ℕ) → IsOfLink timer
        → deadline_of timer linked.timers ≡ Some deadline → IsNoLaterThan deadline next
    link_timer timer deadline own until =
        is_no_later_than s (record { timer = timer; of = Some id; deadline = deadline }) next
        (record {
          its = linked.timers;
          there = ap (option_map (λ (l : Linked). l.timers)) is_there;
          own = own;
          until = until;
        }) h

    pub woken_by : HaveExactTimers s.links → (linked.end.state ≡ TeiAssigned → ⊥)
        → IsWoken linked next
    woken_by all open_link =
        elim (one_runs linked.end.state (is_on T200 linked.timers) (is_on T203 linked.timers)
        (linked.end.window.vs ≡ linked.end.window.va)
        (runs_by_state linked (all id linked is_there)) open_link) [
          | inl on ↦ let t =
              there (deadline_of T200 linked.timers) on in
              record { deadline = t.0; its = inl t.1; in_time = link_timer T200 t.0 tt t.1 }
          | inr on ↦ let t =
              there (deadline_of T203 linked.timers) on in
              record { deadline = t.0; its = inr t.1; in_time = link_timer T203 t.0 tt t.1 }
        ]

  -- a timer of TEI management
  pub awaited_by : (timer : Timer) → is_on timer s.timers ≡ true → IsAwaited timer s.timers next
  awaited_by timer on =
      let t = there (deadline_of timer s.timers) on in
      record {
        deadline = t.0;
        its = t.1;
        in_time =
            is_no_later_than s (record { timer = timer; of = None; deadline = t.0 }) next
            (record { its = s.timers; there = refl; own = tt; until = t.1 }) h;
      }

pub link_is_woken : (s : Served) (id : LinkId) (linked : Linked) (next : Option ℕ)
    → HaveExactTimers s.links → s.links id ≡ Some linked → (linked.end.state ≡ TeiAssigned → ⊥)
    → IsNextDeadline s next → IsWoken linked next
link_is_woken s id linked next all is_there open_link h =
    woken_by s next h id linked is_there all open_link

pub terminal_is_woken : (s : User) (next : Option ℕ) → HasTimerOfTerminal s
    → is_awaiting s.management.terminal ≡ true → IsNextDeadline s.served next
    → IsAwaited T202 s.served.timers next
terminal_is_woken s next exact awaits h = awaited_by s.served next h T202 (exact T202 ∙ awaits)

pub assigner_is_woken : (s : Network) (next : Option ℕ) → HasTimerOfAssigner s
    → is_some s.management.check ≡ true → IsNextDeadline s.served next
    → IsAwaited T201 s.served.timers next
assigner_is_woken s next exact checks h = awaited_by s.served next h T201 (exact T201 ∙ checks)
