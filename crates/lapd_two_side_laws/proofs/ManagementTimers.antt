-- T202 of a user side and T201 of a network side run exactly while TEI management waits.
use Rattle.std.proofs.Common.{◌≡◌, ℕ, ◌==◌, ◌&&◌, not, nat_lt, Bool, true, false, [], ◌∷◌, Option, Some, None, refl, sym, subst, ◌∙◌}
use Rattle.std.specs.Prelude.{is_some}
use Rattle.lapd_timers.specs.declared.timer.Timer.{Timer}
use Rattle.lapd_timers.specs.declared.timer.Timer.TheVariants.{T200, T201, T202, T203}
use Rattle.lapd_timers.specs.Due.{Timers, deadline_of, with_deadline, deadline_from}
use Rattle.lapd_timers.specs.Durations.{length_of}
use Rattle.lapd_tei.specs.declared.kind.TeiKind.{TeiKind}
use Rattle.lapd_tei.specs.declared.kind.TeiKind.TheVariants as kind
use Rattle.lapd_tei.specs.declared.out.TeiOut.TheVariants as outcome
use Rattle.lapd_tei.specs.declared.check.Check.{Check}
use Rattle.lapd_tei.specs.declared.check.Round.{Round}
use Rattle.lapd_tei.specs.declared.check.Round.TheVariants as round
use Rattle.lapd_tei.specs.declared.check.Responses.{Responses}
use Rattle.lapd_tei.specs.declared.check.Responses.TheVariants as responses
use Rattle.lapd_tei.specs.declared.phase.Phase.{Phase}
use Rattle.lapd_tei.specs.declared.phase.Phase.TheVariants.{Unassigned, Awaiting, Assigned}
use Rattle.lapd_tei.specs.declared.phase.Purpose.{Purpose}
use Rattle.lapd_tei.specs.declared.terminal.TerminalEvent.{TerminalEvent}
use Rattle.lapd_tei.specs.declared.terminal.TerminalEvent.TheVariants as terminal
use Rattle.lapd_tei.specs.declared.assigner.AssignerEvent.{AssignerEvent}
use Rattle.lapd_tei.specs.declared.assigner.AssignerEvent.TheVariants as assigner
use Rattle.lapd_tei.specs.Assigner.{AssignerState, AssignerStep, least_free, serves, begins_check, counts_response, removes_one, removes, round_ends, timer_ends, assigner_receives, assigner_step, stays}
use Rattle.lapd_tei.specs.Message.{group_tei}
use Rattle.lapd_tei.specs.Terminal.{TerminalStep, moves_to, n202, is_automatic, names, is_got_by, asks_again, awaiting_receives, assigned_receives, terminal_step, is_awaiting}
use Rattle.lapd_sides_links.specs.Effects.{managed, stopped, started}
use Rattle.lapd_two_side_laws.specs.ManagementTimers.{RunsAlone}
use Rattle.lapd_two_side_laws.proofs.Reactions.{if_either}

-- ---- One timer of TEI management is started or stopped.

set_201 : (deadline : Option ℕ) (t : Timers) (on : Bool) → RunsAlone T201 on t
    → RunsAlone T201 (is_some deadline) (with_deadline T201 deadline t)
set_201 deadline t on h T200 = h T200
set_201 deadline t on h T201 = refl
set_201 deadline t on h T202 = h T202
set_201 deadline t on h T203 = h T203

set_202 : (deadline : Option ℕ) (t : Timers) (on : Bool) → RunsAlone T202 on t
    → RunsAlone T202 (is_some deadline) (with_deadline T202 deadline t)
set_202 deadline t on h T200 = h T200
set_202 deadline t on h T201 = h T201
set_202 deadline t on h T202 = refl
set_202 deadline t on h T203 = h T203

-- ---- A terminal.

-- whether T202 runs as a step begins: an expired T202 no longer runs
abbrev pub awaits_before : Phase → TerminalEvent → Bool
awaits_before phase (terminal.T202 new) = false
awaits_before phase event = is_awaiting phase

module _ (now : ℕ) (t : Timers) where
  abbrev pub IsTimely : TerminalStep → Type 0
  IsTimely step = RunsAlone T202 (is_awaiting step.now) (managed now step.outs t)

  started_202 : (on : Bool) → RunsAlone T202 on t → RunsAlone T202 true (started now T202 t)
  started_202 on h = set_202 (Some (deadline_from now (length_of T202 t.durations))) t on h

  awaiting_row : (purpose : Purpose) (count ri : ℕ) (what : TeiKind) (its ai : ℕ)
      → RunsAlone T202 true t → IsTimely (awaiting_receives purpose count ri what its ai)
  awaiting_row purpose count ri kind.Assigned its ai h =
      if_either IsTimely ((its == ri) && is_automatic ai)
      (moves_to (Assigned (Some ri) ai) (outcome.Stop T202 ∷ outcome.Got ai ∷ []))
      (moves_to (Awaiting purpose count ri) []) (set_202 None t true h) h
  awaiting_row purpose count ri other its ai h = h

  assigned_row : (by : Option ℕ) (tei : ℕ) (what : TeiKind) (its ai new : ℕ)
      → RunsAlone T202 false t → IsTimely (assigned_receives by tei what its ai new)
  assigned_row by tei kind.Assigned its ai new h =
      if_either IsTimely ((ai == tei) && not (is_got_by by its))
      (moves_to Unassigned (outcome.Gone tei ∷ [])) (moves_to (Assigned by tei) []) h h
  assigned_row by tei kind.CheckRequest its ai new h =
      if_either IsTimely (names ai tei) _ (moves_to (Assigned by tei) []) h h
  assigned_row by tei kind.Remove its ai new h =
      if_either IsTimely (names ai tei) (moves_to Unassigned (outcome.Gone tei ∷ []))
      (moves_to (Assigned by tei) []) h h
  assigned_row by tei other its ai new h = h

  again : (purpose : Purpose) (count ri new : ℕ) → RunsAlone T202 false t
      → IsTimely (asks_again purpose count ri new)
  again purpose count ri new h =
      if_either IsTimely (nat_lt count n202) _ (moves_to Unassigned (outcome.Failed ∷ []))
      (started_202 false h) h

  pub terminal_row : (phase : Phase) (event : TerminalEvent)
      → RunsAlone T202 (awaits_before phase event) t → IsTimely (terminal_step phase event)
  terminal_row Unassigned (terminal.Ask ri) h = started_202 false h
  terminal_row Unassigned (terminal.Want ri) h = started_202 false h
  terminal_row (Awaiting purpose count ri) (terminal.Want new) h = h
  terminal_row (Awaiting purpose count ri) (terminal.Heard m new) h =
      awaiting_row purpose count ri m.kind m.ri m.ai h
  terminal_row (Awaiting purpose count ri) (terminal.T202 new) h = again purpose count ri new h
  terminal_row (Assigned by tei) (terminal.Heard m new) h =
      assigned_row by tei m.kind m.ri m.ai new h
  terminal_row (Awaiting purpose count ri) terminal.Leave h = set_202 None t true h
  terminal_row (Assigned by tei) terminal.Leave h = h
  terminal_row phase other h = h

  -- ---- An assigner.

  abbrev pub IsTimelyCheck : AssignerStep → Type 0
  IsTimelyCheck step = RunsAlone T201 (is_some step.now.check) (managed now step.outs t)

  started_201 : (on : Bool) → RunsAlone T201 on t → RunsAlone T201 true (started now T201 t)
  started_201 on h = set_201 (Some (deadline_from now (length_of T201 t.durations))) t on h

  serving : (ri : ℕ) (free : Option ℕ) (a : AssignerState) → RunsAlone T201 (is_some a.check) t
      → IsTimelyCheck (serves ri free a)
  serving ri (Some tei) a h = h
  serving ri None a h = h

  beginning : (tei : ℕ) (check : Option Check) (a : AssignerState)
      → RunsAlone T201 (is_some a.check) t → IsTimelyCheck (begins_check tei check a)
  beginning tei None a h =
      if_either IsTimelyCheck (nat_lt tei group_tei) _ (stays a) (started_201 (is_some a.check) h) h
  beginning tei (Some check) a h = h

  counting : (tei : ℕ) (check : Option Check) (a : AssignerState) → a.check ≡ check
      → RunsAlone T201 (is_some a.check) t → IsTimelyCheck (counts_response tei check a)
  counting tei None a is h = h
  counting tei (Some check) a is h =
      if_either IsTimelyCheck (tei == check.tei) _ (stays a)
      (subst (λ (c : Option Check). RunsAlone T201 (is_some c) t) is h) h

  removing_one : (tei : ℕ) (check : Option Check) (a : AssignerState)
      → RunsAlone T201 (is_some a.check) t → IsTimelyCheck (removes_one tei check a)
  removing_one tei None a h = h
  removing_one tei (Some check) a h =
      if_either IsTimelyCheck (tei == check.tei) _ _ (set_201 None t (is_some a.check) h) h

  removing : (tei : ℕ) (a : AssignerState) → RunsAlone T201 (is_some a.check) t
      → IsTimelyCheck (removes tei a.check a)
  removing tei a h =
      if_either IsTimelyCheck (nat_lt tei group_tei) _ (stays a) (removing_one tei a.check a h) h

  reception_is_exact : (what : TeiKind) (ri ai : ℕ) (a : AssignerState)
      → RunsAlone T201 (is_some a.check) t → IsTimelyCheck (assigner_receives what ri ai a)
  reception_is_exact kind.Request ri ai a h = serving ri (least_free a.held) a h
  reception_is_exact kind.CheckResponse ri ai a h = counting ai a.check a refl h
  reception_is_exact kind.Verify ri ai a h = beginning ai a.check a h
  reception_is_exact other ri ai a h = h

  ending_round : (tei : ℕ) (nth : Round) (count : Responses) (a : AssignerState)
      → RunsAlone T201 false t → IsTimelyCheck (round_ends tei nth count a)
  ending_round tei round.First responses.Nobody a h = started_201 false h
  ending_round tei round.Second responses.Nobody a h = h
  ending_round tei round.First responses.One a h = h
  ending_round tei round.Second responses.One a h = h
  ending_round tei round.First responses.Several a h = h
  ending_round tei round.Second responses.Several a h = h

  ending : (check : Option Check) (a : AssignerState) → a.check ≡ check → RunsAlone T201 false t
      → IsTimelyCheck (timer_ends check a)
  ending None a is h = subst (λ (c : Option Check). RunsAlone T201 (is_some c) t) (sym is) h
  ending (Some check) a is h = ending_round check.tei check.round check.responses a h

-- whether T201 runs as a step begins: an expired T201 no longer runs
abbrev pub checks_before : AssignerState → AssignerEvent → Bool
checks_before a assigner.T201 = false
checks_before a event = is_some a.check

pub assigner_row : (now : ℕ) (t : Timers) (a : AssignerState) (event : AssignerEvent)
    → RunsAlone T201 (checks_before a event) t → IsTimelyCheck now t (assigner_step a event)
assigner_row now t a (assigner.Heard m) h = reception_is_exact now t m.kind m.ri m.ai a h
assigner_row now t a (assigner.Check tei) h = beginning now t tei a.check a h
assigner_row now t a (assigner.Remove tei) h = removing now t tei a h
assigner_row now t a assigner.T201 h = ending now t a.check a refl h

-- ---- A timer that expires runs, so it is the only one that may run.

false_is_true : false ≡ true → ⊥
false_is_true e = cc

pub expired_201 : (timer : Timer) (on : Bool) (t : Timers) → RunsAlone T201 on t
    → is_some (deadline_of timer t) ≡ true → RunsAlone T201 false (stopped timer t)
expired_201 T200 on t h runs = absurd (false_is_true (sym (h T200) ∙ runs))
expired_201 T201 on t h runs = set_201 None t on h
expired_201 T202 on t h runs = absurd (false_is_true (sym (h T202) ∙ runs))
expired_201 T203 on t h runs = absurd (false_is_true (sym (h T203) ∙ runs))

pub expired_202 : (timer : Timer) (on : Bool) (t : Timers) → RunsAlone T202 on t
    → is_some (deadline_of timer t) ≡ true → RunsAlone T202 false (stopped timer t)
expired_202 T200 on t h runs = absurd (false_is_true (sym (h T200) ∙ runs))
expired_202 T201 on t h runs = absurd (false_is_true (sym (h T201) ∙ runs))
expired_202 T202 on t h runs = set_202 None t on h
expired_202 T203 on t h runs = absurd (false_is_true (sym (h T203) ∙ runs))
