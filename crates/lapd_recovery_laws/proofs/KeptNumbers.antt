-- A restart that drops no frame and keeps V(S), V(A) and V(R) keeps the invariant; and so does every
-- run with such restarts.
use Rattle.std.proofs.Common.{◌≡◌, ◌+◌, ◌-◌, ◌==◌, false, List, [], ◌∷◌, length, Result, refl, arith}
use Rattle.std.proofs.lemmas.Bool.Decides.{nat_tests}
use Rattle.lapd_frame.specs.declared.Side.{Side}
use Rattle.lapd_mod128.specs.Counting.{Whole}
use Rattle.lapd_supervision.specs.StateVariables.{without_exceptions}
use Rattle.lapd_link_definition.specs.declared.state.State.TheVariants.{TeiAssigned}
use Rattle.lapd_pair_laws.specs.Kinds.{Kind, tally, ask_of, answer_of}
use Rattle.lapd_pair_laws.specs.Parties.{Party, party}
use Rattle.lapd_pair_laws.specs.Invariant.{Both, IsInvariant}
use Rattle.lapd_pair_laws.specs.Move.{PairEvent, Restart, Move, Station, View, ViewStep, Refusal, quietly, acts}
use Rattle.lapd_pair_laws.specs.Reports.{ReportsExpected, AllReportsExpected}
use Rattle.lapd_pair_laws.specs.World.{World, view_of, in_world, world_after}
use Rattle.lapd_pair_laws.specs.Eager.{acts_eagerly, happens_eagerly}
use Rattle.lapd_pair_laws.proofs.Closed.{still, deaf}
use Rattle.lapd_pair_laws.proofs.Closings.{passes_all, empties, settling}
use Rattle.lapd_pair_laws.proofs.Eager.{eager_move_preserves, eager_reports}
use Rattle.lapd_pair_laws.proofs.EndsPreserved.{Left}
use Rattle.lapd_pair_laws.proofs.Lists.{by_test}
use Rattle.lapd_pair_laws.proofs.Moves.{side_preserves}
use Rattle.lapd_pair_laws.proofs.Parts.{part_whole}
use Rattle.lapd_pair_laws.proofs.Worlds.{Holds, left_by}
use Rattle.lapd_recovery_laws.specs.QuickRestart.{exchange_in, restarts_keeping, acts_keeping, happens_keeping, run_keeping, outcomes_keeping}

-- ---- The side that restarts is closed, and sends no frame.

abbrev restarting : Party → Party
restarting x =
    still TeiAssigned false false (length x.sends.given) (length x.sends.given)
    (x.sends.passed + (length x.sends.given - x.sends.passed)) false x

restarts_both : (x y : Party) (out back : List Kind) → tally ask_of out + tally answer_of back ≡ 0
    → Both x y out back → Both (restarting x) y out back
restarts_both x y out back none b =
    let passes = passes_all x y out back b in
    settling x y out back back TeiAssigned false false (length x.sends.given) (length x.sends.given)
    (x.sends.passed + (length x.sends.given - x.sends.passed)) false (part_whole back) b
    refl (omega (arith, none)) (empties _ _ _ x.sends refl refl)
    (omega (arith, passes, b.mine.passed)) (λ holding. cc) (deaf refl)

restart_holds : (v : View) (peer : Station) → exchange_in v ≡ 0 → Holds v peer
    → Holds (left_by v (quietly (restarts_keeping v))) peer
unfolding restarts_keeping without_exceptions
restart_holds v peer none h = record {
  base = h.base;
  its_base = h.its_base;
  both = restarts_both (party h.base v.station) (party h.its_base peer) _ _ none h.both;
}

restart_is_sound : (v : View) → Left v (quietly (restarts_keeping v))
unfolding restarts_keeping
restart_is_sound v =
    record { sound = record { places = refl; within = omega arith }; parameters = refl }

-- ---- A move.

-- a predicate that holds of a keeping restart without frames of an exchange, and of the eager move,
-- holds of the move
by_event : (P : Result ViewStep Refusal → Type 0) (who : Side) (event : PairEvent) (v : View)
    → (exchange_in v ≡ 0 → P (quietly (restarts_keeping v))) → P (acts_eagerly Whole who event v)
    → P (acts_keeping Whole who event v)
unfolding acts
by_event P who Restart v kept before =
    by_test (λ u. P (quietly u)) (exchange_in v == 0) _ _
    (λ test. kept (grind (arith, test, nat_tests))) (λ _. before)
by_event P who event v kept before = before

pub keeping_move_preserves : (move : Move) (w : World) → IsInvariant w
    → IsInvariant (world_after w (happens_keeping Whole move w))
unfolding happens_eagerly happens_keeping
keeping_move_preserves move w i =
    let v = view_of move.side w in
    by_event (λ r. IsInvariant (world_after w (in_world move.side w r))) move.side move.event v
    (λ none. side_preserves move.side w (quietly (restarts_keeping v)) i
    (λ peer h. restart_holds v peer none h) (restart_is_sound v))
    (eager_move_preserves move w i)

keeping_report_is_expected : (move : Move) (w : World) → IsInvariant w
    → ReportsExpected (happens_keeping Whole move w)
unfolding happens_eagerly happens_keeping
keeping_report_is_expected move w i =
    by_event (λ r. ReportsExpected (in_world move.side w r)) move.side move.event
    (view_of move.side w) (λ _. tt) (eager_reports (move ∷ []) w i).0

-- ---- A run.

pub keeping_run_preserves : (moves : List Move) (w : World) → IsInvariant w
    → IsInvariant (run_keeping Whole moves w)
keeping_run_preserves [] w i = i
keeping_run_preserves (move ∷ moves) w i =
    keeping_run_preserves moves (world_after w (happens_keeping Whole move w))
    (keeping_move_preserves move w i)

pub keeping_reports : (moves : List Move) (w : World) → IsInvariant w
    → AllReportsExpected (outcomes_keeping Whole moves w)
keeping_reports [] w i = tt
keeping_reports (move ∷ moves) w i = (
  keeping_report_is_expected move w i,
  keeping_reports moves (world_after w (happens_keeping Whole move w))
      (keeping_move_preserves move w i),
)
