-- Eager moves: when they are admitted, and that they keep the invariant too.
use Rattle.std.proofs.Common.{◌≡◌, ◌≤◌, ◌==◌, ◌&&◌, ℕ, Bool, true, false, List, [], ◌∷◌, if◌then◌else◌, Option, Some, None, Result, Ok, Err, refl, arith}
use Rattle.std.proofs.lemmas.Bool.Decides.{nat_tests}
use Rattle.lapd_timers.specs.declared.timer.Timer.TheVariants.{T200}
use Rattle.lapd_frame.specs.declared.Side.{Side}
use Rattle.lapd_frame.specs.declared.Side.TheVariants as side
use Rattle.lapd_mod128.specs.Counting.{Reading, Whole}
use Rattle.lapd_link_definition.specs.Input.{Expiry}
use Rattle.lapd_link_definition.specs.Sound.{IsSound}
use Rattle.lapd_pair_laws.specs.Line.{first_poll, first_final}
use Rattle.lapd_pair_laws.specs.Move.{PairEvent, Expire200, Move, NotRunning, View, ViewStep, Refusal, takes, unless_under_way, expires_200, acts}
use Rattle.lapd_pair_laws.specs.World.{World, Happened, view_of, in_world, world_after, happens}
use Rattle.lapd_pair_laws.specs.Invariant.{IsInvariant}
use Rattle.lapd_pair_laws.specs.Reports.{ReportsExpected, AllReportsExpected}
use Rattle.lapd_pair_laws.specs.Eager.{awaited_in, expires_eagerly, acts_eagerly, happens_eagerly, run_eagerly, outcomes_eagerly}
use Rattle.lapd_pair_laws.proofs.EachEvent.{holds_after_t200, none_awaited}
use Rattle.lapd_pair_laws.proofs.Lists.{by_test}
use Rattle.lapd_pair_laws.proofs.Moves.{side_preserves}
use Rattle.lapd_pair_laws.proofs.EndsPreserved.{taken}
use Rattle.lapd_pair_laws.proofs.Whole.{each_move_preserves, each_report_is_expected, own_so, in_world_so}

-- ---- The invariant of either side.

pub small_by_invariant : (who : Side) (w : World) → IsInvariant w
    → (view_of who w).station.end.parameters.k ≤ 127
small_by_invariant side.User w i = i.user_window
small_by_invariant side.Network w i = i.network_window

pub sound_by_invariant : (who : Side) (w : World) → IsInvariant w
    → IsSound Whole (view_of who w).station.end
sound_by_invariant side.User w i = i.user_sound
sound_by_invariant side.Network w i = i.network_sound

-- ---- T200 expires.

none_by_test : (running : Bool) (n : ℕ) → (running && (n == 0)) ≡ true → n ≡ 0
none_by_test true n test = grind (arith, test, nat_tests)
none_by_test false n test = cc

-- a predicate that holds of T200 without awaited frames, and of the ordinary move, holds of the
-- eager move
by_expiry : (P : Result ViewStep Refusal → Type 0) (who : Side) (v : View)
    → (awaited_in v ≡ 0 → P (takes Whole (Expiry T200) [] v)) → P (expires_200 Whole who v)
    → P (expires_eagerly Whole who v)
unfolding expires_eagerly
by_expiry P who v none before =
    by_test P (v.station.end.t200 && (awaited_in v == 0)) _ _
    (λ test. none (none_by_test v.station.end.t200 (awaited_in v) test)) (λ _. before)

-- the same for each kind of move
by_event : (P : Result ViewStep Refusal → Type 0) (who : Side) (event : PairEvent) (v : View)
    → (awaited_in v ≡ 0 → P (takes Whole (Expiry T200) [] v)) → P (acts Whole who event v)
    → P (acts_eagerly Whole who event v)
unfolding acts
by_event P who Expire200 v none before = by_expiry P who v none before
by_event P who event v none before = before

-- ---- A move, and a run.

pub eager_move_preserves : (move : Move) (w : World) → IsInvariant w
    → IsInvariant (world_after w (happens_eagerly Whole move w))
unfolding happens happens_eagerly
eager_move_preserves move w i =
    let v = view_of move.side w in
    by_event (λ r. IsInvariant (world_after w (in_world move.side w r))) move.side move.event v
    (λ none. side_preserves move.side w (takes Whole (Expiry T200) [] v) i
    (λ peer h. holds_after_t200 v peer h none)
    (taken v (small_by_invariant move.side w i) (sound_by_invariant move.side w i)
    (Expiry T200) []))
    (each_move_preserves move w i)

pub eager_run_preserves : (moves : List Move) (w : World) → IsInvariant w
    → IsInvariant (run_eagerly Whole moves w)
eager_run_preserves [] w i = i
eager_run_preserves (move ∷ moves) w i =
    eager_run_preserves moves (world_after w (happens_eagerly Whole move w))
    (eager_move_preserves move w i)

eager_report_is_expected : (move : Move) (w : World) → IsInvariant w
    → ReportsExpected (happens_eagerly Whole move w)
unfolding happens happens_eagerly
eager_report_is_expected move w i =
    let v = view_of move.side w in
    by_event (λ r. ReportsExpected (in_world move.side w r)) move.side move.event v
    (λ _. in_world_so move.side w (takes Whole (Expiry T200) [] v) (own_so (Expiry T200) [] v tt))
    (each_report_is_expected move w i)

pub eager_reports : (moves : List Move) (w : World) → IsInvariant w
    → AllReportsExpected (outcomes_eagerly Whole moves w)
eager_reports [] w i = tt
eager_reports (move ∷ moves) w i = (
  eager_report_is_expected move w i,
  eager_reports moves (world_after w (happens_eagerly Whole move w))
      (eager_move_preserves move w i),
)

-- ---- When a move is admitted.

same_expiry : (s : Side) (w : World) (happened : Happened) (running none : Bool)
    (poll final : Option ℕ) (outcome : Result ViewStep Refusal)
    → in_world s w (if running then unless_under_way s poll final outcome else Err NotRunning)
    ≡ Ok happened
    → in_world s w (if running && none then outcome
    else (if running then unless_under_way s poll final outcome else Err NotRunning))
    ≡ Ok happened
same_expiry s w happened false none poll final outcome is = is
same_expiry s w happened true false poll final outcome is = is
same_expiry s w happened true true (Some at) final outcome is = cc
same_expiry s w happened true true None (Some at) outcome is = cc
same_expiry s w happened true true None None outcome is = is

same_event : (r : Reading) (s : Side) (event : PairEvent) (w : World) (happened : Happened)
    → in_world s w (acts r s event (view_of s w)) ≡ Ok happened
    → in_world s w (acts_eagerly r s event (view_of s w)) ≡ Ok happened
unfolding acts expires_200 expires_eagerly
same_event r s Expire200 w happened is =
    let v = view_of s w in
    same_expiry s w happened v.station.end.t200 (awaited_in v == 0) (first_poll v.outgoing)
    (first_final v.incoming) (takes r (Expiry T200) [] v) is
same_event r s event w happened is = is

pub same_eagerly : (r : Reading) (move : Move) (w : World) (happened : Happened)
    → happens r move w ≡ Ok happened → happens_eagerly r move w ≡ Ok happened
unfolding happens happens_eagerly
same_eagerly r move w happened is = same_event r move.side move.event w happened is

only_expiry : (s : Side) (running none : Bool) (n : ℕ) (poll final : Option ℕ)
    (outcome : Result ViewStep Refusal) (acted : ViewStep) → (n == 0) ≡ none
    → (poll ≡ None → final ≡ None → n ≡ 0)
    → (if running && none then outcome
    else (if running then unless_under_way s poll final outcome else Err NotRunning))
    ≡ Ok acted → (running ≡ true) × (n ≡ 0)
only_expiry s false none n poll final outcome acted test quiet is = cc
only_expiry s true true n poll final outcome acted test quiet is =
    (refl, grind (arith, test, nat_tests))
only_expiry s true false n (Some at) final outcome acted test quiet is = cc
only_expiry s true false n None (Some at) outcome acted test quiet is = cc
only_expiry s true false n None None outcome acted test quiet is = (refl, quiet refl refl)

pub only_unawaited : (r : Reading) (s : Side) (v : View) (acted : ViewStep)
    → expires_eagerly r s v ≡ Ok acted → (v.station.end.t200 ≡ true) × (awaited_in v ≡ 0)
unfolding expires_200 expires_eagerly
only_unawaited r s v acted is =
    only_expiry s v.station.end.t200 (awaited_in v == 0) (awaited_in v) (first_poll v.outgoing)
    (first_final v.incoming) (takes r (Expiry T200) [] v) acted refl
    (λ poll final. none_awaited v.station.end.state v.outgoing v.incoming poll final) is
