-- Facts that hold after every run of moves from a new world, and after every eager run, on whole
-- numbers and on tags.
use Rattle.std.proofs.Common.{◌≡◌, ◌≤◌, List, [], ◌∷◌, map, Result, Ok, Err, sym, ap, subst, ◌∙◌, arith}
use Rattle.lapd_mod128.specs.Counting.{Reading, Whole, Tagged}
use Rattle.lapd_link_definition.specs.declared.state.State.TheVariants.{AwaitingEstablishment}
use Rattle.lapd_link_definition.specs.declared.out.Out.{Out}
use Rattle.lapd_link_definition.specs.declared.out.Out.TheVariants.{Send, SendMessage}
use Rattle.lapd_link_definition.specs.Parameters.{Parameters}
use Rattle.lapd_link_definition.specs.Reports.{IsExpectedOut, AreExpected}
use Rattle.lapd_link_definition.specs.Tagging.{tag_out}
use Rattle.lapd_pair_laws.specs.Consistent.{IsConsistentWorld}
use Rattle.lapd_pair_laws.specs.Move.{Move, Refusal}
use Rattle.lapd_pair_laws.specs.Safe.{AreSafe}
use Rattle.lapd_pair_laws.specs.Tagged.{tag_world, tag_outcome, AreNearMoves}
use Rattle.lapd_pair_laws.specs.World.{World, Happened, new_world, world_after, happens, run, outcomes}
use Rattle.lapd_pair_laws.proofs.Consistency.{new_world_consistent, run_consistent}
use Rattle.lapd_pair_laws.proofs.TaggedMoves.{move_near, run_on_tags, outcomes_on_tags, safe_on_tags, new_world_on_tags}
use Rattle.lapd_pair_laws.specs.Invariant.{IsInvariant}
use Rattle.lapd_pair_laws.specs.Reports.{ReportsExpected, AllReportsExpected, AreFirstDue}
use Rattle.lapd_pair_laws.specs.Fresh.{AllAreFresh}
use Rattle.lapd_pair_laws.specs.Exchanges.{AskOneAtATime}
use Rattle.lapd_pair_laws.specs.Eager.{run_eagerly, outcomes_eagerly}
use Rattle.lapd_pair_laws.proofs.NextDue.{due_by_invariant, due_in_tags}
use Rattle.lapd_pair_laws.proofs.Eager.{eager_run_preserves, eager_reports}
use Rattle.lapd_pair_laws.proofs.EagerOnTags.{awaited_alike, eager_run_on_tags, eager_outcomes_on_tags}
use Rattle.lapd_pair_laws.proofs.Freshness.{fresh_by_invariant, fresh_in_tags}
use Rattle.lapd_pair_laws.proofs.Nearness.{within_by_invariant}
use Rattle.lapd_pair_laws.proofs.Whole.{each_move_preserves, each_run_preserves, each_report_is_expected}
use Rattle.lapd_pair_laws.proofs.Worlds.{new_holds, safe_by_invariant}

-- each move is near: tags decide as whole numbers do
pub near_moves : (moves : List Move) (w : World) → IsInvariant w → IsConsistentWorld Whole w
    → AreNearMoves moves w
near_moves [] w i preserved = tt
near_moves (move ∷ moves) w i preserved = (
  move_near move w preserved (within_by_invariant w i),
  near_moves moves (world_after w (happens Whole move w)) (each_move_preserves move w i)
      (run_consistent Whole (move ∷ []) w preserved),
)

pub reports_of_run : (moves : List Move) (w : World) → IsInvariant w
    → AllReportsExpected (outcomes Whole moves w)
reports_of_run [] w i = tt
reports_of_run (move ∷ moves) w i = (
  each_report_is_expected move w i,
  reports_of_run moves (world_after w (happens Whole move w)) (each_move_preserves move w i),
)

-- ---- On tags.

out_on_tags : (out : Out) → IsExpectedOut out → IsExpectedOut (tag_out out)
out_on_tags (Send role control) e = tt
out_on_tags (SendMessage place control) e = tt
out_on_tags out e = e

outs_on_tags : (outs : List Out) → AreExpected outs → AreExpected (map tag_out outs)
outs_on_tags [] e = tt
outs_on_tags (out ∷ outs) e = (out_on_tags out e.0, outs_on_tags outs e.1)

outcome_on_tags : (r : Result Happened Refusal) → ReportsExpected r
    → ReportsExpected (tag_outcome r)
outcome_on_tags (Ok happened) e = outs_on_tags happened.outs e
outcome_on_tags (Err refusal) e = tt

reports_on_tags : (rs : List (Result Happened Refusal)) → AllReportsExpected rs
    → AllReportsExpected (map tag_outcome rs)
reports_on_tags [] e = tt
reports_on_tags (r ∷ rs) e = (outcome_on_tags r e.0, reports_on_tags rs e.1)

-- outcomes in both readings
reports_in : (outcomes_in : Reading → List (Result Happened Refusal))
    → outcomes_in Tagged ≡ map tag_outcome (outcomes_in Whole)
    → AllReportsExpected (outcomes_in Whole) → (r : Reading) → AllReportsExpected (outcomes_in r)
reports_in outcomes_in same e Whole = e
reports_in outcomes_in same e Tagged =
    subst (λ rs. AllReportsExpected rs) (sym same) (reports_on_tags (outcomes_in Whole) e)

one_by_invariant : (w : World) → IsInvariant w → AskOneAtATime w
one_by_invariant w i = record { user = i.both.mine.exchange.one; network = i.both.its.exchange.one }

one_on_tags : (w : World) → AskOneAtATime w → AskOneAtATime (tag_world w)
one_on_tags w one = record {
  user = omega (arith, one.user, awaited_alike AwaitingEstablishment w.to_network w.to_user);
  network = omega (arith, one.network, awaited_alike AwaitingEstablishment w.to_user w.to_network);
}

-- a world in both readings
module _ (world_in : Reading → World) (same : world_in Tagged ≡ tag_world (world_in Whole))
    (i : IsInvariant (world_in Whole)) where
  safe_in : (r : Reading) → AreSafe (world_in r)
  safe_in Whole = safe_by_invariant (world_in Whole) i
  safe_in Tagged =
      subst (λ w. AreSafe w) (sym same)
      ((safe_on_tags (world_in Whole)).1 (safe_by_invariant (world_in Whole) i))

  due_in : (r : Reading) → AreFirstDue r (world_in r)
  due_in Whole = due_by_invariant (world_in Whole) i
  due_in Tagged = subst (λ w. AreFirstDue Tagged w) (sym same) (due_in_tags (world_in Whole) i)

  fresh_in : (r : Reading) → AllAreFresh (world_in r)
  fresh_in Whole = fresh_by_invariant (world_in Whole) i
  fresh_in Tagged = subst (λ w. AllAreFresh w) (sym same) (fresh_in_tags (world_in Whole) i)

  one_in : (r : Reading) → AskOneAtATime (world_in r)
  one_in Whole = one_by_invariant (world_in Whole) i
  one_in Tagged =
      subst (λ w. AskOneAtATime w) (sym same)
      (one_on_tags (world_in Whole) (one_by_invariant (world_in Whole) i))

-- ---- From a new world.

module _ (user network : Parameters) (user_window : user.k ≤ 127) (network_window : network.k ≤ 127)
    (moves : List Move) where
  abbrev start : World
  start = new_world user network

  begins : IsInvariant start
  begins = new_holds user network user_window network_window

  preserved : IsConsistentWorld Whole start
  preserved = new_world_consistent Whole user network user_window network_window

  pub reached_tags : run Tagged moves (new_world user network)
      ≡ tag_world (run Whole moves (new_world user network))
  reached_tags =
      ap (λ w. run Tagged moves w) (sym (new_world_on_tags user network))
      ∙ run_on_tags moves start preserved (near_moves moves start begins preserved)

  pub reached_outcomes : outcomes Tagged moves (new_world user network)
      ≡ map tag_outcome (outcomes Whole moves (new_world user network))
  reached_outcomes =
      ap (λ w. outcomes Tagged moves w) (sym (new_world_on_tags user network))
      ∙ outcomes_on_tags moves start preserved (near_moves moves start begins preserved)

  reached : IsInvariant (run Whole moves (new_world user network))
  reached = each_run_preserves moves start begins

  eager_tags : run_eagerly Tagged moves (new_world user network)
      ≡ tag_world (run_eagerly Whole moves (new_world user network))
  eager_tags =
      ap (λ w. run_eagerly Tagged moves w) (sym (new_world_on_tags user network))
      ∙ eager_run_on_tags moves start begins

  eager_outcomes : outcomes_eagerly Tagged moves (new_world user network)
      ≡ map tag_outcome (outcomes_eagerly Whole moves (new_world user network))
  eager_outcomes =
      ap (λ w. outcomes_eagerly Tagged moves w) (sym (new_world_on_tags user network))
      ∙ eager_outcomes_on_tags moves start begins

  eagerly_reached : IsInvariant (run_eagerly Whole moves (new_world user network))
  eagerly_reached = eager_run_preserves moves start begins

pub every_run_safe : (r : Reading) (user network : Parameters) → user.k ≤ 127 → network.k ≤ 127
    → (moves : List Move) → AreSafe (run r moves (new_world user network))
every_run_safe r user network u n moves =
    safe_in (λ r. run r moves (new_world user network)) (reached_tags user network u n moves)
    (reached user network u n moves) r

pub every_run_reports : (r : Reading) (user network : Parameters) → user.k ≤ 127 → network.k ≤ 127
    → (moves : List Move) → AllReportsExpected (outcomes r moves (new_world user network))
every_run_reports r user network u n moves =
    reports_in (λ r. outcomes r moves (new_world user network))
    (reached_outcomes user network u n moves)
    (reports_of_run moves (new_world user network) (new_holds user network u n)) r

pub every_run_is_due : (r : Reading) (user network : Parameters) → user.k ≤ 127 → network.k ≤ 127
    → (moves : List Move) → AreFirstDue r (run r moves (new_world user network))
every_run_is_due r user network u n moves =
    due_in (λ r. run r moves (new_world user network)) (reached_tags user network u n moves)
    (reached user network u n moves) r

pub every_run_is_fresh : (r : Reading) (user network : Parameters) → user.k ≤ 127 → network.k ≤ 127
    → (moves : List Move) → AllAreFresh (run r moves (new_world user network))
every_run_is_fresh r user network u n moves =
    fresh_in (λ r. run r moves (new_world user network)) (reached_tags user network u n moves)
    (reached user network u n moves) r

pub every_run_asks_one : (r : Reading) (user network : Parameters) → user.k ≤ 127 → network.k ≤ 127
    → (moves : List Move) → AskOneAtATime (run r moves (new_world user network))
every_run_asks_one r user network u n moves =
    one_in (λ r. run r moves (new_world user network)) (reached_tags user network u n moves)
    (reached user network u n moves) r

-- ---- Eager runs.

pub every_eager_run_safe : (r : Reading) (user network : Parameters) → user.k ≤ 127
    → network.k ≤ 127 → (moves : List Move) → AreSafe (run_eagerly r moves (new_world user network))
every_eager_run_safe r user network u n moves =
    safe_in (λ r. run_eagerly r moves (new_world user network)) (eager_tags user network u n moves)
    (eagerly_reached user network u n moves) r

pub every_eager_run_reports : (r : Reading) (user network : Parameters) → user.k ≤ 127
    → network.k ≤ 127 → (moves : List Move)
    → AllReportsExpected (outcomes_eagerly r moves (new_world user network))
every_eager_run_reports r user network u n moves =
    reports_in (λ r. outcomes_eagerly r moves (new_world user network))
    (eager_outcomes user network u n moves)
    (eager_reports moves (new_world user network) (new_holds user network u n)) r

pub every_eager_run_is_due : (r : Reading) (user network : Parameters) → user.k ≤ 127
    → network.k ≤ 127 → (moves : List Move)
    → AreFirstDue r (run_eagerly r moves (new_world user network))
every_eager_run_is_due r user network u n moves =
    due_in (λ r. run_eagerly r moves (new_world user network)) (eager_tags user network u n moves)
    (eagerly_reached user network u n moves) r

pub every_eager_run_is_fresh : (r : Reading) (user network : Parameters) → user.k ≤ 127
    → network.k ≤ 127 → (moves : List Move)
    → AllAreFresh (run_eagerly r moves (new_world user network))
every_eager_run_is_fresh r user network u n moves =
    fresh_in (λ r. run_eagerly r moves (new_world user network)) (eager_tags user network u n moves)
    (eagerly_reached user network u n moves) r
