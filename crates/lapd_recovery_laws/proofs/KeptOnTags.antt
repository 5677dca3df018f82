-- A run with keeping restarts on tags equals the one on whole numbers with each number replaced by its
-- tag; so what the invariant gives holds in both readings.
use Rattle.std.proofs.Common.{◌≡◌, ◌≤◌, ◌==◌, if◌then◌else◌, Bool, true, false, List, [], ◌∷◌, map, Result, Ok, Err, refl, sym, ap, subst, ◌∙◌}
use Rattle.lapd_frame.specs.declared.Side.{Side}
use Rattle.lapd_mod128.specs.Counting.{Reading, Whole, Tagged}
use Rattle.lapd_supervision.proofs.Tagging.{without_exceptions_on_tags}
use Rattle.lapd_link_definition.specs.declared.state.State.TheVariants.{AwaitingRelease}
use Rattle.lapd_link_definition.specs.declared.out.Out.{Out}
use Rattle.lapd_link_definition.specs.declared.out.Out.TheVariants.{Send, SendMessage}
use Rattle.lapd_link_definition.specs.Parameters.{Parameters}
use Rattle.lapd_link_definition.specs.Reports.{IsExpectedOut, AreExpected}
use Rattle.lapd_link_definition.specs.Sound.{IsSound}
use Rattle.lapd_link_definition.specs.Tagging.{tag_out}
use Rattle.lapd_pair_laws.specs.Eager.{happens_eagerly}
use Rattle.lapd_pair_laws.specs.Fresh.{AllAreFresh}
use Rattle.lapd_pair_laws.specs.Invariant.{IsInvariant}
use Rattle.lapd_pair_laws.specs.Move.{PairEvent, Restart, Move, View, Refusal, acts, restarts, quietly}
use Rattle.lapd_pair_laws.specs.Reports.{ReportsExpected, AllReportsExpected, AreFirstDue}
use Rattle.lapd_pair_laws.specs.Safe.{AreSafe}
use Rattle.lapd_pair_laws.specs.Tagged.{tag_world, tag_outcome}
use Rattle.lapd_pair_laws.specs.World.{World, Happened, new_world, view_of, in_world, world_after}
use Rattle.lapd_pair_laws.proofs.Eager.{small_by_invariant, sound_by_invariant}
use Rattle.lapd_pair_laws.proofs.EagerOnTags.{awaited_alike, eager_outcomes_on_tags}
use Rattle.lapd_pair_laws.proofs.Freshness.{fresh_by_invariant, fresh_in_tags}
use Rattle.lapd_pair_laws.proofs.NextDue.{due_by_invariant, due_in_tags}
use Rattle.lapd_pair_laws.proofs.TaggedMoves.{tag_view, tag_acted, acts_on_tags, view_of_on_tags, in_world_on_tags, after_on_tags, safe_on_tags, new_world_on_tags}
use Rattle.lapd_pair_laws.proofs.Worlds.{new_holds, safe_by_invariant}
use Rattle.lapd_recovery_laws.specs.QuickRestart.{exchange_in, restarts_keeping, acts_keeping, happens_keeping, run_keeping, outcomes_keeping}
use Rattle.lapd_recovery_laws.proofs.KeptNumbers.{keeping_move_preserves, keeping_run_preserves, keeping_reports}

-- ---- A restart.

exchange_on_tags : (v : View) → exchange_in (tag_view v) ≡ exchange_in v
exchange_on_tags v = awaited_alike AwaitingRelease v.outgoing v.incoming

kept_on_tags : (v : View) → restarts_keeping (tag_view v) ≡ tag_view (restarts_keeping v)
unfolding restarts_keeping
kept_on_tags v = rw (without_exceptions_on_tags v.station.end.window) refl

either_on_tags : (test : Bool) (a b : View) (u v : View) → a ≡ tag_view u
    → quietly b ≡ tag_acted (quietly v)
    → quietly (if test then a else b) ≡ tag_acted (quietly (if test then u else v))
either_on_tags true a b u v kept dropped = ap (λ x. quietly x) kept
either_on_tags false a b u v kept dropped = dropped

restart_on_tags : (who : Side) (v : View) → v.station.end.parameters.k ≤ 127
    → IsSound Whole v.station.end
    → acts_keeping Tagged who Restart (tag_view v) ≡ tag_acted (acts_keeping Whole who Restart v)
unfolding acts
restart_on_tags who v small sound =
    let same = exchange_on_tags v in
    rw same (either_on_tags (exchange_in v == 0) (restarts_keeping (tag_view v))
    (restarts (tag_view v)) (restarts_keeping v) (restarts v) (kept_on_tags v)
    (acts_on_tags who v small sound Restart tt))

-- ---- A move, and a run.

first_of_one : {A : Type 0} (x y : A) → x ∷ [] ≡ y ∷ [] → x ≡ y
first_of_one x y same = cc

event_on_tags : (who : Side) (event : PairEvent) (w : World) → IsInvariant w
    → happens_keeping Tagged (record { side = who; event = event }) (tag_world w)
    ≡ tag_outcome (happens_keeping Whole (record { side = who; event = event }) w)
unfolding happens_keeping happens_eagerly
event_on_tags who Restart w i =
    let v = view_of who w in
    ap (λ u. in_world who (tag_world w) (acts_keeping Tagged who Restart u)) (view_of_on_tags who w)
    ∙ ap (λ r. in_world who (tag_world w) r)
    (restart_on_tags who v (small_by_invariant who w i) (sound_by_invariant who w i))
    ∙ in_world_on_tags who w (acts_keeping Whole who Restart v)
event_on_tags who event w i =
    first_of_one _ _ (eager_outcomes_on_tags (record { side = who; event = event } ∷ []) w i)

keeping_move_on_tags : (move : Move) (w : World) → IsInvariant w
    → happens_keeping Tagged move (tag_world w) ≡ tag_outcome (happens_keeping Whole move w)
keeping_move_on_tags move w i = event_on_tags move.side move.event w i

keeping_run_on_tags : (moves : List Move) (w : World) → IsInvariant w
    → run_keeping Tagged moves (tag_world w) ≡ tag_world (run_keeping Whole moves w)
keeping_run_on_tags [] w i = refl
keeping_run_on_tags (move ∷ moves) w i =
    rw (keeping_move_on_tags move w i, after_on_tags w (happens_keeping Whole move w))
    (keeping_run_on_tags moves (world_after w (happens_keeping Whole move w))
    (keeping_move_preserves move w i))

keeping_outcomes_on_tags : (moves : List Move) (w : World) → IsInvariant w
    → outcomes_keeping Tagged moves (tag_world w) ≡ map tag_outcome (outcomes_keeping Whole moves w)
keeping_outcomes_on_tags [] w i = refl
keeping_outcomes_on_tags (move ∷ moves) w i =
    rw (
      keeping_move_on_tags move w i,
      after_on_tags w (happens_keeping Whole move w),
      keeping_outcomes_on_tags moves (world_after w (happens_keeping Whole move w))
          (keeping_move_preserves move w i),
    ) refl

-- ---- Reports on tags.

out_on_tags : (out : Out) → IsExpectedOut out → IsExpectedOut (tag_out out)
out_on_tags (Send role control) e = tt
out_on_tags (SendMessage place control) e = tt
out_on_tags out e = e

outs_on_tags : (outs : List Out) → AreExpected outs → AreExpected (map tag_out outs)
outs_on_tags [] e = tt
outs_on_tags (out ∷ outs) e = (out_on_tags out e.0, outs_on_tags outs e.1)

outcome_on_tags : (r : Result Happened Refusal) → ReportsExpected r
    → ReportsExpected (tag_outcome r)
outcome_on_tags (Ok happened) e = outs_on_tags happened.outs e
outcome_on_tags (Err refusal) e = tt

reports_on_tags : (rs : List (Result Happened Refusal)) → AllReportsExpected rs
    → AllReportsExpected (map tag_outcome rs)
reports_on_tags [] e = tt
reports_on_tags (r ∷ rs) e = (outcome_on_tags r e.0, reports_on_tags rs e.1)

-- ---- From a new world.

module _ (user network : Parameters) (user_window : user.k ≤ 127) (network_window : network.k ≤ 127)
    (moves : List Move) where
  begins : IsInvariant (new_world user network)
  begins = new_holds user network user_window network_window

  pub reached : IsInvariant (run_keeping Whole moves (new_world user network))
  reached = keeping_run_preserves moves (new_world user network) begins

  pub world_on_tags : run_keeping Tagged moves (new_world user network)
      ≡ tag_world (run_keeping Whole moves (new_world user network))
  world_on_tags =
      ap (λ w. run_keeping Tagged moves w) (sym (new_world_on_tags user network))
      ∙ keeping_run_on_tags moves (new_world user network) begins

  reports_same : outcomes_keeping Tagged moves (new_world user network)
      ≡ map tag_outcome (outcomes_keeping Whole moves (new_world user network))
  reports_same =
      ap (λ w. outcomes_keeping Tagged moves w) (sym (new_world_on_tags user network))
      ∙ keeping_outcomes_on_tags moves (new_world user network) begins

pub keeping_run_safe : (r : Reading) (user network : Parameters) → user.k ≤ 127 → network.k ≤ 127
    → (moves : List Move) → AreSafe (run_keeping r moves (new_world user network))
keeping_run_safe Whole user network u n moves =
    safe_by_invariant (run_keeping Whole moves (new_world user network))
    (reached user network u n moves)
keeping_run_safe Tagged user network u n moves =
    subst (λ w. AreSafe w) (sym (world_on_tags user network u n moves))
    ((safe_on_tags (run_keeping Whole moves (new_world user network))).1
    (safe_by_invariant (run_keeping Whole moves (new_world user network))
    (reached user network u n moves)))

pub keeping_run_reports : (r : Reading) (user network : Parameters) → user.k ≤ 127 → network.k ≤ 127
    → (moves : List Move) → AllReportsExpected (outcomes_keeping r moves (new_world user network))
keeping_run_reports Whole user network u n moves =
    keeping_reports moves (new_world user network) (begins user network u n moves)
keeping_run_reports Tagged user network u n moves =
    subst (λ rs. AllReportsExpected rs) (sym (reports_same user network u n moves))
    (reports_on_tags (outcomes_keeping Whole moves (new_world user network))
    (keeping_reports moves (new_world user network) (begins user network u n moves)))

pub keeping_run_is_due : (r : Reading) (user network : Parameters) → user.k ≤ 127 → network.k ≤ 127
    → (moves : List Move) → AreFirstDue r (run_keeping r moves (new_world user network))
keeping_run_is_due Whole user network u n moves =
    due_by_invariant (run_keeping Whole moves (new_world user network))
    (reached user network u n moves)
keeping_run_is_due Tagged user network u n moves =
    subst (λ w. AreFirstDue Tagged w) (sym (world_on_tags user network u n moves))
    (due_in_tags (run_keeping Whole moves (new_world user network))
    (reached user network u n moves))

pub keeping_run_is_fresh : (r : Reading) (user network : Parameters) → user.k ≤ 127
    → network.k ≤ 127 → (moves : List Move)
    → AllAreFresh (run_keeping r moves (new_world user network))
keeping_run_is_fresh Whole user network u n moves =
    fresh_by_invariant (run_keeping Whole moves (new_world user network))
    (reached user network u n moves)
keeping_run_is_fresh Tagged user network u n moves =
    subst (λ w. AllAreFresh w) (sym (world_on_tags user network u n moves))
    (fresh_in_tags (run_keeping Whole moves (new_world user network))
    (reached user network u n moves))
