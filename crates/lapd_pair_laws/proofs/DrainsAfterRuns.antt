-- A quiet line drains after every run from a new world, on whole numbers and on tags.
use Rattle.std.proofs.Common.{◌≡◌, ℕ, zero, suc, ◌+◌, ◌*◌, ◌≤◌, List, [], ◌∷◌, map, length, Option, Some, None, Result, Ok, Err, is_ok, refl, sym, ap, subst, ◌∙◌, arith}
use Rattle.lapd_mod128.specs.Counting.{Reading, Whole, Tagged}
use Rattle.lapd_supervision.specs.Tags.{tag_variables}
use Rattle.lapd_link_definition.specs.Parameters.{Parameters}
use Rattle.lapd_pair_laws.specs.Consistent.{IsConsistentWorld}
use Rattle.lapd_pair_laws.specs.Line.{Flight}
use Rattle.lapd_pair_laws.specs.Move.{Move, Refusal}
use Rattle.lapd_pair_laws.specs.Tagged.{tag_flight, tag_world, tag_outcome}
use Rattle.lapd_pair_laws.specs.World.{World, Happened, new_world, world_after, happens, run}
use Rattle.lapd_pair_laws.proofs.Consistency.{new_world_consistent, run_consistent}
use Rattle.lapd_pair_laws.proofs.TaggedMoves.{move_on_tags, move_near, run_on_tags, left_on_tags, safe_on_tags, after_on_tags}
use Rattle.lapd_pair_laws.specs.Invariant.{IsInvariant}
use Rattle.lapd_pair_laws.proofs.Nearness.{within_by_invariant}
use Rattle.lapd_pair_laws.proofs.Reached.{near_moves, reached_tags}
use Rattle.lapd_pair_laws.proofs.Whole.{each_move_preserves, each_run_preserves}
use Rattle.lapd_pair_laws.proofs.Worlds.{new_holds}
use Rattle.lapd_pair_laws.specs.Settle.{IsQuiet, first_admitted, tried, next_move, then_on, settling, bound, most_moves}
use Rattle.lapd_pair_laws.specs.Drained.{IsDrainedTo, IsDrained}
use Rattle.lapd_pair_laws.proofs.SettledEnds.{new_settles, run_settles}
use Rattle.lapd_pair_laws.proofs.Settles.{quiet_line_drains}

-- ---- On tags the same moves are made.

pub admitted_on_tags : (r : Result Happened Refusal) → is_ok (tag_outcome r) ≡ is_ok r
admitted_on_tags (Ok happened) = refl
admitted_on_tags (Err refusal) = refl

pub move_tagged : (move : Move) (w : World) → IsInvariant w → IsConsistentWorld Whole w
    → happens Tagged move (tag_world w) ≡ tag_outcome (happens Whole move w)
move_tagged move w i preserved =
    move_on_tags move w preserved (move_near move w preserved (within_by_invariant w i))

first_on_tags : (moves : List Move) (w : World) → IsInvariant w → IsConsistentWorld Whole w
    → first_admitted Tagged moves (tag_world w) ≡ first_admitted Whole moves w
first_on_tags [] w i preserved = refl
first_on_tags (move ∷ moves) w i preserved =
    let here : is_ok (happens Tagged move (tag_world w)) ≡ is_ok (happens Whole move w) =
    ap is_ok (move_tagged move w i preserved) ∙ admitted_on_tags (happens Whole move w) in
    rw (here, first_on_tags moves w i preserved) refl

then_same : (o : Option Move) (f g : Move → List Move) → ((move : Move) → f move ≡ g move)
    → then_on o f ≡ then_on o g
then_same None f g same = refl
then_same (Some move) f g same = ap (λ l. move ∷ l) (same move)

pub settling_on_tags : (fuel : ℕ) (w : World) → IsInvariant w → IsConsistentWorld Whole w
    → settling Tagged fuel (tag_world w) ≡ settling Whole fuel w
settling_on_tags zero w i preserved = refl
settling_on_tags (suc fuel) w i preserved =
    ap (λ o. then_on o (λ move. settling Tagged fuel
    (world_after (tag_world w) (happens Tagged move (tag_world w)))))
    (first_on_tags tried w i preserved)
    ∙ then_same (next_move Whole w) _ _ (λ move.
    ap (λ r. settling Tagged fuel (world_after (tag_world w) r)) (move_tagged move w i preserved)
    ∙ ap (λ v. settling Tagged fuel v) (after_on_tags w (happens Whole move w))
    ∙ settling_on_tags fuel (world_after w (happens Whole move w)) (each_move_preserves move w i)
    (run_consistent Whole (move ∷ []) w preserved))

drained_to_on_tags : (w v : World) → IsInvariant v → IsConsistentWorld Whole v
    → IsDrainedTo Whole w v → IsDrainedTo Tagged (tag_world w) (tag_world v)
drained_to_on_tags w v i preserved d = record {
  rests = first_on_tags tried v i preserved ∙ d.rests;
  empty = left_on_tags v ∙ d.empty;
  user = record { dropped = d.user.dropped; acknowledged = d.user.acknowledged };
  network = record { dropped = d.network.dropped; acknowledged = d.network.acknowledged };
  safe = (safe_on_tags v).1 d.safe;
}

drained_on_tags : (w : World) → IsInvariant w → IsConsistentWorld Whole w → IsDrained Whole w
    → IsDrained Tagged (tag_world w)
drained_on_tags w i preserved d =
    let moves = settling Whole (bound w) w in
    let bounds : bound (tag_world w) ≡ bound w = ap (λ n. 8 * (n + 4)) (left_on_tags w) in
    let most : most_moves (tag_world w) ≡ most_moves w = ap (λ n. 3 * n + 8) (left_on_tags w) in
    let same : settling Tagged (bound (tag_world w)) (tag_world w) ≡ moves =
    ap (λ n. settling Tagged n (tag_world w)) bounds
    ∙ settling_on_tags (bound w) w i preserved in
    let after : run Tagged (settling Tagged (bound (tag_world w)) (tag_world w)) (tag_world w) ≡
    tag_world (run Whole moves w) =
    ap (λ l. run Tagged l (tag_world w)) same
    ∙ run_on_tags moves w preserved (near_moves moves w i preserved) in
    let few = d.few in
    let counted : length (settling Tagged (bound (tag_world w)) (tag_world w)) ≡ length moves =
    ap length same in
    record {
      few = omega (arith, few, counted, most);
      drained =
          subst (λ v. IsDrainedTo Tagged (tag_world w) v) (sym after)
          (drained_to_on_tags w (run Whole moves w) (each_run_preserves moves w i)
          (run_consistent Whole moves w preserved) d.drained);
    }

-- ---- From a new world.

pub unmapped : (l : List Flight) → map tag_flight l ≡ [] → l ≡ []
unmapped [] none = refl
unmapped (f ∷ fs) none = cc

module _ (user network : Parameters) (user_small : user.k ≤ 127) (network_small : network.k ≤ 127)
    (user_some : 1 ≤ user.k) (network_some : 1 ≤ network.k) (moves : List Move) where
  abbrev start : World
  start = new_world user network

  abbrev reached : World
  reached = run Whole moves start

  holds : IsInvariant reached
  holds = each_run_preserves moves start (new_holds user network user_small network_small)

  preserved : IsConsistentWorld Whole reached
  preserved =
      run_consistent Whole moves start
      (new_world_consistent Whole user network user_small network_small)

  drained_whole : IsQuiet reached → IsDrained Whole reached
  drained_whole q =
      let d =
      quiet_line_drains reached holds preserved
      (run_settles moves start (new_settles user network user_some network_some)) q in
      d

  quiet_by_tags : IsQuiet (tag_world reached) → IsQuiet reached
  unfolding tag_variables
  quiet_by_tags q = record {
    user = q.user;
    network = q.network;
    user_free = q.user_free;
    network_free = q.network_free;
    to_user = unmapped reached.to_user q.to_user;
    to_network = unmapped reached.to_network q.to_network;
  }

  drained_by : (r : Reading) → IsQuiet (run r moves (new_world user network))
      → IsDrained r (run r moves (new_world user network))
  drained_by Whole q = drained_whole q
  drained_by Tagged q =
      let same : run Tagged moves (new_world user network) ≡ tag_world reached =
      reached_tags user network user_small network_small moves in
      subst (λ w. IsDrained Tagged w) (sym same)
      (drained_on_tags reached holds preserved
      (drained_whole (quiet_by_tags (subst IsQuiet same q))))

pub every_quiet_line_drains : (r : Reading) (user network : Parameters) → user.k ≤ 127
    → network.k ≤ 127 → 1 ≤ user.k → 1 ≤ network.k → (moves : List Move)
    → IsQuiet (run r moves (new_world user network))
    → IsDrained r (run r moves (new_world user network))
every_quiet_line_drains r user network u n us ns moves q =
    drained_by user network u n us ns moves r q
