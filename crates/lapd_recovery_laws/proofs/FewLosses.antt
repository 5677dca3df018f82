-- Few losses: both ends stay in states 7 and 8, and no message is dropped.
use Rattle.std.proofs.Common.{◌≡◌, ◌⊎◌, inl, inr, ℕ, ◌+◌, ◌≤◌, ◌||◌, true, false, List, [], ◌∷◌, refl, sym, ap, subst, ◌∙◌, arith, ◌*◌}
use Rattle.std.proofs.lemmas.Nat.{mul-le}
use Rattle.lapd_frame.specs.declared.Side.{Side}
use Rattle.lapd_frame.specs.declared.Side.TheVariants as side
use Rattle.lapd_mod128.specs.Counting.{Reading, Whole, Tagged}
use Rattle.lapd_link_definition.specs.EndOfStep.{is_7_or_8}
use Rattle.lapd_link_definition.specs.End.{End}
use Rattle.lapd_link_definition.specs.Parameters.{Parameters}
use Rattle.lapd_link_definition.specs.Tagging.{tag_end}
use Rattle.lapd_pair_laws.specs.Consistent.{IsConsistentWorld}
use Rattle.lapd_pair_laws.specs.Invariant.{IsInvariant}
use Rattle.lapd_pair_laws.specs.Kinds.{Kind, kinds}
use Rattle.lapd_pair_laws.specs.Line.{Flight}
use Rattle.lapd_pair_laws.specs.Move.{Station, PairEvent, Deliver, Expire200, Expire203, Move}
use Rattle.lapd_pair_laws.specs.Tagged.{tag_world}
use Rattle.lapd_pair_laws.specs.World.{World, view_of, new_world, happens, world_after, run, left}
use Rattle.lapd_pair_laws.proofs.Consistency.{run_consistent}
use Rattle.lapd_pair_laws.proofs.TaggedMoves.{left_on_tags, safe_on_tags}
use Rattle.lapd_pair_laws.proofs.Whole.{each_move_preserves, each_run_preserves}
use Rattle.lapd_pair_laws.proofs.Worlds.{safe_by_invariant}
use Rattle.lapd_pair_laws.proofs.Settles.{side_served}
use Rattle.lapd_recovery_laws.specs.Agreed.{AreLevel, AreReleased}
use Rattle.lapd_recovery_laws.specs.FewLosses.{t203s, most_t200s, most_open_line_moves, Outlasts, OutlastLosses, StaysOpen, most_open_moves, KeepsAll, IsUp}
use Rattle.lapd_recovery_laws.specs.Deliveries.{frames}
use Rattle.lapd_recovery_laws.specs.EarlyTimers.{AreLineMoves}
use Rattle.lapd_recovery_laws.specs.Losses.{is_loss, AreOwnOrLosses, losses}
use Rattle.lapd_recovery_laws.specs.Own.{is_line_empty, is_due, IsOwn}
use Rattle.lapd_recovery_laws.proofs.AfterOutage.{free_by_tags}
use Rattle.lapd_recovery_laws.proofs.AnyOrder.{Draining, MayRetry, own_moves_on}
use Rattle.lapd_recovery_laws.proofs.CountedMoves.{after, Keeps, IsWeight, moves_counted}
use Rattle.lapd_recovery_laws.proofs.DespiteTimers.{despite_timers, line_moves_by_tags}
use Rattle.lapd_recovery_laws.proofs.EveryWorld.{drains_at}
use Rattle.lapd_recovery_laws.proofs.Lost.{at}
use Rattle.lapd_recovery_laws.proofs.OpenMoves.{open_moves_counted}
use Rattle.lapd_recovery_laws.proofs.OutageWorlds.{Facts}
use Rattle.lapd_recovery_laws.proofs.OwnOnTags.{due_on_tags, ok_on_tags, world_on_tags, ran_on_tags, are_level_on_tags, agreed_on_tags, at_rest_on_tags}
use Rattle.lapd_recovery_laws.proofs.RunsEmpty as runs
use Rattle.lapd_recovery_laws.proofs.RunsEmpty.{after_runs}
use Rattle.lapd_recovery_laws.proofs.StaysOpen.{Tries, Lasts, less, deliver, expire_200, never_203, lose, Through, goes_through}

-- ---- From an open world.

open_level : (x y : End) → is_7_or_8 x.state ≡ true → AreReleased x y ⊎ AreLevel x y → AreLevel x y
open_level x y o (inl r) =
    absurd (let closed : is_7_or_8 x.state ≡ false = ap is_7_or_8 r.mine in cc)
open_level x y o (inr l) = l

-- the weight of an open line
own_lasts : (b : ℕ) (s : Side) (event : PairEvent) (w : World) (N l : ℕ) → Keeps N l w → Lasts b w
    → IsOwn Whole (record { side = s; event = event }) w → Lasts b (after s event w)
own_lasts b s Deliver w N l k held own =
    (deliver N b s w.user w.network w.to_user w.to_network k.facts held own.admitted).lasts
own_lasts b s Expire200 w N l k held own =
    (expire_200 b s w held own.admitted).lasts
own_lasts b s Expire203 w N l k held own = absurd (never_203 b w held k.facts.have own.due)
own_lasts b s event w N l k held own = let due = own.due in cc

-- on an empty line
may_retry : (b : ℕ) (s : Side) (x y : Station) (to_user to_network : List Flight)
    → Lasts b (at x y to_user to_network) → is_line_empty (at x y to_user to_network) ≡ true
    → MayRetry (view_of s (at x y to_user to_network)).station.end
may_retry b side.User x y [] [] l empty is =
    let enough = l.user.tries is in less x.end.rc x.end.parameters.n200 (omega (arith, enough))
may_retry b side.Network x y [] [] l empty is =
    let enough = l.network.tries is in less y.end.rc y.end.parameters.n200 (omega (arith, enough))
may_retry b s x y (frame ∷ rest) to_network l empty is = cc
may_retry b s x y [] (frame ∷ rest) l empty is = cc

open_weight : (N : ℕ) → 1 ≤ N → (l : ℕ) → IsWeight N l 8 Lasts (λ n w. Draining n w)
open_weight N some l = record {
  own_holds = λ b s event w k held own. own_lasts b s event w N l k held own;
  loss_holds = λ b i s w held ok. (lose b i s w held ok).lasts;
  begins = λ b n x y k held flow.
      let u = held.user in
      let v = held.network in
      record {
        m = n + 8;
        weight =
            drains_at N some n x y (record {
              facts = k.facts;
              preserved = k.preserved;
              flow = flow;
              user_free = k.user_free;
              network_free = k.network_free;
            }) u.open_state
            v.open_state;
        few = omega arith;
      };
  falls =
      λ b n s event w weight k held own. let m =
      own_moves_on n (record { side = s; event = event }) w weight
      (λ is. may_retry b s w.user w.network w.to_user w.to_network held
      (subst (λ e. is_due e w ≡ true) is own.due)) k.facts.have own in record { some_left = m.some; weight = m.draining };
}

few_losses : (N lost : ℕ) → 1 ≤ N → (w : World) → Facts N w → IsConsistentWorld Whole w
    → OutlastLosses lost w → KeepsAll Whole lost w
few_losses N lost some w f preserved o = record {
  few_t200s = λ moves own le.
      (open_moves_counted N lost w kept begins moves own le).fewer;
  few = λ moves own le.
      (open_moves_counted N lost w kept begins moves own le).few;
  own_few = λ moves own le.
      let few =
      (moves_counted N (left w) 8 Lasts (λ n v. Draining n v)
      (open_weight N some (left w)) lost w kept begins moves own le).few in
      let more = mul-le (losses moves) (4 * left w + 15) lost (4 * left w + 15) le (omega arith) in
      omega (arith, few, more);
  stays =
      λ moves own le. let t =
      through moves own le in record {
        user = t.user;
        network = t.network;
        user_dropped = t.user_dropped;
        network_dropped = t.network_dropped;
      };
  up = λ moves own le rests.
      let now = run Whole moves w in
      let t = through moves own le in
      let agreed =
      (despite_timers N some w f preserved o.user.free o.network.free).agreed moves own
      rests in
      let kept = run_consistent Whole moves w preserved in
      let empty = agreed.empty in
      record {
        agreed = agreed;
        level = open_level now.user.end now.network.end t.user agreed.ends;
        user = side_served w.user now.user kept.user.settled (omega (arith, empty)) t.user_dropped;
        network =
            side_served w.network now.network kept.network.settled (omega (arith, empty))
            t.network_dropped;
        safe = safe_by_invariant now (each_run_preserves moves w f.holds);
      };
}
  where
    tries_so : (e : End) (out back : List Kind) → Outlasts lost e → Tries lost e out back
    tries_so e out back u = record {
      open_state = u.open_state;
      spare = (let retries = u.retries in omega (arith, retries));
      tries = λ is. let enough = u.tries is in omega (arith, enough);
    }

    begins : Lasts lost w
    begins = record {
      user = tries_so w.user.end (kinds w.to_network) (kinds w.to_user) o.user;
      network = tries_so w.network.end (kinds w.to_user) (kinds w.to_network) o.network;
    }

    kept : Keeps N (left w) w
    kept =
        let all = runs.left_waits w preserved in
        record {
          facts = f;
          preserved = preserved;
          user_free = o.user.free;
          network_free = o.network.free;
          few = omega (arith, all);
        }

    through : (moves : List Move) → AreLineMoves Whole moves w → losses moves ≤ lost
        → Through w (run Whole moves w)
    through moves own le = goes_through N moves lost w f begins own le

-- ---- After every run, on whole numbers and on tags.

up_on_tags : (w v : World) → IsUp w v → IsUp (tag_world w) (tag_world v)
up_on_tags w v u = record {
  agreed = agreed_on_tags v u.agreed;
  level = are_level_on_tags v.user.end v.network.end u.level;
  user = record { dropped = u.user.dropped; acknowledged = u.user.acknowledged };
  network = record { dropped = u.network.dropped; acknowledged = u.network.acknowledged };
  safe = (safe_on_tags v).1 u.safe;
}

own_or_losses_by_tags : (moves : List Move) (w : World) → IsInvariant w → IsConsistentWorld Whole w
    → AreOwnOrLosses Tagged moves (tag_world w) → AreOwnOrLosses Whole moves w
own_or_losses_by_tags [] w i preserved own = tt
own_or_losses_by_tags (move ∷ moves) w i preserved own =
    let now = world_after w (happens Whole move w) in (
      record {
        due = ap (λ b. is_loss move.event || b) (sym (due_on_tags move.event w)) ∙ own.0.due;
        admitted = sym (ok_on_tags move w i preserved) ∙ own.0.admitted;
      },
      own_or_losses_by_tags moves now (each_move_preserves move w i)
          (run_consistent Whole (move ∷ []) w preserved)
          (subst (λ v. AreOwnOrLosses Tagged moves v) (world_on_tags move w i preserved) own.1),
    )

on_tags : (lost : ℕ) (w : World) → IsInvariant w → IsConsistentWorld Whole w → KeepsAll Whole lost w
    → KeepsAll Tagged lost (tag_world w)
on_tags lost w i preserved k = record {
  few_t200s = λ moves own le.
      let l : left (tag_world w) ≡ left w = left_on_tags w in
      let f : frames (tag_world w) ≡ frames w = runs.frames_on_tags w in
      let same : most_t200s lost (tag_world w) ≡ most_t200s lost w = rw (l, f) refl in
      let few = k.few_t200s moves (line_moves_by_tags moves w i preserved own).own le in
      omega (arith, same, few);
  few = λ moves own le.
      let l : left (tag_world w) ≡ left w = left_on_tags w in
      let f : frames (tag_world w) ≡ frames w = runs.frames_on_tags w in
      let same : most_open_line_moves lost (t203s moves) (tag_world w)
      ≡ most_open_line_moves lost (t203s moves) w =
      rw (l, f) refl in
      let few = k.few moves (line_moves_by_tags moves w i preserved own).own le in
      omega (arith, same, few);
  own_few = λ moves own le.
      let same : most_open_moves lost (tag_world w) ≡ most_open_moves lost w =
      let l = left_on_tags w in
      let f = runs.frames_on_tags w in
      ap (λ j. 2 * j + 3 * left (tag_world w) + 12 + lost * (4 * left (tag_world w) + 15)) f
      ∙ ap (λ j. 2 * frames w + 3 * j + 12 + lost * (4 * j + 15)) l in
      let few = k.own_few moves (own_or_losses_by_tags moves w i preserved own) le in
      omega (arith, same, few);
  stays = λ moves own le.
      let now = run Whole moves w in
      let same : run Tagged moves (tag_world w) ≡ tag_world now = ran_on_tags moves w i preserved in
      let s = k.stays moves (line_moves_by_tags moves w i preserved own).own le in
      subst (λ v. StaysOpen (tag_world w) v) (sym same)
      (record {
        user = s.user;
        network = s.network;
        user_dropped = s.user_dropped;
        network_dropped = s.network_dropped;
      });
  up = λ moves own le rests.
      at_rest_on_tags (λ v. IsUp w v) (λ v. IsUp (tag_world w) v) (up_on_tags w) moves w i preserved
      (k.up moves (line_moves_by_tags moves w i preserved own).own le) rests;
}

outlasts_by_tags : (lost : ℕ) (e : End) → Outlasts lost (tag_end e) → Outlasts lost e
outlasts_by_tags lost e o = record {
  open_state = o.open_state;
  free = free_by_tags e o.free;
  retries = o.retries;
  tries = o.tries;
}

outlast_by_tags : (lost : ℕ) (w : World) → OutlastLosses lost (tag_world w) → OutlastLosses lost w
outlast_by_tags lost w o = record {
  user = outlasts_by_tags lost w.user.end o.user;
  network = outlasts_by_tags lost w.network.end o.network;
}

pub few_losses_drop_nothing : (r : Reading) (user network : Parameters) → user.k ≤ 127
    → network.k ≤ 127 → 1 ≤ user.k → 1 ≤ network.k → (moves : List Move) (lost : ℕ)
    → OutlastLosses lost (run r moves (new_world user network))
    → KeepsAll r lost (run r moves (new_world user network))
few_losses_drop_nothing r user network u n us ns moves lost o =
    after_runs (λ w. OutlastLosses lost w) (λ r w. KeepsAll r lost w)
    (λ w facts preserved o. let some =
    o.user.retries in
    few_losses (w.user.end.parameters.n200 + w.network.end.parameters.n200) lost
    (omega (arith, some)) w
    (facts (w.user.end.parameters.n200 + w.network.end.parameters.n200) (omega arith) (omega arith))
    preserved o) (outlast_by_tags lost) (on_tags lost) r user network u n us ns moves o
