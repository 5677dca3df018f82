-- Every world recovers although frames are lost and timers expire early, if only so many do.
use Rattle.std.proofs.Common.{◌≡◌, ℕ, ◌+◌, ◌*◌, ◌≤◌, not, List, [], ◌∷◌, map, refl, sym, ap, subst, ◌∙◌, arith}
use Rattle.lapd_frame.specs.declared.Control.{Control}
use Rattle.lapd_frame.specs.declared.Control.TheVariants.{I}
use Rattle.lapd_frame.specs.declared.Side.{Side}
use Rattle.lapd_frame.specs.declared.Side.TheVariants as side
use Rattle.lapd_mod128.specs.Counting.{Reading, Whole, Tagged}
use Rattle.lapd_supervision.specs.Tags.{tag_control}
use Rattle.lapd_link_definition.specs.Parameters.{Parameters}
use Rattle.lapd_pair_laws.specs.Consistent.{IsConsistentWorld}
use Rattle.lapd_pair_laws.specs.Invariant.{IsInvariant}
use Rattle.lapd_pair_laws.specs.Line.{Flight}
use Rattle.lapd_pair_laws.specs.Move.{PairEvent, Expire200, Expire203, Move}
use Rattle.lapd_pair_laws.specs.Tagged.{tag_flight, tag_world}
use Rattle.lapd_pair_laws.specs.World.{World, view_of, new_world, happens, world_after, run, left}
use Rattle.lapd_pair_laws.proofs.Consistency.{run_consistent}
use Rattle.lapd_pair_laws.proofs.TaggedMoves.{left_on_tags}
use Rattle.lapd_pair_laws.proofs.Whole.{each_move_preserves}
use Rattle.lapd_recovery_laws.specs.Agreed.{AreAgreed}
use Rattle.lapd_recovery_laws.specs.Deliveries.{frames}
use Rattle.lapd_recovery_laws.specs.EarlyTimers.{AreLineMoves, is_early, earlies, is_message, messages_in, if_in_8, overtaken_by, overtaken, most_line_moves, ComesBackDespiteTimers}
use Rattle.lapd_recovery_laws.specs.EveryWorld.{IsFreeWorld}
use Rattle.lapd_recovery_laws.specs.Losses.{one_if, losses}
use Rattle.lapd_recovery_laws.specs.Own.{IsFree}
use Rattle.lapd_recovery_laws.proofs.CountedMoves.{Keeps, IsWeight}
use Rattle.lapd_recovery_laws.proofs.CountedTimers.{line_moves_counted}
use Rattle.lapd_recovery_laws.proofs.EveryWorld.{emptied_at, rests_agree, free_world_by_tags}
use Rattle.lapd_recovery_laws.proofs.Outage.{coming_moves}
use Rattle.lapd_recovery_laws.proofs.OutageWorlds.{Facts}
use Rattle.lapd_recovery_laws.proofs.OwnOnTags.{due_on_tags, ok_on_tags, world_on_tags, agreed_on_tags, at_rest_on_tags}
use Rattle.lapd_recovery_laws.proofs.RunsEmpty as runs
use Rattle.lapd_recovery_laws.proofs.RunsEmpty.{after_runs}
use Rattle.lapd_recovery_laws.proofs.Situations.{Coming}

-- ---- From any world.

-- the weight of a line after an outage
pub outage : (N : ℕ) → 1 ≤ N → (l : ℕ)
    → IsWeight N l (6 * N + 11) (λ b w. Unit {0}) (λ n w. Coming N n w)
outage N some l = record {
  own_holds = λ b s event w k held own. tt;
  loss_holds = λ b i s w held ok. tt;
  begins = λ b n x y k held flow.
      let e =
      emptied_at N some n x y
      (record {
        facts = k.facts;
        preserved = k.preserved;
        flow = flow;
        user_free = k.user_free;
        network_free = k.network_free;
      }) in
      record { m = e.m; weight = e.coming; few = let most = e.most in omega (arith, most) };
  falls =
      λ b n s event w weight k held own. let c = coming_moves N some n s event w weight k.facts own in
      record { some_left = c.some; weight = c.arriving };
}

pub keeps_left : (N : ℕ) (w : World) → Facts N w → IsConsistentWorld Whole w → IsFree w.user.end
    → IsFree w.network.end → Keeps N (left w) w
keeps_left N w facts preserved user_free network_free =
    let all = runs.left_waits w preserved in
    record {
      facts = facts;
      preserved = preserved;
      user_free = user_free;
      network_free = network_free;
      few = omega (arith, all);
    }

pub despite_timers : (N : ℕ) → 1 ≤ N → (w : World) → Facts N w → IsConsistentWorld Whole w
    → IsFree w.user.end → IsFree w.network.end → ComesBackDespiteTimers Whole N w
despite_timers N some w facts preserved user_free network_free =
    let k = keeps_left N w facts preserved user_free network_free in
    record {
      few = λ moves own.
          let few =
          (line_moves_counted N (left w) (6 * N + 11) (λ n w. Coming N n w)
          (outage N some (left w)) w k moves own).few in
          omega (arith, few);
      agreed = λ moves own rests.
          let now =
          (line_moves_counted N (left w) (6 * N + 11) (λ n w. Coming N n w)
          (outage N some (left w)) w k moves own).keeps in
          rests_agree N some (run Whole moves w) now.facts now.preserved now.user_free
          now.network_free rests;
    }

-- ---- On tags.

pub early_on_tags : (event : PairEvent) (w : World) → is_early event (tag_world w) ≡ is_early event w
early_on_tags Expire200 w = ap not (due_on_tags Expire200 w)
early_on_tags Expire203 w = ap not (due_on_tags Expire203 w)
early_on_tags event w = refl

message_on_tags : (control : Control) → is_message (tag_control control) ≡ is_message control
unfolding tag_control
message_on_tags (I ns nr p) = refl
message_on_tags control = refl

messages_on_tags : (l : List Flight) → messages_in (map tag_flight l) ≡ messages_in l
messages_on_tags [] = refl
messages_on_tags (f ∷ fs) =
    let one = ap one_if (message_on_tags f.control) in
    let rest = messages_on_tags fs in omega (arith, one, rest)

overtaken_by_tags : (s : Side) (event : PairEvent) (w : World)
    → overtaken_by event (view_of s (tag_world w)) ≡ overtaken_by event (view_of s w)
overtaken_by_tags side.User Expire200 w =
    ap (λ n. if_in_8 w.user.end.state n) (messages_on_tags w.to_network)
overtaken_by_tags side.Network Expire200 w =
    ap (λ n. if_in_8 w.network.end.state n) (messages_on_tags w.to_user)
overtaken_by_tags side.User event w = refl
overtaken_by_tags side.Network event w = refl

-- the same moves on whole numbers
pub record AreSame (moves : List Move) (w : World) : Type 0 where
  pub own : AreLineMoves Whole moves w
  pub early : earlies Tagged moves (tag_world w) ≡ earlies Whole moves w
  pub late : overtaken Tagged moves (tag_world w) ≡ overtaken Whole moves w

pub line_moves_by_tags : (moves : List Move) (w : World) → IsInvariant w → IsConsistentWorld Whole w
    → AreLineMoves Tagged moves (tag_world w) → AreSame moves w
line_moves_by_tags [] w i preserved own = record { own = tt; early = refl; late = refl }
line_moves_by_tags (move ∷ moves) w i preserved own =
    let now = world_after w (happens Whole move w) in
    let same = world_on_tags move w i preserved in
    let rest =
    line_moves_by_tags moves now (each_move_preserves move w i)
    (run_consistent Whole (move ∷ []) w preserved)
    (subst (λ v. AreLineMoves Tagged moves v) same own.1) in
    let one = ap one_if (early_on_tags move.event w) in
    let some = overtaken_by_tags move.side move.event w in
    let early = ap (λ v. earlies Tagged moves v) same ∙ rest.early in
    let late = ap (λ v. overtaken Tagged moves v) same ∙ rest.late in
    record {
      own = (
        record {
          of_line = own.0.of_line;
          admitted = sym (ok_on_tags move w i preserved) ∙ own.0.admitted;
        },
        rest.own,
      );
      early = omega (arith, one, early);
      late = omega (arith, some, late);
    }

on_tags : (N : ℕ) (w : World) → IsInvariant w → IsConsistentWorld Whole w
    → ComesBackDespiteTimers Whole N w → ComesBackDespiteTimers Tagged N (tag_world w)
on_tags N w i preserved c = record {
  few = λ moves own.
      let a = line_moves_by_tags moves w i preserved own in
      let l : left (tag_world w) ≡ left w = left_on_tags w in
      let f : frames (tag_world w) ≡ frames w = runs.frames_on_tags w in
      let early = a.early in
      let late = a.late in
      let same : most_line_moves (losses moves) (earlies Tagged moves (tag_world w))
      (overtaken Tagged moves (tag_world w)) N (tag_world w)
      ≡ most_line_moves (losses moves) (earlies Whole moves w) (overtaken Whole moves w) N w
      =
      rw (early, late, l, f) refl in
      let few = c.few moves a.own in
      omega (arith, same, few);
  agreed = λ moves own rests.
      at_rest_on_tags (λ v. AreAgreed v) (λ v. AreAgreed v) agreed_on_tags moves w i preserved
      (c.agreed moves (line_moves_by_tags moves w i preserved own).own) rests;
}

-- ---- After every run.

pub every_world_comes_back_despite_early_timers : (r : Reading) (n200 : ℕ) → 1 ≤ n200
    → (user network : Parameters) → user.k ≤ 127 → network.k ≤ 127 → 1 ≤ user.k → 1 ≤ network.k
    → (moves : List Move) → IsFreeWorld n200 (run r moves (new_world user network))
    → ComesBackDespiteTimers r n200 (run r moves (new_world user network))
every_world_comes_back_despite_early_timers r n200 some =
    after_runs (λ w. IsFreeWorld n200 w) (λ r w. ComesBackDespiteTimers r n200 w)
    (λ w facts preserved a. despite_timers n200 some w (facts n200 a.user_retries a.network_retries)
    preserved a.user_free a.network_free)
    (free_world_by_tags n200) (on_tags n200) r
