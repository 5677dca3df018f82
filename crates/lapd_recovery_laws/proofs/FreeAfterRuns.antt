-- After every run T200 need not be counted, on whole numbers and on tags.
use Rattle.std.proofs.Common.{◌≡◌, ℕ, zero, suc, ◌+◌, ◌-◌, ◌*◌, ◌≤◌, ◌&&◌, not, Bool, true, false, List, [], ◌∷◌, length, refl, sym, ap, subst, ◌∙◌, arith}
use Rattle.std.proofs.lemmas.Nat.{mul-le}
use Rattle.lapd_mod128.specs.Counting.{Reading, Whole, Tagged}
use Rattle.lapd_link_definition.specs.Parameters.{Parameters}
use Rattle.lapd_pair_laws.specs.Consistent.{IsConsistentWorld}
use Rattle.lapd_pair_laws.specs.Invariant.{IsInvariant}
use Rattle.lapd_pair_laws.specs.Move.{PairEvent, Expire200, Expire203, Move}
use Rattle.lapd_pair_laws.specs.Tagged.{tag_world}
use Rattle.lapd_pair_laws.specs.World.{World, new_world, happens, world_after, run, left}
use Rattle.lapd_pair_laws.proofs.Consistency.{run_consistent}
use Rattle.lapd_pair_laws.proofs.TaggedMoves.{left_on_tags}
use Rattle.lapd_pair_laws.proofs.Whole.{each_move_preserves}
use Rattle.lapd_recovery_laws.specs.Agreed.{AreAgreed}
use Rattle.lapd_recovery_laws.specs.Deliveries.{frames}
use Rattle.lapd_recovery_laws.specs.EarlyTimers.{IsLineMove, AreLineMoves, is_early, earlies, overtaken, most_line_moves, ComesBackDespiteTimers}
use Rattle.lapd_recovery_laws.specs.EveryWorld.{IsFreeWorld, most_moves_from}
use Rattle.lapd_recovery_laws.specs.FewLosses.{is_t200, t200s, is_t203, t203s}
use Rattle.lapd_recovery_laws.specs.FreeTimers.{most_t200s_from, most_free_moves, early_t203s, t203s_out_of_step, ComesBackFreely}
use Rattle.lapd_recovery_laws.specs.KeptAgreement.{are_in_step, AreInAgreement}
use Rattle.lapd_recovery_laws.specs.Losses.{is_loss, one_if, losses}
use Rattle.lapd_recovery_laws.specs.Own.{Rests}
use Rattle.lapd_recovery_laws.proofs.AgreementAfterRuns.{out_on_tags, in_agreement_on_tags}
use Rattle.lapd_recovery_laws.proofs.CountedMoves.{Keeps}
use Rattle.lapd_recovery_laws.proofs.DespiteTimers.{keeps_left, despite_timers, early_on_tags, line_moves_by_tags}
use Rattle.lapd_recovery_laws.proofs.EveryWorld.{free_world_by_tags}
use Rattle.lapd_recovery_laws.proofs.Expiries.{one_if_few}
use Rattle.lapd_recovery_laws.proofs.FreeTimers.{t200s_few}
use Rattle.lapd_recovery_laws.proofs.KeepsAgreement.{Knows, knows_after, calm_stays, in_step_is_calm, settled, stays_agreed, own_is_plain}
use Rattle.lapd_recovery_laws.proofs.Overtaken.{overtaken_few}
use Rattle.lapd_recovery_laws.proofs.OwnOnTags.{world_on_tags, ran_on_tags, agreed_on_tags, at_rest_on_tags}
use Rattle.lapd_recovery_laws.proofs.Rejoins.{is_apart_t203, apart_t203s, few_due}
use Rattle.lapd_recovery_laws.proofs.RunsEmpty as runs
use Rattle.lapd_recovery_laws.proofs.RunsEmpty.{after_runs}

early_few : (event : PairEvent) (w : World)
    → one_if (is_early event w) ≤ one_if (is_t200 event) + one_if (is_t203 event)
early_few Expire200 w = let one = one_if_few (is_early Expire200 w) in omega (arith, one)
early_few Expire203 w = let one = one_if_few (is_early Expire203 w) in omega (arith, one)
early_few event w = omega arith

earlies_few : (moves : List Move) (w : World) → earlies Whole moves w ≤ t200s moves + t203s moves
earlies_few [] w = omega arith
earlies_few (move ∷ moves) w =
    let one = early_few move.event w in
    let rest = earlies_few moves (world_after w (happens Whole move w)) in
    omega (arith, one, rest)

-- ---- After so many moves the ends agree.

module _ (N c : ℕ) where
  -- n moves, and c for each T203
  pub record Bounds (n : ℕ) (w : World) : Type 0 where
    pub few : (moves : List Move) → AreLineMoves Whole moves w → losses moves ≡ 0
        → length moves ≤ n + t203s moves * c
    pub agreed : (moves : List Move) → AreLineMoves Whole moves w
        → Rests Whole (run Whole moves w) → AreAgreed (run Whole moves w)

  abbrev after_one : ℕ → Move → ℕ
  after_one n move = n + one_if (is_t203 move.event) * c

  bounds_after : (n : ℕ) (move : Move) (w : World) → Bounds n w → IsLineMove Whole move w
      → one_if (is_loss move.event) ≡ 0
      → (1 ≤ after_one n move)
      × Bounds (after_one n move - 1) (world_after w (happens Whole move w))
  bounds_after n move w b one lossless = (
    (let few = b.few (move ∷ []) (one, tt) (omega (arith, lossless)) in omega (arith, few)),
    record {
      few = λ moves own none.
          let few = b.few (move ∷ moves) (one, own) (omega (arith, lossless, none)) in
          omega (arith, few);
      agreed = λ moves own rests. b.agreed (move ∷ moves) (one, own) rests;
    },
  )

  not_in_step : (idle step : Bool) → step ≡ false → (idle && not step) ≡ idle
  not_in_step true false off = refl
  not_in_step false step off = refl
  not_in_step true true off = cc

  none_left : (idle n : ℕ) → idle ≤ 1 → 1 ≤ n + idle * c → n + c ≤ 0 → ⊥
  none_left zero n le few all = omega (arith, few, all)
  none_left (suc zero) n le few all = omega (arith, few, all)
  none_left (suc (suc idle)) n le few all = omega (arith, le)

  pub reaches : (moves : List Move) (n : ℕ) (w : World) → Bounds n w → Knows N w
      → AreLineMoves Whole moves w → losses moves ≡ 0
      → n + (apart_t203s moves w + 1) * c ≤ length moves → AreInAgreement (run Whole moves w)
  reaches [] n w b k own none le =
      stays_agreed N [] w k (settled N w (b.agreed [] tt (λ move one.
      let p = own_is_plain N move.side move.event w one in
      let few = b.few (move ∷ []) (p.line_move, tt) (let lossless = p.lossless in
      omega (arith, lossless)) in
      absurd (none_left (one_if (is_t203 move.event)) n (one_if_few (is_t203 move.event))
      (omega (arith, few)) (omega (arith, le)))))) tt none
  reaches (move ∷ moves) n w b k own none le =
      by_step (are_in_step w) refl (λ left few.
      reaches moves (after_one n move - 1) (world_after w (happens Whole move w)) left
      (knows_after N move w k) own.1 (omega (arith, none)) few)
    where
      now : World
      now = world_after w (happens Whole move w)

      by_step : (b : Bool) → are_in_step w ≡ b
          → (Bounds (after_one n move - 1) now
          → (after_one n move - 1) + (apart_t203s moves now + 1) * c ≤ length moves
          → AreInAgreement (run Whole (move ∷ moves) w))
          → AreInAgreement (run Whole (move ∷ moves) w)
      by_step true step rest =
          calm_stays N (move ∷ moves) w k (in_step_is_calm w k.preserved step) own none
      by_step false step rest =
          let left = bounds_after n move w b own.0 (omega (arith, none)) in
          let some = left.0 in
          let same : one_if (is_apart_t203 move.event w) ≡ one_if (is_t203 move.event) =
          ap one_if (not_in_step (is_t203 move.event) (are_in_step w) step) in
          let counted : n + (one_if (is_t203 move.event) + apart_t203s moves now + 1) * c
          ≤ length (move ∷ moves) =
          subst (λ j. n + (j + apart_t203s moves now + 1) * c ≤ length (move ∷ moves)) same le in
          rest left.1 (omega (arith, some, counted))

-- ---- From any world.

-- with messages l, frames f, and d for each timer: without a T203, and for each
abbrev span : ℕ → ℕ → ℕ → ℕ
span N l f = 2 * l + f + N + 3

abbrev each : ℕ → ℕ → ℕ → ℕ → ℕ
each N l f d = (4 * span N l f + 1) * d

abbrev without : ℕ → ℕ → ℕ → ℕ → ℕ
without N l f d = (3 * l + 3 * f + 13) * span N l f * d

pub t200s_more : (N i j : ℕ) (w : World) → i ≤ j → most_t200s_from N i w ≤ most_t200s_from N j w
t200s_more N i j w le =
    let all =
    mul-le (3 * left w + 3 * frames w + 4 * i + 13) (2 * left w + frames w + N + 3)
    (3 * left w + 3 * frames w + 4 * j + 13) (2 * left w + frames w + N + 3)
    (omega (arith, le)) (omega arith) in
    omega (arith, all)

pub moves_more : (N i j : ℕ) (w : World) → i ≤ j → most_free_moves N i w ≤ most_free_moves N j w
moves_more N i j w le =
    let t200 = t200s_more N i j w le in
    let all =
    mul-le (most_t200s_from N i w + i) (6 * left w + frames w + 6 * N + 24)
    (most_t200s_from N j w + j) (6 * left w + frames w + 6 * N + 24) (omega (arith, t200, le))
    (omega arith) in
    omega (arith, all)

module _ (N : ℕ) (some : 1 ≤ N) (w : World) (k : Keeps N (left w) w)
    (back : ComesBackDespiteTimers Whole N w) where
  -- a timer, and a frame that T200 may overtake
  abbrev timer : ℕ
  timer = 6 * left w + frames w + 6 * N + 24

  pub all_few : (moves : List Move) → AreLineMoves Whole moves w → losses moves ≡ 0
      → length moves ≤ most_free_moves N (t203s moves) w
  all_few moves own none =
      let all = back.few moves own in
      let lossless : length moves
      ≤ most_line_moves 0 (earlies Whole moves w) (overtaken Whole moves w) N w =
      subst (λ j. length moves
      ≤ most_line_moves j (earlies Whole moves w) (overtaken Whole moves w) N w) none all in
      let early = earlies_few moves w in
      let t200 = t200s_few N some w k moves own none in
      let late = overtaken_few N moves w k.facts own none in
      let timers =
      mul-le (earlies Whole moves w) (6 * left w + 6 * N + 24) (t200s moves + t203s moves)
      (6 * left w + 6 * N + 24) (omega (arith, early)) (omega arith) in
      let le =
      mul-le (t200s moves + t203s moves) timer
      (most_t200s_from N (t203s moves) w + t203s moves) timer (omega (arith, t200))
      (omega arith) in
      joined (left w) (frames w) (t200s moves) (t203s moves) (earlies Whole moves w)
      (overtaken Whole moves w) (length moves)
      (most_t200s_from N (t203s moves) w + t203s moves) lossless timers late le
    where
      joined : (l f t idle early late n m : ℕ)
          → n ≤ most_moves_from N w + 0 * (4 * left w + 6 * N + 18)
          + early * (6 * l + 6 * N + 24) + late
          → early * (6 * l + 6 * N + 24) ≤ (t + idle) * (6 * l + 6 * N + 24) → late ≤ t * f
          → (t + idle) * (6 * l + f + 6 * N + 24) ≤ m * (6 * l + f + 6 * N + 24)
          → n ≤ most_moves_from N w + m * (6 * l + f + 6 * N + 24)
      joined l f t idle early late n m all timers over le = omega (arith, all, timers, over, le)

  spread : (l f d idle n : ℕ)
      → n ≤ most_moves_from N w
      + ((3 * l + 3 * f + 4 * idle + 13) * (2 * l + f + N + 3) + idle) * d
      → n ≤ most_moves_from N w + without N l f d + idle * each N l f d
  spread l f d idle n all = omega (arith, all)

  gather : (l f d apart idle n : ℕ) → apart ≤ idle + 1
      → most_moves_from N w
      + ((3 * l + 3 * f + 4 * (idle + 2) + 13) * (2 * l + f + N + 3) + (idle + 2)) * d ≤ n
      → most_moves_from N w + without N l f d + (apart + 1) * each N l f d ≤ n
  gather l f d apart idle n le all =
      let less =
      mul-le (apart + 1) (each N l f d) (idle + 2) (each N l f d) (omega (arith, le))
      (omega arith) in
      omega (arith, less, all)

  pub comes_back_freely : ComesBackFreely Whole N w
  comes_back_freely = record {
    few_t200s = λ moves own none.
        let few = t200s_few N some w k moves own none in
        let due = (few_due N moves w k.facts own none).all in
        let more =
        t200s_more N (t203s moves) (early_t203s Whole moves w + 1) w (omega (arith, due)) in
        omega (arith, few, more);
    few = λ moves own none.
        let few = all_few moves own none in
        let due = (few_due N moves w k.facts own none).all in
        let more =
        moves_more N (t203s moves) (early_t203s Whole moves w + 1) w (omega (arith, due)) in
        omega (arith, few, more);
    reached = λ moves own none le.
        let apart = (few_due N moves w k.facts own none).apart in
        reaches N (each N (left w) (frames w) timer) moves
        (most_moves_from N w + without N (left w) (frames w) timer) w (record {
          few = λ moves own none.
              spread (left w) (frames w) timer (t203s moves) (length moves)
              (all_few moves own none);
          agreed = back.agreed;
        }) (record { facts = k.facts; preserved = k.preserved }) own none
        (gather (left w) (frames w) timer (apart_t203s moves w) (t203s_out_of_step Whole moves w)
        (length moves) (omega (arith, apart)) le);
    agreed = back.agreed;
  }

-- ---- On tags.

-- the same T203s
pub record AreAlike (moves : List Move) (w : World) : Type 0 where
  pub early : early_t203s Tagged moves (tag_world w) ≡ early_t203s Whole moves w
  pub idle : t203s_out_of_step Tagged moves (tag_world w) ≡ t203s_out_of_step Whole moves w

pub alike : (moves : List Move) (w : World) → IsInvariant w → IsConsistentWorld Whole w
    → AreAlike moves w
alike [] w i preserved = record { early = refl; idle = refl }
alike (move ∷ moves) w i preserved =
    let now = world_after w (happens Whole move w) in
    let same = world_on_tags move w i preserved in
    let rest =
    alike moves now (each_move_preserves move w i)
    (run_consistent Whole (move ∷ []) w preserved) in
    let one = ap (λ b. one_if (is_t203 move.event && b)) (early_on_tags move.event w) in
    let out = ap (λ b. one_if (is_t203 move.event && b)) (out_on_tags move.event w) in
    let early = ap (λ v. early_t203s Tagged moves v) same ∙ rest.early in
    let idle = ap (λ v. t203s_out_of_step Tagged moves v) same ∙ rest.idle in
    record { early = omega (arith, one, early); idle = omega (arith, out, idle) }

on_tags : (N : ℕ) (w : World) → IsInvariant w → IsConsistentWorld Whole w
    → ComesBackFreely Whole N w → ComesBackFreely Tagged N (tag_world w)
on_tags N w i preserved c = record {
  few_t200s = λ moves own none.
      let l : left (tag_world w) ≡ left w = left_on_tags w in
      let f : frames (tag_world w) ≡ frames w = runs.frames_on_tags w in
      let early = (alike moves w i preserved).early in
      let same : most_t200s_from N (early_t203s Tagged moves (tag_world w) + 1) (tag_world w)
      ≡ most_t200s_from N (early_t203s Whole moves w + 1) w =
      rw (early, l, f) refl in
      let few = c.few_t200s moves (line_moves_by_tags moves w i preserved own).own none in
      omega (arith, same, few);
  few = λ moves own none.
      let l : left (tag_world w) ≡ left w = left_on_tags w in
      let f : frames (tag_world w) ≡ frames w = runs.frames_on_tags w in
      let early = (alike moves w i preserved).early in
      let same : most_free_moves N (early_t203s Tagged moves (tag_world w) + 1) (tag_world w)
      ≡ most_free_moves N (early_t203s Whole moves w + 1) w =
      rw (early, l, f) refl in
      let few = c.few moves (line_moves_by_tags moves w i preserved own).own none in
      omega (arith, same, few);
  reached = λ moves own none le.
      let l : left (tag_world w) ≡ left w = left_on_tags w in
      let f : frames (tag_world w) ≡ frames w = runs.frames_on_tags w in
      let idle = (alike moves w i preserved).idle in
      let same : most_free_moves N (t203s_out_of_step Tagged moves (tag_world w) + 2) (tag_world w)
      ≡ most_free_moves N (t203s_out_of_step Whole moves w + 2) w =
      rw (idle, l, f) refl in
      subst AreInAgreement (sym (ran_on_tags moves w i preserved))
      (in_agreement_on_tags (run Whole moves w)
      (c.reached moves (line_moves_by_tags moves w i preserved own).own none
      (omega (arith, same, le))));
  agreed = λ moves own rests.
      at_rest_on_tags (λ v. AreAgreed v) (λ v. AreAgreed v) agreed_on_tags moves w i preserved
      (c.agreed moves (line_moves_by_tags moves w i preserved own).own) rests;
}

pub every_world_comes_back_whenever_timers_expire : (r : Reading) (n200 : ℕ) → 1 ≤ n200
    → (user network : Parameters) → user.k ≤ 127 → network.k ≤ 127 → 1 ≤ user.k → 1 ≤ network.k
    → (moves : List Move) → IsFreeWorld n200 (run r moves (new_world user network))
    → ComesBackFreely r n200 (run r moves (new_world user network))
every_world_comes_back_whenever_timers_expire r n200 some =
    after_runs (λ w. IsFreeWorld n200 w) (λ r w. ComesBackFreely r n200 w)
    (λ w facts preserved a. let f =
    facts n200 a.user_retries a.network_retries in
    comes_back_freely n200 some w (keeps_left n200 w f preserved a.user_free a.network_free)
    (despite_timers n200 some w f preserved a.user_free a.network_free))
    (free_world_by_tags n200) (on_tags n200) r
