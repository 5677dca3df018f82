-- A world comes back in time, if frames and timers are in time.
use Rattle.std.proofs.Common.{◌≡◌, ◌⊎◌, inl, inr, ℕ, ◌+◌, ◌*◌, ◌<◌, ◌≤◌, ◌&&◌, ◌||◌, not, if◌then◌else◌, Bool, true, false, List, [], ◌∷◌, length, is_ok, refl, sym, ap, subst, arith}
use Rattle.std.proofs.lemmas.Nat.{mul-le}
use Rattle.lapd_frame.specs.declared.Side.{Side}
use Rattle.lapd_frame.specs.declared.Side.TheVariants as side
use Rattle.lapd_mod128.specs.Counting.{Reading, Whole, Tagged}
use Rattle.lapd_link_definition.specs.Parameters.{Parameters}
use Rattle.lapd_pair_laws.specs.Consistent.{IsConsistentWorld}
use Rattle.lapd_pair_laws.specs.Invariant.{IsInvariant}
use Rattle.lapd_pair_laws.specs.Line.{Flight}
use Rattle.lapd_pair_laws.specs.Move.{PairEvent, Deliver, Lose, Expire200, Expire203, Move, Station}
use Rattle.lapd_pair_laws.specs.Tagged.{tag_world}
use Rattle.lapd_pair_laws.specs.World.{World, view_of, new_world, happens, world_after, run, left}
use Rattle.lapd_pair_laws.proofs.Consistency.{run_consistent}
use Rattle.lapd_pair_laws.proofs.TaggedMoves.{left_on_tags}
use Rattle.lapd_pair_laws.proofs.Whole.{each_move_preserves}
use Rattle.lapd_recovery_laws.specs.Agreed.{AreAgreed}
use Rattle.lapd_recovery_laws.specs.Deliveries.{frames}
use Rattle.lapd_recovery_laws.specs.EarlyTimers.{IsLineMove, AreLineMoves, ComesBackDespiteTimers}
use Rattle.lapd_recovery_laws.specs.EveryWorld.{IsFreeWorld}
use Rattle.lapd_recovery_laws.specs.FewLosses.{is_t200, t200s, is_t203, t203s}
use Rattle.lapd_recovery_laws.specs.FreeTimers.{most_t200s_from, most_free_moves, t203s_out_of_step}
use Rattle.lapd_recovery_laws.specs.InTime.{TimedMove, moves_of, Waits, longest_wait, ArePunctual, most_time, ComesBackInTime}
use Rattle.lapd_recovery_laws.specs.KeptAgreement.{are_in_step, AreInAgreement}
use Rattle.lapd_recovery_laws.specs.Losses.{is_loss, one_if, losses}
use Rattle.lapd_recovery_laws.specs.Own.{is_line_empty, Rests}
use Rattle.lapd_recovery_laws.proofs.AgreementAfterRuns.{in_agreement_on_tags}
use Rattle.lapd_recovery_laws.proofs.AnyOrder.{none_there, none_there_too}
use Rattle.lapd_recovery_laws.proofs.CountedMoves.{Keeps}
use Rattle.lapd_recovery_laws.proofs.DespiteTimers.{keeps_left, despite_timers, line_moves_by_tags}
use Rattle.lapd_recovery_laws.proofs.EveryWorld.{free_world_by_tags}
use Rattle.lapd_recovery_laws.proofs.FreeAfterRuns.{alike, t200s_more, moves_more, all_few}
use Rattle.lapd_recovery_laws.proofs.FreeTimers.{t200s_few}
use Rattle.lapd_recovery_laws.proofs.KeepsAgreement.{Knows, knows_after, calm_stays, in_step_is_calm, settled, stays_agreed}
use Rattle.lapd_recovery_laws.proofs.Lost.{at}
use Rattle.lapd_recovery_laws.proofs.OwnOnTags.{due_on_tags, world_on_tags, rests_by_tags, ran_on_tags}
use Rattle.lapd_recovery_laws.proofs.OwnBySide.{t200_runs, ok_of_side}
use Rattle.lapd_recovery_laws.proofs.Rejoins.{is_apart_t203, apart_t203s, few_due}
use Rattle.lapd_recovery_laws.proofs.RunsEmpty as runs
use Rattle.lapd_recovery_laws.proofs.RunsEmpty.{after_runs}

-- ---- How long a move takes.

module _ (t : Waits) where
  -- a frame, and T200 or T203 if a timer expires
  abbrev takes : PairEvent → ℕ
  takes event =
      t.frame + (one_if (is_t200 event) + one_if (is_t203 event)) * t.t200
      + one_if (is_t203 event) * t.t203

  wait_in : (empty on : Bool)
      → (if empty then (if on then t.t200 else t.t203) else t.frame) ≤ t.frame + t.t200 + t.t203
  wait_in true true = omega arith
  wait_in true false = omega arith
  wait_in false on = omega arith

  wait_few : (w : World) → longest_wait t w ≤ t.frame + t.t200 + t.t203
  wait_few w = wait_in (is_line_empty w) (w.user.end.t200 || w.network.end.t200)

  wait_full : (empty on : Bool) → empty ≡ false
      → (if empty then (if on then t.t200 else t.t203) else t.frame) ≤ t.frame
  wait_full true on full = cc
  wait_full false on full = omega arith

  wait_on : (empty on : Bool) → on ≡ true
      → (if empty then (if on then t.t200 else t.t203) else t.frame) ≤ t.frame + t.t200
  wait_on true true is = omega arith
  wait_on true false is = cc
  wait_on false on is = omega arith

  -- a frame is in transit
  not_empty : (s : Side) (x y : Station) (to_user to_network : List Flight)
      → is_ok (happens Whole (record { side = s; event = Deliver }) (at x y to_user to_network))
      ≡ true → is_line_empty (at x y to_user to_network) ≡ false
  not_empty side.User x y [] to_network ok = let none = none_there x y to_network in cc
  not_empty side.User x y (f ∷ fs) to_network ok = refl
  not_empty side.Network x y to_user [] ok = let none = none_there_too x y to_user in cc
  not_empty side.Network x y [] (f ∷ fs) ok = refl
  not_empty side.Network x y (g ∷ gs) (f ∷ fs) ok = refl

  either_on : (s : Side) (w : World)
      → is_ok (happens Whole (record { side = s; event = Expire200 }) w) ≡ true
      → (w.user.end.t200 || w.network.end.t200) ≡ true
  either_on side.User w ok =
      left_on w.user.end.t200 w.network.end.t200
      (t200_runs (view_of side.User w) (ok_of_side side.User Expire200 w ok))
    where
      left_on : (a b : Bool) → a ≡ true → (a || b) ≡ true
      left_on true b on = refl
      left_on false b on = cc
  either_on side.Network w ok =
      right_on w.user.end.t200 w.network.end.t200
      (t200_runs (view_of side.Network w) (ok_of_side side.Network Expire200 w ok))
    where
      right_on : (a b : Bool) → b ≡ true → (a || b) ≡ true
      right_on true b on = refl
      right_on false true on = refl
      right_on false false on = cc

  waits_less : (s : Side) (event : PairEvent) (w : World)
      → IsLineMove Whole (record { side = s; event = event }) w → one_if (is_loss event) ≡ 0
      → longest_wait t w ≤ takes event
  waits_less s Deliver w one quiet =
      let le =
      wait_full (is_line_empty w) (w.user.end.t200 || w.network.end.t200)
      (not_empty s w.user w.network w.to_user w.to_network one.admitted) in
      omega (arith, le)
  waits_less s (Lose i) w one quiet = absurd (omega (arith, quiet))
  waits_less s Expire200 w one quiet =
      let le =
      wait_on (is_line_empty w) (w.user.end.t200 || w.network.end.t200)
      (either_on s w one.admitted) in
      omega (arith, le)
  waits_less s Expire203 w one quiet = let le = wait_few w in omega (arith, le)
  waits_less s event w one quiet = let impossible = one.of_line in cc

  -- ---- All moves.

  -- n moves, and these timers
  abbrev passes : ℕ → ℕ → ℕ → ℕ
  passes n t200 t203 = (n + 1) * t.frame + (t200 + t203 + 1) * t.t200 + (t203 + 1) * t.t203

  -- this time has passed, and the ends were never in step
  pub record HasPassed (latest now : ℕ) (moves : List Move) (w : World) : Type 0 where
    pub time : now ≤ latest + passes (length moves) (t200s moves) (t203s moves)
    pub apart : t203s moves ≤ apart_t203s moves w

  module _ (N : ℕ) where
    abbrev Agreed : World → Type 0
    Agreed w = (moves : List Move) → AreLineMoves Whole moves w → Rests Whole (run Whole moves w)
        → AreAgreed (run Whole moves w)

    -- at rest the ends agree, and from then on
    rested : (moves : List Move) (w : World) → Knows N w → Agreed w → AreLineMoves Whole moves w
        → losses moves ≡ 0 → Rests Whole w → AreInAgreement (run Whole moves w)
    rested moves w k agreed own lossless rests =
        stays_agreed N moves w k (settled N w (agreed [] tt rests)) own lossless

    not_in_step : (idle step : Bool) → step ≡ false → (idle && not step) ≡ idle
    not_in_step true false off = refl
    not_in_step false step off = refl
    not_in_step true true off = cc

    pub passes_by : (timed : List TimedMove) (latest now : ℕ) (w : World) → Knows N w → Agreed w
        → AreLineMoves Whole (moves_of timed) w → losses (moves_of timed) ≡ 0
        → ArePunctual Whole t latest timed now w
        → AreInAgreement (run Whole (moves_of timed) w) ⊎ HasPassed latest now (moves_of timed) w
    passes_by [] latest now w k agreed own lossless (inr rests) =
        inl (rested [] w k agreed tt refl rests)
    passes_by [] latest now w k agreed own lossless (inl le) =
        let few = wait_few w in
        inr (record { time = omega (arith, le, few); apart = omega arith })
    passes_by (m ∷ timed) latest now w k agreed own lossless punctual =
        by_step (are_in_step w) refl punctual.0
        (passes_by timed m.at now (world_after w (happens Whole m.move w))
        (knows_after N m.move w k)
        (λ moves others rests. agreed (m.move ∷ moves) (own.0, others) rests) own.1
        (omega (arith, lossless)) punctual.1)
      where
        abbrev_moves : List Move
        abbrev_moves = moves_of timed

        then_world : World
        then_world = world_after w (happens Whole m.move w)

        one_more : m.at ≤ latest + longest_wait t w → are_in_step w ≡ false
            → HasPassed m.at now abbrev_moves then_world
            → HasPassed latest now (m.move ∷ abbrev_moves) w
        one_more le step p =
            let wait =
            waits_less m.move.side m.move.event w own.0 (omega (arith, lossless)) in
            let time = p.time in
            let apart = p.apart in
            let same : one_if (is_apart_t203 m.move.event w) ≡ one_if (is_t203 m.move.event) =
            ap one_if (not_in_step (is_t203 m.move.event) (are_in_step w) step) in
            record {
              time = omega (arith, le, wait, time);
              apart = omega (arith, apart, same);
            }

        by_step : (step : Bool) → are_in_step w ≡ step
            → (m.at ≤ latest + longest_wait t w) ⊎ Rests Whole w
            → AreInAgreement (run Whole abbrev_moves then_world)
            ⊎ HasPassed m.at now abbrev_moves then_world
            → AreInAgreement (run Whole (m.move ∷ abbrev_moves) w)
            ⊎ HasPassed latest now (m.move ∷ abbrev_moves) w
        by_step true step one rest =
            inl (calm_stays N (m.move ∷ abbrev_moves) w k (in_step_is_calm w k.preserved step)
            own lossless)
        by_step false step (inr rests) rest =
            inl (rested (m.move ∷ abbrev_moves) w k agreed own lossless rests)
        by_step false step (inl le) (inl there) = inl there
        by_step false step (inl le) (inr p) = inr (one_more le step p)

-- ---- From any world.

pub comes_back_in_time : (N : ℕ) → 1 ≤ N → (w : World) → Keeps N (left w) w
    → ComesBackDespiteTimers Whole N w → ComesBackInTime Whole N w
comes_back_in_time N some w k back = λ t start now timed own lossless punctual late.
    by_outcome t start now (moves_of timed) own lossless late
    (passes_by t N timed start now w (record { facts = k.facts; preserved = k.preserved })
    back.agreed own lossless punctual)
  where
    by_outcome : (t : Waits) (start now : ℕ) (moves : List Move) → AreLineMoves Whole moves w
        → losses moves ≡ 0
        → start + most_time t N (t203s_out_of_step Whole moves w) w < now
        → AreInAgreement (run Whole moves w) ⊎ HasPassed t start now moves w
        → AreInAgreement (run Whole moves w)
    by_outcome t start now moves own lossless late (inl there) = there
    by_outcome t start now moves own lossless late (inr p) =
        let idle = t203s_out_of_step Whole moves w in
        let due = (few_due N moves w k.facts own lossless).apart in
        let apart = p.apart in
        let few = all_few N some w k back moves own lossless in
        let more = moves_more N (t203s moves) (idle + 1) w (omega (arith, due, apart)) in
        let t200 = t200s_few N some w k moves own lossless in
        let t200_more = t200s_more N (t203s moves) (idle + 1) w (omega (arith, due, apart)) in
        let a =
        mul-le (length moves + 1) t.frame (most_free_moves N (idle + 1) w + 1) t.frame
        (omega (arith, few, more)) (omega arith) in
        let b =
        mul-le (t200s moves + t203s moves + 1) t.t200
        (most_t200s_from N (idle + 1) w + idle + 2) t.t200
        (omega (arith, t200, t200_more, due, apart)) (omega arith) in
        let c =
        mul-le (t203s moves + 1) t.t203 (idle + 2) t.t203 (omega (arith, due, apart))
        (omega arith) in
        let time = p.time in
        absurd (too_late start now
        ((length moves + 1) * t.frame) ((t200s moves + t203s moves + 1) * t.t200)
        ((t203s moves + 1) * t.t203)
        ((most_free_moves N (idle + 1) w + 1) * t.frame)
        ((most_t200s_from N (idle + 1) w + idle + 2) * t.t200) ((idle + 2) * t.t203) a b c time
        late)
      where
        too_late : (start now a b c d e f : ℕ) → a ≤ d → b ≤ e → c ≤ f → now ≤ start + (a + b + c)
            → start + (d + e + f) < now → ⊥
        too_late start now a b c d e f one two three le less =
            omega (arith, one, two, three, le, less)

-- ---- After every run, on whole numbers and on tags.

wait_on_tags : (t : Waits) (w : World) → longest_wait t (tag_world w) ≡ longest_wait t w
wait_on_tags t w =
    ap (λ b. if b then (if w.user.end.t200 || w.network.end.t200 then t.t200 else t.t203)
    else t.frame) (due_on_tags Expire200 w)

punctual_by_tags : (t : Waits) (timed : List TimedMove) (latest now : ℕ) (w : World)
    → IsInvariant w → IsConsistentWorld Whole w
    → ArePunctual Tagged t latest timed now (tag_world w) → ArePunctual Whole t latest timed now w
punctual_by_tags t [] latest now w i preserved (inl le) =
    let same = wait_on_tags t w in inl (omega (arith, le, same))
punctual_by_tags t [] latest now w i preserved (inr rests) =
    inr (rests_by_tags w i preserved rests)
punctual_by_tags t (m ∷ timed) latest now w i preserved p = (
  by_first p.0,
  punctual_by_tags t timed m.at now (world_after w (happens Whole m.move w))
      (each_move_preserves m.move w i) (run_consistent Whole (m.move ∷ []) w preserved)
      (subst (λ v. ArePunctual Tagged t m.at timed now v) (world_on_tags m.move w i preserved)
      p.1),
)
  where
    by_first : (m.at ≤ latest + longest_wait t (tag_world w)) ⊎ Rests Tagged (tag_world w)
        → (m.at ≤ latest + longest_wait t w) ⊎ Rests Whole w
    by_first (inl le) = let same = wait_on_tags t w in inl (omega (arith, le, same))
    by_first (inr rests) = inr (rests_by_tags w i preserved rests)

on_tags : (N : ℕ) (w : World) → IsInvariant w → IsConsistentWorld Whole w
    → ComesBackInTime Whole N w → ComesBackInTime Tagged N (tag_world w)
on_tags N w i preserved c = λ t start now timed own lossless punctual late.
    let moves = moves_of timed in
    let l : left (tag_world w) ≡ left w = left_on_tags w in
    let f : frames (tag_world w) ≡ frames w = runs.frames_on_tags w in
    let idle = (alike moves w i preserved).idle in
    let same : most_time t N (t203s_out_of_step Tagged moves (tag_world w)) (tag_world w)
    ≡ most_time t N (t203s_out_of_step Whole moves w) w =
    rw (idle, l, f) refl in
    subst AreInAgreement (sym (ran_on_tags moves w i preserved))
    (in_agreement_on_tags (run Whole moves w)
    (c t start now timed (line_moves_by_tags moves w i preserved own).own lossless
    (punctual_by_tags t timed start now w i preserved punctual) (omega (arith, same, late))))

pub every_world_comes_back_in_time : (r : Reading) (n200 : ℕ) → 1 ≤ n200
    → (user network : Parameters) → user.k ≤ 127 → network.k ≤ 127 → 1 ≤ user.k → 1 ≤ network.k
    → (moves : List Move) → IsFreeWorld n200 (run r moves (new_world user network))
    → ComesBackInTime r n200 (run r moves (new_world user network))
every_world_comes_back_in_time r n200 some =
    after_runs (λ w. IsFreeWorld n200 w) (λ r w. ComesBackInTime r n200 w)
    (λ w facts preserved a. let f =
    facts n200 a.user_retries a.network_retries in
    comes_back_in_time n200 some w (keeps_left n200 w f preserved a.user_free a.network_free)
    (despite_timers n200 some w f preserved a.user_free a.network_free))
    (free_world_by_tags n200) (on_tags n200) r
