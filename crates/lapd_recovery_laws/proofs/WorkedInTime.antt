-- Worked runs within the bounds that do not count T200, computed in both readings.
use Rattle.std.proofs.Common.{◌≡◌, ◌⊎◌, inl, inr, ℕ, ◌+◌, ◌≤◌, Bool, true, false, [], ◌∷◌, is_ok, refl, arith}
use Rattle.lapd_frame.specs.declared.Side.{Side}
use Rattle.lapd_frame.specs.declared.Side.TheVariants as side
use Rattle.lapd_mod128.specs.Counting.{Reading, Whole, Tagged}
use Rattle.lapd_pair_laws.specs.Move.{PairEvent, Deliver, Expire200, Expire203}
use Rattle.lapd_pair_laws.specs.Schedule.{of_user, of_network}
use Rattle.lapd_pair_laws.specs.Worked.{sabme_lost}
use Rattle.lapd_pair_laws.specs.World.{World, happens, run}
use Rattle.lapd_pair_laws.proofs.ComputedRun.{computed_run}
use Rattle.lapd_recovery_laws.specs.EveryWorld.{IsFreeWorld}
use Rattle.lapd_recovery_laws.specs.InTime.{moves_of, Waits, longest_wait}
use Rattle.lapd_recovery_laws.specs.Own.{is_due, IsOwn, Rests}
use Rattle.lapd_recovery_laws.specs.Recovered.{both_in_7, least_pair, all_admitted, eight_wait, t200_beside_frames, network_sabme_lost, t203_before_t200}
use Rattle.lapd_recovery_laws.specs.Rounds.{outcome_of_free, establishes_late, standard_waits, MeetsTime}
use Rattle.lapd_recovery_laws.specs.Untimely.{t203_counted}

pub t200s_beside_frames_few : (r : Reading) → IsFreeWorld 1 (run r eight_wait least_pair)
    × (all_admitted r t200_beside_frames (run r eight_wait least_pair) ≡ true)
    × (outcome_of_free r t200_beside_frames (run r eight_wait least_pair)
    ≡ record { made = 11; most = 820; early = 0; outcome = both_in_7 48 8 0 })
unfolding computed_run
t200s_beside_frames_few Whole = (record { user_free = λ _. refl; network_free = λ o. cc; user_retries = omega arith; network_retries = omega arith }, refl, refl)
t200s_beside_frames_few Tagged = (record { user_free = λ _. refl; network_free = λ o. cc; user_retries = omega arith; network_retries = omega arith }, refl, refl)

pub early_t203s_count : (r : Reading) → IsFreeWorld 1 (run r network_sabme_lost least_pair)
    × (all_admitted r t203_before_t200 (run r network_sabme_lost least_pair) ≡ true)
    × (outcome_of_free r t203_before_t200 (run r network_sabme_lost least_pair)
    ≡ record { made = 8; most = 132; early = 4; outcome = t203_counted })
unfolding computed_run
early_t203s_count Whole = (record { user_free = λ _. refl; network_free = λ o. cc; user_retries = omega arith; network_retries = omega arith }, refl, refl)
early_t203s_count Tagged = (record { user_free = λ _. refl; network_free = λ o. cc; user_retries = omega arith; network_retries = omega arith }, refl, refl)

-- ---- In time.

follows : (t : Waits) (w : World) (at latest n : ℕ) {A : Type 0} → longest_wait t w ≡ n
    → at ≤ latest + n → (at ≤ latest + longest_wait t w) ⊎ A
follows t w at latest n same le = inl (omega (arith, same, le))

abbrev begun : Reading → World
begun r = run r sabme_lost least_pair

-- both ends are in state 7, and nothing is left to do
abbrev up : Reading → World
up r = run r (moves_of establishes_late) (begun r)

no_delivery : (r : Reading) (s : Side)
    → is_ok (happens r (record { side = s; event = Deliver }) (up r)) ≡ false
unfolding computed_run
no_delivery Whole side.User = refl
no_delivery Whole side.Network = refl
no_delivery Tagged side.User = refl
no_delivery Tagged side.Network = refl

no_t200 : (r : Reading) (s : Side)
    → is_ok (happens r (record { side = s; event = Expire200 }) (up r)) ≡ false
unfolding computed_run
no_t200 Whole side.User = refl
no_t200 Whole side.Network = refl
no_t200 Tagged side.User = refl
no_t200 Tagged side.Network = refl

no_t203 : (r : Reading) → is_due Expire203 (up r) ≡ false
unfolding computed_run
no_t203 Whole = refl
no_t203 Tagged = refl

both : (a : Bool) → a ≡ true → a ≡ false → ⊥
both true on off = cc
both false on off = cc

rests_in : (r : Reading) (w : World)
    → ((s : Side) → is_ok (happens r (record { side = s; event = Deliver }) w) ≡ false)
    → ((s : Side) → is_ok (happens r (record { side = s; event = Expire200 }) w) ≡ false)
    → is_due Expire203 w ≡ false → Rests r w
rests_in r w deliver t200 t203 = λ move own. by_event move.side move.event own
  where
    by_event : (s : Side) (event : PairEvent) → IsOwn r (record { side = s; event = event }) w → ⊥
    by_event s Deliver own =
        both (is_ok (happens r (record { side = s; event = Deliver }) w)) own.admitted (deliver s)
    by_event s Expire200 own =
        both (is_ok (happens r (record { side = s; event = Expire200 }) w)) own.admitted (t200 s)
    by_event s Expire203 own = both (is_due Expire203 w) own.due t203
    by_event s event own = let due = own.due in cc

rests_up : (r : Reading) → Rests r (up r)
rests_up r = rests_in r (up r) (no_delivery r) (no_t200 r) (no_t203 r)

pub in_time : (r : Reading)
    → MeetsTime r 131841 131840 establishes_late (run r sabme_lost least_pair)
unfolding computed_run
in_time Whole = record { free = record { user_free = λ o. cc; network_free = λ o. cc; user_retries = omega arith; network_retries = omega arith }; line_moves = (record { of_line = refl; admitted = refl }, (record { of_line = refl; admitted = refl }, (record { of_line = refl; admitted = refl }, tt))); lossless = refl; punctual = (follows standard_waits (begun Whole) 1000 0 1000 refl (omega arith), (follows standard_waits (run Whole (of_user Expire200 ∷ []) (begun Whole)) 1020 1000 20 refl (omega arith), (follows standard_waits (run Whole (of_user Expire200 ∷ of_network Deliver ∷ []) (begun Whole)) 1040 1020 20 refl (omega arith), inr (rests_up Whole)))); suffices = refl }
in_time Tagged = record { free = record { user_free = λ o. cc; network_free = λ o. cc; user_retries = omega arith; network_retries = omega arith }; line_moves = (record { of_line = refl; admitted = refl }, (record { of_line = refl; admitted = refl }, (record { of_line = refl; admitted = refl }, tt))); lossless = refl; punctual = (follows standard_waits (begun Tagged) 1000 0 1000 refl (omega arith), (follows standard_waits (run Tagged (of_user Expire200 ∷ []) (begun Tagged)) 1020 1000 20 refl (omega arith), (follows standard_waits (run Tagged (of_user Expire200 ∷ of_network Deliver ∷ []) (begun Tagged)) 1040 1020 20 refl (omega arith), inr (rests_up Tagged)))); suffices = refl }
