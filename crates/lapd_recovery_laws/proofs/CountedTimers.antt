-- Deliveries, losses and expired timers are counted. An early timer leads back to the first phase of
-- `CountedMoves`, as a loss does.
use Rattle.std.proofs.Common.{◌≡◌, ◌⊎◌, inl, inr, ℕ, ◌+◌, ◌*◌, ◌-◌, ◌≤◌, not, Bool, true, false, List, [], ◌∷◌, length, refl, sym, ap, subst, arith, ◌∙◌}
use Rattle.lapd_frame.specs.declared.Side.{Side}
use Rattle.lapd_mod128.specs.Counting.{Whole}
use Rattle.lapd_link_definition.specs.End.{waiting}
use Rattle.lapd_pair_laws.specs.Move.{PairEvent, Deliver, Lose, Expire200, Expire203, Move}
use Rattle.lapd_pair_laws.specs.World.{World, view_of, run}
use Rattle.lapd_recovery_laws.specs.Deliveries.{most_deliveries}
use Rattle.lapd_recovery_laws.specs.EarlyTimers.{IsLineMove, AreLineMoves, is_early, earlies, overtaken_by, overtaken}
use Rattle.lapd_recovery_laws.specs.Losses.{is_loss, one_if, losses}
use Rattle.lapd_recovery_laws.specs.Own.{is_due}
use Rattle.lapd_recovery_laws.proofs.CountedMoves as counted
use Rattle.lapd_recovery_laws.proofs.CountedMoves.{kept_expired, Keeps, IsWeight, after, flow_more}
use Rattle.lapd_recovery_laws.proofs.RunsEmpty as runs
use Rattle.lapd_recovery_laws.proofs.RunsEmpty.{Flow}
use Rattle.lapd_recovery_laws.proofs.TimersBeside.{ExpiresBeside, t200_early, t203_early}

module _ (N l most : ℕ) (Weight : ℕ → World → Type 0)
    (h : IsWeight N l most (λ b w. Unit {0}) Weight) where
  abbrev Always : ℕ → World → Type 0
  Always b w = Unit {0}

  abbrev Phase : ℕ → World → Type 0
  Phase n w =
      counted.Empties N l most Always Weight h n w ⊎ counted.Returns N l most Always Weight h n w

  -- n bounds the line moves without losses and early timers
  record Within (n : ℕ) (w : World) : Type 0 where
    keeps : Keeps N l w
    phase : Phase n w

  bounded : (b n : ℕ) (w : World) → Within n w → counted.Bounds N l most Always Weight h b n w
  bounded b n w k = record { keeps = k.keeps; holds = tt; phase = k.phase }

  abbrev rise : ℕ
  rise = 4 * l + 6 + most

  abbrev early_rise : ℕ
  early_rise = 6 * l + 12 + most

  -- a timer expires early; `late` messages are overtaken
  module _ (n late : ℕ) (s : Side) (event : PairEvent) (w : World) (k : Within n w)
      (expires : (m : ℕ) → Flow m w
      → ExpiresBeside (m + 3 * waiting w.user.end + 3 * waiting w.network.end + 6 + late) w
      (after s event w)) where
    abbrev now : World
    now = after s event w

    begins : (m : ℕ) → Flow m w → m + 3 * l + 6 + late + most ≤ n + (early_rise + late)
        → Within (n + (early_rise + late)) now
    begins m flow enough =
        let kept = k.keeps in
        let e = expires m flow in
        let few = kept.few in
        record {
          keeps =
              kept_expired N l (m + 3 * waiting w.user.end + 3 * waiting w.network.end + 6 + late) s
              event w kept e;
          phase = inl (record {
            m = m + 3 * l + 6 + late;
            flow =
                flow_more (m + 3 * waiting w.user.end + 3 * waiting w.network.end + 6 + late)
                (m + 3 * l + 6 + late) now (omega (arith, few)) e.flow;
            few = enough;
          });
        }

    early : Within (n + (early_rise + late)) now
    early = by_phase k.phase
      where
        by_phase : Phase n w → Within (n + (early_rise + late)) now
        by_phase (inl e) = begins e.m e.flow (let few = e.few in omega (arith, few))
        by_phase (inr r) = begins (3 * l + 6) r.flow (omega arith)

  -- ---- All of them.

  -- the moves, and the world that they lead to
  pub record Comes (n : ℕ) (w : World) (moves : List Move) : Type 0 where
    pub few : length moves
        ≤ n + losses moves * (rise + 1) + earlies Whole moves w * (early_rise + 1)
        + overtaken Whole moves w
    pub keeps : Keeps N l (run Whole moves w)

  abbrev Rest : List Move → World → Type 0
  Rest moves w = (n : ℕ) → Within n w → Comes n w moves

  -- what this move adds to the bound
  abbrev cost : Side → PairEvent → World → ℕ
  cost s event w =
      one_if (is_loss event) * (rise + 1) + one_if (is_early event w) * (early_rise + 1)
      + overtaken_by event (view_of s w)

  step : (n m : ℕ) (s : Side) (event : PairEvent) (w : World) (moves : List Move)
      → m + 1 ≤ n + cost s event w → Within m (after s event w) → Rest moves (after s event w)
      → Comes n w (record { side = s; event = event } ∷ moves)
  step n m s event w moves le k rest =
      let r = rest m k in
      let few = r.few in
      record { few = omega (arith, le, few); keeps = r.keeps }

  falls : (n : ℕ) (s : Side) (event : PairEvent) (w : World) (moves : List Move)
      → counted.Falls N l most Always Weight h n (after s event w) → Rest moves (after s event w)
      → Comes n w (record { side = s; event = event } ∷ moves)
  falls n s event w moves f rest =
      let one = f.some_left in
      step n (n - 1) s event w moves (omega (arith, one))
      (record { keeps = f.keeps; phase = f.phase }) rest

  -- a timer expires, due or early
  expires : (n : ℕ) (s : Side) (event : PairEvent) (w : World) (moves : List Move) → Within n w
      → is_early event w ≡ not (is_due event w)
      → (is_due event w ≡ true → counted.Falls N l most Always Weight h n (after s event w))
      → ((m : ℕ) → Flow m w
      → ExpiresBeside (m + 3 * waiting w.user.end + 3 * waiting w.network.end + 6
      + overtaken_by event (view_of s w)) w (after s event w))
      → Rest moves (after s event w)
      → Comes n w (record { side = s; event = event } ∷ moves)
  expires n s event w moves k same own beside rest = by_due (is_due event w) refl
    where
      late : ℕ
      late = overtaken_by event (view_of s w)

      by_due : (b : Bool) → is_due event w ≡ b
          → Comes n w (record { side = s; event = event } ∷ moves)
      by_due true due = falls n s event w moves (own due) rest
      by_due false not_due =
          let one : one_if (is_early event w) ≡ 1 = ap one_if same ∙ ap (λ b. one_if (not b)) not_due in
          step n (n + (early_rise + late)) s event w moves
          (subst (λ j. n + (early_rise + late) + 1
          ≤ n + (one_if (is_loss event) * (rise + 1) + j * (early_rise + 1) + late)) (sym one)
          (omega arith)) (early n late s event w k beside) rest

  first : (n : ℕ) (s : Side) (event : PairEvent) (w : World) (moves : List Move) → Within n w
      → IsLineMove Whole (record { side = s; event = event }) w → Rest moves (after s event w)
      → Comes n w (record { side = s; event = event } ∷ moves)
  first n s Deliver w moves k one rest =
      falls n s Deliver w moves
      (counted.deliver N l most Always Weight h 0 n s w k.keeps tt
      (record { due = refl; admitted = one.admitted }) k.phase) rest
  first n s (Lose i) w moves k one rest =
      let b =
      counted.lose N l most Always Weight h 0 n i s w (bounded 1 n w k) one.admitted in
      step n (n + rise) s (Lose i) w moves (omega arith)
      (record { keeps = b.keeps; phase = b.phase }) rest
  first n s Expire200 w moves k one rest =
      expires n s Expire200 w moves k refl
      (λ due. counted.own_expires_200 N l most Always Weight h 0 n s w.user w.network w.to_user
      w.to_network (bounded 0 n w k) (record { due = due; admitted = one.admitted }))
      (λ m flow. t200_early m w.user w.network w.to_user w.to_network k.keeps.facts.holds
      k.keeps.facts.have flow s one.admitted) rest
  first n s Expire203 w moves k one rest =
      expires n s Expire203 w moves k refl
      (λ due. counted.own_expires_203 N l most Always Weight h 0 n s w.user w.network w.to_user
      w.to_network (bounded 0 n w k) (record { due = due; admitted = one.admitted }))
      (λ m flow. t203_early m w.user w.network w.to_user w.to_network k.keeps.facts.holds
      k.keeps.facts.have flow s one.admitted) rest
  first n s event w moves k one rest = let impossible = one.of_line in cc

  comes : (moves : List Move) (n : ℕ) (w : World) → Within n w → AreLineMoves Whole moves w
      → Comes n w moves
  comes [] n w k own = record { few = omega arith; keeps = k.keeps }
  comes (move ∷ moves) n w k own =
      first n move.side move.event w moves k own.0
      (λ m now. comes moves m (after move.side move.event w) now own.1)

  -- from any world
  pub line_moves_counted : (w : World) → Keeps N l w → (moves : List Move)
      → AreLineMoves Whole moves w → Comes (most_deliveries w + most) w moves
  line_moves_counted w k moves own =
      comes moves (most_deliveries w + most) w
      (record {
        keeps = k;
        phase =
            inl (record {
              m = most_deliveries w;
              flow = runs.flow_begins w k.facts.holds k.preserved;
              few = omega arith;
            });
      }) own
