-- Own moves and losses are counted. Until the line is empty, deliveries reduce a bound of the moves.
-- From then on own moves reduce a weight that the user of these lemmas chooses, and a loss leads back
-- to the first.
use Rattle.std.proofs.Common.{◌≡◌, ◌⊎◌, inl, inr, ℕ, ◌+◌, ◌*◌, ◌-◌, ◌≤◌, false, List, [], ◌∷◌, length, is_ok, refl, sym, ap, subst, true, arith}
use Rattle.lapd_frame.specs.declared.Side.{Side}
use Rattle.lapd_mod128.specs.Counting.{Whole}
use Rattle.lapd_link_definition.specs.End.{waiting}
use Rattle.lapd_pair_laws.specs.Consistent.{IsConsistentWorld}
use Rattle.lapd_pair_laws.specs.Line.{Flight}
use Rattle.lapd_pair_laws.specs.Move.{PairEvent, Deliver, Lose, Expire200, Expire203, Move, Station}
use Rattle.lapd_pair_laws.specs.World.{World, happens, world_after, run}
use Rattle.lapd_pair_laws.proofs.Consistency.{run_consistent}
use Rattle.lapd_recovery_laws.specs.Deliveries.{frames, most_deliveries}
use Rattle.lapd_recovery_laws.specs.Losses.{is_loss, IsOwnOrLoss, AreOwnOrLosses, one_if, losses}
use Rattle.lapd_recovery_laws.specs.Own.{IsOwn, IsFree}
use Rattle.lapd_recovery_laws.proofs.AfterOutage.{facts_after}
use Rattle.lapd_recovery_laws.proofs.LosesFrame.{frame_lost}
use Rattle.lapd_recovery_laws.proofs.Lost.{at}
use Rattle.lapd_recovery_laws.proofs.OutageWorlds.{Facts}
use Rattle.lapd_recovery_laws.proofs.RunsEmpty as runs
use Rattle.lapd_recovery_laws.proofs.RunsEmpty.{Flow}
use Rattle.lapd_recovery_laws.proofs.TimersBeside.{ExpiresBeside, most_beside, t200_early, t203_early}

pub flow_more : (m n : ℕ) (w : World) → m ≤ n → Flow m w → Flow n w
flow_more m n w le f =
    let most = f.most in
    record { a = f.a; b = f.b; mine = f.mine; its = f.its; most = omega (arith, most, le) }

abbrev pub after : Side → PairEvent → World → World
after s event w = world_after w (happens Whole (record { side = s; event = event }) w)

-- l bounds the messages left
pub record Keeps (N l : ℕ) (w : World) : Type 0 where
  pub facts : Facts N w
  pub preserved : IsConsistentWorld Whole w
  pub user_free : IsFree w.user.end
  pub network_free : IsFree w.network.end
  pub few : waiting w.user.end + waiting w.network.end ≤ l

-- after a move by which no more messages wait, and no end gets busy
keeps_after : (N l : ℕ) (s : Side) (event : PairEvent) (w : World) → Keeps N l w
    → waiting (after s event w).user.end ≤ waiting w.user.end
    → waiting (after s event w).network.end ≤ waiting w.network.end
    → (IsFree w.user.end → IsFree (after s event w).user.end)
    → (IsFree w.network.end → IsFree (after s event w).network.end) → Keeps N l (after s event w)
keeps_after N l s event w k u v free its_free =
    let few = k.few in
    record {
      facts = facts_after N (record { side = s; event = event }) w k.facts;
      preserved = run_consistent Whole (record { side = s; event = event } ∷ []) w k.preserved;
      user_free = free k.user_free;
      network_free = its_free k.network_free;
      few = omega (arith, few, u, v);
    }

pub kept_delivered : (N l : ℕ) (s : Side) (w : World) → Keeps N l w
    → is_ok (happens Whole (record { side = s; event = Deliver }) w) ≡ true
    → Keeps N l (after s Deliver w)
kept_delivered N l s w k ok =
    let d =
    runs.delivery_flows N (most_deliveries w) s w k.facts
    (runs.flow_begins w k.facts.holds k.preserved) ok in
    keeps_after N l s Deliver w k d.user_fewer d.network_fewer d.user_free d.network_free

pub kept_expired : (N l m : ℕ) (s : Side) (event : PairEvent) (w : World) → Keeps N l w
    → ExpiresBeside m w (after s event w) → Keeps N l (after s event w)
kept_expired N l m s event w k e =
    keeps_after N l s event w k e.user_fewer e.network_fewer e.user_free e.network_free

pub kept_lost : (N l i : ℕ) (s : Side) (w : World) → Keeps N l w
    → is_ok (happens Whole (record { side = s; event = Lose i }) w) ≡ true
    → Keeps N l (after s (Lose i) w)
kept_lost N l i s w k ok =
    let f =
    frame_lost i (most_deliveries w) s w k.facts.holds
    (runs.flow_begins w k.facts.holds k.preserved) ok in
    let now = after s (Lose i) w in
    let u : waiting now.user.end ≡ waiting w.user.end = ap waiting f.user in
    let v : waiting now.network.end ≡ waiting w.network.end = ap waiting f.network in
    keeps_after N l s (Lose i) w k (omega (arith, u)) (omega (arith, v))
    (λ free. subst IsFree (sym f.user) free) (λ free. subst IsFree (sym f.network) free)

-- a weight of the world, at most n and a fixed number
pub record Weighs (most : ℕ) (Weight : ℕ → World → Type 0) (n : ℕ) (w : World) : Type 0 where
  pub m : ℕ
  pub weight : Weight m w
  pub few : m ≤ n + most

pub record Lighter (Weight : ℕ → World → Type 0) (n : ℕ) (now : World) : Type 0 where
  pub some_left : 1 ≤ n
  pub weight : Weight (n - 1) now

-- A weight is bounded once the line is empty, and falls with each own move. `Holds` is a fact that
-- own moves keep, and losses too if fewer may follow.
pub record IsWeight (N l most : ℕ) (Holds Weight : ℕ → World → Type 0) : Type 0 where
  pub own_holds : (b : ℕ) (s : Side) (event : PairEvent) (w : World) → Keeps N l w → Holds b w
      → IsOwn Whole (record { side = s; event = event }) w → Holds b (after s event w)
  pub loss_holds : (b i : ℕ) (s : Side) (w : World) → Holds (b + 1) w
      → is_ok (happens Whole (record { side = s; event = Lose i }) w) ≡ true
      → Holds b (after s (Lose i) w)
  pub begins : (b n : ℕ) (x y : Station) → Keeps N l (at x y [] []) → Holds b (at x y [] [])
      → Flow n (at x y [] []) → Weighs most Weight n (at x y [] [])
  pub falls : (b n : ℕ) (s : Side) (event : PairEvent) (w : World) → Weight n w → Keeps N l w
      → Holds b w → IsOwn Whole (record { side = s; event = event }) w → Lighter Weight n (after s event w)

module _ (N l most : ℕ) (Holds Weight : ℕ → World → Type 0)
    (h : IsWeight N l most Holds Weight) where
  -- m bounds the deliveries that empty the line
  pub record Empties (n : ℕ) (w : World) : Type 0 where
    pub m : ℕ
    pub flow : Flow m w
    pub few : m + most ≤ n

  -- the line was empty, and deliveries that empty it again are few
  pub record Returns (n : ℕ) (w : World) : Type 0 where
    pub m : ℕ
    pub weight : Weight m w
    pub flow : Flow (3 * l + 6) w
    pub few : m ≤ n

  pub record Bounds (b n : ℕ) (w : World) : Type 0 where
    pub keeps : Keeps N l w
    pub holds : Holds b w
    pub phase : Empties n w ⊎ Returns n w

  -- ---- An own move.

  pub record Falls (n : ℕ) (now : World) : Type 0 where
    pub some_left : 1 ≤ n
    pub keeps : Keeps N l now
    pub phase : Empties (n - 1) now ⊎ Returns (n - 1) now

  record IsDelivered (m : ℕ) (now : World) : Type 0 where
    some_left : 1 ≤ m
    flow : Flow (m - 1) now
    keeps : Keeps N l now

  -- a frame is delivered
  module _ (b n : ℕ) (s : Side) (w : World) (k : Keeps N l w) (held : Holds b w)
      (own : IsOwn Whole (record { side = s; event = Deliver }) w) where
    abbrev delivered : World
    delivered = after s Deliver w

    by_flow : (m : ℕ) → Flow m w → IsDelivered m delivered
    by_flow m flow =
        let d = runs.delivery_flows N m s w k.facts flow own.admitted in
        record {
          some_left = d.some;
          flow = d.flow;
          keeps = kept_delivered N l s w k own.admitted;
        }

    pub deliver : Empties n w ⊎ Returns n w → Falls n delivered
    deliver (inl e) =
        let d = by_flow e.m e.flow in
        let one = d.some_left in
        let few = e.few in
        record {
          some_left = omega (arith, one, few);
          keeps = d.keeps;
          phase = inl (record { m = e.m - 1; flow = d.flow; few = omega (arith, one, few) });
        }
    deliver (inr r) =
        let d = by_flow (3 * l + 6) r.flow in
        let c = h.falls b r.m s Deliver w r.weight k held own in
        let one = c.some_left in
        let few = r.few in
        record {
          some_left = omega (arith, one, few);
          keeps = d.keeps;
          phase =
              inr (record {
                m = r.m - 1;
                weight = c.weight;
                flow = flow_more (3 * l + 6 - 1) (3 * l + 6) delivered (omega arith) d.flow;
                few = omega (arith, one, few);
              });
        }

  -- a timer expires on an empty line
  quiet_flow : (w : World) → Keeps N l w → frames w ≤ 1 → Flow (3 * l + 6) w
  quiet_flow w k few =
      let all = runs.left_waits w k.preserved in
      let waits = k.few in
      flow_more (most_deliveries w) (3 * l + 6) w (omega (arith, all, waits, few))
      (runs.flow_begins w k.facts.holds k.preserved)

  emptied : (b n : ℕ) (x y : Station) → Keeps N l (at x y [] []) → Holds b (at x y [] [])
      → Empties n (at x y [] []) ⊎ Returns n (at x y [] []) → Returns n (at x y [] [])
  emptied b n x y k held (inr r) = r
  emptied b n x y k held (inl e) =
      let w = at x y [] [] in
      let back = h.begins b e.m x y k held e.flow in
      let some_few = back.few in
      let few = e.few in
      record {
        m = back.m;
        weight = back.weight;
        flow = quiet_flow w k (omega arith);
        few = omega (arith, some_few, few);
      }

  expire : (b n m : ℕ) (s : Side) (event : PairEvent) (w : World) → Keeps N l w → Holds b w
      → Returns n w
      → IsOwn Whole (record { side = s; event = event }) w → frames w ≡ 0
      → ExpiresBeside m w (after s event w) → Falls n (after s event w)
  expire b n m s event w k held r own none x =
      let now = after s event w in
      let c = h.falls b r.m s event w r.weight k held own in
      let one = c.some_left in
      let most_few = r.few in
      let sent = x.one_more in
      let still = kept_expired N l m s event w k x in
      record {
        some_left = omega (arith, one, most_few);
        keeps = still;
        phase =
            inr (record {
              m = r.m - 1;
              weight = c.weight;
              flow = quiet_flow now still (omega (arith, none, sent));
              few = omega (arith, one, most_few);
            });
      }

  pub own_expires_200 : (b n : ℕ) (s : Side) (x y : Station) (to_user to_network : List Flight)
      → Bounds b n (at x y to_user to_network)
      → IsOwn Whole (record { side = s; event = Expire200 }) (at x y to_user to_network)
      → Falls n (after s Expire200 (at x y to_user to_network))
  own_expires_200 b n s x y [] [] w own =
      let f = w.keeps.facts in
      let r = emptied b n x y w.keeps w.holds w.phase in
      expire b n (most_beside (3 * l + 6) s Expire200 (at x y [] [])) s Expire200 (at x y [] []) w.keeps
      w.holds r own refl (t200_early (3 * l + 6) x y [] [] f.holds f.have r.flow s own.admitted)
  own_expires_200 b n s x y (frame ∷ arriving) to_network w own = let due = own.due in cc
  own_expires_200 b n s x y [] (frame ∷ arriving) w own = let due = own.due in cc

  pub own_expires_203 : (b n : ℕ) (s : Side) (x y : Station) (to_user to_network : List Flight)
      → Bounds b n (at x y to_user to_network)
      → IsOwn Whole (record { side = s; event = Expire203 }) (at x y to_user to_network)
      → Falls n (after s Expire203 (at x y to_user to_network))
  own_expires_203 b n s x y [] [] w own =
      let f = w.keeps.facts in
      let r = emptied b n x y w.keeps w.holds w.phase in
      expire b n (most_beside (3 * l + 6) s Expire203 (at x y [] [])) s Expire203 (at x y [] []) w.keeps
      w.holds r own refl (t203_early (3 * l + 6) x y [] [] f.holds f.have r.flow s own.admitted)
  own_expires_203 b n s x y (frame ∷ arriving) to_network w own = let due = own.due in cc
  own_expires_203 b n s x y [] (frame ∷ arriving) w own = let due = own.due in cc

  -- ---- A loss.

  abbrev pub rise : ℕ
  rise = 4 * l + 6 + most

  pub lose : (b n i : ℕ) (s : Side) (w : World) → Bounds (b + 1) n w
      → is_ok (happens Whole (record { side = s; event = Lose i }) w) ≡ true
      → Bounds b (n + rise) (after s (Lose i) w)
  lose b n i s w bounds ok = by_phase bounds.phase
    where
      k : Keeps N l w
      k = bounds.keeps

      now : World
      now = after s (Lose i) w

      lost : (m : ℕ) → Flow m w → m + l + most ≤ n + rise → Bounds b (n + rise) now
      lost m flow enough =
          let f = frame_lost i m s w k.facts.holds flow ok in
          let few = k.few in
          record {
            keeps = kept_lost N l i s w k ok;
            holds = h.loss_holds b i s w bounds.holds ok;
            phase =
                inl (record {
                  m = m + l;
                  flow =
                      flow_more (m + waiting w.user.end + waiting w.network.end) (m + l) now
                      (omega (arith, few)) f.flow;
                  few = enough;
                });
          }

      by_phase : Empties n w ⊎ Returns n w → Bounds b (n + rise) now
      by_phase (inl e) = lost e.m e.flow (let few = e.few in omega (arith, few))
      by_phase (inr r) = lost (3 * l + 6) r.flow (omega arith)

  -- ---- All of them.

  -- the moves, and the world that they lead to
  pub record Comes (n : ℕ) (w : World) (moves : List Move) : Type 0 where
    pub few : length moves ≤ n + losses moves * (rise + 1)
    pub keeps : Keeps N l (run Whole moves w)

  abbrev Rest : List Move → Type 0
  Rest moves =
      (b n : ℕ) (w : World) → Bounds b n w → AreOwnOrLosses Whole moves w → losses moves ≤ b
      → Comes n w moves

  falls_on : (b n : ℕ) (s : Side) (event : PairEvent) (w : World) (moves : List Move)
      → is_loss event ≡ false → Bounds b n w → IsOwn Whole (record { side = s; event = event }) w
      → Falls n (after s event w) → Rest moves → AreOwnOrLosses Whole moves (after s event w)
      → losses moves ≤ b
      → Comes n w (record { side = s; event = event } ∷ moves)
  falls_on b n s event w moves unlost bounds one_own f rest own le =
      let r =
      rest b (n - 1) (after s event w)
      (record {
        keeps = f.keeps;
        holds = h.own_holds b s event w bounds.keeps bounds.holds one_own;
        phase = f.phase;
      }) own le in
      let one = f.some_left in
      let few = r.few in
      let none : one_if (is_loss event) ≡ 0 = ap one_if unlost in
      record {
        few =
            subst (λ j. length (record { side = s; event = event } ∷ moves) ≤ n
            + (j + losses moves) * (rise + 1)) (sym none) (omega (arith, one, few));
        keeps = r.keeps;
      }

  first : (b n : ℕ) (s : Side) (event : PairEvent) (w : World) (moves : List Move) → Bounds b n w
      → Rest moves → IsOwnOrLoss Whole (record { side = s; event = event }) w
      → AreOwnOrLosses Whole moves (after s event w) → one_if (is_loss event) + losses moves ≤ b
      → Comes n w (record { side = s; event = event } ∷ moves)
  first b n s Deliver w moves bounds rest one own le =
      let is_own : IsOwn Whole (record { side = s; event = Deliver }) w =
      record { due = refl; admitted = one.admitted } in
      falls_on b n s Deliver w moves refl bounds is_own
      (deliver b n s w bounds.keeps bounds.holds is_own bounds.phase) rest own (omega (arith, le))
  first b n s (Lose i) w moves bounds rest one own le =
      let some : b ≡ (b - 1) + 1 = omega (arith, le) in
      let r =
      rest (b - 1) (n + rise) (after s (Lose i) w)
      (lose (b - 1) n i s w (subst (λ m. Bounds m n w) some bounds) one.admitted) own
      (omega (arith, le)) in
      let few = r.few in
      record { few = omega (arith, few); keeps = r.keeps }
  first b n s Expire200 w moves bounds rest one own le =
      let is_own : IsOwn Whole (record { side = s; event = Expire200 }) w =
      record { due = one.due; admitted = one.admitted } in
      falls_on b n s Expire200 w moves refl bounds is_own
      (own_expires_200 b n s w.user w.network w.to_user w.to_network bounds is_own) rest own
      (omega (arith, le))
  first b n s Expire203 w moves bounds rest one own le =
      let is_own : IsOwn Whole (record { side = s; event = Expire203 }) w =
      record { due = one.due; admitted = one.admitted } in
      falls_on b n s Expire203 w moves refl bounds is_own
      (own_expires_203 b n s w.user w.network w.to_user w.to_network bounds is_own) rest own
      (omega (arith, le))
  first b n s event w moves bounds rest one own le = let due = one.due in cc

  comes : (moves : List Move) (b n : ℕ) (w : World) → Bounds b n w → AreOwnOrLosses Whole moves w
      → losses moves ≤ b → Comes n w moves
  comes [] b n w bounds own le = record { few = omega arith; keeps = bounds.keeps }
  comes (move ∷ moves) b n w bounds own le =
      first b n move.side move.event w moves bounds
      (λ c m v bounds rest few. comes moves c m v bounds rest few) own.0 own.1 le

  -- from any world
  pub moves_counted : (b : ℕ) (w : World) → Keeps N l w → Holds b w → (moves : List Move)
      → AreOwnOrLosses Whole moves w → losses moves ≤ b → Comes (most_deliveries w + most) w moves
  moves_counted b w k held moves own le =
      comes moves b (most_deliveries w + most) w
      (record {
        keeps = k;
        holds = held;
        phase =
            inl (record {
              m = most_deliveries w;
              flow = runs.flow_begins w k.facts.holds k.preserved;
              few = omega arith;
            });
      }) own le
