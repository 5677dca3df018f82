-- Without losses T200 expires seldom, from every world and beside frames in transit or not.
use Rattle.std.proofs.Common.{◌≡◌, inl, inr, ℕ, ◌+◌, ◌-◌, ◌*◌, ◌≤◌, true, false, List, [], ◌∷◌, is_ok, refl, sym, ap, subst, arith}
use Rattle.std.proofs.lemmas.Nat.{mul-le}
use Rattle.lapd_frame.specs.declared.Side.{Side}
use Rattle.lapd_frame.specs.declared.Side.TheVariants as side
use Rattle.lapd_mod128.specs.Counting.{Whole}
use Rattle.lapd_link_definition.specs.declared.state.State.{State}
use Rattle.lapd_link_definition.specs.declared.state.State.TheVariants.{TeiAssigned, AwaitingEstablishment, AwaitingRelease, MultipleFrameEstablished, TimerRecovery}
use Rattle.lapd_link_definition.specs.EndOfStep.{is_7_or_8}
use Rattle.lapd_link_definition.specs.End.{End, waiting}
use Rattle.lapd_pair_laws.specs.Conjuncts.{most_asks}
use Rattle.lapd_pair_laws.specs.Kinds.{kinds, tally, final_of}
use Rattle.lapd_pair_laws.specs.Line.{Flight}
use Rattle.lapd_pair_laws.specs.Move.{PairEvent, Deliver, Lose, Expire200, Expire203, Move, Station, acts}
use Rattle.lapd_pair_laws.specs.World.{World, swapped, view_of, happens, left}
use Rattle.lapd_pair_laws.proofs.MidSteps.{open_asks_none}
use Rattle.lapd_pair_laws.proofs.Swaps.{network_alike}
use Rattle.lapd_recovery_laws.specs.Deliveries.{frames, most_deliveries}
use Rattle.lapd_recovery_laws.specs.EarlyTimers.{IsLineMove, AreLineMoves}
use Rattle.lapd_recovery_laws.specs.FewLosses.{t200s, t203s}
use Rattle.lapd_recovery_laws.specs.FreeTimers.{most_t200s_from}
use Rattle.lapd_recovery_laws.specs.Losses.{is_loss, one_if, losses}
use Rattle.lapd_recovery_laws.specs.Own.{IsFree}
use Rattle.lapd_recovery_laws.proofs.AnyOrder.{none_there, none_there_too}
use Rattle.lapd_recovery_laws.proofs.Controls.{Controls, controls_turned, vain_few, Rest, rest_turned, Goes, goes_turned, user_goes}
use Rattle.lapd_recovery_laws.proofs.ControlsOfTimers.{Goes200, expires_200, expires_203}
use Rattle.lapd_recovery_laws.proofs.CountedMoves.{after, Keeps, kept_delivered, kept_expired}
use Rattle.lapd_recovery_laws.proofs.Expiries.{unready}
use Rattle.lapd_recovery_laws.proofs.Lost.{at}
use Rattle.lapd_recovery_laws.proofs.LostMoves.{moved_user}
use Rattle.lapd_recovery_laws.proofs.OpenMoves.{open_expires, expires_more}
use Rattle.lapd_recovery_laws.proofs.OutageWorlds.{Facts, facts_swapped}
use Rattle.lapd_recovery_laws.proofs.OwnBySide.{ok_of_side}
use Rattle.lapd_recovery_laws.proofs.Renewals.{halting, halting_few, unready_halting, Renews, request_in, request_few, open_requests_none, under_way}
use Rattle.lapd_recovery_laws.proofs.RunsEmpty as runs
use Rattle.lapd_recovery_laws.proofs.TimersBeside.{t200_early, t203_early}

-- ---- One move.

module _ (N l U R : ℕ) (some : 1 ≤ N) (room : 2 * l + 2 + U + N ≤ R) where
  abbrev Controlled : ℕ → World → Type 0
  Controlled p w = Controls U p w.user.end w.network.end w.to_user w.to_network

  abbrev Resting : ℕ → World → Type 0
  Resting n w = Rest N n w.user.end w.network.end w.to_user w.to_network

  abbrev Gone : ℕ → ℕ → World → Type 0
  Gone p n w = Goes N U p n w.user.end w.network.end w.to_user w.to_network

  abbrev Gone200 : ℕ → ℕ → World → Type 0
  Gone200 p n w = Goes200 N U p n w.user.end w.network.end w.to_user w.to_network

  -- p bounds what is still to come, and n the expiries of T200 until then
  record Within (p n : ℕ) (w : World) : Type 0 where
    keeps : Keeps N l w
    controls : Controlled p w
    rest : Resting n w

  -- no request and no response is in transit
  ready_if_open : (w : World) → Keeps N l w → is_7_or_8 w.user.end.state ≡ true
      → is_7_or_8 w.network.end.state ≡ true
      → unready w.to_user + unready w.to_network ≤ halting w.to_user + halting w.to_network
  ready_if_open w k o q =
      let b = k.facts.holds.both in
      let mine = b.mine.exchange.one in
      let its = b.its.exchange.one in
      let clean = b.mine.exchange.clean in
      let its_clean = b.its.exchange.clean in
      let none : most_asks w.user.end.state ≡ 0 = open_asks_none w.user.end.state o in
      let its_none : most_asks w.network.end.state ≡ 0 = open_asks_none w.network.end.state q in
      let user =
      unready_halting w.to_user (omega (arith, its, its_none)) (omega (arith, mine, none))
      (omega (arith, its_clean)) in
      let network =
      unready_halting w.to_network (omega (arith, mine, none)) (omega (arith, its, its_none))
      (omega (arith, clean)) in
      omega (arith, user, network)

  anew : (p : ℕ) (w : World) → Keeps N l w → Controlled p w → Within p R w
  anew p w k c = record {
    keeps = k;
    controls = c;
    rest = record {
      both = λ o q.
          let few = k.few in
          let halts = c.few in
          let less = ready_if_open w k o q in
          expires_more (2 * waiting w.user.end + 2 * waiting w.network.end + 2 + unready w.to_user
          + unready w.to_network) R w (omega (arith, few, halts, less, room))
          (open_expires w k.facts.holds o q);
      mine = λ o shut.
          let le =
          vain_few N w.user.end.state w.user.end.rc (tally final_of (kinds w.to_user)) in
          omega (arith, le, room);
      its = λ o shut.
          let le =
          vain_few N w.network.end.state w.network.end.rc
          (tally final_of (kinds w.to_network)) in
          omega (arith, le, room);
    };
  }

  -- ---- A frame is delivered.

  user_delivers : (p n : ℕ) (x y : Station) (frame : Flight) (rest to_network : List Flight)
      → Facts N (at x y (frame ∷ rest) to_network) → IsFree x.end
      → Controlled p (at x y (frame ∷ rest) to_network)
      → Resting n (at x y (frame ∷ rest) to_network)
      → Gone p n (after side.User Deliver (at x y (frame ∷ rest) to_network))
  user_delivers p n x y frame rest to_network f free c r =
      subst (λ u. Gone p n u) (sym (moved_user Deliver (at x y (frame ∷ rest) to_network)))
      (user_goes N U p n x y frame rest to_network f free c r)

  delivers : (p n : ℕ) (s : Side) (x y : Station) (to_user to_network : List Flight)
      → Facts N (at x y to_user to_network) → IsFree x.end → IsFree y.end
      → Controlled p (at x y to_user to_network) → Resting n (at x y to_user to_network)
      → is_ok (happens Whole (record { side = s; event = Deliver }) (at x y to_user to_network))
      ≡ true → Gone p n (after s Deliver (at x y to_user to_network))
  delivers p n side.User x y [] to_network f x_free y_free c r ok =
      let none = none_there x y to_network in cc
  delivers p n side.User x y (frame ∷ rest) to_network f x_free y_free c r ok =
      user_delivers p n x y frame rest to_network f x_free c r
  delivers p n side.Network x y to_user [] f x_free y_free c r ok =
      let none = none_there_too x y to_user in cc
  delivers p n side.Network x y to_user (frame ∷ rest) f x_free y_free c r ok =
      let w = at x y to_user (frame ∷ rest) in
      subst (λ u. Gone p n u) (sym (network_alike Whole Deliver w))
      (goes_turned (user_delivers p n y x frame rest to_user (facts_swapped N w f) y_free
      (controls_turned c) (rest_turned r)))

  -- ---- A timer expires.

  user_200 : (p n : ℕ) (w : World) → Facts N w → IsFree w.user.end → Controlled p w → Resting n w
      → is_ok (acts Whole side.User Expire200 (view_of side.User w)) ≡ true
      → Gone200 p n (after side.User Expire200 w)
  user_200 p n w f free c r ok =
      subst (λ u. Gone200 p n u) (sym (moved_user Expire200 w))
      (expires_200 N U p n some w.user w.network w.to_user w.to_network f free c r ok)

  gone200_turned : (p n : ℕ) (w : World) → Gone200 p n w → Gone200 p n (swapped w)
  gone200_turned p n w (inl g) = inl (g.0, controls_turned g.1)
  gone200_turned p n w (inr g) = inr (g.0, controls_turned g.1, rest_turned g.2)

  expire_200 : (p n : ℕ) (s : Side) (w : World) → Within p n w
      → is_ok (happens Whole (record { side = s; event = Expire200 }) w) ≡ true
      → Gone200 p n (after s Expire200 w)
  expire_200 p n side.User w k ok =
      user_200 p n w k.keeps.facts k.keeps.user_free k.controls k.rest
      (ok_of_side side.User Expire200 w ok)
  expire_200 p n side.Network w k ok =
      subst (λ u. Gone200 p n u) (sym (network_alike Whole Expire200 w))
      (gone200_turned p n (after side.User Expire200 (swapped w))
      (user_200 p n (swapped w) (facts_swapped N w k.keeps.facts) k.keeps.network_free
      (controls_turned k.controls) (rest_turned k.rest)
      (ok_of_side side.Network Expire200 w ok)))

  user_203 : (p n : ℕ) (w : World) → Facts N w → IsFree w.user.end → Controlled p w → Resting n w
      → is_ok (acts Whole side.User Expire203 (view_of side.User w)) ≡ true
      → Controlled (p + 3) (after side.User Expire203 w)
  user_203 p n w f free c r ok =
      subst (λ u. Controlled (p + 3) u) (sym (moved_user Expire203 w))
      (expires_203 N U p n some w.user w.network w.to_user w.to_network f free c r ok)

  expire_203 : (p n : ℕ) (s : Side) (w : World) → Within p n w
      → is_ok (happens Whole (record { side = s; event = Expire203 }) w) ≡ true
      → Controlled (p + 3) (after s Expire203 w)
  expire_203 p n side.User w k ok =
      user_203 p n w k.keeps.facts k.keeps.user_free k.controls k.rest
      (ok_of_side side.User Expire203 w ok)
  expire_203 p n side.Network w k ok =
      subst (λ u. Controlled (p + 3) u) (sym (network_alike Whole Expire203 w))
      (controls_turned (user_203 p n (swapped w) (facts_swapped N w k.keeps.facts)
      k.keeps.network_free (controls_turned k.controls) (rest_turned k.rest)
      (ok_of_side side.Network Expire203 w ok)))

  kept_200 : (s : Side) (w : World) → Keeps N l w
      → is_ok (happens Whole (record { side = s; event = Expire200 }) w) ≡ true
      → Keeps N l (after s Expire200 w)
  kept_200 s w k ok =
      kept_expired N l _ s Expire200 w k
      (t200_early (most_deliveries w) w.user w.network w.to_user w.to_network k.facts.holds
      k.facts.have (runs.flow_begins w k.facts.holds k.preserved) s ok)

  kept_203 : (s : Side) (w : World) → Keeps N l w
      → is_ok (happens Whole (record { side = s; event = Expire203 }) w) ≡ true
      → Keeps N l (after s Expire203 w)
  kept_203 s w k ok =
      kept_expired N l _ s Expire203 w k
      (t203_early (most_deliveries w) w.user w.network w.to_user w.to_network k.facts.holds
      k.facts.have (runs.flow_begins w k.facts.holds k.preserved) s ok)

  -- ---- All moves.

  -- T200 expires at most this often, with `idle` expiries of T203
  abbrev most : ℕ → ℕ → ℕ → ℕ
  most p n idle = p * (R + 1) + n + idle * (4 * R + 3)

  abbrev After : List Move → World → Type 0
  After moves w = (p n : ℕ) → Within p n w → t200s moves ≤ most p n (t203s moves)

  -- one less is to come
  less : (p : ℕ) → 1 ≤ p → (p - 1) * (R + 1) + R + 1 ≤ p * (R + 1)
  less p one =
      let le = mul-le ((p - 1) + 1) (R + 1) p (R + 1) (omega (arith, one)) (omega arith) in
      omega (arith, le)

  first : (p n : ℕ) (s : Side) (event : PairEvent) (w : World) (moves : List Move) → Within p n w
      → IsLineMove Whole (record { side = s; event = event }) w → After moves (after s event w)
      → one_if (is_loss event) + losses moves ≡ 0
      → t200s (record { side = s; event = event } ∷ moves)
      ≤ most p n (t203s (record { side = s; event = event } ∷ moves))
  first p n s Deliver w moves k one rest lossless =
      let few =
      by_goes (delivers p n s w.user w.network w.to_user w.to_network k.keeps.facts
      k.keeps.user_free k.keeps.network_free k.controls k.rest one.admitted) in
      omega (arith, few)
    where
      kept : Keeps N l (after s Deliver w)
      kept = kept_delivered N l s w k.keeps one.admitted

      by_goes : Gone p n (after s Deliver w) → t200s moves ≤ most p n (t203s moves)
      by_goes (inl g) =
          let few = rest (p - 1) R (anew (p - 1) (after s Deliver w) kept g.1) in
          let le = less p g.0 in
          omega (arith, few, le)
      by_goes (inr g) = rest p n (record { keeps = kept; controls = g.0; rest = g.1 })
  first p n s (Lose i) w moves k one rest lossless = absurd (omega (arith, lossless))
  first p n s Expire200 w moves k one rest lossless =
      let few = by_goes (expire_200 p n s w k one.admitted) in omega (arith, few)
    where
      kept : Keeps N l (after s Expire200 w)
      kept = kept_200 s w k.keeps one.admitted

      by_goes : Gone200 p n (after s Expire200 w) → 1 + t200s moves ≤ most p n (t203s moves)
      by_goes (inl g) =
          let few = rest (p - 1) R (anew (p - 1) (after s Expire200 w) kept g.1) in
          let le = less p g.0 in
          omega (arith, few, le)
      by_goes (inr g) =
          let few = rest p (n - 1) (record { keeps = kept; controls = g.1; rest = g.2 }) in
          let one_ = g.0 in
          omega (arith, few, one_)
  first p n s Expire203 w moves k one rest lossless =
      let kept = kept_203 s w k.keeps one.admitted in
      let few =
      rest (p + 3) R (anew (p + 3) (after s Expire203 w) kept (expire_203 p n s w k one.admitted))
      in
      omega (arith, few)
  first p n s event w moves k one rest lossless = let impossible = one.of_line in cc

  counted : (moves : List Move) (w : World) → AreLineMoves Whole moves w → losses moves ≡ 0
      → After moves w
  counted [] w own lossless = λ p n k. omega arith
  counted (move ∷ moves) w own lossless = λ p n k.
      first p n move.side move.event w moves k own.0
      (counted moves (after move.side move.event w) own.1 (omega (arith, lossless))) lossless

-- from any world
record Begins (e : End) (n : ℕ) : Type 0 where
  a : ℕ
  renews : Renews e a
  few : 3 * a + n ≤ 3 * waiting e + 6

begins : (e : End) (n : ℕ) → Begins e (request_in e.state e.release_pending n)
begins e n = by_state e.state refl
  where
    all_few : request_in e.state e.release_pending n ≤ 6
    all_few = request_few e.state e.release_pending n

    opened : is_7_or_8 e.state ≡ true → Begins e (request_in e.state e.release_pending n)
    opened o =
        let none = open_requests_none e.state e.release_pending n o in
        record {
          a = waiting e + 1;
          renews = record {
            left = λ o. omega arith;
            idle = λ o waits level. omega arith;
            kept = λ is level. omega arith;
          };
          few = omega (arith, none);
        }

    shut : is_7_or_8 e.state ≡ false → Begins e (request_in e.state e.release_pending n)
    shut s =
        let le = all_few in
        record {
          a = waiting e;
          renews = record {
            left = λ o. cc;
            idle = λ o waits level. cc;
            kept = λ is level. omega arith;
          };
          few = omega (arith, le);
        }

    by_state : (state : State) → e.state ≡ state
        → Begins e (request_in e.state e.release_pending n)
    by_state MultipleFrameEstablished is = opened (ap is_7_or_8 is)
    by_state TimerRecovery is = opened (ap is_7_or_8 is)
    by_state TeiAssigned is = shut (ap is_7_or_8 is)
    by_state AwaitingEstablishment is = shut (ap is_7_or_8 is)
    by_state AwaitingRelease is = shut (ap is_7_or_8 is)

pub t200s_few : (N : ℕ) → 1 ≤ N → (w : World) → Keeps N (left w) w → (moves : List Move)
    → AreLineMoves Whole moves w → losses moves ≡ 0
    → t200s moves ≤ most_t200s_from N (t203s moves) w
t200s_few N some w k moves own lossless =
    let l = left w in
    let U = frames w in
    let R = 2 * l + 2 + U + N in
    let user = halting_few w.to_user in
    let network = halting_few w.to_network in
    let all = k.few in
    let mine = begins w.user.end (under_way (kinds w.to_network) (kinds w.to_user)) in
    let its = begins w.network.end (under_way (kinds w.to_user) (kinds w.to_network)) in
    let mine_few = mine.few in
    let its_few = its.few in
    let c : Controls U (3 * l + 3 * U + 12) w.user.end w.network.end w.to_user w.to_network =
    record {
      a = mine.a;
      b = its.a;
      mine = mine.renews;
      its = its.renews;
      few = omega (arith, user, network);
      most = omega (arith, user, network, all, mine_few, its_few);
    } in
    let few =
    counted N l U R some (omega arith) moves w own lossless (3 * l + 3 * U + 12) R
    (anew N l U R some (omega arith) (3 * l + 3 * U + 12) w k c) in
    enough l U N (t203s moves) (t200s moves) few
  where
    enough : (l U N idle n : ℕ)
        → n ≤ (3 * l + 3 * U + 12) * (2 * l + 2 + U + N + 1) + (2 * l + 2 + U + N)
        + idle * (4 * (2 * l + 2 + U + N) + 3)
        → n ≤ (3 * l + 3 * U + 4 * idle + 13) * (2 * l + U + N + 3)
    enough l U N idle n few = omega (arith, few)
