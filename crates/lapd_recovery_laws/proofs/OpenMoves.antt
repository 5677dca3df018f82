-- Deliveries, losses and expired timers are counted while both ends are in states 7 and 8.
use Rattle.std.proofs.Common.{◌≡◌, inl, ℕ, zero, suc, ◌+◌, ◌-◌, ◌*◌, ◌≤◌, not, true, List, [], ◌∷◌, length, is_ok, sym, ap, subst, arith}
use Rattle.std.proofs.lemmas.Nat.{mul-le}
use Rattle.lapd_frame.specs.declared.Side.{Side}
use Rattle.lapd_frame.specs.declared.Side.TheVariants as side
use Rattle.lapd_mod128.specs.Counting.{Whole}
use Rattle.lapd_link_definition.specs.EndOfStep.{is_7_or_8}
use Rattle.lapd_link_definition.specs.End.{unsent, waiting}
use Rattle.lapd_pair_laws.specs.Invariant.{Both, IsInvariant}
use Rattle.lapd_pair_laws.specs.Kinds.{Kind, kinds}
use Rattle.lapd_pair_laws.specs.Line.{Flight, without_lost}
use Rattle.lapd_pair_laws.specs.Move.{PairEvent, Deliver, Lose, Expire200, Expire203, Move, Station, View, acts}
use Rattle.lapd_pair_laws.specs.Parties.{party}
use Rattle.lapd_pair_laws.specs.World.{World, swapped, view_of, with_view, happens, left}
use Rattle.lapd_pair_laws.proofs.Swaps.{network_alike}
use Rattle.lapd_pair_laws.proofs.WorkOfActions.{is_ready}
use Rattle.lapd_recovery_laws.specs.Deliveries.{frames, most_deliveries}
use Rattle.lapd_recovery_laws.specs.EarlyTimers.{IsLineMove, AreLineMoves}
use Rattle.lapd_recovery_laws.specs.FewLosses.{t200s, t203s, most_t200s, most_open_line_moves}
use Rattle.lapd_recovery_laws.specs.Losses.{is_loss, one_if, losses}
use Rattle.lapd_recovery_laws.specs.Own.{IsFree}
use Rattle.lapd_recovery_laws.proofs.AfterOutage.{facts_after}
use Rattle.lapd_recovery_laws.proofs.AnyOrder.{none_there, none_there_too}
use Rattle.lapd_recovery_laws.proofs.CountedMoves.{kept_delivered, kept_expired, kept_lost, after, Keeps, flow_more}
use Rattle.lapd_recovery_laws.proofs.Expiries.{unready, one_if_few, waits_few, asked_by, Expects, expiries_turned, view_delivered}
use Rattle.lapd_recovery_laws.proofs.ExpiriesOfTimers.{Expires, t200_falls, t203_still}
use Rattle.lapd_recovery_laws.proofs.LosesFrame.{frame_lost, user_loses}
use Rattle.lapd_recovery_laws.proofs.Lost.{at}
use Rattle.lapd_recovery_laws.proofs.LostMoves.{moved_user}
use Rattle.lapd_recovery_laws.proofs.OutageWorlds.{Facts, facts_swapped}
use Rattle.lapd_recovery_laws.proofs.OwnBySide.{ok_of_side}
use Rattle.lapd_recovery_laws.proofs.Proceeding.{missing_in, missing}
use Rattle.lapd_recovery_laws.proofs.RunsEmpty as runs
use Rattle.lapd_recovery_laws.proofs.RunsEmpty.{Flow, missing_few, in_queue}
use Rattle.lapd_recovery_laws.proofs.StaysOpen.{Lasts, lasts_swapped, deliver, expire_200, expire_203, lose}
use Rattle.lapd_recovery_laws.proofs.TimersBeside.{ExpiresBeside, t200_open, t203_open}

-- ---- From any world.

side_expects : (x y : Station) (base its_base : ℕ) (out back : List Kind)
    → Both (party base x) (party its_base y) out back → is_7_or_8 x.end.state ≡ true
    → is_7_or_8 y.end.state ≡ true → Expects x.end y.end out back (2 * waiting x.end + 1)
side_expects x y base its_base out back both x_opened y_opened =
    let p = party base x in
    let le : x.end.first ≤ x.end.next =
    in_queue p.state p.asked p.leaving p.sends both.mine.preserved in
    let few = missing_few x y base its_base out back both x_opened in
    let same : missing x.end y.end ≡ x.end.window.vs - y.end.window.vr =
    ap (λ o. missing_in o x.end.window.vs y.end.window.vr (waiting x.end) (unsent x.end)) y_opened
    in
    let one = waits_few x.end.state x.end.t200 (asked_by out back) in
    inl (omega (arith, le, few, same, one))

pub open_expires : (w : World) → IsInvariant w → is_7_or_8 w.user.end.state ≡ true
    → is_7_or_8 w.network.end.state ≡ true
    → Expires (2 * waiting w.user.end + 2 * waiting w.network.end + 2 + unready w.to_user
    + unready w.to_network) w
open_expires w i u v = record {
  a = 2 * waiting w.user.end + 1;
  b = 2 * waiting w.network.end + 1;
  mine =
      side_expects w.user w.network i.user_base i.network_base (kinds w.to_network)
      (kinds w.to_user) i.both u v;
  its =
      side_expects w.network w.user i.network_base i.user_base (kinds w.to_user)
      (kinds w.to_network) (record { mine = i.both.its; its = i.both.mine }) v u;
  most = omega arith;
}

expires_from : (b : ℕ) (w : World) → IsInvariant w → Lasts b w
    → Expires (2 * waiting w.user.end + 2 * waiting w.network.end + 2 + unready w.to_user
    + unready w.to_network) w
expires_from b w i l = open_expires w i l.user.open_state l.network.open_state

pub expires_more : (m n : ℕ) (w : World) → m ≤ n → Expires m w → Expires n w
expires_more m n w le e =
    let most = e.most in
    record { a = e.a; b = e.b; mine = e.mine; its = e.its; most = omega (arith, most, le) }

unready_few : (fs : List Flight) → unready fs ≤ length fs
unready_few [] = omega arith
unready_few (f ∷ fs) =
    let one = one_if_few (not (is_ready f.control)) in
    let rest = unready_few fs in omega (arith, one, rest)

unready_lost : (i : ℕ) (fs : List Flight) → unready (without_lost i fs) ≤ unready fs
unready_lost zero [] = omega arith
unready_lost (suc i) [] = omega arith
unready_lost zero (f ∷ fs) = omega arith
unready_lost (suc i) (f ∷ fs) = let rest = unready_lost i fs in omega (arith, rest)

-- ---- A frame is delivered.

expires_swapped : (n : ℕ) (w : World) → Expires n (swapped w) → Expires n w
expires_swapped n w e = expiries_turned e

user_delivers : (N b n : ℕ) (x y : Station) (frame : Flight) (rest to_network : List Flight)
    → Facts N (at x y (frame ∷ rest) to_network) → Lasts b (at x y (frame ∷ rest) to_network)
    → IsFree x.end → Expires n (at x y (frame ∷ rest) to_network)
    → Expires n (after side.User Deliver (at x y (frame ∷ rest) to_network))
user_delivers N b n x y frame rest to_network f l free e =
    subst (λ u. Expires n u) (sym (moved_user Deliver (at x y (frame ∷ rest) to_network)))
    (view_delivered x y frame rest to_network f.holds f.settled.user l.user.open_state
    l.network.open_state (free l.user.open_state) n e)

delivers : (N b n : ℕ) (s : Side) (x y : Station) (to_user to_network : List Flight)
    → Facts N (at x y to_user to_network) → Lasts b (at x y to_user to_network) → IsFree x.end
    → IsFree y.end → Expires n (at x y to_user to_network)
    → is_ok (happens Whole (record { side = s; event = Deliver }) (at x y to_user to_network))
    ≡ true → Expires n (after s Deliver (at x y to_user to_network))
delivers N b n side.User x y [] to_network f l x_free y_free e ok =
    let none = none_there x y to_network in cc
delivers N b n side.User x y (frame ∷ rest) to_network f l x_free y_free e ok =
    user_delivers N b n x y frame rest to_network f l x_free e
delivers N b n side.Network x y to_user [] f l x_free y_free e ok =
    let none = none_there_too x y to_user in cc
delivers N b n side.Network x y to_user (frame ∷ rest) f l x_free y_free e ok =
    let w = at x y to_user (frame ∷ rest) in
    subst (λ u. Expires n u) (sym (network_alike Whole Deliver w))
    (expires_swapped n (swapped (after side.User Deliver (swapped w)))
    (user_delivers N b n y x frame rest to_user (facts_swapped N w f) (lasts_swapped b w l) y_free
    (expiries_turned e)))

-- ---- A frame is lost.

user_lost_unready : (i : ℕ) (w : World)
    → is_ok (acts Whole side.User (Lose i) (view_of side.User w)) ≡ true
    → unready (after side.User (Lose i) w).to_user + unready (after side.User (Lose i) w).to_network
    ≤ unready w.to_user + unready w.to_network
user_lost_unready i w ok =
    let v = view_of side.User w in
    let g = user_loses i v ok in
    let less = unready_lost i w.to_user in
    let F : View → Type 0 =
    λ u. unready (with_view side.User u w).to_user + unready (with_view side.User u w).to_network
    ≤ unready w.to_user + unready w.to_network in
    subst (λ u. unready u.to_user + unready u.to_network
    ≤ unready w.to_user + unready w.to_network) (sym (moved_user (Lose i) w))
    (subst F (sym g.same) (omega (arith, less)))

lost_unready : (i : ℕ) (s : Side) (w : World)
    → is_ok (happens Whole (record { side = s; event = Lose i }) w) ≡ true
    → unready (after s (Lose i) w).to_user + unready (after s (Lose i) w).to_network
    ≤ unready w.to_user + unready w.to_network
lost_unready i side.User w ok = user_lost_unready i w (ok_of_side side.User (Lose i) w ok)
lost_unready i side.Network w ok =
    let less = user_lost_unready i (swapped w) (ok_of_side side.Network (Lose i) w ok) in
    subst (λ u. unready u.to_user + unready u.to_network
    ≤ unready w.to_user + unready w.to_network) (sym (network_alike Whole (Lose i) w))
    (omega (arith, less))

-- ---- All moves.

module _ (N l : ℕ) where
  -- b frames may still be lost, deliveries are at most m, and T200 expires at most n times
  record Within (b m n : ℕ) (w : World) : Type 0 where
    keeps : Keeps N l w
    lasts : Lasts b w
    flow : Flow m w
    expires : Expires n w

  abbrev each : ℕ
  each = 3 * l + 7

  abbrev each_loss : ℕ
  each_loss = l + 1 + (2 * l + 2) * each

  record Counts (m n : ℕ) (moves : List Move) : Type 0 where
    few : length moves ≤ m + n * each + t203s moves * each + losses moves * each_loss
    fewer : t200s moves ≤ n + losses moves * (2 * l + 2)

  delivered : (b m n : ℕ) (s : Side) (w : World) → Within b m n w
      → is_ok (happens Whole (record { side = s; event = Deliver }) w) ≡ true
      → (1 ≤ m) × Within b (m - 1) n (after s Deliver w)
  delivered b m n s w k ok =
      let kept = k.keeps in
      let d = runs.delivery_flows N m s w kept.facts k.flow ok in (
        d.some,
        record {
          keeps = kept_delivered N l s w kept ok;
          lasts =
              (deliver N b s w.user w.network w.to_user w.to_network kept.facts k.lasts ok).lasts;
          flow = d.flow;
          expires =
              delivers N b n s w.user w.network w.to_user w.to_network kept.facts k.lasts
              kept.user_free kept.network_free k.expires ok;
        },
      )

  expired : (b m n : ℕ) (s : Side) (event : PairEvent) (w : World) → Keeps N l w
      → ExpiresBeside (m + 3 * waiting w.user.end + 3 * waiting w.network.end + 6) w
      (after s event w) → Lasts b (after s event w) → Expires n (after s event w)
      → Within b (m + 3 * l + 6) n (after s event w)
  expired b m n s event w kept e lasts expires =
      let few = kept.few in
      record {
        keeps =
            kept_expired N l (m + 3 * waiting w.user.end + 3 * waiting w.network.end + 6) s event w
            kept e;
        lasts = lasts;
        flow =
            flow_more (m + 3 * waiting w.user.end + 3 * waiting w.network.end + 6)
            (m + 3 * l + 6) (after s event w) (omega (arith, few)) e.flow;
        expires = expires;
      }

  lost : (b m n i : ℕ) (s : Side) (w : World) → Within (b + 1) m n w
      → is_ok (happens Whole (record { side = s; event = Lose i }) w) ≡ true
      → Within b (m + l) (n + (2 * l + 2)) (after s (Lose i) w)
  lost b m n i s w k ok =
      let kept = k.keeps in
      let now = after s (Lose i) w in
      let f = frame_lost i m s w kept.facts.holds k.flow ok in
      let few = kept.few in
      let u : waiting now.user.end ≡ waiting w.user.end = ap waiting f.user in
      let v : waiting now.network.end ≡ waiting w.network.end = ap waiting f.network in
      let facts = facts_after N (record { side = s; event = Lose i }) w kept.facts in
      let lasts = (lose b i s w k.lasts ok).lasts in
      let less = lost_unready i s w ok in
      let most = k.expires.most in
      record {
        keeps = kept_lost N l i s w kept ok;
        lasts = lasts;
        flow =
            flow_more (m + waiting w.user.end + waiting w.network.end) (m + l) now
            (omega (arith, few)) f.flow;
        expires =
            expires_more
            (2 * waiting now.user.end + 2 * waiting now.network.end + 2 + unready now.to_user
            + unready now.to_network) (n + (2 * l + 2)) now
            (omega (arith, few, u, v, less, most)) (expires_from b now facts.holds lasts);
      }

  abbrev Rest : List Move → Type 0
  Rest moves =
      (b m n : ℕ) (w : World) → Within b m n w → AreLineMoves Whole moves w → losses moves ≤ b
      → Counts m n moves

  first : (b m n : ℕ) (s : Side) (event : PairEvent) (w : World) (moves : List Move)
      → Within b m n w → Rest moves → IsLineMove Whole (record { side = s; event = event }) w
      → AreLineMoves Whole moves (after s event w) → one_if (is_loss event) + losses moves ≤ b
      → Counts m n (record { side = s; event = event } ∷ moves)
  first b m n s Deliver w moves k rest one own le =
      let d = delivered b m n s w k one.admitted in
      let r = rest b (m - 1) n (after s Deliver w) d.1 own (omega (arith, le)) in
      let some = d.0 in
      let few = r.few in
      let fewer = r.fewer in
      record { few = omega (arith, some, few); fewer = omega (arith, fewer) }
  first b m n s (Lose i) w moves k rest one own le =
      let some : b ≡ (b - 1) + 1 = omega (arith, le) in
      let now =
      lost (b - 1) m n i s w (subst (λ j. Within j m n w) some k) one.admitted in
      let r =
      rest (b - 1) (m + l) (n + (2 * l + 2)) (after s (Lose i) w) now own
      (omega (arith, le)) in
      let few = r.few in
      let fewer = r.fewer in
      record { few = omega (arith, few); fewer = omega (arith, fewer) }
  first b m n s Expire200 w moves k rest one own le =
      let kept = k.keeps in
      let f =
      t200_falls b n s w k.lasts kept.user_free kept.network_free k.expires one.admitted in
      let lasts = (expire_200 b s w k.lasts one.admitted).lasts in
      let now =
      expired b m (n - 1) s Expire200 w kept
      (t200_open m s w kept.facts.holds kept.facts.have k.flow lasts.user.open_state
      lasts.network.open_state one.admitted) lasts f.expires in
      let r =
      rest b (m + 3 * l + 6) (n - 1) (after s Expire200 w) now own (omega (arith, le)) in
      let some = f.some in
      let few = r.few in
      let fewer = r.fewer in
      let less = mul-le ((n - 1) + 1) each n each (omega (arith, some)) (omega arith) in
      record { few = omega (arith, few, less); fewer = omega (arith, fewer, some) }
  first b m n s Expire203 w moves k rest one own le =
      let kept = k.keeps in
      let f =
      t203_still b n s w k.lasts kept.facts.have kept.user_free kept.network_free k.expires
      one.admitted in
      let lasts = (expire_203 b s w kept.facts.have k.lasts one.admitted).lasts in
      let now =
      expired b m n s Expire203 w kept
      (t203_open m s w kept.facts.holds kept.facts.have k.flow lasts.user.open_state
      lasts.network.open_state one.admitted) lasts
      (expires_more (n - 0) n (after s Expire203 w) (omega arith) f.expires) in
      let r = rest b (m + 3 * l + 6) n (after s Expire203 w) now own (omega (arith, le)) in
      let few = r.few in
      let fewer = r.fewer in
      record { few = omega (arith, few); fewer = omega (arith, fewer) }
  first b m n s event w moves k rest one own le = let impossible = one.of_line in cc

  counted : (moves : List Move) (b m n : ℕ) (w : World) → Within b m n w
      → AreLineMoves Whole moves w → losses moves ≤ b → Counts m n moves
  counted [] b m n w k own le = record { few = omega arith; fewer = omega arith }
  counted (move ∷ moves) b m n w k own le =
      first b m n move.side move.event w moves k
      (λ c j e v within own less. counted moves c j e v within own less) own.0 own.1 le

  pub record AreCounted (lost : ℕ) (w : World) (moves : List Move) : Type 0 where
    pub few : length moves ≤ most_open_line_moves lost (t203s moves) w
    pub fewer : t200s moves ≤ most_t200s lost w

-- from any world
pub open_moves_counted : (N lost : ℕ) (w : World) → Keeps N (left w) w → Lasts lost w
    → (moves : List Move) → AreLineMoves Whole moves w → losses moves ≤ lost
    → AreCounted N (left w) lost w moves
open_moves_counted N lost w k lasts moves own le =
    let l = left w in
    let some = k.few in
    let user = unready_few w.to_user in
    let network = unready_few w.to_network in
    let c =
    counted N l moves lost (most_deliveries w) (2 * l + 2 + frames w) w
    (record {
      keeps = k;
      lasts = lasts;
      flow = runs.flow_begins w k.facts.holds k.preserved;
      expires =
          expires_more
          (2 * waiting w.user.end + 2 * waiting w.network.end + 2 + unready w.to_user
          + unready w.to_network) (2 * l + 2 + frames w) w
          (omega (arith, some, user, network)) (expires_from lost w k.facts.holds lasts);
    }) own le in
    let few = c.few in
    let fewer = c.fewer in
    let each = l + 1 + (2 * l + 2) * (3 * l + 7) in
    let all = mul-le (losses moves) each lost each le (omega arith) in
    let timers = mul-le (losses moves) (2 * l + 2) lost (2 * l + 2) le (omega arith) in
    record { few = omega (arith, few, all); fewer = omega (arith, fewer, timers) }
