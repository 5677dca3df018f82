-- A quiet line drains.
use Rattle.std.proofs.Common.{◌≡◌, ◌⊎◌, inl, inr, ℕ, zero, suc, ◌+◌, ◌-◌, ◌*◌, ◌≤◌, ◌<◌, nat_lt, ◌&&◌, ◌||◌, Bool, true, false, List, [], ◌∷◌, length, Some, None, refl, sym, ap, subst, ◌∙◌, arith}
use Rattle.std.proofs.lemmas.Bool.Decides.{nat_tests}
use Rattle.lapd_frame.specs.declared.Side.TheVariants as side
use Rattle.lapd_mod128.specs.Counting.{Whole, steps}
use Rattle.lapd_supervision.specs.StateVariables.{StateVariables, may_send}
use Rattle.lapd_link_definition.specs.declared.state.State.TheVariants.{MultipleFrameEstablished}
use Rattle.lapd_link_definition.specs.EndOfStep.{is_7_or_8}
use Rattle.lapd_link_definition.specs.End.{End, begin}
use Rattle.lapd_link_definition.specs.Table.{step}
use Rattle.lapd_pair_laws.specs.Consistent.{is_one_of, AreSettled, IsConsistentWorld}
use Rattle.lapd_pair_laws.specs.Line.{Flight}
use Rattle.lapd_pair_laws.specs.Move.{PairEvent, Deliver, Expire200, Move, Station, acts, receives, takes, delivers, expires_200}
use Rattle.lapd_pair_laws.specs.Safe.{IsAmong}
use Rattle.lapd_pair_laws.specs.World.{World, swapped, view_of, world_after, happens, run, left, left_of}
use Rattle.lapd_pair_laws.proofs.Consistency.{run_consistent}
use Rattle.lapd_pair_laws.proofs.Settled.{left_settled}
use Rattle.lapd_pair_laws.proofs.Swaps.{network_alike}
use Rattle.lapd_pair_laws.specs.Kinds.{kinds}
use Rattle.lapd_pair_laws.specs.Parties.{party}
use Rattle.lapd_pair_laws.specs.Conjuncts.{IsNumbering}
use Rattle.lapd_pair_laws.specs.Invariant.{IsInvariant}
use Rattle.lapd_pair_laws.proofs.MidSteps.{Mid, enter, numbering}
use Rattle.lapd_pair_laws.proofs.Moves.{after_by_user}
use Rattle.lapd_pair_laws.proofs.Whole.{each_move_preserves}
use Rattle.lapd_pair_laws.proofs.Worlds.{left_by, safe_by_invariant}
use Rattle.lapd_pair_laws.specs.Settle.{IsQuiet, next_move, settling, bound, most_moves}
use Rattle.lapd_pair_laws.specs.Drained.{IsServed, IsDrained}
use Rattle.lapd_pair_laws.specs.Timed.{IsTimedIn, IsSettledEnd, AreSettledEnds}
use Rattle.lapd_pair_laws.proofs.Facts.{between_open}
use Rattle.lapd_pair_laws.proofs.Flow.{Source, Sink, source, sink, IsInTransit, Stage, Clean, Waiting, Polling, Answered, IsAt, weight, Stream, fresh}
use Rattle.lapd_pair_laws.proofs.Drains.{Seen, Drains, drains_swapped, seen_delivered, preserved_delivered, mine_open}
use Rattle.lapd_pair_laws.proofs.DrainsByT200.{seen_expired, preserved_expired}
use Rattle.lapd_pair_laws.proofs.SettledEnds.{move_settles}
use Rattle.lapd_pair_laws.proofs.Stepping.{user_move, network_move}

-- ---- One move.

pub user_drains : (n : ℕ) (event : PairEvent) (w : World) → Drains n w
    → Seen (n - 1)
    (left_by (view_of side.User w) (acts Whole side.User event (view_of side.User w)))
    w.network
    → Drains (n - 1) (world_after w (happens Whole (user_move event) w))
unfolding happens
user_drains n event w d s = record {
  holds = each_move_preserves (user_move event) w d.holds;
  ends_settled = move_settles (user_move event) w d.ends_settled;
  sees = rw (after_by_user w (acts Whole side.User event (view_of side.User w))) s;
}

network_drains : (n : ℕ) (event : PairEvent) (w : World)
    → Drains (n - 1) (world_after (swapped w) (happens Whole (user_move event) (swapped w)))
    → Drains (n - 1) (world_after w (happens Whole (network_move event) w))
network_drains n event w d =
    rw (network_alike Whole event w) (drains_swapped (n - 1)
    (world_after (swapped w) (happens Whole (user_move event) (swapped w))) d)

-- the same messages were dropped
pub record SameDropped (w v : World) : Type 0 where
  pub user : v.user.history.dropped ≡ w.user.history.dropped
  pub network : v.network.history.dropped ≡ w.network.history.dropped

same_twice : {w v u : World} → SameDropped w v → SameDropped v u → SameDropped w u
same_twice a b = record { user = b.user ∙ a.user; network = b.network ∙ a.network }

pub user_preserved : (event : PairEvent) (w : World)
    → (left_by (view_of side.User w)
    (acts Whole side.User event (view_of side.User w))).station.history.dropped
    ≡ w.user.history.dropped
    → SameDropped w (world_after w (happens Whole (user_move event) w))
unfolding happens
user_preserved event w same =
    rw (after_by_user w (acts Whole side.User event (view_of side.User w)))
    (record { user = same; network = refl })

network_preserved : (event : PairEvent) (w : World)
    → SameDropped (swapped w)
    (world_after (swapped w) (happens Whole (user_move event) (swapped w)))
    → SameDropped w (world_after w (happens Whole (network_move event) w))
network_preserved event w same =
    rw (network_alike Whole event w) (record { user = same.network; network = same.user })

-- one settling move, if any is possible; else no T200 runs and the line is empty
pub record MovesOn (n : ℕ) (w : World) : Type 0 where
  pub move : Move
  pub is : next_move Whole w ≡ Some move
  pub some : 1 ≤ n
  pub drains : Drains (n - 1) (world_after w (happens Whole move w))
  pub preserved : SameDropped w (world_after w (happens Whole move w))

pub record IsStill (w : World) : Type 0 where
  pub to_user : w.to_user ≡ []
  pub to_network : w.to_network ≡ []
  pub user : w.user.end.t200 ≡ false
  pub network : w.network.end.t200 ≡ false

pub record Settles (w : World) : Type 0 where
  pub is : next_move Whole w ≡ None
  pub still : IsStill w

module _ (n : ℕ) (user network : Station) where
  abbrev at : List Flight → List Flight → World
  at to_user to_network =
      record { user = user; network = network; to_user = to_user; to_network = to_network }

  by_user : (frame : Flight) (rest to_network : List Flight)
      → Drains n (at (frame ∷ rest) to_network)
      → Drains (n - 1) (world_after (at (frame ∷ rest) to_network)
      (happens Whole (user_move Deliver) (at (frame ∷ rest) to_network)))
  by_user frame rest to_network d =
      user_drains n Deliver (at (frame ∷ rest) to_network) d
      (seen_delivered user network frame rest to_network n
      d.holds.user_base d.holds.network_base d.holds.both d.ends_settled.user d.sees)

  by_user_preserved : (frame : Flight) (rest to_network : List Flight)
      → Drains n (at (frame ∷ rest) to_network)
      → SameDropped (at (frame ∷ rest) to_network)
      (world_after (at (frame ∷ rest) to_network)
      (happens Whole (user_move Deliver) (at (frame ∷ rest) to_network)))
  by_user_preserved frame rest to_network d =
      user_preserved Deliver (at (frame ∷ rest) to_network)
      (preserved_delivered user network frame rest to_network n
      d.holds.user_base d.holds.network_base d.holds.both d.ends_settled.user d.sees)

  expired_preserved : user.end.t200 ≡ true → Drains n (at [] [])
      → SameDropped (at [] [])
      (world_after (at [] []) (happens Whole (user_move Expire200) (at [] [])))
  expired_preserved on d =
      user_preserved Expire200 (at [] []) (preserved_expired user network n on d.sees)

  expired : user.end.t200 ≡ true → Drains n (at [] [])
      → Drains (n - 1) (world_after (at [] []) (happens Whole (user_move Expire200) (at [] [])))
  expired on d = user_drains n Expire200 (at [] []) d (seen_expired user network n on d.sees)

-- if T200 runs and the line is empty, work remains
pub some_at : (x : Source) (y : Sink) (a : ℕ) → x.t200 ≡ true → Stream x y [] [] a → 1 ≤ a
some_at x y a on s = by_stage s.stage s.so s.most
  where
    still : (rejecting : Bool) → (y.vr < x.vs) ⊎ IsAmong x.vs []
        → IsInTransit rejecting y.vr x.vs [] → ⊥
    still false (inl less) same = absurd (omega (arith, less, same))
    still true (inl less) same = absurd (omega (arith, less, same))
    still rejecting (inr none) same = absurd none

    by_stage : (stage : Stage) → IsAt stage x y [] [] → weight stage x y ≤ a → 1 ≤ a
    by_stage Clean c most = absurd (still y.rejecting (c.stopped on) c.arriving)
    by_stage Waiting w most = omega (arith, most)
    by_stage Polling w most = absurd (omega (arith, w.1))
    by_stage Answered w most = absurd (omega (arith, w.1))

pub progress : (n : ℕ) (user network : Station) (to_user to_network : List Flight)
    → Drains n (at n user network to_user to_network)
    → MovesOn n (at n user network to_user to_network)
    ⊎ Settles (at n user network to_user to_network)
unfolding happens acts delivers receives takes expires_200 step
progress n user network to_user (frame ∷ rest) d = inl (record {
  move = network_move Deliver;
  is = refl;
  some = let le = d.sees.flow.most in omega (arith, le);
  drains =
      network_drains n Deliver (at n user network to_user (frame ∷ rest)) (by_user n
      network user frame rest to_user
      (drains_swapped n (at n user network to_user (frame ∷ rest)) d));
  preserved =
      network_preserved Deliver (at n user network to_user (frame ∷ rest)) (by_user_preserved n
      network user frame rest to_user
      (drains_swapped n (at n user network to_user (frame ∷ rest)) d));
})
progress n user network (frame ∷ rest) [] d = inl (record {
  move = user_move Deliver;
  is = refl;
  some = let le = d.sees.flow.most in omega (arith, le);
  drains = by_user n user network frame rest [] d;
  preserved = by_user_preserved n user network frame rest [] d;
})
progress n user network [] [] d = by_timers user.end.t200 network.end.t200 refl refl
  where
    w : World
    w = at n user network [] []

    by_timers : (a b : Bool) → user.end.t200 ≡ a → network.end.t200 ≡ b → MovesOn n w ⊎ Settles w
    by_timers true b on other = inl (record {
      move = user_move Expire200;
      is = rw on refl;
      some =
          let f = d.sees.flow in
          let some = some_at (source user.end) (sink network.end) f.a on f.mine in
          let le = f.most in omega (arith, some, le);
      drains = expired n user network on d;
      preserved = expired_preserved n user network on d;
    })
    by_timers false true off on = inl (record {
      move = network_move Expire200;
      is = rw (off, on) refl;
      some =
          let f = d.sees.flow in
          let some = some_at (source network.end) (sink user.end) f.b on f.its in
          let le = f.most in omega (arith, some, le);
      drains = network_drains n Expire200 w (expired n network user on (drains_swapped n w d));
      preserved =
          network_preserved Expire200 w
          (expired_preserved n network user on (drains_swapped n w d));
    })
    by_timers false false off none =
        inr (record {
          is = rw (off, none) refl;
          still = record { to_user = refl; to_network = refl; user = off; network = none };
        })

-- ---- All its moves.

-- the world in which settling ends
pub record Ends (begun w : World) : Type 0 where
  pub n : ℕ
  pub drains : Drains n w
  pub runs_at_place : Settles w
  pub preserved : SameDropped begun w

none_on : (fuel : ℕ) (w : World) → Settles w → settling Whole fuel w ≡ []
none_on zero w s = refl
none_on (suc fuel) w s = rw s.is refl

stood : (fuel n : ℕ) (w : World) → Drains n w → Settles w
    → Ends w (run Whole (settling Whole fuel w) w)
stood fuel n w d runs_at_place =
    rw (none_on fuel w runs_at_place) (record {
      n = n;
      drains = d;
      runs_at_place = runs_at_place;
      preserved = record { user = refl; network = refl };
    })

moved_on : (fuel : ℕ) (w : World) (move : Move) → next_move Whole w ≡ Some move
    → SameDropped w (world_after w (happens Whole move w))
    → Ends (world_after w (happens Whole move w))
    (run Whole (settling Whole fuel (world_after w (happens Whole move w)))
    (world_after w (happens Whole move w)))
    → Ends w (run Whole (settling Whole (suc fuel) w) w)
moved_on fuel w move is same ends =
    rw is (record {
      n = ends.n;
      drains = ends.drains;
      runs_at_place = ends.runs_at_place;
      preserved = same_twice same ends.preserved;
    })

pub settles : (fuel n : ℕ) (w : World) → n ≤ fuel → Drains n w
    → Ends w (run Whole (settling Whole fuel w) w)
settles zero n w few d = elim (progress n w.user w.network w.to_user w.to_network d) [
  | inl on ↦ absurd (let some = on.some in omega (arith, few, some))
  | inr runs_at_place ↦ stood zero n w d runs_at_place
]
settles (suc fuel) n w few d = elim (progress n w.user w.network w.to_user w.to_network d) [
  | inl on ↦ moved_on fuel w on.move on.is on.preserved
      (settles fuel (n - 1) (world_after w (happens Whole on.move w)) (omega (arith, few))
      on.drains)
  | inr runs_at_place ↦ stood (suc fuel) n w d runs_at_place
]

-- each move reduces the remaining work, which bounds their number
pub few_moves : (fuel n : ℕ) (w : World) → Drains n w → length (settling Whole fuel w) ≤ n
few_moves zero n w d = omega arith
few_moves (suc fuel) n w d = elim (progress n w.user w.network w.to_user w.to_network d) [
  | inl on ↦
      let rest = few_moves fuel (n - 1) (world_after w (happens Whole on.move w)) on.drains in
      let some = on.some in
      rw on.is (omega (arith, rest, some))
  | inr runs_at_place ↦ rw runs_at_place.is (omega arith)
]

-- ---- If no move is possible, no message is left.

none_unsent : (k next given : ℕ) (m : StateVariables) → 1 ≤ k → m.vs ≡ m.va → m.peer_busy ≡ false
    → (may_send Whole k m && nat_lt next given) ≡ false → given ≤ next
unfolding may_send steps
none_unsent k next given m some same free sent =
    let room : nat_lt (m.vs - m.va) k ≡ true = grind (arith, nat_tests, some, same) in
    let none : nat_lt next given ≡ false = rw (free, room) at sent in
    grind (arith, nat_tests, none)

-- a side has no unsent or unacknowledged message
side_done : (x y : End) (a : ℕ) → Stream (source x) (sink y) [] [] a → x.t200 ≡ false
    → IsSettledEnd x → (length x.given ≤ x.next) × (x.window.vs ≡ x.window.va)
unfolding begin
side_done x y a s off ends_settled = by_stage s.stage s.so
  where
    by_stage : (stage : Stage) → IsAt stage (source x) (sink y) [] []
        → (length x.given ≤ x.next) × (x.window.vs ≡ x.window.va)
    by_stage Clean c =
        let same : x.window.vs ≡ x.window.va = c.timed off in
        let sent = ends_settled.closed.sent in
        let some = ends_settled.some in (
          none_unsent x.parameters.k x.next (length x.given) x.window some same c.free
              (rw (c.in_7) at sent),
          same,
        )
    by_stage Waiting w = let on = w.1 in cc
    by_stage Polling w = absurd (omega (arith, w.1))
    by_stage Answered w = absurd (omega (arith, w.1))

entered : {n : ℕ} {w : World} (d : Drains n w) → is_7_or_8 w.user.end.state ≡ true
    → Mid (party d.holds.user_base w.user) (party d.holds.network_base w.network)
    (kinds w.to_network) (kinds w.to_user)
entered {w = w} d opened =
    enter (party d.holds.user_base w.user) (party d.holds.network_base w.network)
    (kinds w.to_network) (kinds w.to_user) opened d.holds.both

user_empty : (n : ℕ) (w : World) → Drains n w → IsStill w → AreSettled w.user.history
    → left_of w.user ≡ 0
user_empty n w d runs_at_place settled =
    let f = d.sees.flow in
    let num : IsNumbering (party d.holds.user_base w.user).sends =
    numbering (entered d (mine_open f)) in
    let s : Stream (source w.user.end) (sink w.network.end) [] [] f.a =
    subst (λ l. Stream (source w.user.end) (sink w.network.end) (kinds l) [] f.a)
    runs_at_place.to_network (subst
    (λ l. Stream (source w.user.end) (sink w.network.end) (kinds w.to_network) (kinds l)
    f.a) runs_at_place.to_user f.mine) in
    let done = side_done w.user.end w.network.end f.a s runs_at_place.user d.ends_settled.user in
    let passed : w.user.history.passed ≡ w.user.end.first = d.holds.both.mine.passed in
    let first : w.user.end.first ≡ d.holds.user_base + w.user.end.window.va = num.first in
    let next : w.user.end.next ≡ d.holds.user_base + w.user.end.window.vs = num.next in
    left_settled w.user settled ∙ omega (arith, passed, first, next, done.0, done.1)

pub nothing_left : (begun w : World) → IsConsistentWorld Whole w → Ends begun w → left w ≡ 0
nothing_left begun w preserved e =
    let runs_at_place = e.runs_at_place.still in
    let user = user_empty e.n w e.drains runs_at_place preserved.user.settled in
    let network =
    user_empty e.n (swapped w) (drains_swapped e.n w e.drains)
    (record {
      to_user = runs_at_place.to_network;
      to_network = runs_at_place.to_user;
      user = runs_at_place.network;
      network = runs_at_place.user;
    })
    preserved.network.settled in
    omega (arith, user, network)

-- ---- The remaining work of a quiet line.

pub stream_begins : (x : Source) (y : Sink) → x.state ≡ MultipleFrameEstablished → x.va ≤ y.vr
    → y.vr ≤ x.vs → (x.t200 ≡ false → (x.vs ≡ x.va) × (x.busy ≡ false))
    → Stream x y [] [] (3 * (x.unsent + (x.vs - x.va)) + 4)
stream_begins x y is low high timed = by_timer x.t200 refl
  where
    same_in_transit : (rejecting : Bool) → y.vr ≡ x.vs → IsInTransit rejecting y.vr x.vs []
    same_in_transit false same = same
    same_in_transit true same = same

    by_fresh : (rejecting : Bool)
        → 3 * x.unsent + 2 * (x.vs - y.vr) + fresh rejecting + 3 ≤ 3 * (x.unsent + (x.vs - x.va))
        + 4
    by_fresh true = omega (arith, low, high)
    by_fresh false = omega (arith, low, high)

    by_timer : (on : Bool) → x.t200 ≡ on → Stream x y [] [] (3 * (x.unsent + (x.vs - x.va)) + 4)
    by_timer true on = record { stage = Waiting; so = (is, on); most = by_fresh y.rejecting }
    by_timer false off =
        let t = timed off in
        let same : y.vr ≡ x.vs = omega (arith, low, high, t.0) in
        record {
          stage = Clean;
          so = record {
            in_7 = is;
            free = t.1;
            arriving = same_in_transit y.rejecting same;
            wanted = refl;
            timed = λ _. t.0;
            stopped = λ on. cc;
          };
          most = omega (arith, same);
        }

pub in_7 : (e : End) → e.state ≡ MultipleFrameEstablished
    → IsTimedIn e.state e.t200 e.window.vs e.window.va e.window.peer_busy → e.t200 ≡ false
    → (e.window.vs ≡ e.window.va) × (e.window.peer_busy ≡ false)
in_7 e is timed =
    let t : IsTimedIn MultipleFrameEstablished e.t200 e.window.vs e.window.va e.window.peer_busy =
    rw is at timed in
    t

-- the messages of a side that are left
pub side_left : (s : Station) (base : ℕ) → IsNumbering (party base s).sends
    → s.history.passed ≡ s.end.first → AreSettled s.history
    → left_of s ≡ (length s.end.given - s.end.next) + (s.end.window.vs - s.end.window.va)
side_left s base num passed settled =
    let first : s.end.first ≡ base + s.end.window.va = num.first in
    let next : s.end.next ≡ base + s.end.window.vs = num.next in
    let ordered : s.end.window.va ≤ s.end.window.vs = num.ordered in
    let within : s.end.next ≤ length s.end.given = num.within in
    left_settled s settled ∙ omega (arith, passed, first, next, ordered, within)

-- two sides in state 7, with an empty line
module _ (user network : Station)
    (i : IsInvariant (record { user = user; network = network; to_user = []; to_network = [] }))
    (ends_settled : AreSettledEnds
    (record { user = user; network = network; to_user = []; to_network = [] }))
    (user_settled : AreSettled user.history) (network_settled : AreSettled network.history)
    (user_in_7 : user.end.state ≡ MultipleFrameEstablished)
    (network_in_7 : network.end.state ≡ MultipleFrameEstablished)
    (user_free : user.end.window.own_busy ≡ false)
    (network_free : network.end.window.own_busy ≡ false) where
  abbrev line_empty : World
  line_empty = record { user = user; network = network; to_user = []; to_network = [] }

  empty_drains : Drains (most_moves line_empty) line_empty
  empty_drains =
      let user_open : is_7_or_8 user.end.state ≡ true = rw user_in_7 refl in
      let network_open : is_7_or_8 network.end.state ≡ true = rw network_in_7 refl in
      let x = party i.user_base user in
      let y = party i.network_base network in
      let mine : Mid x y [] [] = enter x y [] [] user_open i.both in
      let its : Mid y x [] [] =
      enter y x [] [] network_open (record { mine = i.both.its; its = i.both.mine }) in
      let between = between_open {x = x} {y = y} {out = []} {back = []} network_open mine in
      let between_its = between_open {x = y} {y = x} {out = []} {back = []} user_open its in
      let left_user = side_left user i.user_base (numbering mine) i.both.mine.passed user_settled in
      let left_network =
      side_left network i.network_base (numbering its) i.both.its.passed network_settled in
      record {
        holds = i;
        ends_settled = ends_settled;
        sees = record {
          flow = record {
            a =
                3 * ((length user.end.given - user.end.next)
                + (user.end.window.vs - user.end.window.va)) + 4;
            b =
                3 * ((length network.end.given - network.end.next)
                + (network.end.window.vs - network.end.window.va)) + 4;
            mine =
                stream_begins (source user.end) (sink network.end) user_in_7 between.0 between.1
                (in_7 user.end user_in_7 ends_settled.user.timed);
            its =
                stream_begins (source network.end) (sink user.end) network_in_7 between_its.0
                between_its.1 (in_7 network.end network_in_7 ends_settled.network.timed);
            most = omega (arith, left_user, left_network);
          };
          idle = user_free;
          its_idle = network_free;
          proceeding = tt;
          arriving = tt;
        };
      }

abbrev with_lines : World → List Flight → List Flight → World
with_lines w to_user to_network = record w { to_user = to_user; to_network = to_network }

pub quiet_drains : (w : World) → IsInvariant w → IsConsistentWorld Whole w → AreSettledEnds w
    → IsQuiet w → Drains (most_moves w) w
quiet_drains w i preserved ends_settled q =
    let F : World → Type 0 = λ v. Drains (most_moves v) v in
    let same : with_lines w [] [] ≡ w =
    ap (λ l. with_lines w l []) (sym q.to_user)
    ∙ ap (λ l. with_lines w w.to_user l) (sym q.to_network) in
    subst F same (empty_drains w.user w.network (subst IsInvariant (sym same) i)
    (subst AreSettledEnds (sym same) ends_settled) preserved.user.settled
    preserved.network.settled q.user q.network q.user_free q.network_free)

-- ---- The theorem, on whole numbers.

pub or_second : (a b : Bool) → b ≡ false → (a || b) ≡ true → a ≡ true
or_second true b absent either = refl
or_second false b absent either = cc

pub side_served : (before after : Station) → AreSettled after.history → left_of after ≡ 0
    → after.history.dropped ≡ before.history.dropped → IsServed before after
side_served before after settled none same = record {
  dropped = same;
  acknowledged = λ place there not_dropped.
      let left : left_of after ≡ length after.end.given - after.history.passed =
      left_settled after settled in
      let passed : nat_lt place after.history.passed ≡ true =
      all_passed place (length after.end.given) after.history.passed there
      (omega (arith, left, none)) in
      or_second (is_one_of after.history.acked place) (is_one_of after.history.dropped place)
      (ap (λ l. is_one_of l place) same ∙ not_dropped) (settled.settled place ∙ passed);
}
  where
    all_passed : (place given passed : ℕ) → place < given → given ≤ passed
        → nat_lt place passed ≡ true
    all_passed place given passed there all = grind (arith, nat_tests, there, all)

pub quiet_line_drains : (w : World) → IsInvariant w → IsConsistentWorld Whole w → AreSettledEnds w
    → IsQuiet w → IsDrained Whole w
quiet_line_drains w i preserved ends_settled q =
    let drains = quiet_drains w i preserved ends_settled q in
    let ends = settles (bound w) (most_moves w) w (omega arith) drains in
    let after = run Whole (settling Whole (bound w) w) w in
    let preserved_after = run_consistent Whole (settling Whole (bound w) w) w preserved in
    let none = nothing_left w after preserved_after ends in
    record {
      few = few_moves (bound w) (most_moves w) w drains;
      drained = record {
        rests = ends.runs_at_place.is;
        empty = none;
        user =
            side_served w.user after.user preserved_after.user.settled (omega (arith, none))
            ends.preserved.user;
        network =
            side_served w.network after.network preserved_after.network.settled
            (omega (arith, none)) ends.preserved.network;
        safe = safe_by_invariant after ends.drains.holds;
      };
    }
