-- The own moves of an open line, in any order: each reduces the remaining work.
use Rattle.std.proofs.Common.{◌≡◌, ◌⊎◌, inl, inr, ℕ, ◌-◌, ◌≤◌, nat_lt, not, ◌||◌, Bool, true, false, List, [], ◌∷◌, Result, Ok, Err, is_ok, refl, sym, subst, ◌∙◌, arith}
use Rattle.lapd_frame.specs.declared.Side.{Side}
use Rattle.lapd_frame.specs.declared.Side.TheVariants as side
use Rattle.lapd_mod128.specs.Counting.{Whole}
use Rattle.lapd_link_definition.specs.declared.state.State.TheVariants.{MultipleFrameEstablished, TimerRecovery}
use Rattle.lapd_link_definition.specs.End.{End}
use Rattle.lapd_link_definition.specs.RunningTimers.{AreTimersOf, HasTimersOfState}
use Rattle.lapd_link_definition.specs.Table.{step}
use Rattle.lapd_link_definition.proofs.Sending.{both_true}
use Rattle.lapd_pair_laws.specs.Line.{Flight}
use Rattle.lapd_pair_laws.specs.Move.{PairEvent, Deliver, Expire200, Expire203, Move, Station, View, ViewStep, Refusal, acts, receives, delivers, takes, expires_200}
use Rattle.lapd_pair_laws.specs.World.{World, swapped, view_of, in_world, world_after, happens}
use Rattle.lapd_pair_laws.proofs.Drains.{Drains, drains_swapped, seen_delivered}
use Rattle.lapd_pair_laws.proofs.DrainsByT200.{seen_expired}
use Rattle.lapd_pair_laws.proofs.Flow.{Source, Sink, source, sink, Stage, Clean, Waiting, Polling, Answered, IsAt, Stream}
use Rattle.lapd_pair_laws.proofs.Settles.{IsStill, user_drains, some_at}
use Rattle.lapd_pair_laws.proofs.Stepping.{user_move, network_move}
use Rattle.lapd_pair_laws.proofs.Swaps.{network_alike}
use Rattle.lapd_recovery_laws.specs.Own.{are_apart, is_line_empty, is_due, IsOwn, Rests}
use Rattle.lapd_recovery_laws.specs.Timers.{HaveTimersOfStates}
use Rattle.lapd_recovery_laws.proofs.Lost.{at, UserLost}
use Rattle.lapd_recovery_laws.proofs.LostMoves.{lost_user_receives, lost_peer_receives}
use Rattle.lapd_recovery_laws.proofs.LostExpires.{BothLost, both_swapped, lost_user_expires, lost_peer_expires, both_lost_expires}

-- neither end is lost, one is, or both are; n bounds the remaining work
abbrev pub Draining : ℕ → World → Type 0
Draining n w =
    Drains n w ⊎ (UserLost n w ⊎ (UserLost n (swapped w) ⊎ BothLost n w))

pub draining_swapped : (n : ℕ) (w : World) → Draining n w
    → Draining n (swapped w)
draining_swapped n w (inl d) = inl (drains_swapped n w d)
draining_swapped n w (inr (inl l)) = inr (inr (inl l))
draining_swapped n w (inr (inr (inl l))) = inr (inl l)
draining_swapped n w (inr (inr (inr l))) = inr (inr (inr (both_swapped n w l)))

-- one own move
pub record Moves (n : ℕ) (w now : World) : Type 0 where
  pub some : 1 ≤ n
  pub draining : Draining (n - 1) now

lost_or_not : (n : ℕ) (w : World) → UserLost n w ⊎ Drains n w → Draining n w
lost_or_not n w (inl l) = inr (inl l)
lost_or_not n w (inr d) = inl d

-- the same of the sides exchanged
moves_swapped : (n : ℕ) (event : PairEvent) (w : World)
    → Moves n (swapped w)
    (world_after (swapped w) (happens Whole (user_move event) (swapped w)))
    → Moves n w (world_after w (happens Whole (network_move event) w))
moves_swapped n event w m =
    let now = world_after (swapped w) (happens Whole (user_move event) (swapped w)) in
    subst (λ v. Moves n w v) (sym (network_alike Whole event w))
    (record { some = m.some; draining = draining_swapped (n - 1) now m.draining })

-- ---- A frame is delivered.

-- the other side is lost
peer_receives : (n : ℕ) (x y : Station) (back : List Flight) (frame : Flight)
    (rest : List Flight) → UserLost n (at x y back (frame ∷ rest))
    → Moves n (at y x (frame ∷ rest) back)
    (world_after (at y x (frame ∷ rest) back)
    (happens Whole (user_move Deliver) (at y x (frame ∷ rest) back)))
peer_receives n x y back frame rest l =
    let w = at x y back (frame ∷ rest) in
    let now = world_after w (happens Whole (network_move Deliver) w) in
    let same : now ≡ swapped
    (world_after (swapped w) (happens Whole (user_move Deliver) (swapped w))) =
    network_alike Whole Deliver w in
    record {
      some = let two = l.two in omega (arith, two);
      draining =
          inr (inr (inl (subst (λ v. UserLost (n - 1) v) same
          (lost_peer_receives n x y back frame rest l))));
    }

user_receives : (n : ℕ) (x y : Station) (frame : Flight)
    (rest to_network : List Flight) → Draining n (at x y (frame ∷ rest) to_network)
    → Moves n (at x y (frame ∷ rest) to_network)
    (world_after (at x y (frame ∷ rest) to_network)
    (happens Whole (user_move Deliver) (at x y (frame ∷ rest) to_network)))
user_receives n x y frame rest to_network (inl d) = record {
  some = let le = d.sees.flow.most in omega (arith, le);
  draining = inl (user_drains n Deliver (at x y (frame ∷ rest) to_network) d
      (seen_delivered x y frame rest to_network n d.holds.user_base d.holds.network_base
      d.holds.both d.ends_settled.user d.sees));
}
user_receives n x y frame rest to_network (inr (inl l)) = record {
  some = let two = l.two in omega (arith, two);
  draining = inr (inl (lost_user_receives n x y frame rest to_network l));
}
user_receives n x y frame rest to_network (inr (inr (inl l))) =
    peer_receives n y x to_network frame rest l
user_receives n x y frame rest to_network (inr (inr (inr l))) = let none = l.to_user in cc

-- ---- T200 expires.

-- the other side is lost
peer_expires : (n : ℕ) (x y : Station) → UserLost n (at x y [] [])
    → y.end.t200 ≡ true
    → Moves n (at y x [] [])
    (world_after (at y x [] []) (happens Whole (user_move Expire200) (at y x [] [])))
peer_expires n x y l on =
    let w = at x y [] [] in
    let now = world_after w (happens Whole (network_move Expire200) w) in
    let then =
    swapped (world_after (swapped w) (happens Whole (user_move Expire200) (swapped w))) in
    let same : now ≡ then = network_alike Whole Expire200 w in
    let after =
    subst (λ v. UserLost (n - 1) v ⊎ Drains (n - 1) v) same
    (lost_peer_expires n x y l on) in
    record {
      some = let two = l.two in omega (arith, two);
      draining = draining_swapped (n - 1) then (lost_or_not (n - 1) then after);
    }

-- an end in state 8 has a retry left
abbrev pub MayRetry : End → Type 0
MayRetry e = e.state ≡ TimerRecovery → nat_lt e.rc e.parameters.n200 ≡ true

user_expires : (n : ℕ) (x y : Station) → Draining n (at x y [] [])
    → x.end.t200 ≡ true → MayRetry x.end
    → Moves n (at x y [] [])
    (world_after (at x y [] []) (happens Whole (user_move Expire200) (at x y [] [])))
user_expires n x y (inl d) on may = record {
  some =
      let le = d.sees.flow.most in
      let some = some_at (source x.end) (sink y.end) d.sees.flow.a on d.sees.flow.mine in
      omega (arith, le, some);
  draining = inl (user_drains n Expire200 (at x y [] []) d (seen_expired x y n on d.sees));
}
user_expires n x y (inr (inl l)) on may = record {
  some = let two = l.two in omega (arith, two);
  draining = inl (lost_user_expires n x y l on (may l.in_8));
}
user_expires n x y (inr (inr (inl l))) on may = peer_expires n y x l on
user_expires n x y (inr (inr (inr l))) on may =
    let now = world_after (at x y [] []) (happens Whole (user_move Expire200) (at x y [] [])) in
    record {
      some = let le = l.most in omega (arith, le);
      draining =
          draining_swapped (n - 1) (swapped now)
          (lost_or_not (n - 1) (swapped now) (both_lost_expires n
          x y l on (may l.user_in_8)));
    }

-- ---- Any own move.

runs_in_8 : (e : End) → HasTimersOfState e → e.state ≡ TimerRecovery → e.t200 ≡ true
runs_in_8 e has is =
    let t : AreTimersOf TimerRecovery e.t200 e.t203 (e.window.vs ≡ e.window.va) =
    subst (λ s. AreTimersOf s e.t200 e.t203 (e.window.vs ≡ e.window.va)) is has in
    t.0

-- on an empty line an end that is not lost is in state 7
pub in_state_7 : (x : Source) (y : Sink) (a : ℕ) → Stream x y [] [] a
    → x.state ≡ MultipleFrameEstablished
in_state_7 x y a s = by_stage s.stage s.so
  where
    by_stage : (stage : Stage) → IsAt stage x y [] [] → x.state ≡ MultipleFrameEstablished
    by_stage Clean c = c.in_7
    by_stage Waiting w = w.0
    by_stage Polling w = absurd (omega (arith, w.1))
    by_stage Answered w = absurd (omega (arith, w.1))

neither_on : (a b : Bool) → not (a || b) ≡ true → (a ≡ false) × (b ≡ false)
neither_on false false is = (refl, refl)
neither_on true b is = cc
neither_on false true is = cc

-- T203 is not due: if T200 runs nowhere, both ends are in state 7
together : (n : ℕ) (x y : Station) → Draining n (at x y [] [])
    → HaveTimersOfStates (at x y [] []) → x.end.t200 ≡ false → y.end.t200 ≡ false
    → (x.end.state ≡ MultipleFrameEstablished) × (y.end.state ≡ MultipleFrameEstablished)
together n x y (inl d) have off none = (
  in_state_7 (source x.end) (sink y.end) d.sees.flow.a d.sees.flow.mine,
  in_state_7 (source y.end) (sink x.end) d.sees.flow.b d.sees.flow.its,
)
together n x y (inr (inl l)) have off none = let on = runs_in_8 x.end have.user l.in_8 in cc
together n x y (inr (inr (inl l))) have off none =
    let on = runs_in_8 y.end have.network l.in_8 in cc
together n x y (inr (inr (inr l))) have off none =
    let on = runs_in_8 x.end have.user l.user_in_8 in cc

not_apart : (n : ℕ) (x y : Station) → Draining n (at x y [] [])
    → HaveTimersOfStates (at x y [] []) → is_due Expire203 (at x y [] []) ≡ true → ⊥
not_apart n x y d have due =
    let both = both_true (not (x.end.t200 || y.end.t200)) (are_apart (at x y [] [])) due in
    let off = neither_on x.end.t200 y.end.t200 both.0 in
    let in_7 = together n x y d have off.0 off.1 in
    let apart : are_apart (at x y [] []) ≡ true = both.1 in
    let impossible : are_apart (at x y [] []) ≡ false = rw (in_7.0, in_7.1) refl in
    cc

pub ok_in_world : (s : Side) (w : World) (o : Result ViewStep Refusal)
    → is_ok (in_world s w o) ≡ is_ok o
ok_in_world s w (Ok acted) = refl
ok_in_world s w (Err refusal) = refl

-- a delivery needs a frame, and T200 expires only if it runs
pub none_there : (x y : Station) (to_network : List Flight)
    → is_ok (happens Whole (user_move Deliver) (at x y [] to_network)) ≡ false
unfolding happens acts delivers
none_there x y to_network = refl

pub none_there_too : (x y : Station) (to_user : List Flight)
    → is_ok (happens Whole (network_move Deliver) (at x y to_user [])) ≡ false
unfolding happens acts delivers
none_there_too x y to_user = refl

only_if_on : (s : Side) (v : View) → is_ok (acts Whole s Expire200 v) ≡ true
    → v.station.end.t200 ≡ true
unfolding acts expires_200
only_if_on s v ok = by_timer v.station.end.t200 refl
  where
    by_timer : (b : Bool) → v.station.end.t200 ≡ b → v.station.end.t200 ≡ true
    by_timer true on = on
    by_timer false off = let impossible : false ≡ true = rw off at ok in cc

pub runs_if_expires : (s : Side) (w : World)
    → is_ok (happens Whole (record { side = s; event = Expire200 }) w) ≡ true
    → (view_of s w).station.end.t200 ≡ true
unfolding happens
runs_if_expires s w ok =
    only_if_on s (view_of s w) (sym (ok_in_world s w (acts Whole s Expire200 (view_of s w))) ∙ ok)

module _ (n : ℕ) (x y : Station) where
  abbrev After : Side → PairEvent → List Flight → List Flight → Type 0
  After s event to_user to_network =
      Moves n (at x y to_user to_network)
      (world_after (at x y to_user to_network)
      (happens Whole (record { side = s; event = event }) (at x y to_user to_network)))

  user_own_delivers : (to_user to_network : List Flight)
      → Draining n (at x y to_user to_network)
      → is_ok (happens Whole (user_move Deliver) (at x y to_user to_network)) ≡ true
      → After side.User Deliver to_user to_network
  user_own_delivers [] to_network d ok = let impossible = none_there x y to_network in cc
  user_own_delivers (frame ∷ rest) to_network d ok =
      user_receives n x y frame rest to_network d

  network_own_delivers : (to_user to_network : List Flight)
      → Draining n (at x y to_user to_network)
      → is_ok (happens Whole (network_move Deliver) (at x y to_user to_network)) ≡ true
      → After side.Network Deliver to_user to_network
  network_own_delivers to_user [] d ok = let impossible = none_there_too x y to_user in cc
  network_own_delivers to_user (frame ∷ rest) d ok =
      moves_swapped n Deliver (at x y to_user (frame ∷ rest)) (user_receives n
      y x frame rest to_user (draining_swapped n (at x y to_user (frame ∷ rest)) d))

  own_expires : (s : Side) (to_user to_network : List Flight)
      → Draining n (at x y to_user to_network)
      → MayRetry (view_of s (at x y to_user to_network)).station.end
      → is_line_empty (at x y to_user to_network) ≡ true
      → is_ok (happens Whole (record { side = s; event = Expire200 }) (at x y to_user to_network))
      ≡ true → After s Expire200 to_user to_network
  own_expires side.User [] [] d may empty ok =
      user_expires n x y d (runs_if_expires side.User (at x y [] []) ok) may
  own_expires side.Network [] [] d may empty ok =
      moves_swapped n Expire200 (at x y [] []) (user_expires n
      y x (draining_swapped n (at x y [] []) d)
      (runs_if_expires side.Network (at x y [] []) ok) may)
  own_expires s (frame ∷ rest) to_network d may empty ok = cc
  own_expires s [] (frame ∷ rest) d may empty ok = cc

  own_never : (s : Side) (to_user to_network : List Flight)
      → Draining n (at x y to_user to_network) → HaveTimersOfStates (at x y to_user to_network)
      → is_due Expire203 (at x y to_user to_network) ≡ true → After s Expire203 to_user to_network
  own_never s [] [] d have due = absurd (not_apart n x y d have due)
  own_never s (frame ∷ rest) to_network d have due = cc
  own_never s [] (frame ∷ rest) d have due = cc

  own_event : (s : Side) (event : PairEvent) (to_user to_network : List Flight)
      → Draining n (at x y to_user to_network)
      → (event ≡ Expire200 → MayRetry (view_of s (at x y to_user to_network)).station.end)
      → HaveTimersOfStates (at x y to_user to_network)
      → is_due event (at x y to_user to_network) ≡ true
      → is_ok (happens Whole (record { side = s; event = event }) (at x y to_user to_network))
      ≡ true → After s event to_user to_network
  own_event side.User Deliver to_user to_network d may have due ok =
      user_own_delivers to_user to_network d ok
  own_event side.Network Deliver to_user to_network d may have due ok =
      network_own_delivers to_user to_network d ok
  own_event s Expire200 to_user to_network d may have due ok =
      own_expires s to_user to_network d (may refl) due ok
  own_event s Expire203 to_user to_network d may have due ok =
      own_never s to_user to_network d have due
  own_event s event to_user to_network d may have due ok = cc

pub own_moves_on : (n : ℕ) (move : Move) (w : World) → Draining n w
    → (move.event ≡ Expire200 → MayRetry (view_of move.side w).station.end)
    → HaveTimersOfStates w → IsOwn Whole move w
    → Moves n w (world_after w (happens Whole move w))
own_moves_on n move w d may have own =
    own_event n w.user w.network move.side move.event w.to_user w.to_network d may have own.due
    own.admitted

-- ---- Where no own move is possible.

delivers_to_user : (x y : Station) (frame : Flight) (rest to_network : List Flight)
    → is_ok (happens Whole (user_move Deliver) (at x y (frame ∷ rest) to_network)) ≡ true
unfolding happens acts delivers receives step
delivers_to_user x y frame rest to_network = refl

delivers_to_network : (x y : Station) (to_user : List Flight) (frame : Flight) (rest : List Flight)
    → is_ok (happens Whole (network_move Deliver) (at x y to_user (frame ∷ rest))) ≡ true
unfolding happens acts delivers receives step
delivers_to_network x y to_user frame rest = refl

expires_at_user : (x y : Station) → x.end.t200 ≡ true
    → is_ok (happens Whole (user_move Expire200) (at x y [] [])) ≡ true
unfolding happens acts takes expires_200 step
expires_at_user x y on = rw on refl

expires_at_network : (x y : Station) → y.end.t200 ≡ true
    → is_ok (happens Whole (network_move Expire200) (at x y [] [])) ≡ true
unfolding happens acts takes expires_200 step
expires_at_network x y on = rw on refl

pub rests_still : (x y : Station) (to_user to_network : List Flight)
    → Rests Whole (at x y to_user to_network) → IsStill (at x y to_user to_network)
rests_still x y (frame ∷ rest) to_network rests =
    absurd (rests (user_move Deliver)
    (record { due = refl; admitted = delivers_to_user x y frame rest to_network }))
rests_still x y [] (frame ∷ rest) rests =
    absurd (rests (network_move Deliver)
    (record { due = refl; admitted = delivers_to_network x y [] frame rest }))
rests_still x y [] [] rests = record {
  to_user = refl;
  to_network = refl;
  user =
      by_timer x.end.t200 (λ on. rests (user_move Expire200)
      (record { due = refl; admitted = expires_at_user x y on }));
  network =
      by_timer y.end.t200 (λ on. rests (network_move Expire200)
      (record { due = refl; admitted = expires_at_network x y on }));
}
  where
    by_timer : (b : Bool) → (b ≡ true → ⊥) → b ≡ false
    by_timer true impossible = absurd (impossible refl)
    by_timer false impossible = refl

-- then no end is lost
pub rests_drained : (n : ℕ) (w : World) → Draining n w → HaveTimersOfStates w
    → IsStill w → Drains n w
rests_drained n w (inl d) have still = d
rests_drained n w (inr (inl l)) have still =
    let on = runs_in_8 w.user.end have.user l.in_8 in let off = still.user in cc
rests_drained n w (inr (inr (inl l))) have still =
    let on = runs_in_8 w.network.end have.network l.in_8 in let off = still.network in cc
rests_drained n w (inr (inr (inr l))) have still =
    let on = runs_in_8 w.user.end have.user l.user_in_8 in let off = still.user in cc
