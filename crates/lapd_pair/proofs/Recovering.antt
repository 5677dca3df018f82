-- A pair recovers by the own moves of the worlds that it represents.
use Rattle.std.proofs.Common.{◌≡◌, ◌⊎◌, inl, inr, ℕ, zero, suc, ◌+◌, ◌*◌, ◌<◌, ◌≤◌, ◌&&◌, Bool, true, false, if◌then◌else◌, List, [], ◌∷◌, ◌++◌, map, length, ◌-◌, is_none, is_ok, Option, Some, None, refl, sym, ap, subst, ◌∙◌, arith}
use Rattle.std.proofs.Math.Bool.{Bool-set}
use Rattle.std.proofs.Math.Bridge.{le_prop}
use Rattle.std.proofs.Math.Logic.{∥∥₁_map, ∥∥₁_elim}
use Rattle.std.proofs.lemmas.Bool.Decides.{nat_tests}
use Rattle.std.proofs.lemmas.List.{length-map}
use Rattle.arrayvec.specs.ArrayVec.{ArrayVec}
use Rattle.lapd_frame.specs.Frame.{spelling}
use Rattle.lapd_frame.specs.declared.Side.{Side}
use Rattle.lapd_frame.specs.declared.Side.TheVariants as side
use Rattle.lapd_mod128.specs.Counting.{Reading, Tagged}
use Rattle.lapd_link_definition.specs.End.{End, begin}
use Rattle.lapd_link_definition.specs.EndOfStep.{is_7_or_8}
use Rattle.lapd_link_definition.specs.Table.{step}
use Rattle.lapd_pair_laws.specs.Line.{Flight}
use Rattle.lapd_pair_laws.specs.Move.{PairEvent, Give, Establish, Release, Deliver, Lose, Expire200, Expire203, Busy, UnitData, Restart, Move, Station, receives, takes, delivers, expires_200, expires_203, acts}
use Rattle.lapd_pair_laws.specs.World.{World, new_world, world_after, happens, run, left}
use Rattle.lapd_pair_laws.specs.Settle.{next_move}
use Rattle.lapd_pair_laws.proofs.Stepping.{user_move, network_move, next_to_network, next_to_user, next_of_user, next_of_network, next_none}
use Rattle.lapd_recovery_laws.specs.Agreed.{IsLevel, AreLevel, AreReleased, AreAgreed}
use Rattle.lapd_recovery_laws.specs.Deliveries.{frames}
use Rattle.lapd_recovery_laws.specs.EveryWorld.{IsFreeWorld, most_moves_from}
use Rattle.lapd_recovery_laws.specs.Own.{are_apart, is_due, IsOwn, AreOwn, Rests, tried, first_own, recovering}
use Rattle.lapd_recovery_laws.proofs.DespiteLosses.{every_world_comes_back}
use Rattle.lapd_pair.specs.declared.line.Line.{Line}
use Rattle.lapd_pair.specs.declared.pair.Pair.{Pair}
use Rattle.lapd_pair.specs.declared.pair_fault.PairFault.{PairFault}
use Rattle.lapd_pair.specs.declared.settled.Settled.{Settled}
use Rattle.lapd_pair.specs.Line.{IsOn, octets_on, fields_of}
use Rattle.lapd_pair.specs.Moves.{IsRefusedAs}
use Rattle.lapd_pair.specs.Pair.{IsReached}
use Rattle.lapd_pair.specs.Recovers.{greater, most_retries, recovery_bound, recovered, HasRecovered, Recovers, HasStoppedRecovering, HaveComeBack}
use Rattle.lapd_pair.specs.Runs.{PairRepresents}
use Rattle.lapd_pair.proofs.Repeated.{AreMade, HasMadeAll, no_move}
use Rattle.lapd_pair.proofs.Settling.{bound_is, no_frames, left_again, refused_for_memory}

-- ---- The next own move, by the frames in transit, the timers and the states.

abbrev at : Station → Station → List Flight → List Flight → World
at user network to_user to_network =
    record { user = user; network = network; to_user = to_user; to_network = to_network }

module _ (r : Reading) (user network : Station) where
  to_network_first : (to_user : List Flight) (frame : Flight) (rest : List Flight)
      → first_own r tried (at user network to_user (frame ∷ rest)) ≡ Some (network_move Deliver)
  unfolding happens acts delivers receives step
  to_network_first to_user frame rest = refl

  to_user_first : (frame : Flight) (rest : List Flight)
      → first_own r tried (at user network (frame ∷ rest) []) ≡ Some (user_move Deliver)
  unfolding happens acts delivers receives step
  to_user_first frame rest = refl

  t200_of_user_first : user.end.t200 ≡ true
      → first_own r tried (at user network [] []) ≡ Some (user_move Expire200)
  unfolding happens acts delivers takes expires_200 step
  t200_of_user_first on = rw on refl

  t200_of_network_first : user.end.t200 ≡ false → network.end.t200 ≡ true
      → first_own r tried (at user network [] []) ≡ Some (network_move Expire200)
  unfolding happens acts delivers takes expires_200 step
  t200_of_network_first off on = rw (off, on) refl

  t203_of_user_first : user.end.t200 ≡ false → network.end.t200 ≡ false
      → are_apart (at user network [] []) ≡ true → user.end.t203 ≡ true
      → first_own r tried (at user network [] []) ≡ Some (user_move Expire203)
  unfolding happens acts delivers takes expires_200 expires_203 step
  t203_of_user_first off none apart on = rw (off, none, apart, on) refl

  t203_of_network_first : user.end.t200 ≡ false → network.end.t200 ≡ false
      → are_apart (at user network [] []) ≡ true → user.end.t203 ≡ false → network.end.t203 ≡ true
      → first_own r tried (at user network [] []) ≡ Some (network_move Expire203)
  unfolding happens acts delivers takes expires_200 expires_203 step
  t203_of_network_first off none apart stopped on = rw (off, none, apart, stopped, on) refl

  t203_nowhere_none : user.end.t200 ≡ false → network.end.t200 ≡ false
      → are_apart (at user network [] []) ≡ true → user.end.t203 ≡ false → network.end.t203 ≡ false
      → first_own r tried (at user network [] []) ≡ None
  unfolding happens acts delivers takes expires_200 expires_203 step
  t203_nowhere_none off none apart stopped too = rw (off, none, apart, stopped, too) refl

  -- the move that `settle` makes is an own move
  as_settled : (to_user to_network : List Flight) (m : Move)
      → next_move r (at user network to_user to_network) ≡ Some m
      → first_own r tried (at user network to_user to_network) ≡ Some m
  as_settled to_user (frame ∷ rest) m is =
      to_network_first to_user frame rest ∙ sym (next_to_network r user network to_user frame rest)
      ∙ is
  as_settled (frame ∷ rest) [] m is =
      to_user_first frame rest ∙ sym (next_to_user r user network frame rest) ∙ is
  as_settled [] [] m is = by_timers user.end.t200 network.end.t200 refl refl
    where
      by_timers : (a b : Bool) → user.end.t200 ≡ a → network.end.t200 ≡ b
          → first_own r tried (at user network [] []) ≡ Some m
      by_timers true b on its = t200_of_user_first on ∙ sym (next_of_user r user network on) ∙ is
      by_timers false true off on =
          t200_of_network_first off on ∙ sym (next_of_network r user network off on) ∙ is
      by_timers false false off none = let nothing = next_none r user network off none in cc

record IsStill (w : World) : Type 0 where
  to_user : w.to_user ≡ []
  to_network : w.to_network ≡ []
  user : w.user.end.t200 ≡ false
  network : w.network.end.t200 ≡ false

-- if `settle` makes no move, the line is empty and T200 does not run
still_by : (r : Reading) (user network : Station) (to_user to_network : List Flight)
    → next_move r (at user network to_user to_network) ≡ None
    → IsStill (at user network to_user to_network)
still_by r user network to_user (frame ∷ rest) none =
    let some = next_to_network r user network to_user frame rest in cc
still_by r user network (frame ∷ rest) [] none =
    let some = next_to_user r user network frame rest in cc
still_by r user network [] [] none = by_timers user.end.t200 network.end.t200 refl refl
  where
    by_timers : (a b : Bool) → user.end.t200 ≡ a → network.end.t200 ≡ b
        → IsStill (at user network [] [])
    by_timers true b on its = let some = next_of_user r user network on in cc
    by_timers false true off on = let some = next_of_network r user network off on in cc
    by_timers false false off too =
        record { to_user = refl; to_network = refl; user = off; network = too }

pub next_as_settled : (w : World) (m : Move) → Some m ≡ next_move Tagged w
    → Some m ≡ first_own Tagged tried w
next_as_settled w m is = sym (as_settled Tagged w.user w.network w.to_user w.to_network m (sym is))

-- then the next own move of ends apart is a T203, or none
module _ (w : World) (settled : no_move ≡ next_move Tagged w) where
  still : IsStill w
  still = still_by Tagged w.user w.network w.to_user w.to_network (sym settled)

  emptied : at w.user w.network [] [] ≡ w
  emptied =
      ap (λ l. at w.user w.network l []) (sym still.to_user)
      ∙ ap (λ l. at w.user w.network w.to_user l) (sym still.to_network)

  of_world : (o : Option Move) → first_own Tagged tried (at w.user w.network [] []) ≡ o
      → o ≡ first_own Tagged tried w
  of_world o is = sym (subst (λ v. first_own Tagged tried v ≡ o) emptied is)

  pub own_t203_of_user : are_apart w ≡ true → w.user.end.t203 ≡ true
      → Some (user_move Expire203) ≡ first_own Tagged tried w
  own_t203_of_user apart on =
      of_world (Some (user_move Expire203))
      (t203_of_user_first Tagged w.user w.network still.user still.network apart on)

  pub own_t203_of_network : are_apart w ≡ true → w.user.end.t203 ≡ false → w.network.end.t203 ≡ true
      → Some (network_move Expire203) ≡ first_own Tagged tried w
  own_t203_of_network apart off on =
      of_world (Some (network_move Expire203))
      (t203_of_network_first Tagged w.user w.network still.user still.network apart off on)

  pub no_own_t203 : are_apart w ≡ true → w.user.end.t203 ≡ false → w.network.end.t203 ≡ false
      → no_move ≡ first_own Tagged tried w
  no_own_t203 apart off too =
      of_world no_move
      (t203_nowhere_none Tagged w.user w.network still.user still.network apart off too)

-- ---- The bound on the number of moves.

pub frames_on : (from : Side) (line : Line) (now : List (ArrayVec ℕ)) (frames : List Flight)
    → map (λ frame. frame.items) now ≡ octets_on line → IsOn from line frames
    → length now ≡ length frames
frames_on from line now frames is on =
    sym (length-map now (λ frame. frame.items)) ∙ ap length (is ∙ on.octets)
    ∙ length-map frames (λ frame. spelling from (fields_of frame))

-- from the number of waiting messages at each end
pub left_waits : (p : Pair) (w : World) (user network : ℕ) → PairRepresents p w
    → user ≡ length w.user.end.given - w.user.end.first
    → network ≡ length w.network.end.given - w.network.end.first → user + network ≡ left w
left_waits p w user network s user_waits network_waits =
    let all = bound_is p w user network s user_waits network_waits in omega (arith, all)

-- ---- One more move, and none.

record IsSome (o : Option Move) : Type 0 where
  move : Move
  is : o ≡ Some move

none_or_some : (o : Option Move) → (o ≡ None) ⊎ IsSome o
none_or_some None = inl refl
none_or_some (Some move) = inr (record { move = move; is = refl })

module _ (r : Reading) where
  abbrev then_ : Move → World → World
  then_ move w = world_after w (happens r move w)

  first_is : (n : ℕ) (w : World) (first : Move) → first_own r tried w ≡ Some first
      → recovering r (suc n) w ≡ first ∷ recovering r n (then_ first w)
  first_is n w first some = rw some refl

  stops : (n : ℕ) (w : World) → first_own r tried w ≡ None → recovering r n w ≡ []
  stops zero w none = refl
  stops (suc n) w none = rw none refl

  -- the first own move and the rest lead to the same next move as all of them
  behind : (n : ℕ) (w : World) (first : Move) (o : Option Move) → first_own r tried w ≡ Some first
      → first_own r tried (run r (recovering r (suc n) w) w) ≡ o
      → first_own r tried (run r (recovering r n (then_ first w)) (then_ first w)) ≡ o
  behind n w first o some is =
      ap (λ l. first_own r tried (run r l w)) (sym (first_is n w first some)) ∙ is

  pub one_more : (n : ℕ) (w : World) (move : Move) → length (recovering r n w) ≡ n
      → first_own r tried (run r (recovering r n w) w) ≡ Some move
      → recovering r (suc n) w ≡ recovering r n w ++ move ∷ []
  one_more zero w move all is = first_is zero w move is
  one_more (suc n) w move all is = elim (none_or_some (first_own r tried w)) [
    | inl none ↦ absurd (let len = ap length (stops (suc n) w none) in omega (arith, len, all))
    | inr some ↦
        let l = ap length (first_is n w some.move some.is) in
        first_is (suc n) w some.move some.is
        ∙ ap (λ l. some.move ∷ l) (one_more n
        (then_ some.move w) move (omega (arith, l, all))
        (behind n w some.move (Some move) some.is is))
        ∙ ap (λ l. l ++ move ∷ []) (sym (first_is n w some.move some.is))
  ]

  pub no_more : (n m : ℕ) (w : World) → n ≤ m
      → first_own r tried (run r (recovering r n w) w) ≡ None → recovering r m w ≡ recovering r n w
  no_more zero m w le none = stops m w none
  no_more (suc n) zero w le none = absurd (omega (arith, le))
  no_more (suc n) (suc m) w le is = elim (none_or_some (first_own r tried w)) [
    | inl none ↦ stops (suc m) w none ∙ sym (stops (suc n) w none)
    | inr some ↦ first_is m w some.move some.is
        ∙ ap (λ l. some.move ∷ l) (no_more n
        m (then_ some.move w) (omega (arith, le)) (behind n w some.move None some.is is))
        ∙ sym (first_is n w some.move some.is)
  ]

  -- ---- They are own moves, and after fewer than the bound none is possible.

  both_are : (a b : Bool) → (a && b) ≡ true → (a ≡ true) × (b ≡ true)
  both_are true true both = (refl, refl)
  both_are true false both = cc
  both_are false b both = cc

  same_some : (a b : Move) → Some a ≡ Some b → a ≡ b
  same_some a b is = cc

  first_by : (first m : Move) (w : World) (b : Bool) (rest : Option Move)
      → (is_due first.event w && is_ok (happens r first w)) ≡ b → (rest ≡ Some m → IsOwn r m w)
      → (if b then Some first else rest) ≡ Some m → IsOwn r m w
  first_by first m w true rest here later is =
      let both = both_are _ _ here in
      subst (λ n. IsOwn r n w) (same_some first m is) (record { due = both.0; admitted = both.1 })
  first_by first m w false rest here later is = later is

  first_is_own : (moves : List Move) (w : World) (m : Move) → first_own r moves w ≡ Some m
      → IsOwn r m w
  first_is_own [] w m is = cc
  first_is_own (first ∷ moves) w m is =
      first_by first m w (is_due first.event w && is_ok (happens r first w)) (first_own r moves w)
      refl (λ later. first_is_own moves w m later) is

  are_own : (n : ℕ) (w : World) → AreOwn r (recovering r n w) w
  are_own zero w = tt
  are_own (suc n) w = elim (none_or_some (first_own r tried w)) [
    | inl none ↦ subst (λ l. AreOwn r l w) (sym (stops (suc n) w none)) tt
    | inr some ↦ subst (λ l. AreOwn r l w) (sym (first_is n w some.move some.is))
        (first_is_own tried w some.move some.is, are_own n (then_ some.move w))
  ]

  short_rests : (n : ℕ) (w : World) → length (recovering r n w) < n
      → first_own r tried (run r (recovering r n w) w) ≡ None
  short_rests zero w few = absurd (omega (arith, few))
  short_rests (suc n) w few = elim (none_or_some (first_own r tried w)) [
    | inl none ↦ subst (λ l. first_own r tried (run r l w) ≡ no_move) (sym (stops (suc n) w none))
        none
    | inr some ↦
        let l = ap length (first_is n w some.move some.is) in
        subst (λ l. first_own r tried (run r l w) ≡ no_move) (sym (first_is n w some.move some.is))
        (short_rests n (then_ some.move w) (omega (arith, l, few)))
  ]

  -- ---- No own move is possible, in any order.

  not_first : (b : Bool) (first : Move) (rest : Option Move)
      → (if b then Some first else rest) ≡ None → (b ≡ false) × (rest ≡ None)
  not_first true first rest is = cc
  not_first false first rest is = (refl, is)

  refused : (a b : Bool) → (a && b) ≡ false → a ≡ true → b ≡ true → ⊥
  refused true b off due ok = cc
  refused false b off due ok = cc

  abbrev tries : Move → World → Bool
  tries m w = is_due m.event w && is_ok (happens r m w)

  none_rests : (w : World) → first_own r tried w ≡ None → Rests r w
  none_rests w none move own =
      let first =
      not_first (tries (network_move Deliver) w) (network_move Deliver)
      (first_own r (user_move Deliver ∷ user_move Expire200 ∷ network_move Expire200
      ∷ user_move Expire203 ∷ network_move Expire203 ∷ []) w) none in
      let second =
      not_first (tries (user_move Deliver) w) (user_move Deliver)
      (first_own r (user_move Expire200 ∷ network_move Expire200 ∷ user_move Expire203
      ∷ network_move Expire203 ∷ []) w) first.1 in
      let third =
      not_first (tries (user_move Expire200) w) (user_move Expire200)
      (first_own r
      (network_move Expire200 ∷ user_move Expire203 ∷ network_move Expire203 ∷ []) w)
      second.1 in
      let fourth =
      not_first (tries (network_move Expire200) w) (network_move Expire200)
      (first_own r (user_move Expire203 ∷ network_move Expire203 ∷ []) w) third.1 in
      let fifth =
      not_first (tries (user_move Expire203) w) (user_move Expire203)
      (first_own r (network_move Expire203 ∷ []) w) fourth.1 in
      let sixth =
      not_first (tries (network_move Expire203) w) (network_move Expire203) no_move
      fifth.1 in
      by_move first.0 second.0 third.0 fourth.0 fifth.0 sixth.0 move.side move.event own
    where
      by_move : tries (network_move Deliver) w ≡ false → tries (user_move Deliver) w ≡ false
          → tries (user_move Expire200) w ≡ false → tries (network_move Expire200) w ≡ false
          → tries (user_move Expire203) w ≡ false → tries (network_move Expire203) w ≡ false
          → (s : Side) (event : PairEvent) → IsOwn r (record { side = s; event = event }) w → ⊥
      by_move a b c d e f side.Network Deliver own = refused _ _ a own.due own.admitted
      by_move a b c d e f side.User Deliver own = refused _ _ b own.due own.admitted
      by_move a b c d e f side.User Expire200 own = refused _ _ c own.due own.admitted
      by_move a b c d e f side.Network Expire200 own = refused _ _ d own.due own.admitted
      by_move a b c d e f side.User Expire203 own = refused _ _ e own.due own.admitted
      by_move a b c d e f side.Network Expire203 own = refused _ _ f own.due own.admitted
      by_move a b c d e f s (Give message) own = let due = own.due in cc
      by_move a b c d e f s Establish own = let due = own.due in cc
      by_move a b c d e f s Release own = let due = own.due in cc
      by_move a b c d e f s (Lose place) own = let due = own.due in cc
      by_move a b c d e f s (Busy on) own = let due = own.due in cc
      by_move a b c d e f s (UnitData octets) own = let due = own.due in cc
      by_move a b c d e f s Restart own = let due = own.due in cc

-- ---- The moves made.

pub none_recovered : (p : Pair) → AreMade (recovering Tagged) p 0 p
none_recovered p = record { representation = λ w s. s; counted = λ w s. refl }

pub as_recovered : (now : Pair) (done : Settled) (w : World)
    → HasMadeAll (first_own Tagged tried) (recovering Tagged) (recovery_bound w) now done w
    → HasRecovered now done w
as_recovered now done w all =
    record { representation = all.representation; moves = all.moves; rest = all.rest }

-- an allocation fails
pub own_stopped_at : (before now after : Pair) (n : ℕ) (m : Move) (why : PairFault)
    → AreMade (recovering Tagged) before n now
    → ((w : World) → PairRepresents now w → Some m ≡ first_own Tagged tried w)
    → ((w : World) → PairRepresents now w → IsRefusedAs why (happens Tagged m w))
    → ((w : World) → PairRepresents now w → PairRepresents after w) → (w : World)
    → PairRepresents before w → n < recovery_bound w → HasStoppedRecovering why after w
own_stopped_at before now after n m why made next refuses same w s few =
    let u = run Tagged (recovering Tagged n w) w in
    let su = made.representation w s in
    let own = first_is_own Tagged tried u m (sym (next u su)) in
    record {
      memory = refused_for_memory why (happens Tagged m u) (refuses u su) own.admitted;
      made = n;
      few = few;
      representation = same u su;
      move = m;
      next = sym (next u su);
      admitted = own.admitted;
    }

-- ---- All worlds that one pair represents agree on busy ends, and on agreement.

left_retries : (a b : ℕ) → a ≤ greater a b
left_retries a b = grind (arith, nat_tests)

right_retries : (a b : ℕ) → b ≤ greater a b
right_retries a b = grind (arith, nat_tests)

free_again : (p : Pair) (w v : World) → PairRepresents p w → PairRepresents p v
    → IsFreeWorld (most_retries w) w → IsFreeWorld (most_retries v) v
unfolding begin
free_again p w v s t a =
    let user_state : w.user.end.state ≡ v.user.end.state =
    s.user.link.state ∙ sym t.user.link.state in
    let network_state : w.network.end.state ≡ v.network.end.state =
    s.network.link.state ∙ sym t.network.link.state in
    record {
      user_free =
          λ up. ap (λ m. m.own_busy) (t.user.link.window ∙ sym s.user.link.window) ∙ a.user_free
          (ap is_7_or_8 user_state ∙ up);
      network_free =
          λ up. ap (λ m. m.own_busy) (t.network.link.window ∙ sym s.network.link.window) ∙
          a.network_free (ap is_7_or_8 network_state ∙ up);
      user_retries = left_retries v.user.end.parameters.n200 v.network.end.parameters.n200;
      network_retries = right_retries v.user.end.parameters.n200 v.network.end.parameters.n200;
    }

-- as many frames are in transit
line_again : (from : Side) (line : Line) (fs gs : List Flight) → IsOn from line fs
    → IsOn from line gs → length fs ≡ length gs
line_again from line fs gs on also =
    sym (ap length on.octets ∙ length-map fs (λ frame. spelling from (fields_of frame)))
    ∙ ap length also.octets ∙ length-map gs (λ frame. spelling from (fields_of frame))

frames_again : (p : Pair) (w v : World) → PairRepresents p w → PairRepresents p v
    → frames w ≡ frames v
frames_again p w v s t =
    let to_user = line_again side.Network p.to_user w.to_user v.to_user s.to_user t.to_user in
    let to_network =
    line_again side.User p.to_network w.to_network v.to_network s.to_network t.to_network in
    omega (arith, to_user, to_network)

retries_again : (p : Pair) (w v : World) → PairRepresents p w → PairRepresents p v
    → most_retries w ≡ most_retries v
unfolding begin
retries_again p w v s t =
    let user : w.user.end.parameters ≡ v.user.end.parameters =
    s.user.link.parameters ∙ sym t.user.link.parameters in
    let network : w.network.end.parameters ≡ v.network.end.parameters =
    s.network.link.parameters ∙ sym t.network.link.parameters in
    rw (user, network) refl

level_again : (x y x_too y_too : End) → x.state ≡ x_too.state → x.window ≡ x_too.window
    → y.window ≡ y_too.window → IsLevel x_too y_too → IsLevel x y
level_again x y x_too y_too state mine its l = record {
  established = state ∙ l.established;
  acknowledged = ap (λ m. m.va) mine ∙ l.acknowledged ∙ sym (ap (λ m. m.vs) mine);
  received = ap (λ m. m.vr) its ∙ l.received ∙ sym (ap (λ m. m.vs) mine);
}

agreed_again : (p : Pair) (w v : World) → PairRepresents p w → PairRepresents p v → AreAgreed v
    → AreAgreed w
unfolding begin
agreed_again p w v s t a = record {
  to_user = no_frames side.Network p.to_user v.to_user w.to_user a.to_user t.to_user s.to_user;
  to_network =
      no_frames side.User p.to_network v.to_network w.to_network a.to_network t.to_network
      s.to_network;
  empty = left_again p w v s t ∙ a.empty;
  user_stopped = s.user.link.t200 ∙ sym t.user.link.t200 ∙ a.user_stopped;
  network_stopped = s.network.link.t200 ∙ sym t.network.link.t200 ∙ a.network_stopped;
  ends = by_ends a.ends;
}
  where
    user_state : w.user.end.state ≡ v.user.end.state
    user_state = s.user.link.state ∙ sym t.user.link.state

    network_state : w.network.end.state ≡ v.network.end.state
    network_state = s.network.link.state ∙ sym t.network.link.state

    user_window : w.user.end.window ≡ v.user.end.window
    user_window = s.user.link.window ∙ sym t.user.link.window

    network_window : w.network.end.window ≡ v.network.end.window
    network_window = s.network.link.window ∙ sym t.network.link.window

    by_ends : AreReleased v.user.end v.network.end ⊎ AreLevel v.user.end v.network.end
        → AreReleased w.user.end w.network.end ⊎ AreLevel w.user.end w.network.end
    by_ends (inl released) =
        inl (record { mine = user_state ∙ released.mine; its = network_state ∙ released.its })
    by_ends (inr level) = inr (record {
      mine =
          level_again w.user.end w.network.end v.user.end v.network.end user_state user_window
          network_window level.mine;
      its =
          level_again w.network.end w.user.end v.network.end v.user.end network_state network_window
          user_window level.its;
    })

-- ---- From every world with no busy end.

module _ (old new : Pair) (done : Settled) (recovers : Recovers old new done)
    (some_retries : (w : World) → PairRepresents old w → 1 ≤ most_retries w) (w : World)
    (s : PairRepresents old w) (a : IsFreeWorld (most_retries w) w) where
  abbrev most : ℕ
  most = most_moves_from (most_retries w) w

  record Back : Type 0 where
    rest : done.rest ≡ true
    few : done.moves ≤ most
    agreed : AreAgreed (recovered w)

  back_by : IsReached old.user old.network old.to_user old.to_network → Back
  back_by x =
      let v = run Tagged x.moves (new_world x.user x.network) in
      let c =
      every_world_comes_back Tagged (most_retries v) (some_retries v x.represent) x.user
      x.network x.few_of_user x.few_of_network x.some_of_user x.some_of_network x.moves
      (free_again old w v s x.represent a) in
      let h = recovers w s in
      let i = recovers v x.represent in
      let own = are_own Tagged (recovery_bound v) v in
      let few = c.few (recovering Tagged (recovery_bound v) v) own in
      let none = short_rests Tagged (recovery_bound v) v (omega (arith, few)) in
      let moves = i.moves in
      let left_same = left_again old w v s x.represent in
      let retries = retries_again old w v s x.represent in
      let in_transit = frames_again old w v s x.represent in
      record {
        rest = i.rest ∙ ap is_none none;
        few = omega (arith, moves, few, left_same, retries, in_transit);
        agreed =
            agreed_again new (recovered w) (recovered v) h.representation i.representation
            (c.agreed (recovering Tagged (recovery_bound v) v) own
            (none_rests Tagged (recovered v) none));
      }

  pub come_back : HaveComeBack most done (recovered w)
  come_back = record {
    rest = ∥∥₁_elim old.reached (Bool-set _ _) (λ x. (back_by x).rest);
    few = ∥∥₁_elim old.reached le_prop (λ x. (back_by x).few);
    agreed = ∥∥₁_map old.reached (λ x. (back_by x).agreed);
  }
