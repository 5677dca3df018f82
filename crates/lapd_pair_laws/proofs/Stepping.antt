-- The settling moves, one after another.
use Rattle.std.proofs.Common.{◌≡◌, ◌⊎◌, inl, inr, ℕ, zero, suc, ◌≤◌, true, false, List, [], ◌∷◌, ◌++◌, length, Option, Some, None, refl, sym, ap, ◌∙◌, arith}
use Rattle.lapd_frame.specs.declared.Side.TheVariants as side
use Rattle.lapd_mod128.specs.Counting.{Reading}
use Rattle.lapd_link_definition.specs.Table.{step}
use Rattle.lapd_pair_laws.specs.Line.{Flight}
use Rattle.lapd_pair_laws.specs.Move.{PairEvent, Deliver, Expire200, Move, Station, receives, takes, delivers, expires_200, acts}
use Rattle.lapd_pair_laws.specs.World.{World, world_after, happens, run}
use Rattle.lapd_pair_laws.specs.Settle.{next_move, settling}

-- ---- The next move.

abbrev pub user_move : PairEvent → Move
user_move event = record { side = side.User; event = event }

abbrev pub network_move : PairEvent → Move
network_move event = record { side = side.Network; event = event }

module _ (r : Reading) (user network : Station) where
  abbrev at : List Flight → List Flight → World
  at to_user to_network =
      record { user = user; network = network; to_user = to_user; to_network = to_network }

  pub next_to_network : (to_user : List Flight) (frame : Flight) (rest : List Flight)
      → next_move r (at to_user (frame ∷ rest)) ≡ Some (network_move Deliver)
  unfolding happens acts delivers receives step
  next_to_network to_user frame rest = refl

  pub next_to_user : (frame : Flight) (rest : List Flight)
      → next_move r (at (frame ∷ rest) []) ≡ Some (user_move Deliver)
  unfolding happens acts delivers receives step
  next_to_user frame rest = refl

  pub next_of_user : user.end.t200 ≡ true → next_move r (at [] []) ≡ Some (user_move Expire200)
  unfolding happens acts delivers takes expires_200 step
  next_of_user on = rw on refl

  pub next_of_network : user.end.t200 ≡ false → network.end.t200 ≡ true
      → next_move r (at [] []) ≡ Some (network_move Expire200)
  unfolding happens acts delivers takes expires_200 step
  next_of_network off on = rw (off, on) refl

  pub next_none : user.end.t200 ≡ false → network.end.t200 ≡ false → next_move r (at [] []) ≡ None
  unfolding happens acts delivers takes expires_200 step
  next_none off none = rw (off, none) refl

-- ---- One more move, and none.

pub record IsSome (o : Option Move) : Type 0 where
  pub move : Move
  pub is : o ≡ Some move

none_or_some : (o : Option Move) → (o ≡ None) ⊎ IsSome o
none_or_some None = inl refl
none_or_some (Some move) = inr (record { move = move; is = refl })

module _ (r : Reading) where
  abbrev then_ : Move → World → World
  then_ move w = world_after w (happens r move w)

  first_is : (n : ℕ) (w : World) (first : Move) → next_move r w ≡ Some first
      → settling r (suc n) w ≡ first ∷ settling r n (then_ first w)
  first_is n w first some = rw some refl

  stops : (n : ℕ) (w : World) → next_move r w ≡ None → settling r n w ≡ []
  stops zero w none = refl
  stops (suc n) w none = rw none refl

  -- the first settling move and the rest lead to the same next move as all of them
  behind : (n : ℕ) (w : World) (first : Move) (o : Option Move) → next_move r w ≡ Some first
      → next_move r (run r (settling r (suc n) w) w) ≡ o
      → next_move r (run r (settling r n (then_ first w)) (then_ first w)) ≡ o
  behind n w first o some is =
      ap (λ l. next_move r (run r l w)) (sym (first_is n w first some)) ∙ is

  pub one_more : (n : ℕ) (w : World) (move : Move) → length (settling r n w) ≡ n
      → next_move r (run r (settling r n w) w) ≡ Some move
      → settling r (suc n) w ≡ settling r n w ++ move ∷ []
  one_more zero w move all is = first_is zero w move is
  one_more (suc n) w move all is = elim (none_or_some (next_move r w)) [
    | inl none ↦ absurd (let len = ap length (stops (suc n) w none) in omega (arith, len, all))
    | inr some ↦
        let l = ap length (first_is n w some.move some.is) in
        first_is (suc n) w some.move some.is
        ∙ ap (λ l. some.move ∷ l) (one_more n
        (then_ some.move w) move (omega (arith, l, all))
        (behind n w some.move (Some move) some.is is))
        ∙ ap (λ l. l ++ move ∷ []) (sym (first_is n w some.move some.is))
  ]

  pub no_more : (n m : ℕ) (w : World) → n ≤ m → next_move r (run r (settling r n w) w) ≡ None
      → settling r m w ≡ settling r n w
  no_more zero m w le none = stops m w none
  no_more (suc n) zero w le none = absurd (omega (arith, le))
  no_more (suc n) (suc m) w le is = elim (none_or_some (next_move r w)) [
    | inl none ↦ stops (suc m) w none ∙ sym (stops (suc n) w none)
    | inr some ↦ first_is m w some.move some.is
        ∙ ap (λ l. some.move ∷ l) (no_more n
        m (then_ some.move w) (omega (arith, le)) (behind n w some.move None some.is is))
        ∙ sym (first_is n w some.move some.is)
  ]
