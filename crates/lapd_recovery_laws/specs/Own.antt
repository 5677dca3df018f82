-- The line's own moves: frames are delivered; while the line is empty, T200 expires; and if T200
-- does not run and one end is in state 7 and the other is not, T203 expires.
use Rattle.std.specs.Prelude.{◌≡◌, ℕ, zero, suc, ◌&&◌, ◌||◌, not, if◌then◌else◌, Bool, true, false, List, [], ◌∷◌, Option, Some, None, is_ok}
use Rattle.lapd_frame.specs.declared.Side.TheVariants.{User, Network}
use Rattle.lapd_mod128.specs.Counting.{Reading}
use Rattle.lapd_link_definition.specs.EndOfStep.{is_established, is_7_or_8}
use Rattle.lapd_link_definition.specs.End.{End}
use Rattle.lapd_pair_laws.specs.Line.{Flight}
use Rattle.lapd_pair_laws.specs.Move.{PairEvent, Deliver, Expire200, Expire203, Move}
use Rattle.lapd_pair_laws.specs.World.{World, happens, world_after}

-- one end is in state 7 and the other is not
abbrev pub are_apart : World → Bool
are_apart w = if is_established w.user.end.state then not (is_established w.network.end.state)
    else is_established w.network.end.state

abbrev pub is_empty : List Flight → Bool
is_empty [] = true
is_empty (frame ∷ frames) = false

-- no frame is in transit
abbrev pub is_line_empty : World → Bool
is_line_empty w = is_empty w.to_user && is_empty w.to_network

-- when an event is one of the line's own
abbrev pub is_due : PairEvent → World → Bool
is_due Deliver w = true
is_due Expire200 w = is_line_empty w
is_due Expire203 w = is_line_empty w && not (w.user.end.t200 || w.network.end.t200) && are_apart w
is_due event w = false

-- an admitted move that the line makes by itself
pub record IsOwn (r : Reading) (move : Move) (w : World) : Type 0 where
  pub due : is_due move.event w ≡ true
  pub admitted : is_ok (happens r move w) ≡ true

-- own moves, one after another, in any order
abbrev pub AreOwn : Reading → List Move → World → Type 0
AreOwn r [] w = Unit {0}
AreOwn r (move ∷ moves) w = IsOwn r move w × AreOwn r moves (world_after w (happens r move w))

-- no own move is possible
abbrev pub Rests : Reading → World → Type 0
Rests r w = (move : Move) → IsOwn r move w → ⊥

-- an end in state 7 or 8 is not own receiver busy (Q.921 5.6.6)
abbrev pub IsFree : End → Type 0
IsFree e = is_7_or_8 e.state ≡ true → e.window.own_busy ≡ false

-- ---- The own moves in one order.

-- in this order the first own move is made
abbrev pub tried : List Move
tried = record { side = Network; event = Deliver }
    ∷ record { side = User; event = Deliver }
    ∷ record { side = User; event = Expire200 }
    ∷ record { side = Network; event = Expire200 }
    ∷ record { side = User; event = Expire203 }
    ∷ record { side = Network; event = Expire203 } ∷ []

abbrev pub first_own : Reading → List Move → World → Option Move
first_own r [] w = None
first_own r (move ∷ moves) w = if is_due move.event w && is_ok (happens r move w) then Some move
    else first_own r moves w

abbrev pub then_on : Option Move → (Move → List Move) → List Move
then_on None rest = []
then_on (Some move) rest = move ∷ rest move

-- the own moves in this order, at most n
abbrev pub recovering : Reading → ℕ → World → List Move
recovering r zero w = []
recovering r (suc n) w =
    then_on (first_own r tried w) (λ move. recovering r n (world_after w (happens r move w)))
