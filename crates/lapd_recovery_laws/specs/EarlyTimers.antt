-- Deliveries, losses and expired timers in any order. A timer need not wait until the line is empty.
use Rattle.std.specs.Prelude.{◌≡◌, ℕ, ◌+◌, ◌*◌, ◌≤◌, not, Bool, true, false, List, [], ◌∷◌, length, is_ok}
use Rattle.lapd_frame.specs.declared.Control.{Control}
use Rattle.lapd_frame.specs.declared.Control.TheVariants.{I}
use Rattle.lapd_mod128.specs.Counting.{Reading}
use Rattle.lapd_link_definition.specs.declared.state.State.{State}
use Rattle.lapd_link_definition.specs.declared.state.State.TheVariants.{TimerRecovery}
use Rattle.lapd_pair_laws.specs.Line.{Flight}
use Rattle.lapd_pair_laws.specs.Move.{PairEvent, Deliver, Lose, Expire200, Expire203, Move, View}
use Rattle.lapd_pair_laws.specs.World.{World, view_of, happens, world_after, run, left}
use Rattle.lapd_recovery_laws.specs.Agreed.{AreAgreed}
use Rattle.lapd_recovery_laws.specs.Losses.{one_if, losses, most_moves_despite}
use Rattle.lapd_recovery_laws.specs.Own.{is_due, Rests}

-- a delivery, the loss of a frame in transit, or the expiry of a timer
abbrev pub is_of_line : PairEvent → Bool
is_of_line Deliver = true
is_of_line (Lose at) = true
is_of_line Expire200 = true
is_of_line Expire203 = true
is_of_line event = false

-- An admitted move of the line. T200 expires wherever it runs, but not while a command with P=1 of
-- its end, or the response to it, is in transit (Q.921 5.9.1). T203 expires wherever it runs.
pub record IsLineMove (r : Reading) (move : Move) (w : World) : Type 0 where
  pub of_line : is_of_line move.event ≡ true
  pub admitted : is_ok (happens r move w) ≡ true

-- moves of the line, one after another, in any order
abbrev pub AreLineMoves : Reading → List Move → World → Type 0
AreLineMoves r [] w = Unit {0}
AreLineMoves r (move ∷ moves) w = IsLineMove r move w
    × AreLineMoves r moves (world_after w (happens r move w))

-- a timer expires, and this is not an own move
abbrev pub is_early : PairEvent → World → Bool
is_early Expire200 w = not (is_due Expire200 w)
is_early Expire203 w = not (is_due Expire203 w)
is_early event w = false

-- how many timers expire early
abbrev pub earlies : Reading → List Move → World → ℕ
earlies r [] w = 0
earlies r (move ∷ moves) w = one_if (is_early move.event w)
    + earlies r moves (world_after w (happens r move w))

-- an I frame
abbrev pub is_message : Control → Bool
is_message (I ns nr p) = true
is_message control = false

abbrev pub messages_in : List Flight → ℕ
messages_in [] = 0
messages_in (frame ∷ frames) = one_if (is_message frame.control) + messages_in frames

abbrev pub if_in_8 : State → ℕ → ℕ
if_in_8 TimerRecovery n = n
if_in_8 state n = 0

-- T200 of an end in state 8 overtakes the messages that are still in transit from this end. It was
-- started after they were sent, so it overtakes none if it is longer than the way of a frame.
abbrev pub overtaken_by : PairEvent → View → ℕ
overtaken_by Expire200 v = if_in_8 v.station.end.state (messages_in v.outgoing)
overtaken_by event v = 0

-- how many messages are overtaken
abbrev pub overtaken : Reading → List Move → World → ℕ
overtaken r [] w = 0
overtaken r (move ∷ moves) w = overtaken_by move.event (view_of move.side w)
    + overtaken r moves (world_after w (happens r move w))

-- The number of line moves that suffices: that of own moves and losses, for each early timer as
-- many as bring the line back from any world behind it, and one for each overtaken message. The
-- fourth argument is N200, the greater one of both ends.
abbrev pub most_line_moves : ℕ → ℕ → ℕ → ℕ → World → ℕ
most_line_moves lost early late n200 w =
    most_moves_despite lost n200 w + early * (6 * left w + 6 * n200 + 24) + late

-- From this world line moves, in any order, are few if few frames are lost and few timers expire
-- early, and when no own move is possible any more the ends agree.
pub record ComesBackDespiteTimers (r : Reading) (n200 : ℕ) (w : World) : Type 0 where
  pub few : (moves : List Move) → AreLineMoves r moves w
      → length moves
      ≤ most_line_moves (losses moves) (earlies r moves w) (overtaken r moves w) n200 w
  pub agreed : (moves : List Move) → AreLineMoves r moves w → Rests r (run r moves w)
      → AreAgreed (run r moves w)
