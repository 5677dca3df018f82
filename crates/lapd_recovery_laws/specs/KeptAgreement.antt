-- Deliveries and expired timers in any order: after a number of moves the ends agree, and they agree
-- from then on.
use Rattle.std.specs.Prelude.{◌≡◌, ◌⊎◌, ℕ, ◌+◌, ◌≤◌, nat_lt, ◌==◌, ◌&&◌, not, Bool, true, false, List, [], ◌∷◌, length}
use Rattle.lapd_mod128.specs.Counting.{Reading}
use Rattle.lapd_link_definition.specs.declared.state.State.{State}
use Rattle.lapd_link_definition.specs.declared.state.State.TheVariants.{MultipleFrameEstablished, TimerRecovery}
use Rattle.lapd_link_definition.specs.EndOfStep.{is_7_or_8}
use Rattle.lapd_link_definition.specs.End.{End}
use Rattle.lapd_pair_laws.specs.Kinds.{kinds, tally, poll_of, final_of}
use Rattle.lapd_pair_laws.specs.Line.{Flight}
use Rattle.lapd_pair_laws.specs.Move.{PairEvent, Move}
use Rattle.lapd_pair_laws.specs.World.{World, happens, world_after, run, left}
use Rattle.lapd_recovery_laws.specs.Agreed.{AreReleased, AreAgreed}
use Rattle.lapd_recovery_laws.specs.EarlyTimers.{AreLineMoves, is_early, overtaken, most_line_moves}
use Rattle.lapd_recovery_laws.specs.Losses.{one_if, losses}

-- in state 7, or in state 8 with at least one poll or response to it in transit
abbrev pub is_answered : State → ℕ → Bool
is_answered MultipleFrameEstablished polls = true
is_answered TimerRecovery polls = nat_lt 0 polls
is_answered state polls = false

-- how many polls of an end, and responses to them, are in transit
abbrev pub polls_in_transit : List Flight → List Flight → ℕ
polls_in_transit outgoing incoming =
    tally poll_of (kinds outgoing) + tally final_of (kinds incoming)

-- No message is left, and both ends are in states 7 and 8. If one is in state 8, its poll or the
-- response to it is in transit.
abbrev pub are_in_step : World → Bool
are_in_step w = (left w == 0)
    && (is_answered w.user.end.state (polls_in_transit w.to_network w.to_user)
    && is_answered w.network.end.state (polls_in_transit w.to_user w.to_network))

-- a timer expires early while the ends are not in step
abbrev pub is_out_of_step : PairEvent → World → Bool
is_out_of_step event w = is_early event w && not (are_in_step w)

-- how many timers do
abbrev pub earlies_out_of_step : Reading → List Move → World → ℕ
earlies_out_of_step r [] w = 0
earlies_out_of_step r (move ∷ moves) w = one_if (is_out_of_step move.event w)
    + earlies_out_of_step r moves (world_after w (happens r move w))

-- in state 7 or 8, and the peer received and acknowledged each message sent
pub record IsEqual (x y : End) : Type 0 where
  pub open_state : is_7_or_8 x.state ≡ true
  pub acknowledged : x.window.va ≡ x.window.vs
  pub received : y.window.vr ≡ x.window.vs

pub record AreEqual (x y : End) : Type 0 where
  pub mine : IsEqual x y
  pub its : IsEqual y x

-- No message is left, and both ends are in state 4, or both in states 7 and 8 with equal numbers.
-- Polls and their responses may be in transit.
pub record AreInAgreement (w : World) : Type 0 where
  pub empty : left w ≡ 0
  pub ends : AreReleased w.user.end w.network.end ⊎ AreEqual w.user.end w.network.end

-- From this world deliveries and expired timers, in any order, lead to agreement, at the latest
-- after the number of moves that suffices with these early timers. While the ends are in step, early
-- timers are not counted. From ends that agree all these moves keep agreement. Two ends in state 7
-- are in step whenever T200 runs at neither.
pub record KeepsAgreement (r : Reading) (n200 : ℕ) (w : World) : Type 0 where
  pub reached : (moves : List Move) → AreLineMoves r moves w → losses moves ≡ 0
      → most_line_moves 0 (earlies_out_of_step r moves w) (overtaken r moves w) n200 w
      ≤ length moves
      → AreInAgreement (run r moves w)
  pub idle : w.user.end.state ≡ MultipleFrameEstablished
      → w.network.end.state ≡ MultipleFrameEstablished
      → w.user.end.t200 ≡ false → w.network.end.t200 ≡ false → are_in_step w ≡ true
  pub kept : AreAgreed w → (moves : List Move) → AreLineMoves r moves w → losses moves ≡ 0
      → AreInAgreement (run r moves w)
