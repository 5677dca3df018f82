-- A property of an end that each step and a restart keep is kept by each move of either side, and
-- by each run.
use Rattle.std.proofs.Common.{◌≡◌, ℕ, nat_lt, Option, Some, None, Result, Ok, Err, List, [], ◌∷◌, length, refl}
use Rattle.lapd_timers.specs.declared.timer.Timer.TheVariants.{T200, T203}
use Rattle.lapd_frame.specs.declared.Side.{Side}
use Rattle.lapd_frame.specs.declared.Side.TheVariants as side
use Rattle.lapd_mod128.specs.Counting.{Whole}
use Rattle.lapd_link_definition.specs.declared.event.LinkFault.{LinkFault}
use Rattle.lapd_link_definition.specs.End.{End, StepState}
use Rattle.lapd_link_definition.specs.Input as input
use Rattle.lapd_link_definition.specs.Input.{Input}
use Rattle.lapd_link_definition.specs.Table.{step}
use Rattle.lapd_pair_laws.specs.Line.{Flight, first_poll, first_final}
use Rattle.lapd_pair_laws.specs.Move.{PairEvent, Give, Establish, Release, Deliver, Lose, Expire200, Expire203, Busy, UnitData, Restart, Move, View, ViewStep, Refusal, acts, stepped, view_after, receives, takes, delivers, loses, unless_under_way, expires_200, expires_203, restarted, restarts, busy_input}
use Rattle.lapd_pair_laws.specs.World.{World, view_of, in_world, world_after, happens, run}
use Rattle.lapd_pair_laws.proofs.Lists.{by_test}
use Rattle.lapd_pair_laws.proofs.Worlds.{left_by}

-- the end of the side has the property after the move
abbrev pub Left : (End → Type 0) → View → Result ViewStep Refusal → Type 0
Left P v r = P (left_by v r).station.end

-- ---- The moves of a side.

module _ (P : End → Type 0) (s : Side) (v : View)
    (stepping : (what : Input) (t : StepState) → step Whole what v.station.end ≡ Ok t → P t.end)
    (restarting : P (restarted v.station.end)) (has : P v.station.end) where
  by_outcome : (what : Input) (octets : List ℕ) (place : ℕ) (incoming : List Flight)
      (r : Result StepState LinkFault) → step Whole what v.station.end ≡ r
      → Left P v (stepped octets place (record v { incoming = incoming }) r)
  unfolding view_after
  by_outcome what octets place incoming (Ok t) is = stepping what t is
  by_outcome what octets place incoming (Err fault) is = has

  pub kept_by_input : (what : Input) (octets : List ℕ) → Left P v (takes Whole what octets v)
  unfolding takes
  kept_by_input what octets =
      by_outcome what octets 0 v.incoming (step Whole what v.station.end) refl

  delivered : (frames : List Flight) → Left P v (delivers Whole frames v)
  unfolding delivers receives
  delivered [] = has
  delivered (frame ∷ rest) =
      let heard = input.Heard frame.control frame.role in
      by_outcome heard frame.info frame.place rest (step Whole heard v.station.end) refl

  admitted : (poll final : Option ℕ) (outcome : Result ViewStep Refusal) → Left P v outcome
      → Left P v (unless_under_way s poll final outcome)
  admitted (Some at) final outcome left = has
  admitted None (Some at) outcome left = has
  admitted None None outcome left = left

  pub kept_by_event : (event : PairEvent) → Left P v (acts Whole s event v)
  unfolding acts loses expires_200 expires_203 restarts
  kept_by_event (Give message) = kept_by_input (input.Give message) []
  kept_by_event Establish = kept_by_input input.Establish []
  kept_by_event Release = kept_by_input input.Release []
  kept_by_event Deliver = delivered v.incoming
  kept_by_event (Lose at) =
      by_test (Left P v) (nat_lt at (length v.incoming)) _ _ (λ _. has) (λ _. has)
  kept_by_event Expire200 = by_test (Left P v) v.station.end.t200 _ _
      (λ _. admitted (first_poll v.outgoing) (first_final v.incoming)
      (takes Whole (input.Expiry T200) [] v) (kept_by_input (input.Expiry T200) []))
      (λ _. has)
  kept_by_event Expire203 =
      by_test (Left P v) v.station.end.t203 _ _ (λ _. kept_by_input (input.Expiry T203) [])
      (λ _. has)
  kept_by_event (Busy on) = kept_by_input (busy_input on) []
  kept_by_event (UnitData octets) = kept_by_input (input.UnitData (length octets)) octets
  kept_by_event Restart = restarting

-- ---- Moves and runs.

-- both ends have the property
pub record AreBoth (P : End → Type 0) (w : World) : Type 0 where
  pub user : P w.user.end
  pub network : P w.network.end

module _ (P : End → Type 0)
    (stepping : (what : Input) (e : End) (t : StepState) → P e → step Whole what e ≡ Ok t → P t.end)
    (restarting : (e : End) → P e → P (restarted e)) where
  by_side : (s : Side) (w : World) (r : Result ViewStep Refusal) → AreBoth P w
      → Left P (view_of s w) r → AreBoth P (world_after w (in_world s w r))
  by_side side.User w (Ok acted) are left = record { user = left; network = are.network }
  by_side side.Network w (Ok acted) are left = record { user = are.user; network = left }
  by_side s w (Err refusal) are left = are

  seen : (s : Side) (w : World) → AreBoth P w → P (view_of s w).station.end
  seen side.User w are = are.user
  seen side.Network w are = are.network

  pub kept_by_move : (move : Move) (w : World) → AreBoth P w
      → AreBoth P (world_after w (happens Whole move w))
  unfolding happens
  kept_by_move move w are =
      let v = view_of move.side w in
      let has = seen move.side w are in
      by_side move.side w (acts Whole move.side move.event v) are
      (kept_by_event P move.side v (λ what t is. stepping what v.station.end t has is)
      (restarting v.station.end has) has move.event)

  pub kept_by_run : (moves : List Move) (w : World) → AreBoth P w → AreBoth P (run Whole moves w)
  kept_by_run [] w are = are
  kept_by_run (move ∷ moves) w are =
      kept_by_run moves (world_after w (happens Whole move w)) (kept_by_move move w are)
