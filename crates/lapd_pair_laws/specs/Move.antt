-- The moves: what one side does or what happens to it, when a move is admitted, and its effect.
use Rattle.std.specs.Prelude.{ℕ, nat_lt, if◌then◌else◌, Bool, true, false, List, [], ◌∷◌, length, Option, Some, None, Result, Ok, Err}
use Rattle.lapd_timers.specs.declared.timer.Timer.TheVariants.{T200, T203}
use Rattle.lapd_frame.specs.Address.{other_side}
use Rattle.lapd_frame.specs.declared.Side.{Side}
use Rattle.lapd_mod128.specs.Counting.{Reading}
use Rattle.lapd_link_definition.specs.declared.out.Out.{Out}
use Rattle.lapd_link_definition.specs.declared.event.LinkFault.{LinkFault}
use Rattle.lapd_link_definition.specs.End.{End, StepState, new_end}
use Rattle.lapd_link_definition.specs.Input as input
use Rattle.lapd_link_definition.specs.Input.{Input}
use Rattle.lapd_link_definition.specs.Table.{step}
use Rattle.lapd_pair_laws.specs.Histories.{History, Story, with_others_dropped, with_beginning, after_outputs}
use Rattle.lapd_pair_laws.specs.Line.{Flight, without_lost, first_poll, first_final}

-- One thing that a side does or that happens to it. Its layer 3 submits a message, requests
-- establishment or release, or sends unit data. The first frame in transit to it is delivered, or
-- the frame at a position, from 0, is lost. One of its timers expires. Its own busy condition
-- begins or ends. It restarts.
pub data PairEvent : Type 0 where
  Give : (message : List ℕ) → PairEvent
  Establish : PairEvent
  Release : PairEvent
  Deliver : PairEvent
  Lose : (at : ℕ) → PairEvent
  Expire200 : PairEvent
  Expire203 : PairEvent
  Busy : (on : Bool) → PairEvent
  UnitData : (octets : List ℕ) → PairEvent
  Restart : PairEvent

pub record Move : Type 0 where
  pub side : Side
  pub event : PairEvent

-- Why a move is not admitted. P1: there is no such frame in transit. P2: the timer does not run.
-- P3: T200 may not expire yet, since a command with P=1 or its answer is in transit to that side,
-- at that position. P4: the state table refuses the input.
pub data Refusal : Type 0 where
  NothingThere : Refusal
  NotRunning : Refusal
  NotYet : (to : Side) → (at : ℕ) → Refusal
  Refused : (fault : LinkFault) → Refusal

-- a side: its end of the data link, and its history
pub record Station : Type 0 where
  pub end : End
  pub history : History

-- what a side sees: itself, the frames in transit to it, and those in transit to the other side
pub record View : Type 0 where
  pub station : Station
  pub incoming : List Flight
  pub outgoing : List Flight

-- the view after an admitted move of a side, and the outputs of that move
pub record ViewStep : Type 0 where
  pub view : View
  pub outs : List Out

-- ---- A step of the state table.

-- The line and the history after a step. `octets` and `place` are those of the frame just
-- delivered; for a request `octets` are its unit data.
unfoldable pub story_after : List ℕ → ℕ → View → StepState → Story
story_after octets place v s = after_outputs
    (record {
      given = s.end.given;
      establishment = s.end.establishments;
      octets = octets;
      place = place;
    })
    s.outs
    (record {
      line = v.outgoing;
      history = with_beginning v.station.end.establishments s.end.establishments
          v.station.history;
    })

-- the view after a step: the new end, its history, and the frames of the outputs appended to the
-- line
unfoldable pub view_after : List ℕ → ℕ → View → StepState → View
view_after octets place v s = record {
  station = record { end = s.end; history = (story_after octets place v s).history };
  incoming = v.incoming;
  outgoing = (story_after octets place v s).line;
}

-- an input that the state table refuses is not admitted
abbrev pub stepped : List ℕ → ℕ → View → Result StepState LinkFault → Result ViewStep Refusal
stepped octets place v (Ok s) = Ok (record { view = view_after octets place v s; outs = s.outs })
stepped octets place v (Err fault) = Err (Refused fault)

-- one step on a frame that has just been delivered
unfoldable pub receives : Reading → Flight → View → Result ViewStep Refusal
receives r frame v = stepped frame.info frame.place v
    (step r (input.Heard frame.control frame.role) v.station.end)

-- one step on a request or an expired timer
unfoldable pub takes : Reading → Input → List ℕ → View → Result ViewStep Refusal
takes r input octets v = stepped octets 0 v (step r input v.station.end)

-- ---- Other effects of moves, and when they are admitted.

-- the view becomes this one, without outputs
abbrev pub quietly : View → Result ViewStep Refusal
quietly v = Ok (record { view = v; outs = [] })

-- the first frame is removed from the line and processed
unfoldable pub delivers : Reading → List Flight → View → Result ViewStep Refusal
delivers r [] v = Err NothingThere
delivers r (frame ∷ rest) v = receives r frame (record v { incoming = rest })

-- the frame at this position is removed from the line, unprocessed
unfoldable pub loses : ℕ → View → Result ViewStep Refusal
loses at v = if nat_lt at (length v.incoming)
    then quietly (record v { incoming = without_lost at v.incoming }) else Err NothingThere

-- Admits the outcome unless a command with P=1 of this side is in transit to the other side, or a
-- response with F=1 to this one. The arguments are the position of the first of each. A refusal
-- names such a frame, the command first.
abbrev pub unless_under_way : Side → Option ℕ → Option ℕ → Result ViewStep Refusal
    → Result ViewStep Refusal
unless_under_way side (Some at) final outcome = Err (NotYet (other_side side) at)
unless_under_way side None (Some at) outcome = Err (NotYet side at)
unless_under_way side None None outcome = outcome

-- T200 expires if it runs and no frame that it waits for is in transit
unfoldable pub expires_200 : Reading → Side → View → Result ViewStep Refusal
expires_200 r side v =
    if v.station.end.t200
    then unless_under_way side (first_poll v.outgoing) (first_final v.incoming)
    (takes r (input.Expiry T200) [] v)
    else Err NotRunning

-- T203 expires if it runs
unfoldable pub expires_203 : Reading → View → Result ViewStep Refusal
expires_203 r v = if v.station.end.t203 then takes r (input.Expiry T203) [] v else Err NotRunning

-- The end after a restart: a new one in state 4, but the number of establishments stays, and the
-- messages that were left are dropped.
abbrev pub restarted : End → End
restarted e = record (new_end e.parameters) {
  establishments = e.establishments;
  given = e.given;
  first = length e.given;
  next = length e.given;
}

-- a side restarts, and the frames in transit in both directions are dropped
unfoldable pub restarts : View → View
restarts v = record {
  station = record {
    end = restarted v.station.end;
    history = with_others_dropped (length v.station.end.given) v.station.history;
  };
  incoming = [];
  outgoing = [];
}

-- own receiver busy begins or ends (Q.921 5.6.6)
abbrev pub busy_input : Bool → Input
busy_input true = input.BusyOn
busy_input false = input.BusyOff

-- the outcome of each move of a side
unfoldable pub acts : Reading → Side → PairEvent → View → Result ViewStep Refusal
acts r side (Give message) v = takes r (input.Give message) [] v
acts r side Establish v = takes r input.Establish [] v
acts r side Release v = takes r input.Release [] v
acts r side Deliver v = delivers r v.incoming v
acts r side (Lose at) v = loses at v
acts r side Expire200 v = expires_200 r side v
acts r side Expire203 v = expires_203 r v
acts r side (Busy on) v = takes r (busy_input on) [] v
acts r side (UnitData octets) v = takes r (input.UnitData (length octets)) octets v
acts r side Restart v = quietly (restarts v)
