-- Moves with a weaker premise on restarts: the frames in transit may outlast a restart. A restart
-- of `Move` drops them all.
use Rattle.std.specs.Prelude.{ℕ, zero, suc, ◌+◌, ◌==◌, if◌then◌else◌, List, [], ◌∷◌, ◌++◌, length, Some, None, Result, Ok, Err}
use Rattle.lapd_frame.specs.Address.{other_side}
use Rattle.lapd_frame.specs.declared.Side.{Side}
use Rattle.lapd_frame.specs.declared.Side.TheVariants as side
use Rattle.lapd_mod128.specs.Counting.{Reading}
use Rattle.lapd_supervision.specs.StateVariables.{without_exceptions}
use Rattle.lapd_link_definition.specs.declared.state.State.TheVariants.{MultipleFrameEstablished}
use Rattle.lapd_link_definition.specs.declared.out.Out.{Out}
use Rattle.lapd_link_definition.specs.declared.event.LinkFault.{LinkFault}
use Rattle.lapd_link_definition.specs.End.{End, StepState}
use Rattle.lapd_link_definition.specs.Input.{Input}
use Rattle.lapd_link_definition.specs.Table.{step}
use Rattle.lapd_pair_laws.specs.Histories.{with_others_dropped}
use Rattle.lapd_pair_laws.specs.Kinds.{kinds, tally, ask_of, answer_of}
use Rattle.lapd_pair_laws.specs.Move.{PairEvent, Give, Establish, Deliver, Lose, Restart, Move, View, ViewStep, Refusal, quietly, restarted, restarts}
use Rattle.lapd_pair_laws.specs.Eager.{acts_eagerly}
use Rattle.lapd_pair_laws.specs.Premises.{Free, StartsAnew, admitted}
use Rattle.lapd_pair_laws.specs.Schedule.{of_user, of_network, establishing, giving, Figures, receipt}
use Rattle.lapd_pair_laws.specs.World.{World, Happened, view_of, in_world, world_after}

-- How many frames of the side's own exchanges are in transit: SABME and DISC that it sent, and UA
-- and DM that were sent to it.
abbrev pub exchange_in : View → ℕ
exchange_in v = tally ask_of (kinds v.outgoing) + tally answer_of (kinds v.incoming)

-- a side restarts as in `Move`, but the frames in transit stay there, in both directions
unfoldable pub restarts_quickly : View → View
restarts_quickly v = record v { station = (restarts v).station }

-- A restart is quick if no frame of the side's own exchanges is in transit; otherwise it drops all
-- frames in transit, as in `Move`. Every other move is an eager one.
abbrev pub acts_quickly : Reading → Side → PairEvent → View → Result ViewStep Refusal
acts_quickly r side Restart v = quietly
    (if exchange_in v == 0 then restarts_quickly v else restarts v)
acts_quickly r side event v = acts_eagerly r side event v

unfoldable pub happens_quickly : Reading → Move → World → Result Happened Refusal
happens_quickly r move w = in_world move.side w
    (acts_quickly r move.side move.event (view_of move.side w))

abbrev pub run_quickly : Reading → List Move → World → World
run_quickly r [] w = w
run_quickly r (move ∷ moves) w = run_quickly r moves (world_after w (happens_quickly r move w))

abbrev pub outcomes_quickly : Reading → List Move → World → List (Result Happened Refusal)
outcomes_quickly r [] w = []
outcomes_quickly r (move ∷ moves) w =
    happens_quickly r move w ∷ outcomes_quickly r moves (world_after w (happens_quickly r move w))

-- ---- A restart, after which all frames in transit are lost.

-- so many frames are lost, each time the first one in transit to the side
abbrev pub losses : Side → ℕ → List Move
losses s zero = []
losses s (suc n) = record { side = s; event = Lose 0 } ∷ losses s n

abbrev pub restart_and_losses : Side → View → List Move
restart_and_losses s v = record { side = s; event = Restart } ∷ losses s (length v.incoming)
    ++ losses (other_side s) (length v.outgoing)

-- ---- The same moves, but the end that restarts keeps V(S), V(A) and V(R).

-- The invariant is kept by these: it compares V(S) of a closed end with its messages in transit. No
-- row reads the three numbers before the next establishment sets them to 0.
abbrev pub restarted_keeping : End → End
restarted_keeping e = record (restarted e) { window = without_exceptions e.window }

unfoldable pub restarts_keeping : View → View
restarts_keeping v = record v {
  station = record {
    end = restarted_keeping v.station.end;
    history = with_others_dropped (length v.station.end.given) v.station.history;
  };
}

abbrev pub acts_keeping : Reading → Side → PairEvent → View → Result ViewStep Refusal
acts_keeping r side Restart v = quietly
    (if exchange_in v == 0 then restarts_keeping v else restarts v)
acts_keeping r side event v = acts_eagerly r side event v

unfoldable pub happens_keeping : Reading → Move → World → Result Happened Refusal
happens_keeping r move w = in_world move.side w
    (acts_keeping r move.side move.event (view_of move.side w))

abbrev pub run_keeping : Reading → List Move → World → World
run_keeping r [] w = w
run_keeping r (move ∷ moves) w = run_keeping r moves (world_after w (happens_keeping r move w))

abbrev pub outcomes_keeping : Reading → List Move → World → List (Result Happened Refusal)
outcomes_keeping r [] w = []
outcomes_keeping r (move ∷ moves) w =
    happens_keeping r move w ∷ outcomes_keeping r moves (world_after w (happens_keeping r move w))

-- ---- How an end responds to inputs, whatever happened before.

-- the outputs of a step, or why its input is refused
abbrev pub outputs_of : Result StepState LinkFault → Result (List Out) LinkFault
outputs_of (Ok s) = Ok s.outs
outputs_of (Err fault) = Err fault

abbrev pub end_after : End → Result StepState LinkFault → End
end_after e (Ok s) = s.end
end_after e (Err fault) = e

-- the same for each of a list of inputs, one after another
abbrev pub responses : Reading → List Input → End → List (Result (List Out) LinkFault)
responses r [] e = []
responses r (input ∷ inputs) e =
    outputs_of (step r input e) ∷ responses r inputs (end_after e (step r input e))

-- ---- A schedule with a quick restart.

-- The user restarts while a message is in transit in each direction. The network receives the first
-- one; the user, in state 4, ignores the other and the RR. The user establishes again and sends a
-- second message.
abbrev pub across_a_restart : List Move
across_a_restart = establishing ++ of_user (Give (8 ∷ 1 ∷ [])) ∷ of_network (Give (5 ∷ []))
    ∷ of_user Restart ∷ of_network Deliver ∷ of_user Deliver ∷ of_user Deliver
    ∷ establishing ++ giving

-- the first message counts as dropped, and the second one is acknowledged
abbrev pub user_at_end : Figures
user_at_end = record {
  state = MultipleFrameEstablished;
  vs = 1;
  va = 1;
  vr = 0;
  received = [];
  acked = 1 ∷ [];
  dropped = 0 ∷ [];
  begun = 0 ∷ 0 ∷ [];
  sent_in = Some 1 ∷ Some 2 ∷ None ∷ None ∷ [];
}

-- both are received once; the network's own message is dropped
abbrev pub network_at_end : Figures
network_at_end = record {
  state = MultipleFrameEstablished;
  vs = 0;
  va = 0;
  vr = 1;
  received = receipt 0 1 (8 ∷ 1 ∷ []) ∷ receipt 1 2 (8 ∷ 3 ∷ []) ∷ [];
  acked = [];
  dropped = 0 ∷ [];
  begun = 0 ∷ 1 ∷ [];
  sent_in = Some 1 ∷ None ∷ None ∷ None ∷ [];
}

-- ---- Restarts with a frame of the side's own exchange in transit, which stays there.

-- the network restarts while its SABME is in transit, and the user answers it
abbrev pub with_a_command : List Free
with_a_command = admitted (of_network Establish ∷ []) ++ StartsAnew side.Network
    ∷ admitted (of_user Deliver ∷ [])

-- the network restarts while the UA that answers its SABME is in transit
abbrev pub with_an_answer : List Free
with_an_answer = admitted (of_network Establish ∷ of_user Deliver ∷ [])
    ++ StartsAnew side.Network ∷ []
