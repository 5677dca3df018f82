-- Moves with a weaker premise on T200: it does not expire while the command with P=1 that it
-- guards, or the answer to that command, is in transit. The moves of `World` wait for more: for any
-- command with P=1 of that side and any response with F=1 to it, even if nobody waits for an answer
-- any more.
use Rattle.std.specs.Prelude.{ℕ, ◌+◌, ◌==◌, ◌&&◌, if◌then◌else◌, List, [], ◌∷◌, ◌++◌, Some, None, Result}
use Rattle.lapd_timers.specs.declared.timer.Timer.TheVariants.{T200}
use Rattle.lapd_frame.specs.declared.Side.{Side}
use Rattle.lapd_mod128.specs.Counting.{Reading}
use Rattle.lapd_link_definition.specs.declared.state.State.{State}
use Rattle.lapd_link_definition.specs.declared.state.State.TheVariants.{TeiAssigned, AwaitingEstablishment, AwaitingRelease, MultipleFrameEstablished, TimerRecovery}
use Rattle.lapd_link_definition.specs.Input.{Expiry}
use Rattle.lapd_pair_laws.specs.Move.{PairEvent, Give, Establish, Deliver, Lose, Expire200, Expire203, Move, View, ViewStep, Refusal, takes, expires_200, acts}
use Rattle.lapd_pair_laws.specs.Schedule.{of_user, of_network, establishing, Figures, receipt}
use Rattle.lapd_pair_laws.specs.World.{World, Happened, view_of, in_world, world_after}
use Rattle.lapd_pair_laws.specs.Kinds.{Kind, kinds, tally, ask_of, answer_of, poll_of, final_of}

-- How many frames in transit T200 waits for in this state: of those sent by its side, and of those
-- sent to it. In states 5 and 6 T200 guards SABME and DISC, which UA and DM answer. In state 8 it
-- guards a polling command, which a supervisory response with F=1 answers; an old poll that the
-- other side will ignore counts too. In state 7 it guards no such command: an enquiry or the last I
-- frame with P=1 is sent only after it has expired (Q.921 5.6.7).
abbrev pub awaited : State → List Kind → List Kind → ℕ
awaited TeiAssigned out back = 0
awaited AwaitingEstablishment out back = tally ask_of out + tally answer_of back
awaited AwaitingRelease out back = tally ask_of out + tally answer_of back
awaited MultipleFrameEstablished out back = 0
awaited TimerRecovery out back = tally poll_of out + tally final_of back

abbrev pub awaited_in : View → ℕ
awaited_in v = awaited v.station.end.state (kinds v.outgoing) (kinds v.incoming)

-- an eager T200 expires if it runs and no awaited frame is in transit; otherwise as in `Move`
unfoldable pub expires_eagerly : Reading → Side → View → Result ViewStep Refusal
expires_eagerly r side v = if v.station.end.t200 && (awaited_in v == 0)
    then takes r (Expiry T200) [] v else expires_200 r side v

-- every other move is unchanged
abbrev pub acts_eagerly : Reading → Side → PairEvent → View → Result ViewStep Refusal
acts_eagerly r side Expire200 v = expires_eagerly r side v
acts_eagerly r side event v = acts r side event v

unfoldable pub happens_eagerly : Reading → Move → World → Result Happened Refusal
happens_eagerly r move w = in_world move.side w
    (acts_eagerly r move.side move.event (view_of move.side w))

abbrev pub run_eagerly : Reading → List Move → World → World
run_eagerly r [] w = w
run_eagerly r (move ∷ moves) w = run_eagerly r moves (world_after w (happens_eagerly r move w))

abbrev pub outcomes_eagerly : Reading → List Move → World → List (Result Happened Refusal)
outcomes_eagerly r [] w = []
outcomes_eagerly r (move ∷ moves) w =
    happens_eagerly r move w ∷ outcomes_eagerly r moves (world_after w (happens_eagerly r move w))

-- ---- A schedule with an enquiry in transit that nobody will answer.

-- The network establishes again while an enquiry of the user is in transit. It will ignore that
-- enquiry in state 5. The user answers the SABME and sends a message, which is lost. Now T200
-- guards that message, and no answer is awaited.
abbrev pub passed_over : List Move
passed_over = establishing ++ of_user Expire203 ∷ of_network Establish ∷ of_user Deliver
    ∷ of_user (Give (1 ∷ [])) ∷ of_network (Lose 2) ∷ []

-- T200 expires. A second enquiry follows the first one and the UA. The network answers it, and the
-- user retransmits the message.
abbrev pub second_enquiry : List Move
second_enquiry = of_user Expire200 ∷ of_network Deliver ∷ of_network Deliver ∷ of_network Deliver
    ∷ of_user Deliver ∷ of_network Deliver ∷ of_user Deliver ∷ []

-- the message is received once, and acknowledged
abbrev pub user_at_end : Figures
user_at_end = record {
  state = MultipleFrameEstablished;
  vs = 1;
  va = 1;
  vr = 0;
  received = [];
  acked = 0 ∷ [];
  dropped = [];
  begun = 0 ∷ 0 ∷ [];
  sent_in = Some 2 ∷ None ∷ None ∷ None ∷ [];
}

abbrev pub network_at_end : Figures
network_at_end = record {
  state = MultipleFrameEstablished;
  vs = 0;
  va = 0;
  vr = 1;
  received = receipt 0 2 (1 ∷ []) ∷ [];
  acked = [];
  dropped = [];
  begun = 0 ∷ 0 ∷ [];
  sent_in = None ∷ None ∷ None ∷ None ∷ [];
}
