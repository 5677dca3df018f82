-- Moves without the premises of safety, and for each premise a schedule that shows the need for it.
use Rattle.std.specs.Prelude.{ℕ, if◌then◌else◌, List, [], ◌∷◌, ◌++◌, map, slice_get, Option, Some, None, Result, Err}
use Rattle.lapd_timers.specs.declared.timer.Timer.TheVariants.{T200}
use Rattle.lapd_frame.specs.declared.Side.{Side}
use Rattle.lapd_frame.specs.declared.Side.TheVariants as side
use Rattle.lapd_mod128.specs.Counting.{Whole}
use Rattle.lapd_link_definition.specs.Input.{Expiry}
use Rattle.lapd_pair_laws.specs.Line.{Flight, without_lost}
use Rattle.lapd_pair_laws.specs.Move.{Move, View, ViewStep, Refusal, Give, Establish, Deliver, NothingThere, NotRunning, receives, takes, quietly, restarts}
use Rattle.lapd_pair_laws.specs.Schedule.{of_user, of_network, establishing}
use Rattle.lapd_pair_laws.specs.World.{World, Happened, view_of, in_world, world_after, happens}

-- In this order: an admitted move; T200 expires whenever it runs, whatever is in transit; a side
-- restarts, and the frames in transit stay; the frame at a position is delivered before those in
-- front of it.
pub data Free : Type 0 where
  Admitted : (move : Move) → Free
  Expires : (side : Side) → Free
  StartsAnew : (side : Side) → Free
  Overtakes : (side : Side) → (at : ℕ) → Free

abbrev pub received_at : Option Flight → ℕ → View → Result ViewStep Refusal
received_at None at v = Err NothingThere
received_at (Some frame) at v = receives Whole frame
    (record v { incoming = without_lost at v.incoming })

abbrev pub freely : Free → World → Result Happened Refusal
freely (Admitted move) w = happens Whole move w
freely (Expires s) w = in_world s w (if (view_of s w).station.end.t200
    then takes Whole (Expiry T200) [] (view_of s w) else Err NotRunning)
freely (StartsAnew s) w = in_world s w (quietly
    (record (restarts (view_of s w)) {
      incoming = (view_of s w).incoming;
      outgoing = (view_of s w).outgoing;
    }))
freely (Overtakes s at) w = in_world s w (received_at
    (slice_get (view_of s w).incoming at) at (view_of s w))

abbrev pub run_freely : List Free → World → World
run_freely [] w = w
run_freely (move ∷ moves) w = run_freely moves (world_after w (freely move w))

abbrev pub admitted : List Move → List Free
admitted moves = map (λ move. Admitted move) moves

-- T200 expires while the answer to the SABME is in transit. The second SABME begins another
-- establishment of the network, and the user takes the message of the first for that of the second.
abbrev pub hasty : List Free
hasty = admitted (of_user Establish ∷ of_network Deliver ∷ of_network (Give (1 ∷ [])) ∷ [])
    ++ Expires side.User ∷ admitted (of_network Deliver ∷ of_user Deliver
    ∷ of_network (Give (2 ∷ [])) ∷ of_user Deliver ∷ of_network Deliver ∷ [])

-- the network restarts, and then the answer to its earlier SABME arrives
abbrev pub stale : List Free
stale = admitted (of_network Establish ∷ of_user Deliver ∷ []) ++ StartsAnew side.Network
    ∷ admitted (of_network Establish ∷ of_user (Give (1 ∷ [])) ∷ of_user Deliver
    ∷ of_user (Give (2 ∷ [])) ∷ of_network Deliver ∷ of_network Deliver ∷ of_user Deliver ∷ [])

-- a SABME of the network overtakes the RR that the network sent before it
abbrev pub overtaken : List Free
overtaken = admitted (establishing ++ of_user (Give (1 ∷ [])) ∷ of_network Deliver
    ∷ of_network Establish ∷ []) ++ Overtakes side.User 1
    ∷ admitted (of_user (Give (2 ∷ [])) ∷ of_user Deliver ∷ [])
