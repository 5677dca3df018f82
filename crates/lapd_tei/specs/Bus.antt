-- A bus: terminals without a fixed TEI, the assigner of the network side, and the messages in
-- transit between them (Q.921 5.3). A message from the network side stays in transit until it is
-- dropped; each terminal may receive it once, at any moment. A message from a terminal is removed
-- when it is received or dropped. So messages can be lost, reach several terminals, and overtake
-- each other.
use Rattle.std.specs.Prelude.{ℕ, ◌+◌, Bool, true, false, List, [], ◌∷◌, ◌++◌, length, map, set, replicate, slice_get, slice_index_or, codes, Option, Some, None, Result, Ok, Err}
use Rattle.std.specs.List.{remove}
use Rattle.lapd_tei.specs.declared.message.TeiMessage.{TeiMessage}
use Rattle.lapd_tei.specs.declared.out.TeiOut.{TeiOut}
use Rattle.lapd_tei.specs.declared.phase.Phase.{Phase}
use Rattle.lapd_tei.specs.declared.phase.Phase.TheVariants.{Unassigned, Awaiting}
use Rattle.lapd_tei.specs.declared.terminal.TerminalEvent.{TerminalEvent}
use Rattle.lapd_tei.specs.declared.terminal.TerminalEvent.TheVariants as event
use Rattle.lapd_tei.specs.declared.assigner.AssignerEvent.{AssignerEvent}
use Rattle.lapd_tei.specs.declared.assigner.AssignerEvent.TheVariants as assigner
use Rattle.lapd_tei.specs.declared.check.Check.{Check}
use Rattle.lapd_tei.specs.declared.bus_move.BusMove.{BusMove}
use Rattle.lapd_tei.specs.declared.bus_move.BusMove.TheVariants as move
use Rattle.lapd_tei.specs.declared.bus_move.BusFault.{BusFault}
use Rattle.lapd_tei.specs.declared.bus_move.BusFault.TheVariants.{NothingThere, HeardBefore, Memory}
use Rattle.lapd_tei.specs.Out.{sent}
use Rattle.lapd_tei.specs.Terminal.{TerminalStep, terminal_step}
use Rattle.lapd_tei.specs.Assigner.{AssignerState, AssignerStep, assigner_step, nothing_held}

-- a message from the network side in transit, and which terminals have received it
pub record Broadcast : Type 0 where
  pub message : TeiMessage
  pub reception : List Bool

pub record BusState : Type 0 where
  pub terminals : List Phase
  pub assigner : AssignerState
  pub down : List Broadcast
  pub up : List TeiMessage

-- the bus after a move, and the outputs of the terminal or assigner concerned
pub record BusStep : Type 0 where
  pub now : BusState
  pub outs : List TeiOut

-- this many terminals without a TEI, and no TEI held
abbrev pub new_bus : ℕ → BusState
new_bus terminals = record {
  terminals = replicate terminals Unassigned;
  assigner = nothing_held;
  down = [];
  up = [];
}

-- a new broadcast, which no terminal has received
abbrev pub broadcast : ℕ → TeiMessage → Broadcast
broadcast terminals m = record { message = m; reception = replicate terminals false }

-- applies the step of the terminal at this index, and appends its messages to those in transit
abbrev pub terminal_did : BusState → ℕ → TerminalStep → BusStep
terminal_did b t done = record {
  now = record {
    terminals = set b.terminals t done.now;
    assigner = b.assigner;
    down = b.down;
    up = b.up ++ sent done.outs;
  };
  outs = done.outs;
}

-- applies the step of the assigner, and appends its messages to those in transit
abbrev pub assigner_did : BusState → AssignerStep → BusStep
assigner_did b done = record {
  now = record {
    terminals = b.terminals;
    assigner = done.now;
    down = b.down ++ map (broadcast (length b.terminals)) (sent done.outs);
    up = b.up;
  };
  outs = done.outs;
}

-- an event of the terminal at this index, if it exists
abbrev pub terminal_has : BusState → ℕ → Option Phase → TerminalEvent → Result BusStep BusFault
terminal_has b t None e = Err NothingThere
terminal_has b t (Some phase) e = Ok (terminal_did b t (terminal_step phase e))

abbrev pub to_terminal : BusState → ℕ → TerminalEvent → Result BusStep BusFault
to_terminal b t e = terminal_has b t (slice_get b.terminals t) e

-- T202 runs while a TEI is awaited
abbrev pub t202_expires : BusState → ℕ → ℕ → Option Phase → Result BusStep BusFault
t202_expires b t ri (Some (Awaiting purpose count own)) =
    Ok (terminal_did b t (terminal_step (Awaiting purpose count own) (event.T202 ri)))
t202_expires b t ri other = Err NothingThere

abbrev pub expire_t202 : BusState → ℕ → ℕ → Result BusStep BusFault
expire_t202 b t ri = t202_expires b t ri (slice_get b.terminals t)

-- T201 runs during a check
abbrev pub t201_expires : BusState → Option Check → Result BusStep BusFault
t201_expires b None = Err NothingThere
t201_expires b (Some check) = Ok (assigner_did b (assigner_step b.assigner assigner.T201))

abbrev pub expire_t201 : BusState → Result BusStep BusFault
expire_t201 b = t201_expires b b.assigner.check

-- marks the message as received by this terminal
abbrev pub received_by : ℕ → Broadcast → Broadcast
received_by t f = record { message = f.message; reception = set f.reception t true }

abbrev pub with_mark : BusState → ℕ → ℕ → Broadcast → BusState
with_mark b i t f = record {
  terminals = b.terminals;
  assigner = b.assigner;
  down = set b.down i (received_by t f);
  up = b.up;
}

abbrev pub reaches_terminal : BusState → ℕ → ℕ → ℕ → Broadcast → Phase → Bool
    → Result BusStep BusFault
reaches_terminal b i t ri f phase true = Err HeardBefore
reaches_terminal b i t ri f phase false = Ok (terminal_did (with_mark b i t f) t
    (terminal_step phase (event.Heard f.message ri)))

-- the terminal receives the message, if both exist and it did not receive it before
abbrev pub terminal_receives : BusState → ℕ → ℕ → ℕ → Option Broadcast → Option Phase
    → Result BusStep BusFault
terminal_receives b i t ri (Some f) (Some phase) =
    reaches_terminal b i t ri f phase (slice_index_or f.reception t false)
terminal_receives b i t ri f phase = Err NothingThere

abbrev pub hear : BusState → ℕ → ℕ → ℕ → Result BusStep BusFault
hear b i t ri = terminal_receives b i t ri (slice_get b.down i) (slice_get b.terminals t)

-- drops a message, if it exists
abbrev pub drops_down : BusState → ℕ → Option Broadcast → Result BusStep BusFault
drops_down b i None = Err NothingThere
drops_down b i (Some f) =
    Ok (record {
      now = record {
        terminals = b.terminals;
        assigner = b.assigner;
        down = remove b.down i;
        up = b.up;
      };
      outs = [];
    })

abbrev pub drop_down : BusState → ℕ → Result BusStep BusFault
drop_down b i = drops_down b i (slice_get b.down i)

abbrev pub without_up : BusState → ℕ → BusState
without_up b i = record {
  terminals = b.terminals;
  assigner = b.assigner;
  down = b.down;
  up = remove b.up i;
}

abbrev pub drops_up : BusState → ℕ → Option TeiMessage → Result BusStep BusFault
drops_up b i None = Err NothingThere
drops_up b i (Some m) = Ok (record { now = without_up b i; outs = [] })

abbrev pub drop_up : BusState → ℕ → Result BusStep BusFault
drop_up b i = drops_up b i (slice_get b.up i)

-- the assigner receives a message, which is removed
abbrev pub network_receives : BusState → ℕ → Option TeiMessage → Result BusStep BusFault
network_receives b i None = Err NothingThere
network_receives b i (Some m) = Ok (assigner_did (without_up b i)
    (assigner_step b.assigner (assigner.Heard m)))

abbrev pub hear_up : BusState → ℕ → Result BusStep BusFault
hear_up b i = network_receives b i (slice_get b.up i)

-- an event of the assigner
abbrev pub to_assigner : BusState → AssignerEvent → BusStep
to_assigner b e = assigner_did b (assigner_step b.assigner e)

-- One move: the bus after it and the outputs, or the reason why it is refused.
abbrev pub bus_step : BusState → BusMove → Result BusStep BusFault
bus_step b (move.Ask t ri) = to_terminal b t (event.Ask ri)
bus_step b (move.T202 t ri) = expire_t202 b t ri
bus_step b (move.Hear i t ri) = hear b i t ri
bus_step b (move.Drop i) = drop_down b i
bus_step b (move.HearUp i) = hear_up b i
bus_step b (move.DropUp i) = drop_up b i
bus_step b (move.Check tei) = Ok (to_assigner b (assigner.Check tei))
bus_step b (move.Remove tei) = Ok (to_assigner b (assigner.Remove tei))
bus_step b move.T201 = expire_t201 b
bus_step b (move.Leave t) = to_terminal b t event.Leave

-- a refused move changes nothing
abbrev pub done : BusState → Result BusStep BusFault → BusStep
done b (Ok step) = step
done b (Err fault) = record { now = b; outs = [] }

abbrev pub moved : BusState → BusMove → BusStep
moved b m = done b (bus_step b m)

-- a list of moves in order, and how many of them are refused
abbrev pub run : BusState → List BusMove → BusState
run b [] = b
run b (m ∷ ms) = run (moved b m).now ms

abbrev pub refusal : Result BusStep BusFault → ℕ
refusal (Ok step) = 0
refusal (Err fault) = 1

abbrev pub refusals : BusState → List BusMove → ℕ
refusals b [] = 0
refusals b (m ∷ ms) = refusal (bus_step b m) + refusals (moved b m).now ms

abbrev pub bus_fault_name : BusFault → List ℕ
bus_fault_name NothingThere = codes "U1 NothingThere"
bus_fault_name HeardBefore = codes "U2 HeardBefore"
bus_fault_name Memory = codes "U3 Memory"
