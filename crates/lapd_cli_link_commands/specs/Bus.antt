-- The command `bus`: the result of each line.
use Rattle.std.specs.Prelude.{ℕ, List, option_map, Result, Ok, Err}
use Rattle.lapd_cli_script.specs.Line.{words_of}
use Rattle.lapd_cli_script.specs.Script.{LineOutcome}
use Rattle.lapd_tei.specs.declared.bus_move.BusMove.{BusMove}
use Rattle.lapd_tei.specs.declared.bus_move.BusFault.{BusFault}
use Rattle.lapd_tei.specs.Bus.{BusState, BusStep, bus_step}
use Rattle.lapd_cli_link_commands.specs.BusLines.{mover, outs_text, refusal_line}
use Rattle.lapd_cli_link_commands.specs.BusMoves.{move_of}

-- the text of a move, and the bus after it
abbrev pub move_ended : BusState → BusMove → Result BusStep BusFault → List ℕ × BusState
move_ended b m (Ok step) = (outs_text (mover m) step.outs, step.now)
move_ended b m (Err fault) = (refusal_line fault, b)

abbrev pub made : BusState → BusMove → List ℕ × BusState
made b m = move_ended b m (bus_step b m)

abbrev pub bus_line : BusState → List ℕ → LineOutcome BusState
bus_line b line = option_map (made b) (move_of (words_of line))
