-- How the commands represent a world, and what their calls print.
use Rattle.std.specs.Prelude.{ℕ, List, flat_map}
use Rattle.lapd_frame.specs.declared.Side.{Side}
use Rattle.lapd_link_definition.specs.declared.out.Out.{Out}
use Rattle.lapd_pair.specs.Setup.{setup_for}
use Rattle.lapd_trace.specs.Trace.{frame_line}
use Rattle.lapd_pair_laws.specs.Move.{Station}
use Rattle.lapd_cli_link_commands.specs.declared.mover.Mover.{Mover}
use Rattle.lapd_cli_link_commands.specs.declared.settler.Settler.{Settler}
use Rattle.lapd_cli_answer.specs.Answer.{messages_of}
use Rattle.lapd_cli_link_commands.specs.Pair.{side_line, output_octets_of}
use Rattle.lapd_cli_answer.specs.PrintedOutput.{OutputOctets}
use Rattle.lapd_cli_answer.specs.PrintedOutputs.{made_output}
use Rattle.lapd_pair.specs.Runs.{PairRepresents}
use Rattle.lapd_pair_laws.specs.World.{World}

abbrev pub IsMover : Mover → World → Type 0
IsMover mover w = PairRepresents mover.pair w

abbrev pub IsSettler : Settler → World → Type 0
IsSettler settler w = IsMover settler.mover w

-- the line of a side's output, by the frame built from it
abbrev pub made_side_line : Side → List (List ℕ) → OutputOctets → Out → List ℕ
made_side_line side messages s output =
    side_line (frame_line side) side (made_output (setup_for side) messages s output)

abbrev pub made_side_lines : Side → Station → List ℕ → List Out → List ℕ
made_side_lines side s unit outs =
    flat_map (made_side_line side (messages_of s.end) (output_octets_of s.history unit)) outs
