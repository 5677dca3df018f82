use Rattle.std.proofs.Common.{◌≡◌, ◌++◌, map, take}
use Rattle.lapd_cli_side_commands.specs.LineOutputs.{sent_of, primitives_text_of, traced_of}
use Rattle.lapd_cli_side_lines.specs.SideTexts.{frames_text}
use Rattle.lapd_cli_side_commands.proofs.line_output.LineOutput.gather.Given as goal

abbrev pub invariant-loop-frame : goal.invariant-loop-frame
invariant-loop-frame l =
    (sent_of l.self ≡ sent_of l.initial.self
    ++ map (λ frame. frame.items) (take l.frame-index l.frame-items))
    × (traced_of l.self ≡ traced_of l.initial.self
    ++ frames_text l.fn.style l.fn.side
    (map (λ frame. frame.items) (take l.frame-index l.frame-items)))
    × (primitives_text_of l.self ≡ primitives_text_of l.initial.self)
