use Rattle.std.proofs.Common.{◌≡◌, map, take}
use Rattle.std.specs.Prelude.{flat_map}
use Rattle.std.specs.Io.KnownBytes.{Appends}
use Rattle.lapd_port.specs.SocketText.{socket_text}
use Rattle.lapd_cli_side_commands.specs.LineOutputs.{line_of, octets_of}
use Rattle.lapd_cli_side_commands.proofs.line_output.LineOutput.forward.Given as goal

abbrev pub invariant-loop-sent : goal.invariant-loop-sent
invariant-loop-sent g l =
    Appends (g.K.Sink.written l.initial.port.sink) (g.K.Sink.written l.port.sink)
    (socket_text (map octets_of (take l.sent-index l.sent-items)))
    × (l.port.source ≡ l.initial.port.source)
    × Appends (g.W.Write.contents l.initial.out) (g.W.Write.contents l.out)
    (flat_map line_of (take l.sent-index l.sent-items))
