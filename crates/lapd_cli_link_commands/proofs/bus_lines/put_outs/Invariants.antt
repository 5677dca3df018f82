use Rattle.std.proofs.Common.{take}
use Rattle.std.specs.Io.KnownBytes.{Appends}
use Rattle.lapd_cli_link_commands.specs.BusLines.{outs_text}
use Rattle.lapd_cli_link_commands.proofs.bus_lines.put_outs.Given as goal

abbrev pub invariant-loop-given : goal.invariant-loop-given
invariant-loop-given g l =
    Appends (g.W.Write.contents l.initial.out) (g.W.Write.contents l.out)
    (outs_text l.who (take l.given-index l.outs))
