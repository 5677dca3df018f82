use Rattle.std.proofs.Common.{map, take}
use Rattle.lapd_cli_link_commands.specs.Crossing.{HaveCrossed}
use Rattle.lapd_cli_link_commands.proofs.crossing.cross_all.Given as goal

abbrev pub invariant-loop-frame : goal.invariant-loop-frame
invariant-loop-frame g l =
    HaveCrossed (g.S.Source.rest l.initial.port.source) (g.S.Source.rest l.port.source)
    (g.K.Sink.written l.initial.port.sink) (g.K.Sink.written l.port.sink)
    (map (λ frame. frame.items) (take l.frame-index l.frames))
