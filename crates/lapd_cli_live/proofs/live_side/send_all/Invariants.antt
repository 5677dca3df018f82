use Rattle.std.proofs.Common.{map, take}
use Rattle.lapd_cli_live.specs.Printers.{SendsAll}
use Rattle.lapd_cli_live.proofs.live_side.send_all.Given as goal

abbrev pub invariant-loop-frame : goal.invariant-loop-frame
invariant-loop-frame g l =
    SendsAll l.own (map (λ f. f.items) (take l.frame-index l.frames))
    (g.O.Outside.io_events l.initial.outside) (g.O.Outside.io_events l.outside)
    (g.O.Outside.impaired_by l.initial.outside) (g.O.Outside.impaired_by l.outside)
    g.W.Write.contents
    l.initial.printer l.printer
