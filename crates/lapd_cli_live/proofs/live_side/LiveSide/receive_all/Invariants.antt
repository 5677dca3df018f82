use Rattle.lapd_cli_live.specs.Log.{state_of}
use Rattle.lapd_cli_live.proofs.Steps.{SomeTaken}
use Rattle.lapd_cli_live.proofs.live_side.LiveSide.receive_all.Given as goal

abbrev pub invariant-loop-frame : goal.invariant-loop-frame
invariant-loop-frame g l =
    SomeTaken l.until l._frame
    (state_of g.O.Outside.io_events g.O.Outside.impaired_by g.W.Write.contents l.initial.self)
    (state_of g.O.Outside.io_events g.O.Outside.impaired_by g.W.Write.contents l.self)
