use Rattle.std.proofs.Common.{length}
use Rattle.lapd_cli_wire.proofs.SentLater.{SomeSent}
use Rattle.lapd_cli_wire.proofs.impaired.Impaired.send_due.Given as goal

abbrev pub invariant-loop-frame : goal.invariant-loop-frame
invariant-loop-frame g l =
    SomeSent l.now l.initial.self.delays l.self.delays (g.O.Outside.io_events l.initial.self.inner)
    (g.O.Outside.io_events l.self.inner)

abbrev pub decreases-loop-frame : goal.decreases-loop-frame
decreases-loop-frame g l = length l.self.delays.delayed.items
