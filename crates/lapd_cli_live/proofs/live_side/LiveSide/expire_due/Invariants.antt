use Rattle.lapd_cli_live.specs.Log.{state_of}
use Rattle.lapd_cli_live.proofs.Steps.{SomeDue}
use Rattle.lapd_cli_live.proofs.live_side.LiveSide.expire_due.Given as goal

abbrev pub invariant-loop-tick : goal.invariant-loop-tick
invariant-loop-tick g l =
    SomeDue l.now
    (state_of g.O.Outside.io_events g.O.Outside.impaired_by g.W.Write.contents l.initial.self)
    (state_of g.O.Outside.io_events g.O.Outside.impaired_by g.W.Write.contents l.self)
