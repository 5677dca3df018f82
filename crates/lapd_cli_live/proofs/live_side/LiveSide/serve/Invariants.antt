use Rattle.lapd_cli_live.specs.Log.{state_of}
use Rattle.lapd_cli_live.proofs.Steps.{SomeSteps}
use Rattle.lapd_cli_live.proofs.live_side.LiveSide.serve.Given as goal

abbrev pub invariant-loop-step : goal.invariant-loop-step
invariant-loop-step g l =
    SomeSteps l.service
    (state_of g.O.Outside.io_events g.O.Outside.impaired_by g.W.Write.contents l.initial.self)
    (state_of g.O.Outside.io_events g.O.Outside.impaired_by g.W.Write.contents l.self)
