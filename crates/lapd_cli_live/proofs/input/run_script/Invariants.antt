use Rattle.lapd_cli_live.specs.Log.{state_of}
use Rattle.lapd_cli_live.specs.Sessions.{Awaits, DoesLine}
use Rattle.lapd_cli_live.proofs.Sessions.{LeadsTo}
use Rattle.lapd_cli_live.proofs.input.run_script.Given as goal

abbrev pub invariant-loop-read : goal.invariant-loop-read
invariant-loop-read g l =
    LeadsTo Awaits DoesLine (g.R.Read.remaining l.initial.script) (g.R.Read.remaining l.script)
    l.lines.text.items l.number
    (state_of g.O.Outside.io_events g.O.Outside.impaired_by g.W.Write.contents l.initial.live)
    (state_of g.O.Outside.io_events g.O.Outside.impaired_by g.W.Write.contents l.live)
