use Rattle.lapd_cli_live.specs.Log.{state_of}
use Rattle.lapd_cli_live.specs.Sessions.{Awaits, DoesLine, TakesLines}
use Rattle.lapd_cli_live.proofs.input.run_script_lines.Given as goal

abbrev pub invariant-loop-line : goal.invariant-loop-line
invariant-loop-line g l =
    TakesLines Awaits DoesLine l.initial.lines.text.items l.lines.text.items l.initial.number
    l.number
    (state_of g.O.Outside.io_events g.O.Outside.impaired_by g.W.Write.contents l.initial.live)
    (state_of g.O.Outside.io_events g.O.Outside.impaired_by g.W.Write.contents l.live)
