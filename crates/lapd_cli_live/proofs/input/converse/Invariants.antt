use Rattle.lapd_cli_live.specs.Sessions.{session_of}
use Rattle.lapd_cli_live.proofs.Sessions.{SessionComes}
use Rattle.lapd_cli_live.proofs.input.converse.Given as goal

abbrev pub invariant-loop-read : goal.invariant-loop-read
invariant-loop-read g l =
    SessionComes g.P.Console.tidy (g.R.Read.remaining l.initial.lines) (g.R.Read.remaining l.lines)
    l.typed.text.items
    (session_of g.O.Outside.io_events g.O.Outside.impaired_by g.W.Write.contents
    g.P.Console.reported l.initial.live l.initial.console)
    (session_of g.O.Outside.io_events g.O.Outside.impaired_by g.W.Write.contents
    g.P.Console.reported l.live l.console)
