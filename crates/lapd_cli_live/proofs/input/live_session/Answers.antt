use Rattle.lapd_cli_live.specs.Sessions.{session_of}
use Rattle.lapd_cli_live.proofs.Sessions.{greeted_ends}
use Rattle.lapd_cli_live.proofs.input.live_session.Goals as goal

pub returns-in-Ok : goal.returns-in-Ok
returns-in-Ok g c =
    greeted_ends g.P.Console.tidy c.args.serve_on (g.R.Read.remaining c.args.lines.now)
    (session_of g.O.Outside.io_events g.O.Outside.impaired_by g.W.Write.contents
    g.P.Console.reported c.args.live c.args.console.now)
    (g.P.Console.reported c.greet.new.self)
    (session_of g.O.Outside.io_events g.O.Outside.impaired_by g.W.Write.contents
    g.P.Console.reported c.converse.new.live c.converse.new.console) c.greet.ensures
    c.in-Ok.ensures
