use Rattle.std.proofs.Common.{ℕ}
use Rattle.lapd_cli_live.specs.Sessions.{AwaitsQuietly, TakesLines, TypesOn, session_of}
use Rattle.lapd_cli_live.proofs.input.run_typed_lines.Given as goal

abbrev pub invariant-loop-line : goal.invariant-loop-line
invariant-loop-line g l =
    (n : ℕ)
    × TakesLines AwaitsQuietly (TypesOn g.P.Console.tidy) l.initial.typed.text.items
    l.typed.text.items 0 n
    (session_of g.O.Outside.io_events g.O.Outside.impaired_by g.W.Write.contents
    g.P.Console.reported l.initial.live l.initial.console)
    (session_of g.O.Outside.io_events g.O.Outside.impaired_by g.W.Write.contents
    g.P.Console.reported l.live l.console)
