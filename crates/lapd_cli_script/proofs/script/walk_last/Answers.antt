use Rattle.std.proofs.Common.{[], arith}
use Rattle.std.proofs.lemmas.Bool.Decides.{nat_tests}
use Rattle.lapd_cli_script.proofs.Walks.{last_ends, none_last}
use Rattle.lapd_cli_script.proofs.script.walk_last.Goals as goal

pub returns-then-is_empty : goal.returns-then-is_empty
returns-then-is_empty g c =
    λ s h. none_last g.C.Command.represents g.C.Command.step s c.args.cut.now c.args.command.now
    c.args.number.now (g.W.Write.contents c.args.out.now) (grind (arith, nat_tests)) h

pub returns : goal.returns
returns g c = λ s h.
    last_ends g.C.Command.represents g.C.Command.step s c.walk_line.result c.args.cut.now
    c.walk_line.new.command c.args.number.now c.walk_line.new.number
    (g.W.Write.contents c.args.out.now) (g.W.Write.contents c.walk_line.new.out)
    (grind (arith, nat_tests)) c.requires.no_feed (c.walk_line.ensures.ended s [] h)
