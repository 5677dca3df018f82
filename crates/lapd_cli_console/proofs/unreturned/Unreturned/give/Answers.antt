use Rattle.std.proofs.Common.{arith}
use Rattle.lapd_cli_console.proofs.GivenPart.{given_part}
use Rattle.lapd_cli_console.proofs.unreturned.Unreturned.give.Goals as goal

pub returns-clause-given : goal.returns-clause-given
returns-clause-given c =
    given_part c.min-count.result c.self.inside.returned c.self.inside.line.items
    c.as_slice.result.now c.copy_from_slice.new.self _ c.args.self.now
    c.self.view_is c.as_slice.ensures.value c.copy_from_slice.ensures.after
    (omega (arith, c.min-count.ensures))
