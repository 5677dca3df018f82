use Rattle.std.proofs.Common.{rules}
use Rattle.lapd_cli_side_commands.proofs.line_output.LineOutput.clear.Goals as goal

pub returns-clause-sent : goal.returns-clause-sent
returns-clause-sent c = search rules

pub returns-clause-traced : goal.returns-clause-traced
returns-clause-traced c = search rules

pub returns-clause-delivered : goal.returns-clause-delivered
returns-clause-delivered c = search rules
