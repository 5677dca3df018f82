use Rattle.std.proofs.Common.{rules}
use Rattle.lapd_trace.proofs.lines.LinesIterator.next.Goals as goal

pub returns-in_err-line-clause-steps : goal.returns-in_err-line-clause-steps
returns-in_err-line-clause-steps c = search rules

pub returns-clause-steps : goal.returns-clause-steps
returns-clause-steps c = search rules

pub returns-clause-goes : goal.returns-clause-goes
returns-clause-goes c = search rules
