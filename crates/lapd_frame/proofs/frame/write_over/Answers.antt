use Rattle.std.proofs.Common.{arith, rules}
use Rattle.std.proofs.lemmas.Grind.{common_steps}
use Rattle.lapd_frame.proofs.frame.write_over.Goals as goal

pub append-requires : goal.append-requires
append-requires c = search rules

pub returns-then-not-is_empty-clause-written : goal.returns-then-not-is_empty-clause-written
returns-then-not-is_empty-clause-written c = search rules

pub returns-else-not-is_empty-clause-written : goal.returns-else-not-is_empty-clause-written
returns-else-not-is_empty-clause-written c = grind (arith, common_steps)
