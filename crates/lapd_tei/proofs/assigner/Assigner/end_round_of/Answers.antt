use Rattle.std.proofs.Common.{rules}
use Rattle.lapd_tei.proofs.assigner.Assigner.end_round_of.Goals as goal

pub returns-in_default-Several-clause-now : goal.returns-in_default-Several-clause-now
returns-in_default-Several-clause-now c = search rules
