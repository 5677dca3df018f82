use Rattle.std.proofs.Common.{rules}
use Rattle.lapd_tei.proofs.Named.{one_is_named}
use Rattle.lapd_tei.proofs.assigner.Assigner.begin_check.Goals as goal

pub returns-in-None-Some-clause-now : goal.returns-in-None-Some-clause-now
returns-in-None-Some-clause-now c = search (rules, one_is_named)
