use Rattle.std.proofs.Common.{sym}
use Rattle.lapd_table.specs.LinkTable.{IsKey}
use Rattle.lapd_table.proofs.Tables.{none_at}
use Rattle.lapd_table.proofs.link_table.LinkTable.search.Goals as goal

pub returns-in-Some-clause-found : goal.returns-in-Some-clause-found
unfolding IsKey
returns-in-Some-clause-found c = sym c.in-Some.ensures.value

pub returns-in-None-clause-none : goal.returns-in-None-clause-none
returns-in-None-clause-none c =
    λ same. none_at c.args.self.now c.args.id (sym c.in-None.ensures.value)
