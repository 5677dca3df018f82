use Rattle.std.proofs.Common.{refl}
use Rattle.lapd_table.proofs.Places.{no_places}
use Rattle.lapd_table.proofs.Tables.{none_in_empty, side_is}
use Rattle.lapd_table.proofs.link_table.LinkTable.new.Goals as goal

pub returns-clause-empty : goal.returns-clause-empty
returns-clause-empty c = none_in_empty _ c.new-2.ensures.empty

pub returns-clause-side : goal.returns-clause-side
returns-clause-side c = side_is _ _ refl

pub invariant_of-result-clause-places_fit : goal.invariant_of-result-clause-places_fit
invariant_of-result-clause-places_fit c = no_places c.new-2.result
