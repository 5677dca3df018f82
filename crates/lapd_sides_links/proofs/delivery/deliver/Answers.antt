use Rattle.std.proofs.Common.{rules}
use Rattle.lapd_sides_links.proofs.delivery.deliver.Goals as goal

pub returns-in-UnitUp-clause-primitives : goal.returns-in-UnitUp-clause-primitives
returns-in-UnitUp-clause-primitives c = search rules
