use Rattle.std.proofs.Common.{rules}
use Rattle.lapd_link_definition.proofs.params.Params.new.Goals as goal

pub invariant_of-result : goal.invariant_of-result
invariant_of-result c = search rules

pub returns-then-in_range : goal.returns-then-in_range
returns-then-in_range c = search rules
