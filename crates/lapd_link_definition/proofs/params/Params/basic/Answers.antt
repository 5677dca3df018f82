use Rattle.std.proofs.Common.{rules}
use Rattle.lapd_link_definition.proofs.params.Params.basic.Goals as goal

pub returns : goal.returns
returns c = search rules
