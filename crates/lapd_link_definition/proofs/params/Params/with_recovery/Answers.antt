use Rattle.std.proofs.Common.{rules}
use Rattle.lapd_link_definition.proofs.params.Params.with_recovery.Goals as goal

pub returns : goal.returns
returns c = search rules
