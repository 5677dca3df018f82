use Rattle.std.proofs.Common.{rules}
use Rattle.lapd_link_definition.proofs.event.LinkFault.name.Goals as goal

pub returns-in-NotEstablished : goal.returns-in-NotEstablished
returns-in-NotEstablished c = search rules
