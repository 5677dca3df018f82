use Rattle.std.proofs.Common.{rules}
use Rattle.lapd_link_definition.proofs.state.State.number.Goals as goal

pub returns-in-AwaitingEstablishment : goal.returns-in-AwaitingEstablishment
returns-in-AwaitingEstablishment c = search rules
