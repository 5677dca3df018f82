use Rattle.lapd_link_definition.proofs.MessagesThere.{messages_are_there}
use Rattle.lapd_link_definition.proofs.laws.sent_messages_are_there.Goals as goal

pub returns : goal.returns
returns c = messages_are_there
