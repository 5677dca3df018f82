use Rattle.std.proofs.Common.{rules}
use Rattle.lapd_link.proofs.link.Link.message_frame.Goals as goal

pub returns : goal.returns
returns c = search rules
