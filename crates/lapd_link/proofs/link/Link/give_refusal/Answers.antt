use Rattle.std.proofs.Common.{rules}
use Rattle.lapd_link_definition.specs.End.{begin}
use Rattle.lapd_link.proofs.link.Link.give_refusal.Goals as goal

pub returns-in-None : goal.returns-in-None
unfolding begin
returns-in-None c = search rules

pub returns-in-None-2 : goal.returns-in-None-2
unfolding begin
returns-in-None-2 c = search rules
