use Rattle.std.proofs.Common.{sym, ◌∙◌}
use Rattle.lapd_link_definition.specs.End.{begin}
use Rattle.lapd_link_machine.proofs.Tails.{tail_waiting}
use Rattle.lapd_link.proofs.link.Link.waiting.Goals as goal

pub returns : goal.returns
unfolding begin
returns c = λ e s. c.len.ensures.count ∙ sym (tail_waiting e.given e.first e.next _ s.queue)
