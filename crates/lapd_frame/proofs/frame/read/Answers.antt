use Rattle.std.proofs.Common.{ap, ◌∙◌}
use Rattle.lapd_frame.specs.Reading.{frame_at}
use Rattle.lapd_frame.proofs.FrameAt.{frame_again, address_carried}
use Rattle.lapd_frame.proofs.FirstFault.{first_fault_law}
use Rattle.lapd_frame.proofs.frame.read.Goals as goal

pub returns : goal.returns
returns c = record {
  found = c.frame_at.ensures.found;
  only =
      λ f h e. c.frame_at.ensures.exact ∙ ap (frame_at c.args.from) e ∙ frame_again c.args.from f
      h.content;
  order = rw c.frame_at.ensures.exact (first_fault_law c.args.from c.args.octets.now);
  address = rw c.frame_at.ensures.exact (address_carried c.args.from c.args.octets.now);
  exact = c.frame_at.ensures.exact;
}
