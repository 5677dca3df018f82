use Rattle.lapd_sides.proofs.Receiving.{addressed}
use Rattle.lapd_sides.proofs.links_and_timer.LinksAndTimer.receive_frame.Goals as goal

pub returns : goal.returns
returns c =
    λ side links here. addressed side c.args.self.now c.act_or_discard.new.self
    c.act_or_discard.new.acts links c.args.now c.args.frame.now c.of_address-id.result
    c.address.result c.info.result.now c.of_address-id.ensures c.address.ensures c.info.ensures
    (c.act_or_discard.ensures side links here)
