use Rattle.std.proofs.Common.{refl}
use Rattle.lapd_sides.proofs.Receiving.{faulty, unaddressed}
use Rattle.lapd_sides.proofs.links_and_timer.LinksAndTimer.receive_fault.Goals as goal

pub returns-in-Some : goal.returns-in-Some
returns-in-Some c =
    λ side links here. faulty side c.args.self.now c.act_or_discard.new.self
    c.act_or_discard.new.acts links c.args.now c.args.fault.now.kind c.args.fault.now.address
    c.in-Some.address c.of_address-id.result c.in-Some.is c.of_address-id.ensures
    (c.act_or_discard.ensures side links here)

pub returns-in-None : goal.returns-in-None
returns-in-None c =
    λ side links here. unaddressed side c.args.self.now _ c.args.acts.now links c.args.now
    c.args.fault.now.kind c.args.fault.now.address c.in-None.is c.requires.empty here
    c.one_more-self.ensures refl
