use Rattle.lapd_sides.proofs.Copied.{network_gives, user_gives}
use Rattle.lapd_sides.proofs.either_side.EitherSide.give.Goals as goal

pub returns-in-Network-clause-gives : goal.returns-in-Network-clause-gives
returns-in-Network-clause-gives c = network_gives c.args.id c.args.octets.now c.args.now
    c.give.result c.args.self.now c.give.new.acts _ c.give.new.self c.in-Network.is c.give.ensures

pub returns-in-User-clause-gives : goal.returns-in-User-clause-gives
returns-in-User-clause-gives c = user_gives c.args.id c.args.octets.now c.args.now
    c.give-in-User.result c.args.self.now c.give-in-User.new.acts _ c.give-in-User.new.self
    c.in-User.is c.give-in-User.ensures
