use Rattle.lapd_sides.proofs.Using.{both_establish}
use Rattle.lapd_sides.proofs.user_side.UserSide.establish_pending.Goals as goal

pub returns : goal.returns
returns c =
    λ config s shown. both_establish c.args.self.now c.establish_if.new.self
    c.establish_if-2.new.self c.nothing-self.result config s c.args.acts.now c.establish_if.new.acts
    c.establish_if-2.new.acts c.has.result c.has-2.result c.link_id.result c.link_id-2.result
    c.args.now
    c.args.tei
    c.nothing-self.ensures c.has.ensures c.has-2.ensures c.link_id.ensures c.link_id-2.ensures
    c.establish_if.ensures.done c.establish_if-2.ensures.done shown
