use Rattle.std.proofs.Common.{refl, sym, ◌∙◌}
use Rattle.lapd_sides.proofs.Calling.{unsent_by}
use Rattle.lapd_sides.proofs.EitherSteps.{means_none, sends_or_not}
use Rattle.lapd_sides.proofs.either_side.EitherSide.send_at_once.Goals as goal

pub returns-in-Some : goal.returns-in-Some
returns-in-Some c =
    sends_or_not c.args.self.now c.served.result.now c.send_at_once.new.self c.args.id.now
    c.in-Some.own c.args.octets.now c.args.now c.args.acts.now c.send_at_once.new.acts
    c.send_at_once.result c.served.ensures.value (sym c.link_of_call.ensures ∙ c.in-Some.is)
    c.send_at_once.ensures

pub returns-in-None : goal.returns-in-None
returns-in-None c = unsent_by c.args.octets.now _ _ _ c.unsent.result
    (means_none c.args.self.now c.args.id.now c.args.octets.now
    (sym c.link_of_call.ensures ∙ c.in-None.is)) (refl, refl) c.unsent.ensures
