use Rattle.std.proofs.Common.{sym, ap, subst, ◌∙◌}
use Rattle.lapd_frame.specs.Address.{other_side}
use Rattle.lapd_frame.specs.declared.Side.{Side}
use Rattle.lapd_frame.specs.Reading.{frame_at}
use Rattle.lapd_sides_links.specs.Effects.{Effects}
use Rattle.lapd_sides.specs.declared.links_and_timer.LinksAndTimer.{LinksAndTimer}
use Rattle.lapd_sides.specs.Calls.{Receives}
use Rattle.lapd_sides.specs.Shows.{ReceivePredicted}
use Rattle.lapd_sides.specs.ShowsSide.{Shows}
use Rattle.lapd_sides.specs.SideState.{given_for, takes}
use Rattle.lapd_sides.proofs.Calling.{alone}
use Rattle.lapd_sides.proofs.Steps.{predicted}
use Rattle.lapd_sides.proofs.managed_side.ManagedSide.take.Goals as goal

pub returns-then-take_predicted-clause-received : goal.returns-then-take_predicted-clause-received
returns-then-take_predicted-clause-received g c =
    let h = alone c.clear.new.self c.take_predicted.new.acts (λ (given : Effects).
    ReceivePredicted c.opposite-from.result c.args.bytes.now c.args.now c.args.self.now.served
    c.take_predicted.new.self given) c.clear.ensures
    (c.take_predicted.ensures.taken c.if-take_predicted.true) in
    predicted g.M.Represented.represents g.M.Represented.rules
    g.met.M.Management.predicted_is_for_link c.args.self.now c.take_predicted.new.self
    c.args.bytes.now h.frame c.args.now c.take_predicted.new.acts
    (ap (λ (from : Side). frame_at from c.args.bytes.now)
    (sym (c.opposite-from.ensures ∙ ap other_side c.side.ensures)) ∙ h.found) h.received

pub returns-clause-received : goal.returns-clause-received
returns-clause-received g c =
    subst (λ (served : LinksAndTimer).
    Receives (Shows g.M.Represented.represents g.M.Represented.rules) c.take_any.result
    (record c.args.self.now { served = served }) c.take_any.new.self c.take_any.new.acts
    (λ s. given_for g.M.Represented.rules s.management c.args.bytes.now)
    (λ config. takes g.M.Represented.rules config c.args.bytes.now c.args.now))
    (c.take_predicted.ensures.unchanged c.if-take_predicted.false) c.take_any.ensures.received
