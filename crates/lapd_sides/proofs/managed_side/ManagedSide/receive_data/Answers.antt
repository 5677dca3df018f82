use Rattle.std.proofs.Common.{ℕ, List, ap, ◌∙◌, ◌++◌}
use Rattle.lapd_sides_links.specs.Effects.{Effects, no_effects}
use Rattle.lapd_sides_links.specs.declared.primitive.What.TheVariants as what
use Rattle.lapd_sides.specs.SideState.{primitive_of_group}
use Rattle.lapd_sides.proofs.Steps.{data_for_link, received_so, unit_delivered}
use Rattle.lapd_sides.proofs.managed_side.ManagedSide.receive_data.Goals as goal

pub returns-then-is_for_layer_3 : goal.returns-then-is_for_layer_3
returns-then-is_for_layer_3 g c = λ config s shown.
    unit_delivered g.M.Represented.represents g.M.Represented.rules c.args.self.now config
    c.args.now
    c.args.frame.now s c.is_for_layer_3.result c.address.result c.info.result.now
    c.deliver_for_sapi.new.acts
    (record { is = c.is_for_layer_3.ensures; answered = c.if-is_for_layer_3.true })
    c.address.ensures c.info.ensures
    (c.deliver_for_sapi.ensures ∙ ap (λ (e : Effects). record e {
      primitives = e.primitives
          ++ primitive_of_group c.address.result.sapi (what.UnitUp c.new-octets.result);
    }) c.requires.empty ∙ ap (λ (o : List ℕ). record no_effects {
      primitives = primitive_of_group c.address.result.sapi (what.UnitUp o);
    }) c.new-octets.ensures) shown

pub returns-else-is_for_layer_3 : goal.returns-else-is_for_layer_3
returns-else-is_for_layer_3 g c = λ config s shown.
    let side = g.M.Represented.rules.side in
    data_for_link g.M.Represented.represents g.M.Represented.rules c.args.self.now _ config
    c.args.now c.args.frame.now s c.is_for_layer_3.result c.receive_frame.new.acts
    (record { is = c.is_for_layer_3.ensures; answered = c.if-is_for_layer_3.false }) shown
    (received_so g.M.Represented.represents side c.args.self.now c.receive_frame.new.self config s
    c.receive_frame.new.acts _ shown
    (c.receive_frame.ensures side s.served.links shown.served.links))
