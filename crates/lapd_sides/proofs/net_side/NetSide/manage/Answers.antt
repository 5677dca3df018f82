use Rattle.std.proofs.Common.{ap, ◌∙◌}
use Rattle.lapd_tei.specs.Assigner.{AssignerState, assigner_step}
use Rattle.lapd_tei.specs.Out.{tei_given}
use Rattle.lapd_sides.proofs.Networking.{assigned_so, none_given}
use Rattle.lapd_sides.proofs.net_side.NetSide.manage.Goals as goal

pub returns : goal.returns
returns c = λ config s shown.
    let outs = c.as_slice.result.now in
    let event = c.args.event in
    let are = c.as_slice.ensures.value ∙ c.handle-outs.ensures.outs in
    let none = ap tei_given are ∙ c.requires.gives_none c.args.self.now.management in
    assigned_so _ config c.args.now event s outs c.carry_out.new.acts shown.configured
    (c.carry_out.ensures.discarded ∙ shown.discarded)
    (are ∙ ap (λ (a : AssignerState). (assigner_step a event).outs) shown.management)
    (c.handle-outs.ensures.now
    ∙ ap (λ (a : AssignerState). (assigner_step a event).now) shown.management)
    (c.carry_out.ensures.done config s.served
    (none_given c.args.self.now.served config outs s.served none shown.served))
