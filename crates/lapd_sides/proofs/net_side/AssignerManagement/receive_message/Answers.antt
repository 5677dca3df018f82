use Rattle.std.proofs.Common.{List, sym, ap, subst, ◌∙◌}
use Rattle.std.specs.Prelude.{IsSome}
use Rattle.lapd_frame.specs.declared.Side.TheVariants as side
use Rattle.lapd_tei.specs.declared.assigner.AssignerEvent.TheVariants as event
use Rattle.lapd_tei.specs.declared.out.TeiOut.{TeiOut}
use Rattle.lapd_tei.specs.Assigner.{AssignerState, assigner_step}
use Rattle.lapd_tei.specs.Out.{tei_given}
use Rattle.lapd_sides_links.specs.declared.config.Config.{Config}
use Rattle.lapd_sides.specs.Management.{links_with}
use Rattle.lapd_sides.specs.Shows.{ShowServed}
use Rattle.lapd_sides.proofs.Calling.{lacks}
use Rattle.lapd_sides.proofs.Networking.{assigned_so}
use Rattle.lapd_sides.proofs.net_side.AssignerManagement.receive_message.Goals as goal

pub returns-in_err-admit : goal.returns-in_err-admit
returns-in_err-admit c =
    let received = event.Heard c.args.message in
    lacks c.from_residual.result _ _ _ _ _ c.from_residual.ensures.0 (record {
      only =
          λ config s shown. subst (λ (o : List TeiOut). IsSome (tei_given o))
          (c.as_slice.ensures.value ∙ c.handle-outs.ensures.outs
          ∙ ap (λ (a : AssignerState). (assigner_step a received).outs) shown.management)
          c.in_err-admit.ensures.only;
      unchanged = λ config s shown. record {
        configured = shown.configured;
        served = c.in_err-admit.ensures.unchanged side.Network s.served shown.served;
        management = shown.management;
        discarded = c.in_err-admit.ensures.discarded ∙ shown.discarded;
      };
      nothing = c.requires.empty;
    })

pub returns : goal.returns
returns c = λ config s shown.
    let outs = c.as_slice-2.result.now in
    let received = event.Heard c.args.message in
    let are = c.as_slice-2.ensures.value ∙ c.handle-outs.ensures.outs in
    assigned_so _ config c.args.now received s outs c.carry_out.new.acts shown.configured
    (c.carry_out.ensures.discarded ∙ c.in_ok-admit.ensures.discarded ∙ shown.discarded)
    (are ∙ ap (λ (a : AssignerState). (assigner_step a received).outs) shown.management)
    (c.handle-outs.ensures.now
    ∙ ap (λ (a : AssignerState). (assigner_step a received).now) shown.management)
    (c.carry_out.ensures.done config s.served
    (subst (λ (o : List TeiOut). ShowServed side.Network c.admit.new.self
    (record s.served { links = links_with config (tei_given o) s.served.links }))
    (c.as_slice.ensures.value ∙ sym c.as_slice-2.ensures.value)
    (subst (λ (k : Config). ShowServed side.Network c.admit.new.self
    (record s.served
    { links = links_with k (tei_given c.as_slice.result.now) s.served.links }))
    shown.configured (c.in_ok-admit.ensures.ok side.Network s.served shown.served))))
