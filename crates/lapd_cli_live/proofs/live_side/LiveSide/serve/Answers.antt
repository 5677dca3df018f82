use Rattle.std.proofs.Common.{Option, subst}
use Rattle.lapd_cli_live.specs.declared.service.EndReason.{EndReason}
use Rattle.lapd_cli_live.specs.Log.{state_of}
use Rattle.lapd_cli_live.specs.Steps.{Step}
use Rattle.lapd_cli_live.proofs.Steps.{all_steps, more_steps, no_steps}
use Rattle.lapd_cli_live.proofs.live_side.LiveSide.serve.Goals as goal

pub loop-step-init : goal.loop-step-init
loop-step-init g c = no_steps _ _

pub returns-in-Some : goal.returns-in-Some
returns-in-Some g c =
    let step =
    subst (λ (end_reason : Option EndReason). Step c.args.service
    (state_of g.O.Outside.io_events g.O.Outside.impaired_by g.W.Write.contents
    c.loop-step.self)
    (state_of g.O.Outside.io_events g.O.Outside.impaired_by g.W.Write.contents c.step.new.self)
    end_reason) c.in-Some.is c.in_ok-end_reason.ensures in
    all_steps _ _ _ _ _ c.loop-step.invariant step

pub loop-step-preserved : goal.loop-step-preserved
loop-step-preserved g c =
    let step =
    subst (λ (end_reason : Option EndReason). Step c.args.service
    (state_of g.O.Outside.io_events g.O.Outside.impaired_by g.W.Write.contents
    c.loop-step.self)
    (state_of g.O.Outside.io_events g.O.Outside.impaired_by g.W.Write.contents c.step.new.self)
    end_reason) c.in_default.is c.in_ok-end_reason.ensures in
    more_steps _ _ _ _ c.loop-step.invariant step
