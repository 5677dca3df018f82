use Rattle.std.proofs.Common.{None, subst}
use Rattle.lapd_cli_wire.specs.declared.outside.Lines.TheVariants.{Awaited}
use Rattle.lapd_cli_live.specs.declared.service.Until.TheVariants as until
use Rattle.lapd_cli_live.specs.Log.{LiveState, state_of}
use Rattle.lapd_cli_live.specs.Steps.{IsServed}
use Rattle.lapd_cli_live.specs.WaitingLines.{service}
use Rattle.lapd_cli_live.proofs.Steps.{if_ok}
use Rattle.lapd_cli_live.proofs.WaitingLines.{is_keeping}
use Rattle.lapd_cli_live.proofs.live_side.LiveSide.await_input.Goals as goal

pub returns : goal.returns
returns g c =
    if_ok c.serve.result _ _
    (λ end_reason served. subst (λ (s : LiveState). IsServed (service None until.NoEvent Awaited)
    end_reason s (state_of g.O.Outside.io_events g.O.Outside.impaired_by
    g.W.Write.contents c.serve.new.self))
    (is_keeping g.W.Write.contents c.args.self.now.side _ _ c.args.self.now.printer
    c.retain_unseen.new.self c.retain_unseen.ensures.same c.retain_unseen.ensures.preserved
    c.retain_unseen.ensures.lines) served)
    c.serve.ensures
