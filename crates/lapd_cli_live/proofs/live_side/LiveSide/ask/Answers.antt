use Rattle.std.proofs.Common.{subst, sym}
use Rattle.lapd_cli_live.specs.Log.{LiveState, state_of}
use Rattle.lapd_cli_live.specs.Steps.{IsAsked}
use Rattle.lapd_cli_live.proofs.live_side.LiveSide.ask.Goals as goal

pub returns : goal.returns
returns g c =
    subst (λ (x : LiveState). IsAsked c.args.request
    (state_of g.O.Outside.io_events g.O.Outside.impaired_by g.W.Write.contents c.args.self.now) x)
    (sym c.note_without_effect.ensures)
    (record {
      ready = _;
      catches_up = c.in_ok-catch_up.ensures.does;
      executes = c.in_ok-execute.ensures;
    })
