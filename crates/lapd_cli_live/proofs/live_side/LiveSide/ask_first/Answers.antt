use Rattle.lapd_cli_live.proofs.Steps.{on_ok}
use Rattle.lapd_cli_live.proofs.live_side.LiveSide.ask_first.Goals as goal

pub returns : goal.returns
returns g c =
    on_ok c.execute.result _ _ (λ executes.
    record { now = _; ready = _; reads = c.in_ok-read_clock.ensures; executes = executes })
    c.execute.ensures
