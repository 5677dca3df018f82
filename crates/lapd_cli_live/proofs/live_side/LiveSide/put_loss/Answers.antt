use Rattle.lapd_cli_wire.specs.declared.outside.Woken.TheVariants as woken
use Rattle.lapd_cli_live.proofs.Steps.{loss_as, no_loss, on_ok}
use Rattle.lapd_cli_live.proofs.live_side.LiveSide.put_loss.Goals as goal

pub returns-in-Lost : goal.returns-in-Lost
returns-in-Lost g c =
    on_ok c.print_loss.result _ _ (loss_as c.args.woken woken.Lost _ _ c.in-Lost.is)
    c.print_loss.ensures

pub returns-in-Arrival : goal.returns-in-Arrival
returns-in-Arrival g c = no_loss c.args.woken _ c.in-Arrival.is
