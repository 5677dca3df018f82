use Rattle.std.proofs.Common.{refl}
use Rattle.lapd_sides.specs.Either.{side_of}
use Rattle.lapd_cli_live.proofs.Steps.{beside_printed, on_ok}
use Rattle.lapd_cli_live.proofs.live_side.LiveSide.print_loss.Goals as goal

pub returns : goal.returns
returns g c =
    on_ok c.put_words.result _ _
    (λ prints. beside_printed g.W.Write.contents c.args.self.now.side _ _ _ _ _ prints refl)
    (c.put_words.ensures (side_of c.args.self.now.side))
