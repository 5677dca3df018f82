use Rattle.lapd_sides.specs.Either.{side_of}
use Rattle.lapd_cli_live.proofs.StateAnswers.{counts_printed}
use Rattle.lapd_cli_live.proofs.Steps.{on_ok}
use Rattle.lapd_cli_live.proofs.live_side.LiveSide.put_stats.Goals as goal

pub returns : goal.returns
returns g c =
    on_ok c.put_stats.result _ _
    (λ prints. record {
      ready = _;
      catches_up = c.in_ok-catch_up.ensures.does;
      discarded = c.discarded-discarded.result;
      have = c.discarded-discarded.ensures;
      prints =
          counts_printed g.W.Write.contents c.catch_up.new.self.side _ _ _ _
          c.discarded-discarded.result prints;
    })
    (c.put_stats.ensures (side_of c.catch_up.new.self.side))
