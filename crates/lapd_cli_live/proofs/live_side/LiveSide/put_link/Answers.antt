use Rattle.std.proofs.Common.{inl, inr, refl}
use Rattle.lapd_sides.specs.Either.{side_of}
use Rattle.lapd_cli_live.proofs.StateAnswers.{puts_link, puts_no_link, refuses_link}
use Rattle.lapd_cli_live.proofs.Steps.{beside_printed, on_ok}
use Rattle.lapd_cli_live.proofs.live_side.LiveSide.put_link.Goals as goal

pub returns-then-branch : goal.returns-then-branch
returns-then-branch g c = record {
  ready = _;
  catches_up = c.in_ok-catch_up.ensures.does;
  prints = inl (puts_link c.args.id.now _ _ _ c.if-branch.true c.in_ok-put_state.ensures);
}

pub returns : goal.returns
returns g c =
    on_ok c.put_refused.result _ _
    (λ prints. record {
      ready = _;
      catches_up = c.in_ok-catch_up.ensures.does;
      prints =
          inr (refuses_link c.args.id.now _ _ _
          (puts_no_link c.args.id.now _ _ _ c.if-branch.false c.in_ok-put_state.ensures)
          (beside_printed g.W.Write.contents c.put_state.new.self.side _ _ _ _ _ prints refl));
    })
    (c.put_refused.ensures (side_of c.put_state.new.self.side))
