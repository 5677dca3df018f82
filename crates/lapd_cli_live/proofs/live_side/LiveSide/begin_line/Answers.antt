use Rattle.std.proofs.Common.{sym, ap, ◌∙◌}
use Rattle.std.specs.Prelude.{Bool}
use Rattle.lapd_cli_live.specs.LineDone.{begun}
use Rattle.lapd_cli_live.specs.Log.{state_of}
use Rattle.lapd_cli_live.proofs.WaitingLines.{is_forgetting}
use Rattle.lapd_cli_live.proofs.live_side.LiveSide.begin_line.Goals as goal

pub returns-then-is_expect : goal.returns-then-is_expect
returns-then-is_expect g c =
    ap (λ (x : Bool). begun x (state_of g.O.Outside.io_events g.O.Outside.impaired_by
    g.W.Write.contents c.args.self.now)) (sym c.if-is_expect.true)

pub returns : goal.returns
returns g c =
    is_forgetting g.W.Write.contents c.args.self.now.side _ _ c.args.self.now.printer
    c.forget_unseen.new.self c.forget_unseen.ensures.same c.forget_unseen.ensures.preserved
    c.forget_unseen.ensures.lines
    ∙ ap (λ (x : Bool). begun x (state_of g.O.Outside.io_events g.O.Outside.impaired_by
    g.W.Write.contents c.args.self.now)) (sym c.if-is_expect.false)
