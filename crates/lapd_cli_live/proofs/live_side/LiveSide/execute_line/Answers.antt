use Rattle.std.proofs.Common.{◌≡◌, Some, ap, subst, ◌∙◌}
use Rattle.std.specs.Prelude.{Bool}
use Rattle.lapd_frame.specs.declared.Side.{Side}
use Rattle.lapd_sides.specs.Either.{side_of}
use Rattle.lapd_cli_live_text.specs.LiveRequests.{live_request_of, live_request_of_line}
use Rattle.lapd_cli_live.specs.LineDone.{begun}
use Rattle.lapd_cli_live.specs.Log.{LiveState, state_of}
use Rattle.lapd_cli_live.specs.Sessions.{RequestEnds}
use Rattle.lapd_cli_live.proofs.Sessions.{executed_as}
use Rattle.lapd_cli_live.proofs.Steps.{flushed}
use Rattle.lapd_cli_live.proofs.live_side.LiveSide.execute_line.Goals as goal

pub returns-in_ok-flush-in-Ok-run_line : goal.returns-in_ok-flush-in-Ok-run_line
returns-in_ok-flush-in-Ok-run_line g c =
    let asked = c.in-Ok.line in
    let done_at =
    state_of g.O.Outside.io_events g.O.Outside.impaired_by g.W.Write.contents
    c.run_line.new.self in
    let starts =
    c.begin_line.ensures
    ∙ ap (λ (x : Bool). begun x (state_of g.O.Outside.io_events g.O.Outside.impaired_by
    g.W.Write.contents c.args.self.now)) c.is_expect.ensures in
    executed_as c.in-Ok-run_line.executed c.args.line.now c.args.lines c.own_tei-own.result asked _
    done_at _ c.own_tei-own.ensures
    (subst (λ (side : Side). live_request_of_line side c.own_tei-own.result c.args.line.now ≡ Some
    (live_request_of asked)) c.side-side.ensures c.in-Ok.ensures)
    (subst (λ (s : LiveState). RequestEnds c.in-Ok-run_line.executed asked c.args.lines s done_at)
    starts c.in-Ok-run_line.ensures)
    (flushed g.W.Write.contents c.run_line.new.self.side _ _ _ _
    (c.in_ok-flush-in-Ok-run_line.ensures.shown (side_of c.run_line.new.self.side)))
