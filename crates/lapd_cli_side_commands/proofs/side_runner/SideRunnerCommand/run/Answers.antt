use Rattle.std.proofs.Common.{◌≡◌, Some, subst}
use Rattle.std.proofs.KnownBytes.{Appends-nil}
use Rattle.lapd_frame.specs.declared.Side.{Side}
use Rattle.lapd_cli_side_commands.specs.Served.{at_work, devices}
use Rattle.lapd_cli_side_lines.specs.LineRequests.{request_of, request_of_line}
use Rattle.lapd_cli_side_commands.proofs.Serving.{line_done}
use Rattle.lapd_cli_side_commands.proofs.side_runner.SideRunnerCommand.run.Goals as goal

pub returns : goal.returns
returns g c = λ s come.
    let old = c.args.self.now in
    let new = c.execute.new.self in
    let asked = c.in_ok-asked.asked in
    line_done s c.args.line.now asked (at_work old.side old.now
    (devices old.style (g.S.Source.rest old.port.source) (g.K.Sink.written old.port.sink)
    (g.W.Write.contents old.out)))
    (at_work new.side new.now (devices new.style (g.S.Source.rest new.port.source)
    (g.K.Sink.written new.port.sink) (g.W.Write.contents new.out))) _ _ come
    (subst (λ (side : Side). request_of_line side c.args.line.now ≡ Some (request_of asked))
    c.side.ensures c.in_ok-asked.ensures)
    c.in_ok-execute.ensures.clock c.in_ok-execute.ensures.side c.in_ok-execute.ensures.does
    (Appends-nil _)
