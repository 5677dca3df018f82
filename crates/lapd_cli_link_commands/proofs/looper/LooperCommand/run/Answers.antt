use Rattle.lapd_cli_link_commands.specs.Pair.{move_step}
use Rattle.lapd_cli_link_commands.proofs.Loops.{line_crossed, line_failed}
use Rattle.lapd_cli_link_commands.proofs.looper.LooperCommand.run.Goals as goal

pub returns-in_err-run : goal.returns-in_err-run
returns-in_err-run g c = λ s h.
    line_failed _ s (move_step s.world c.args.line.now) c.from_residual.result
    c.in_err-run.field-0.0 c.run.new.self _ _ _ c.from_residual.ensures.1
    (c.in_err-run.ensures s.world h.0)

pub returns : goal.returns
returns g c = λ s h.
    line_crossed s (move_step s.world c.args.line.now) c.run.new.self c.cross.new.self.mover
    c.on_line-before.result.to_user c.on_line-before.result.to_network _ _ _ _ _ _
    (c.in_ok-run.ensures s.world h.0) c.in-Ok.ensures.mover
    (c.on_line-before.ensures.to_user s.world h.0)
    (c.on_line-before.ensures.to_network s.world h.0) h.1 c.in-Ok.ensures.ok
