use Rattle.std.proofs.Common.{◌∙◌}
use Rattle.lapd_tei.specs.Terminal.{terminal_step}
use Rattle.lapd_sides.proofs.Using.{handled, outs_of}
use Rattle.lapd_sides.proofs.user_side.UserSide.manage.Goals as goal

pub returns : goal.returns
returns c = λ config s shown.
    c.carry_out.ensures config s (terminal_step s.management.terminal c.args.event)
    (outs_of c.args.self.now config s c.args.event c.as_slice.result.now shown
    (c.as_slice.ensures.value ∙ c.handle-outs.ensures.outs))
    (handled c.args.self.now config s c.args.event c.handle-outs.new.self shown
    c.handle-outs.ensures.now (c.requires.gets_none s.management.terminal))
