use Rattle.std.proofs.Common.{◌∙◌}
use Rattle.lapd_sides.proofs.Using.{carried, served_before}
use Rattle.lapd_sides.proofs.user_side.UserSide.carry_out.Goals as goal

pub returns : goal.returns
returns c = λ config s step same shown.
    carried _ c.resolve_pending.new.self config c.args.now s step c.args.outs.now
    c.sends_message.result c.carry_out.new.acts c.resolve_pending.new.acts same
    c.sends_message.ensures shown.configured (c.carry_out.ensures.discarded ∙ shown.discarded)
    shown.management.terminal shown.management.pending
    (c.advance_if.ensures s.management.random shown.management.random)
    (c.carry_out.ensures.done config s.served
    (served_before c.args.self.now config s step c.args.outs.now same shown))
    c.resolve_pending.ensures
