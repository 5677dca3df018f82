use Rattle.lapd_tei.specs.declared.terminal.TerminalEvent.TheVariants as event
use Rattle.lapd_sides.proofs.Using.{acts_so, t202_gets_none}
use Rattle.lapd_sides.proofs.user_side.TerminalManagementManagement.expire_timer.Goals as goal

pub manage-requires-clause-gets_none : goal.manage-requires-clause-gets_none
manage-requires-clause-gets_none c = t202_gets_none c.next.result

pub returns : goal.returns
returns c =
    λ config s shown. acts_so c.manage.new.self config c.args.now s c.manage.new.acts event.T202
    c.next.result (c.next.ensures s.management.random shown.management.random)
    (c.manage.ensures config s shown)
