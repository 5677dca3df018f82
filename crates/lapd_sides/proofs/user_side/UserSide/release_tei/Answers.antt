use Rattle.lapd_tei.specs.declared.terminal.TerminalEvent.TheVariants as event
use Rattle.std.proofs.Common.{refl}
use Rattle.lapd_sides.specs.User.{next_reference}
use Rattle.lapd_sides.proofs.Using.{acts_so, leave_gets_none}
use Rattle.lapd_sides.proofs.user_side.UserSide.release_tei.Goals as goal

pub manage-requires-clause-gets_none : goal.manage-requires-clause-gets_none
manage-requires-clause-gets_none c = leave_gets_none

pub returns : goal.returns
returns c =
    λ config s shown. acts_so c.manage.new.self config c.args.now s c.manage.new.acts
    (λ ri. event.Leave) (next_reference s.management.random) refl (c.manage.ensures config s shown)
