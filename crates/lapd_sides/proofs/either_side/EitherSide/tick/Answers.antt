use Rattle.std.proofs.Common.{sym, subst}
use Rattle.lapd_sides.specs.declared.either_side.EitherSide.{EitherSide}
use Rattle.lapd_sides.specs.declared.either_side.EitherSide.TheVariants.{Network, User}
use Rattle.lapd_sides.specs.Either.{Expires, StaysIdle}
use Rattle.lapd_sides.proofs.either_side.EitherSide.tick.Goals as goal

pub returns-in-Network-clause-none : goal.returns-in-Network-clause-none
returns-in-Network-clause-none c =
    λ e. subst (λ (x : EitherSide). StaysIdle c.args.now x (Network c.tick.new.self))
    (sym c.in-Network.is) (c.tick.ensures.none e)

pub returns-in-User-clause-none : goal.returns-in-User-clause-none
returns-in-User-clause-none c =
    λ e. subst (λ (x : EitherSide). StaysIdle c.args.now x (User c.tick-in-User.new.self))
    (sym c.in-User.is) (c.tick-in-User.ensures.none e)

pub returns-in-User-clause-due : goal.returns-in-User-clause-due
returns-in-User-clause-due c =
    λ e. subst (λ (x : EitherSide). Expires c.args.now x (User c.tick-in-User.new.self)
    c.tick-in-User.new.acts) (sym c.in-User.is) (c.tick-in-User.ensures.due e)

pub returns-in-Network-clause-due : goal.returns-in-Network-clause-due
returns-in-Network-clause-due c = λ e.
    subst (λ (x : EitherSide). Expires c.args.now x (Network c.tick.new.self) c.tick.new.acts)
    (sym c.in-Network.is) (c.tick.ensures.due e)
