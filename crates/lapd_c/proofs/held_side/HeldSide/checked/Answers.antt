use Rattle.std.proofs.Common.{sym, ap, subst, ◌∙◌}
use Rattle.lapd_sides.specs.declared.either_side.EitherSide.{EitherSide}
use Rattle.lapd_tei.specs.Assigner.{AssignerState, checked}
use Rattle.lapd_c.specs.SideQueries.{HasCheck}
use Rattle.lapd_c.proofs.held_side.HeldSide.checked.Goals as goal

pub returns-in-Network : goal.returns-in-Network
returns-in-Network c = subst (λ (x : EitherSide). HasCheck x c.check.result)
    (sym c.in-Network.is ∙ c.side.ensures)
    (λ config s shown. c.check.ensures
    ∙ ap (λ (a : AssignerState). checked a.check) (c.assigner.ensures config s shown))
