use Rattle.std.proofs.Common.{sym, ap, subst, ◌∙◌}
use Rattle.lapd_sides.specs.declared.either_side.EitherSide.{EitherSide}
use Rattle.lapd_tei.specs.Assigner.{AssignerState}
use Rattle.lapd_tei.specs.Terminal.{tei_of}
use Rattle.lapd_tei.specs.declared.phase.Phase.{Phase}
use Rattle.lapd_c.specs.TeiLists.{HasTeis, tei_alone, teis_held}
use Rattle.lapd_c.proofs.held_side.HeldSide.own_teis.Goals as goal

pub returns-in-Network : goal.returns-in-Network
returns-in-Network c = subst (λ (x : EitherSide). HasTeis x c.teis_held.result.items)
    (sym c.in-Network.is ∙ c.side.ensures)
    (λ config s shown. c.teis_held.ensures
    ∙ ap (λ (a : AssignerState). teis_held a.held) (c.assigner.ensures config s shown))

pub returns-in-User : goal.returns-in-User
returns-in-User c = subst (λ (x : EitherSide). HasTeis x c.tei_alone.result.items)
    (sym c.in-User.is ∙ c.side.ensures)
    (λ config s shown. c.tei_alone.ensures ∙ (ap tei_alone c.tei.ensures
    ∙ ap (λ (p : Phase). tei_alone (tei_of p)) (c.terminal.ensures config s shown)))
