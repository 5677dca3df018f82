use Rattle.lapd_sides.proofs.Using.{given_up}
use Rattle.lapd_sides.proofs.user_side.UserSide.return_tei.Goals as goal

pub returns : goal.returns
returns c = λ config s shown.
    given_up c.args.self.now c.release_tei.new.self config c.args.now c.args.tei s
    c.release_tei.new.acts
    c.tei.result c.has_tei.result shown
    (record { of = c.tei.ensures; is = c.has_tei.ensures; answered = c.if-not-has_tei.false })
    (c.release_tei.ensures config s shown)
