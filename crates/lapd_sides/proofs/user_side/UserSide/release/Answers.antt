use Rattle.std.proofs.Common.{[]}
use Rattle.lapd_link_definition.specs.Input.{Release}
use Rattle.lapd_sides.specs.SideState.{link_of}
use Rattle.lapd_sides.specs.User.{forgets}
use Rattle.lapd_sides.proofs.Using.{answers_as, is_own, is_none}
use Rattle.lapd_sides.proofs.user_side.UserSide.release.Goals as goal

pub returns-in-Some : goal.returns-in-Some
unfolding link_of
returns-in-Some c = answers_as c.act.result _ _ _ _ _ _ (λ config s shown.
    is_own c.args.self.now config s c.tei.result c.in-Some.tei c.args.now c.args.sapi
    c.link_id.result
    Release [] (forgets c.args.sapi s) shown
    (record { of = c.tei.ensures; is = c.in-Some.is; named = c.link_id.ensures })) c.act.ensures

pub returns-in-None : goal.returns-in-None
returns-in-None c = answers_as c.drop_pending.result _ _ _ _ _ _ (λ config s shown.
    is_none c.args.self.now config s c.tei.result c.args.now c.args.sapi Release []
    (forgets c.args.sapi s) shown c.tei.ensures c.in-None.is) c.drop_pending.ensures
