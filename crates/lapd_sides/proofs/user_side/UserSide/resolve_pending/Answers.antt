use Rattle.std.proofs.Common.{refl, sym, subst}
use Rattle.lapd_sides_links.specs.Effects.{Effects}
use Rattle.lapd_sides.specs.Calls.{HasFollowed}
use Rattle.lapd_sides.specs.ShowsUser.{ShowUser, UserSide}
use Rattle.lapd_sides.specs.User.{establishes_pending, gives_up_pending}
use Rattle.lapd_tei.specs.declared.out.TeiOut.TheVariants as tei
use Rattle.lapd_sides.proofs.Using.{settles}
use Rattle.lapd_sides.proofs.user_side.UserSide.resolve_pending.Goals as goal

pub returns-in-Got : goal.returns-in-Got
returns-in-Got c = λ config s shown.
    let same = c.loop-out.invariant in
    settles c.args.self.now c.establish_pending.new.self config c.args.now c.loop-out.out-index
    c.args.outs.now c.out-item.result (tei.Got c.in-Got.tei) s c.args.acts.now
    c.establish_pending.new.acts (establishes_pending c.args.now c.in-Got.tei s)
    c.loop-out-test.true c.out-item.is c.in-Got.is (same.0 s) refl
    (subst (λ (e : Effects). HasFollowed ShowUser c.establish_pending.new.self config e
    c.establish_pending.new.acts (establishes_pending c.args.now c.in-Got.tei s))
    same.1.1
    (c.establish_pending.ensures config s
    (subst (λ (u : UserSide). ShowUser u config s) (sym same.1.0) shown)))

pub returns-in-Failed : goal.returns-in-Failed
returns-in-Failed c = λ config s shown.
    let same = c.loop-out.invariant in
    settles c.args.self.now c.give_up_pending.new.self config c.args.now c.loop-out.out-index
    c.args.outs.now c.out-item.result tei.Failed s c.args.acts.now c.give_up_pending.new.acts
    (gives_up_pending s) c.loop-out-test.true c.out-item.is c.in-Failed.is (same.0 s) refl
    (subst (λ (e : Effects). HasFollowed ShowUser c.give_up_pending.new.self config e
    c.give_up_pending.new.acts (gives_up_pending s)) same.1.1
    (c.give_up_pending.ensures config s
    (subst (λ (u : UserSide). ShowUser u config s) (sym same.1.0) shown)))
