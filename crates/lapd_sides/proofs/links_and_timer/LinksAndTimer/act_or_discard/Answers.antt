use Rattle.std.proofs.Common.{refl}
use Rattle.lapd_sides.proofs.Receiving.{received_by, discarded_by}
use Rattle.lapd_sides.proofs.links_and_timer.LinksAndTimer.act_or_discard.Goals as goal

pub returns-in-Ok : goal.returns-in-Ok
returns-in-Ok c =
    λ side links here. received_by side c.args.self.now _ c.args.acts.now c.act.new.acts links _
    c.requires.empty (c.in-Ok.ensures.ok side links here) refl refl

pub returns-in-Err : goal.returns-in-Err
returns-in-Err c = λ side links here.
    discarded_by side c.args.self.now _ c.args.acts.now c.act.new.acts links _ _ c.requires.empty
    (c.in-Err.ensures.err side links here) (c.in-Err.ensures.unchanged side links here)
    c.in-Err.ensures.nothing c.one_more-self.ensures refl
