use Rattle.lapd_cli_live.proofs.Steps.{all_due, more_due, none_due}
use Rattle.lapd_cli_live.proofs.live_side.LiveSide.expire_due.Goals as goal

pub loop-tick-init : goal.loop-tick-init
loop-tick-init g c = none_due _ _

pub returns-then-not-tick : goal.returns-then-not-tick
returns-then-not-tick g c =
    all_due _ _ _ _ c.moment-now.ensures c.loop-tick.invariant
    (c.tick.ensures.none c.if-not-tick.true) c.tick.ensures.side

pub loop-tick-preserved : goal.loop-tick-preserved
loop-tick-preserved g c =
    more_due _ _ _ _ _ _ c.loop-tick.invariant (c.tick.ensures.due c.if-not-tick.false)
    c.tick.ensures.side c.in_ok-carry_out.ensures.carried
