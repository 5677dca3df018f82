use Rattle.std.proofs.Common.{sym, ◌∙◌, arith, ap}
use Rattle.std.specs.Prelude.{true}
use Rattle.lapd_cli_live.specs.Steps.{ended_by}
use Rattle.lapd_cli_live.proofs.Steps.{more_taken, none_taken, takes_all, takes_most, taken_by, looked_in_vain, none_ended, received_by}
use Rattle.lapd_cli_live.proofs.live_side.LiveSide.receive_all.Goals as goal

pub loop-frame-init : goal.loop-frame-init
loop-frame-init g c = none_taken _ _

pub returns-then-not-branch : goal.returns-then-not-branch
returns-then-not-branch g c =
    takes_all _ c.loop-frame._frame _ _ _ c.loop-frame.invariant c.loop-frame-test.true
    (looked_in_vain _ _ _ c.if-not-branch.true c.in_ok-receive_one.ensures)

pub returns-then-is_some : goal.returns-then-is_some
returns-then-is_some g c =
    received_by c.args.until c.loop-frame._frame c.ended_by-end_reason.result _ _ _
    c.loop-frame.invariant (taken_by _ _ _ c.if-not-branch.false c.in_ok-receive_one.ensures)
    (c.ended_by-end_reason.ensures ∙ ap (ended_by c.args.until true) c.is_matched.ensures)
    (sym c.is_some.ensures ∙ c.if-is_some.true)

pub loop-frame-preserved : goal.loop-frame-preserved
loop-frame-preserved g c =
    more_taken _ c.loop-frame._frame _ _ _ c.loop-frame.invariant
    (taken_by _ _ _ c.if-not-branch.false c.in_ok-receive_one.ensures)
    (none_ended c.ended_by-end_reason.result _
    (c.ended_by-end_reason.ensures ∙ ap (ended_by c.args.until true) c.is_matched.ensures)
    (sym c.is_some.ensures ∙ c.if-is_some.false))

pub returns : goal.returns
returns g c = takes_most _ c.loop-frame._frame _ _ c.loop-frame.invariant (omega arith)
