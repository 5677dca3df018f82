use Rattle.lapd_cli_live.proofs.StateAnswers.{state_next}
use Rattle.lapd_cli_live.proofs.live_side.LiveSide.put_each.Goals as goal

pub loop-id-preserved : goal.loop-id-preserved
loop-id-preserved g c =
    state_next c.args.ids.now c.loop-id.id-index c.id-item.result c.in_ok-put_state.field-0 _ _ _
    c.loop-id-test.true c.id-item.is c.loop-id.invariant c.in_ok-put_state.ensures
