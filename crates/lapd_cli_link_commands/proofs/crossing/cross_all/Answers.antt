use Rattle.lapd_cli_link_commands.proofs.Crossed.{more_crossed}
use Rattle.lapd_cli_link_commands.proofs.crossing.cross_all.Goals as goal

pub loop-frame-preserved : goal.loop-frame-preserved
loop-frame-preserved g c =
    more_crossed (λ frame. frame.items) c.args.frames.now c.loop-frame.frame-index
    c.frame-item.result c.as_slice.result.now _ _ _ _ _ _
    c.loop-frame-test.true c.frame-item.is c.as_slice.ensures.value c.loop-frame.invariant
    c.in_ok-cross.ensures.ok
