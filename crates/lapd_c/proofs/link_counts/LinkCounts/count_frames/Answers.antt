use Rattle.lapd_c.specs.Counters.{sent_counted}
use Rattle.lapd_c.proofs.Counted.{frame_counted}
use Rattle.lapd_c.proofs.link_counts.LinkCounts.count_frames.Goals as goal

pub loop-frame-preserved : goal.loop-frame-preserved
loop-frame-preserved c =
    frame_counted (λ f. f.items) (sent_counted c.args.own) c.args.frames.now
    c.loop-frame.frame-index c.frame-item.result c.as_slice.result.now
    c.args.self.now c.loop-frame.self c.count_sent.new.self c.loop-frame-test.true c.frame-item.is
    c.as_slice.ensures.value c.loop-frame.invariant c.count_sent.ensures
