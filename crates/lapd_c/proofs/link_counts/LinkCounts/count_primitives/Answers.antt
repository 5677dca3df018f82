use Rattle.lapd_c.specs.Counters.{primitive_counted}
use Rattle.lapd_c.proofs.Counted.{item_counted}
use Rattle.lapd_c.proofs.link_counts.LinkCounts.count_primitives.Goals as goal

pub loop-primitive-preserved : goal.loop-primitive-preserved
loop-primitive-preserved c =
    item_counted primitive_counted c.args.primitives.now c.loop-primitive.primitive-index
    c.primitive-item.result
    c.args.self.now c.loop-primitive.self c.count_primitive.new.self c.loop-primitive-test.true
    c.primitive-item.is c.loop-primitive.invariant c.count_primitive.ensures
