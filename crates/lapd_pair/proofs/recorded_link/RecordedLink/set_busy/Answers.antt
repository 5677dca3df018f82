use Rattle.lapd_pair.proofs.recorded_link.RecordedLink.set_busy.Goals as goal

pub returns-then-on-clause-err : goal.returns-then-on-clause-err
returns-then-on-clause-err c = rw c.if-on.true c.take.ensures.err

pub returns-else-on-clause-err : goal.returns-else-on-clause-err
returns-else-on-clause-err c = rw c.if-on.false c.take-else-on.ensures.err
