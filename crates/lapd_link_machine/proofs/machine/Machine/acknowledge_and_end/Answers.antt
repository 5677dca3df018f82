use Rattle.std.proofs.Common.{sym}
use Rattle.lapd_link_machine.proofs.machine.Machine.acknowledge_and_end.Goals as goal

pub take_nr_returning-nr-requires-clause-counted : goal.take_nr_returning-nr-requires-clause-counted
take_nr_returning-nr-requires-clause-counted c = c.requires.counted

pub returns-in-Some-clause-step : goal.returns-in-Some-clause-step
returns-in-Some-clause-step c = (
  sym c.in-Some.ensures.valid,
  λ s h. c.end_returning-acknowledgement.ensures.step _ _
      (c.take_nr_returning-nr.ensures.step s _ h),
)
