use Rattle.lapd_clock_laws.proofs.laws.ticks_are_when_due.Goals as goal

pub returns : goal.returns
returns c = λ id s now e due its. (e.deadline, due.0)
