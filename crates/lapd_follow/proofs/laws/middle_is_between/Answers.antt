use Rattle.lapd_follow.proofs.Middles.{class_halves, middle_halves}
use Rattle.lapd_follow.proofs.laws.middle_is_between.Goals as goal

pub returns-clause-by_class : goal.returns-clause-by_class
returns-clause-by_class c = class_halves

pub returns-clause-by_time : goal.returns-clause-by_time
returns-clause-by_time c = middle_halves
