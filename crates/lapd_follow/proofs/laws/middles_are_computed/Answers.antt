use Rattle.std.proofs.Common.{refl}
use Rattle.lapd_follow.specs.Classes.{bounds, class_of, begin_of, end_of, middle_class}
use Rattle.lapd_follow.proofs.laws.middles_are_computed.Goals as goal

pub returns-clause-no_time : goal.returns-clause-no_time
unfolding bounds class_of begin_of end_of middle_class
returns-clause-no_time c = refl

pub returns-clause-one : goal.returns-clause-one
unfolding bounds class_of begin_of end_of middle_class
returns-clause-one c = refl

pub returns-clause-of_two : goal.returns-clause-of_two
unfolding bounds class_of begin_of end_of middle_class
returns-clause-of_two c = refl

pub returns-clause-of_five : goal.returns-clause-of_five
unfolding bounds class_of begin_of end_of middle_class
returns-clause-of_five c = refl

pub returns-clause-at_a_bound : goal.returns-clause-at_a_bound
unfolding bounds class_of begin_of end_of middle_class
returns-clause-at_a_bound c = refl

pub returns-clause-below_all_bounds : goal.returns-clause-below_all_bounds
unfolding bounds class_of begin_of end_of middle_class
returns-clause-below_all_bounds c = refl

pub returns-clause-above_all_bounds : goal.returns-clause-above_all_bounds
unfolding bounds class_of begin_of end_of middle_class
returns-clause-above_all_bounds c = refl
