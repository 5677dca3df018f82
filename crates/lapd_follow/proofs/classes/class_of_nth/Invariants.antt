use Rattle.std.proofs.Common.{◌≡◌, ◌+◌, drop}
use Rattle.lapd_follow.specs.Classes.{class_of_nth}
use Rattle.lapd_follow.proofs.classes.class_of_nth.Given as goal

abbrev pub invariant-loop-count : goal.invariant-loop-count
invariant-loop-count l = record {
  class : l.class ≡ l.count-index;
  rest : class_of_nth l.nth l.counts ≡ class_of_nth l.left (drop l.count-index l.counts)
      + l.count-index;
}
