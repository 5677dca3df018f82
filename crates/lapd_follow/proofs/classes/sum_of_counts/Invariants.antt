use Rattle.std.proofs.Common.{◌≡◌, ◌≤◌, ◌*◌, take}
use Rattle.std.specs.List.{sum}
use Rattle.lapd_follow.proofs.classes.sum_of_counts.Given as goal

abbrev pub invariant-loop-count : goal.invariant-loop-count
invariant-loop-count l = record {
  exact : l.all ≡ sum (take l.count-index l.counts);
  bound : l.all ≤ l.count-index * 18446744073709551615;
}
