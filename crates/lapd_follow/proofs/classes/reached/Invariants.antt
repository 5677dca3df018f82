use Rattle.std.proofs.Common.{◌≡◌, ◌≤◌, nat_le, take}
use Rattle.std.specs.List.{count_by}
use Rattle.lapd_follow.proofs.classes.reached.Given as goal

abbrev pub invariant-loop-bound : goal.invariant-loop-bound
invariant-loop-bound l = record {
  exact : l.class ≡ count_by (λ bound. nat_le bound l.time) (take l.bound-index l.bounds);
  within : l.class ≤ l.bound-index;
}
