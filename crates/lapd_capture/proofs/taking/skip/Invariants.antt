use Rattle.std.proofs.Common.{◌≡◌, ◌≤◌, ◌-◌, List, ℕ, Some, length, drop}
use Rattle.lapd_capture.proofs.taking.skip.Given as goal

-- all octets but those that are left to skip were skipped
abbrev pub invariant-loop-left : goal.invariant-loop-left
invariant-loop-left g l = record {
  fits : l.left ≤ l.count;
  skipped : (xs : List ℕ) → g.R.Read.remaining l.initial.source ≡ Some xs
      → (l.count - l.left ≤ length xs)
      × (g.R.Read.remaining l.source ≡ Some (drop (l.count - l.left) xs));
}

abbrev pub decreases-loop-left : goal.decreases-loop-left
decreases-loop-left g l = l.left
