use Rattle.std.proofs.Common.{◌≡◌, ℕ, ◌/◌, ◌<◌, ◌≤◌, ◌-◌}
use Rattle.lapd_sides_links.specs.Tournament.{entry, IsWonBut}
use Rattle.lapd_sides_links.proofs.tournament.settle.Given as goal

abbrev pub invariant-loop-at : goal.invariant-loop-at
invariant-loop-at l =
    IsWonBut (l.at / 2) l.nodes × ((1 ≤ l.at) × ((l.at < 512) × ((entry l.nodes l.at ≡ l.first)
    × ((n : ℕ) → 256 ≤ n → entry l.nodes n ≡ entry l.initial.nodes n))))

abbrev pub decreases-loop-at : goal.decreases-loop-at
decreases-loop-at l = l.at - 1
