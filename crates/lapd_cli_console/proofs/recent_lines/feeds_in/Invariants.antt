use Rattle.std.proofs.Common.{◌≡◌, ℕ, ◌+◌, ◌-◌, ◌^◌, length, min}
use Rattle.lapd_cli_console.specs.Recent.{feeds}
use Rattle.lapd_cli_console.proofs.recent_lines.feeds_in.Given as goal

abbrev pub decreases-loop-line : goal.decreases-loop-line
decreases-loop-line l = length l.rest

-- this many line feeds were found, and counted
abbrev pub invariant-loop-line : goal.invariant-loop-line
invariant-loop-line l =
    (count : ℕ) × (feeds l.octets ≡ count + feeds l.rest) × (l.feeds ≡ min count (2 ^ 64 - 1))
