use Rattle.std.proofs.Common.{◌≡◌, ℕ, ◌+◌, slice_get}
use Rattle.lapd_cli_console.specs.Recent.{lines_in}
use Rattle.lapd_cli_console.proofs.recent_lines.line_at.Given as goal

abbrev pub invariant-loop-feed : goal.invariant-loop-feed
invariant-loop-feed l =
    (n : ℕ) → slice_get (lines_in l.octets) (l._feed + n) ≡ slice_get (lines_in l.rest) n
