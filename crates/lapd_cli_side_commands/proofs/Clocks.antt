-- The clock of a side stops at its last moment.
use Rattle.std.proofs.Common.{◌≡◌, ℕ, ◌<◌, ◌≤◌, Some, None, refl}
use Rattle.std.proofs.lemmas.Bool.{le-leb, lt-leb}
use Rattle.lapd_cli_side_commands.specs.Clocks.{moment_at}

pub too_late : (n : ℕ) → 1000000000000000 < n → moment_at n ≡ None
too_late n above = rw (lt-leb n 1000000000000000 above) refl

pub in_time : (n : ℕ) → n ≤ 1000000000000000 → moment_at n ≡ Some n
in_time n within = rw (le-leb n 1000000000000000 within) refl
