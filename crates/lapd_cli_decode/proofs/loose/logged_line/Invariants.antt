use Rattle.std.proofs.Common.{◌≡◌, length}
use Rattle.lapd_cli_decode.specs.Loose.{logged_line}
use Rattle.lapd_cli_decode.proofs.loose.logged_line.Given as goal

-- no octets in brackets were found yet
abbrev pub invariant-loop-rest : goal.invariant-loop-rest
invariant-loop-rest l = logged_line l.rest ≡ logged_line l.line

abbrev pub decreases-loop-rest : goal.decreases-loop-rest
decreases-loop-rest l = length l.rest
