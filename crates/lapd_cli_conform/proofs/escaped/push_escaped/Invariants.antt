use Rattle.std.proofs.Common.{◌≡◌, ◌++◌, length}
use Rattle.lapd_cli_conform.specs.Escaped.{escaped}
use Rattle.lapd_cli_conform.proofs.escaped.push_escaped.Given as goal

abbrev pub invariant-loop-rest : goal.invariant-loop-rest
invariant-loop-rest l = l.initial.text.items ++ escaped l.initial.format l.initial.rest
    ≡ l.text.items ++ escaped l.initial.format l.rest

abbrev pub decreases-loop-rest : goal.decreases-loop-rest
decreases-loop-rest l = length l.rest
