use Rattle.std.proofs.Common.{◌≡◌, ◌++◌, replicate}
use Rattle.lapd_cli_ladder.proofs.columns.push_many.Given as goal

abbrev pub invariant-loop : goal.invariant-loop
invariant-loop l = l.text.items ≡ l.initial.text.items ++ replicate l.counter l.octet
