use Rattle.std.proofs.Common.{◌≡◌, ◌++◌, take}
use Rattle.lapd_cli_page.specs.Row.{escaped}
use Rattle.lapd_cli_page.proofs.row.push_escaped.Given as goal

abbrev pub invariant-loop-octet : goal.invariant-loop-octet
invariant-loop-octet l = l.text.items ≡ l.initial.text.items ++ escaped (take l.octet-index l.words)
