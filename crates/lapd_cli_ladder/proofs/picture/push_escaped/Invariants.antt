use Rattle.std.proofs.Common.{◌≡◌, ◌++◌, take}
use Rattle.lapd_cli_ladder.specs.Picture.{escaped}
use Rattle.lapd_cli_ladder.proofs.picture.push_escaped.Given as goal

abbrev pub invariant-loop-octet : goal.invariant-loop-octet
invariant-loop-octet l = l.text.items ≡ l.initial.text.items ++ escaped (take l.octet-index l.words)
