use Rattle.std.proofs.Common.{◌≡◌, ◌++◌, List, ℕ, length}
use Rattle.std.specs.Io.KnownBytes.{Appends}
use Rattle.hex.specs.Hex.{encode_lower}
use Rattle.lapd_cli_script.proofs.print.put_hex.Given as goal

abbrev pub invariant-loop-rest : goal.invariant-loop-rest
invariant-loop-rest g l =
    (text : List ℕ) × Appends (g.W.Write.contents l.initial.out) (g.W.Write.contents l.out) text
    × (text ++ encode_lower l.rest ≡ encode_lower l.octets)

abbrev pub decreases-loop-rest : goal.decreases-loop-rest
decreases-loop-rest g l = length l.rest
