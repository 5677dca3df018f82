use Rattle.std.proofs.Common.{rules}
use Rattle.std.proofs.ByRecursion.{IsAscii-from_all}
use Rattle.std.proofs.lemmas.Str.{IsUtf8-from_ascii}
use Rattle.hex.proofs.HexLemmas.{IsAscii-encode_with}
use Rattle.hex.specs.Hex.{lower_digits}
use Rattle.lapd_trace.proofs.trace.push_digits.Goals as goal

pub unreachable-requires-in_default-from_utf8 : goal.unreachable-requires-in_default-from_utf8
unreachable-requires-in_default-from_utf8 c =
    let ascii =
    IsAscii-encode_with lower_digits c.args.octets.now
    (IsAscii-from_all lower_digits (search rules)) in
    c.in_default-from_utf8.ensures.cases.0 (rw c.in-Ok.ensures.written (IsUtf8-from_ascii _ ascii))
