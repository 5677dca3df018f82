use Rattle.std.proofs.Common.{◌++◌, ◌∷◌, ℕ, List, [], arith, ap, sym, ◌∙◌}
use Rattle.std.specs.Fmt.{decimal}
use Rattle.std.proofs.lemmas.Fmt.{decimal_digit}
use Rattle.itoa.proofs.Decimal.{decimal_two}
use Rattle.lapd_frame.specs.Address.{sapi_value}
use Rattle.lapd_frame.specs.declared.Sapi.{Sapi}
use Rattle.lapd_cli_side_lines.proofs.side_texts.sapi_words.Goals as goal

-- these digits and a space
abbrev words : List ℕ → List ℕ
words digits = digits ++ 32 ∷ []

-- the number of a SAPI and a space
abbrev words_of : Sapi → List ℕ
words_of sapi = words (decimal (sapi_value sapi))

pub returns-in-Call : goal.returns-in-Call
returns-in-Call c = ap words (sym (decimal_digit 0 (omega arith))) ∙ sym (ap words_of c.in-Call.is)

pub returns-in-Packet : goal.returns-in-Packet
returns-in-Packet c =
    ap words (sym (decimal_two 16 (omega arith) (omega arith))) ∙ sym (ap words_of c.in-Packet.is)

pub returns-in-Management : goal.returns-in-Management
returns-in-Management c =
    ap words (sym (decimal_two 63 (omega arith) (omega arith)))
    ∙ sym (ap words_of c.in-Management.is)
