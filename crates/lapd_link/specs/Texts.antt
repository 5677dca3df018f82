-- The printed form of the outputs that are reported to layer 3 or management.
use Rattle.std.specs.Prelude.{ℕ, List, [], ◌∷◌, ◌++◌, Option, Some, None}
use Rattle.std.specs.Fmt.{decimal}
use Rattle.hex.specs.Hex.{encode_lower}
use Rattle.lapd_link_definition.specs.Out.{letter_code, word_of_out}
use Rattle.lapd_link_definition.specs.declared.out.Out.{Out}
use Rattle.lapd_link_definition.specs.declared.out.Out.TheVariants as out

-- a space and the hexadecimal digits of octets, nothing for no octets
abbrev pub digits_text : List ℕ → List ℕ
digits_text [] = []
digits_text (octet ∷ octets) = 32 ∷ encode_lower (octet ∷ octets)

-- what follows the word of an output that delivers these octets
abbrev pub out_rest : List ℕ → Out → List ℕ
out_rest octets out.Up = digits_text octets
out_rest octets out.UnitUp = digits_text octets
out_rest octets (out.Acknowledged n) = 32 ∷ decimal n
out_rest octets (out.Dropped n) = 32 ∷ decimal n
out_rest octets (out.Report letter) = 32 ∷ letter_code letter ∷ []
out_rest octets other = []

abbrev pub out_text : List ℕ → Out → List ℕ
out_text octets output = word_of_out output ++ out_rest octets output

-- the text of an output; `None` for frames and timers, which are not reported
abbrev pub reported_text : List ℕ → Out → Option (List ℕ)
reported_text octets (out.Send role control) = None
reported_text octets (out.SendMessage place control) = None
reported_text octets out.SendUnit = None
reported_text octets (out.Start timer) = None
reported_text octets (out.Stop timer) = None
reported_text octets output = Some (out_text octets output)
