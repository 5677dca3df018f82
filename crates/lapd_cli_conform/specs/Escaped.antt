-- Text in JSON strings and in XML.
use Rattle.std.specs.Prelude.{ℕ, ◌+◌, ◌-◌, ◌/◌, ◌%◌, ◌==◌, ◌||◌, nat_lt, List, [], ◌∷◌, ◌++◌, codes, if◌then◌else◌}
use Rattle.lapd_cli_conform.specs.declared.escaped.Format.{Format}
use Rattle.lapd_cli_conform.specs.declared.escaped.Format.TheVariants.{Json, Xml}

-- the digit of a number up to 15
abbrev pub hex_digit : ℕ → ℕ
hex_digit n = if nat_lt n 10 then 48 + n else 97 + (n - 10)

-- an octet of a JSON string: control characters, quotes and backslashes are escaped
abbrev pub json_octet : ℕ → List ℕ
json_octet octet = if nat_lt octet 32
    then codes "\\u00" ++ hex_digit (octet / 16) ∷ hex_digit (octet % 16) ∷ []
    else if octet == 34 || octet == 92 then 92 ∷ octet ∷ [] else octet ∷ []

-- an octet of XML; a control character, which XML does not have, is a question mark
abbrev pub xml_octet : ℕ → List ℕ
xml_octet octet = if octet == 38 then codes "&amp;" else if octet == 60 then codes "&lt;"
    else if octet == 62 then codes "&gt;" else if octet == 34 then codes "&quot;"
    else if nat_lt octet 32 then 63 ∷ [] else octet ∷ []

abbrev pub octet_text : Format → ℕ → List ℕ
octet_text Json octet = json_octet octet
octet_text Xml octet = xml_octet octet

abbrev pub escaped : Format → List ℕ → List ℕ
escaped format [] = []
escaped format (octet ∷ text) = octet_text format octet ++ escaped format text
