-- How words are read: the value, or the wrong word and what is expected in its place.
use Rattle.std.specs.Prelude.{◌≡◌, ℕ, ◌&&◌, nat_le, List, [], ◌∷◌, if◌then◌else◌, Option, Some, None, Result, Ok, Err, ⊤}
use Rattle.lapd_cli_script.specs.Line.{parsed_number}
use Rattle.lapd_conform_suite.specs.Reading.{value_named}
use Rattle.lapd_cli_conform.specs.declared.fault.SettingFault.{SettingFault}
use Rattle.lapd_cli_conform.specs.declared.fault.Needed.{Needed}
use Rattle.lapd_cli_conform.specs.declared.fault.Needed.TheVariants.{EndOfLine}

-- the wrong word, and what is expected
abbrev pub Wrong : Type 0
Wrong = List ℕ × Needed

-- the code's result is the defined one, seen by `view`
abbrev pub ReadsAs : {X Y : Type 0} → (X → Y) → Result X SettingFault → Result Y Wrong → Type 0
ReadsAs view (Ok x) read = read ≡ Ok (view x)
ReadsAs view (Err fault) read = read ≡ Err (fault.found.now, fault.wanted)

abbrev pub or_wrong : {A : Type 0} → List ℕ → Needed → Option A → Result A Wrong
or_wrong word wanted (Some a) = Ok a
or_wrong word wanted None = Err (word, wanted)

-- no word is left
abbrev pub ended : List (List ℕ) → Result ⊤ Wrong
ended [] = Ok tt
ended (word ∷ words) = Err (word, EndOfLine)

-- the meaning of a word in a table
abbrev pub value_at : {A : Type 0} → List (List ℕ × A) → Needed → List ℕ → Result A Wrong
value_at rows wanted word = or_wrong word wanted (value_named rows word)

-- a number from `least` to `most`, in decimal digits
abbrev pub number_by : ℕ → ℕ → Needed → List ℕ → Option ℕ → Result ℕ Wrong
number_by least most wanted word None = Err (word, wanted)
number_by least most wanted word (Some n) =
    if nat_le least n && nat_le n most then Ok n else Err (word, wanted)

abbrev pub number_in : ℕ → ℕ → Needed → List ℕ → Result ℕ Wrong
number_in least most wanted word = number_by least most wanted word (parsed_number word)
