-- How words are read: the value, or the wrong word and what is expected in its place.
use Rattle.std.specs.Prelude.{◌≡◌, ℕ, Bool, List, [], ◌∷◌, length, take, drop, if◌then◌else◌, Option, Some, None, option_map, find, Result, Ok, Err, ⊤}
use Rattle.std.specs.Str.{bytes_eq}
use Rattle.lapd_conform_suite.specs.declared.fault.Fault.{Fault}
use Rattle.lapd_conform_suite.specs.declared.fault.Wanted.{Wanted}
use Rattle.lapd_conform_suite.specs.declared.fault.Wanted.TheVariants.{EndOfLine}

-- the wrong word, and what is expected
abbrev pub Wrong : Type 0
Wrong = List ℕ × Wanted

-- the code's result is the defined one, seen by `view`
abbrev pub ReadsAs : {X Y : Type 0} → (X → Y) → Result X Fault → Result Y Wrong → Type 0
ReadsAs view (Ok x) read = read ≡ Ok (view x)
ReadsAs view (Err fault) read = read ≡ Err (fault.found.now, fault.wanted)

-- reads on if nothing was wrong
abbrev pub read_on : {A B E : Type 0} → Result A E → (A → Result B E) → Result B E
read_on (Ok a) next = next a
read_on (Err wrong) next = Err wrong

abbrev pub or_wrong : {A : Type 0} → List ℕ → Wanted → Option A → Result A Wrong
or_wrong word wanted (Some a) = Ok a
or_wrong word wanted None = Err (word, wanted)

-- the first word, which is empty at the end of the line, and the words after it
abbrev pub first_of : List (List ℕ) → List ℕ
first_of [] = []
first_of (word ∷ words) = word

abbrev pub rest_of : List (List ℕ) → List (List ℕ)
rest_of [] = []
rest_of (word ∷ words) = words

-- no word is left
abbrev pub ended : List (List ℕ) → Result ⊤ Wrong
ended [] = Ok tt
ended (word ∷ words) = Err (word, EndOfLine)

-- the meaning of a word in a table
abbrev pub value_named : {A : Type 0} → List (List ℕ × A) → List ℕ → Option A
value_named rows word = option_map (λ row. row.1) (find (λ row. bytes_eq word row.0) rows)

abbrev pub value_at : {A : Type 0} → List (List ℕ × A) → Wanted → List ℕ → Result A Wrong
value_at rows wanted word = or_wrong word wanted (value_named rows word)

-- a word begins with this name
abbrev pub begins_with : List ℕ → List ℕ → Bool
begins_with name word = bytes_eq (take (length name) word) name

-- the meaning of the first name of a table with which a word begins, and the rest of the word
abbrev pub front_value : {A : Type 0} → List (List ℕ × A) → List ℕ → Option (A × List ℕ)
front_value [] word = None
front_value (row ∷ rows) word = if begins_with row.0 word
    then Some (row.1, drop (length row.0) word) else front_value rows word
