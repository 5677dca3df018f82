-- The lines of a script that have been executed so far.
use Rattle.std.specs.Prelude.{◌≡◌, ◌≢◌, ℕ, ◌+◌, ◌==◌, Bool, false, if◌then◌else◌, List, [], ◌∷◌, ◌++◌, map, take, Option, None, Some, length, Result, Ok, Err, ⊤, ◌⊎◌, IsSomeAnd, IfSome}
use Rattle.std.specs.List.{AllByRecursion}
use Rattle.std.specs.Io.KnownBytes.{Appends}
use Rattle.lapd_cli_script.specs.Script.{Step, outcome_of, lines_of}
use Rattle.lapd_cli_script.specs.declared.script.ScriptFault.{ScriptFault}
use Rattle.lapd_cli_script.specs.declared.script.ScriptFault.TheVariants.{BadLine, Device, Memory, Port}

-- no octet is a line feed
abbrev pub HasNoFeed : List ℕ → Type 0
HasNoFeed octets = AllByRecursion (λ octet. octet ≢ 10) octets

-- a line that begins with `#`
abbrev pub is_comment : List ℕ → Bool
is_comment [] = false
is_comment (octet ∷ octets) = octet == 35

-- the part of a line that the run must keep: a comment is skipped, so only its first octet
abbrev pub without_comment : List ℕ → List ℕ
without_comment line = if is_comment line then take 1 line else line

-- the lines of a script, with comments cut to their first octet
abbrev pub walk_lines : List ℕ → List (List ℕ)
walk_lines octets = map without_comment (lines_of octets)

-- the lines are all valid, print this text and lead to state t
abbrev pub Ran : {S : Type 0} → Step S → S → List (List ℕ) → List ℕ → S → Type 0
Ran step s [] text t = (text ≡ []) × (t ≡ s)
Ran {S} step s (line ∷ lines) text t = IsSomeAnd (outcome_of step s line)
    (λ next. (rest : List ℕ) × (text ≡ next.0 ++ rest) × Ran step next.1 lines rest t)

-- the run has executed the lines before `more`, increased the line count from n to m, and appended
-- their texts to the writer
pub record Walk {S : Type 0} (step : Step S) (s : S) (lines more : List (List ℕ)) (t : S) (n m : ℕ)
    (old new : Option (List ℕ)) : Type 0 where
  pub finished : List (List ℕ)
  pub text : List ℕ
  pub parted : lines ≡ finished ++ more
  pub counted : m ≡ n + length finished
  pub ran : Ran step s finished text t
  pub grew : Appends old new text

-- how a run over the lines ends that is to leave the last ones
abbrev pub WalkEnds : {C S : Type 0} → (C → S → Type 0) → Step S → S → Result ⊤ ScriptFault
    → List (List ℕ) → List (List ℕ) → C → ℕ → ℕ → Option (List ℕ) → Option (List ℕ) → Type 0
WalkEnds {C} {S} represents step s (Ok done) lines last command n m old new = (t : S)
    × represents command t × Walk step s lines last t n m old new
WalkEnds {C} {S} represents step s (Err (BadLine number)) lines last command n m old new =
    (t : S) × (line : List ℕ) × (more : List (List ℕ)) × (i : ℕ)
    × Walk step s lines (line ∷ more) t n i old new × (outcome_of step t line ≡ None)
    × (number ≡ i + 1)
WalkEnds {C} {S} represents step s (Err Memory) lines last command n m old new =
    (t : S) × (more : List (List ℕ)) × (i : ℕ) × Walk step s lines more t n i old new
WalkEnds {C} {S} represents step s (Err Device) lines last command n m old new = ⊤
WalkEnds represents step s (Err (Port fault)) lines last command n m old new = ⊥

-- the run ends as before, or with a device fault
abbrev pub PreservesFault : Result ⊤ ScriptFault → Result ⊤ ScriptFault → Type 0
PreservesFault ended result = (result ≡ ended) ⊎ (result ≡ Err Device)

-- the run has executed all lines before the unfinished line in `cut` and the bytes left in the
-- reader
abbrev pub WalkIsAt : {C S : Type 0} → (C → S → Type 0) → Step S → S → Option (List ℕ) → Option
    (List ℕ)
    → C → List ℕ → ℕ → Option (List ℕ) → Option (List ℕ) → Type 0
WalkIsAt {C} {S} represents step s initial now command cut n a b = IfSome initial
    (λ octets. (rest : List ℕ) × (t : S) × (now ≡ Some rest) × represents command t
    × Walk step s (walk_lines octets) (walk_lines (cut ++ rest)) t 0 n a b)
