-- A script, and what a command that executes it prints.
use Rattle.std.specs.Prelude.{◌≡◌, ℕ, ◌+◌, List, [], ◌∷◌, ◌++◌, Bool, true, Option, None, Some, if◌then◌else◌, ◌==◌, Result, Ok, Err, ⊤, IsNone, IsSomeAnd}
use Rattle.std.specs.Io.KnownBytes.{Appends, Keeps}
use Rattle.lapd_cli_script.specs.declared.script.ScriptFault.{ScriptFault}
use Rattle.lapd_cli_script.specs.declared.script.ScriptFault.TheVariants.{BadLine, Device, Memory, Port}
use Rattle.lapd_cli_script.specs.declared.script.LineFault.{LineFault}
use Rattle.lapd_cli_script.specs.declared.script.LineFault.TheVariants.{Bad, Device as LineDevice, Memory as LineMemory}

-- prepends an octet to the first line
abbrev pub with_first : ℕ → List (List ℕ) → List (List ℕ)
with_first octet [] = (octet ∷ []) ∷ []
with_first octet (line ∷ lines) = (octet ∷ line) ∷ lines

-- the lines of a script: each ends with a line feed, except perhaps the last
abbrev pub lines_of : List ℕ → List (List ℕ)
lines_of [] = []
lines_of (octet ∷ octets) = if octet == 10 then [] ∷ lines_of octets
    else with_first octet (lines_of octets)

-- an empty line, or one that begins with `#`
abbrev pub is_passed_over : List ℕ → Bool
is_passed_over [] = true
is_passed_over (octet ∷ octets) = octet == 35

-- the result of a line in a state: the printed text and the next state, or `None` if the line is
-- not valid
abbrev pub LineOutcome : Type 0 → Type 0
LineOutcome S = Option (List ℕ × S)

-- the result of each line in each state
abbrev pub Step : Type 0 → Type 0
Step S = S → List ℕ → LineOutcome S

-- the step of a whole script: an empty line or a comment prints nothing and changes nothing
abbrev pub outcome_of : {S : Type 0} → Step S → S → List ℕ → LineOutcome S
outcome_of step s line = if is_passed_over line then Some ([], s) else step s line

abbrev pub before_rest : {S : Type 0} → LineOutcome S → (S → List ℕ) → List ℕ
before_rest None rest = []
before_rest (Some (text, t)) rest = text ++ rest t

-- the texts of the lines, up to the first bad one
abbrev pub output_of : {S : Type 0} → Step S → S → List (List ℕ) → List ℕ
output_of step s [] = []
output_of step s (line ∷ lines) = before_rest (outcome_of step s line) (λ t. output_of step t lines)

abbrev pub number_or : {S : Type 0} → ℕ → LineOutcome S → (S → Option ℕ) → Option ℕ
number_or number None rest = Some number
number_or number (Some (text, t)) rest = rest t

-- the number of the first bad line, if the first of these lines has number n
abbrev pub bad_from : {S : Type 0} → ℕ → Step S → S → List (List ℕ) → Option ℕ
bad_from number step s [] = None
bad_from number step s (line ∷ lines) = number_or number (outcome_of step s line)
    (λ t. bad_from (number + 1) step t lines)

-- the number of the first bad line, from 1
abbrev pub bad_line : {S : Type 0} → Step S → S → List (List ℕ) → Option ℕ
bad_line step s lines = bad_from 1 step s lines

abbrev pub state_or : {S : Type 0} → S → LineOutcome S → (S → S) → S
state_or s None rest = s
state_or s (Some (text, t)) rest = rest t

-- the state after the lines, up to the first bad one
abbrev pub state_after : {S : Type 0} → Step S → S → List (List ℕ) → S
state_after step s [] = s
state_after step s (line ∷ lines) = state_or s (outcome_of step s line)
    (λ t. state_after step t lines)

-- all lines up to some place are valid, and the writer received their texts
abbrev pub PrintsFront : {S : Type 0} → Step S → S → List (List ℕ) → Option (List ℕ)
    → Option (List ℕ) → Type 0
PrintsFront step s lines old new =
    (before : List (List ℕ)) × (after : List (List ℕ)) × (lines ≡ before ++ after)
    × (bad_line step s before ≡ None) × Appends old new (output_of step s before)

-- how a command that executes these lines without a port ends, and the writer's contents after that
abbrev pub EndsAs : {S : Type 0} → Step S → S → Result ⊤ ScriptFault → List (List ℕ)
    → Option (List ℕ) → Option (List ℕ) → Type 0
EndsAs step s (Ok done) lines old new = (bad_line step s lines ≡ None)
    × Appends old new (output_of step s lines)
EndsAs step s (Err (BadLine number)) lines old new = (bad_line step s lines ≡ Some number)
    × Appends old new (output_of step s lines)
EndsAs step s (Err Memory) lines old new = PrintsFront step s lines old new
EndsAs step s (Err Device) lines old new = ⊤
EndsAs step s (Err (Port fault)) lines old new = ⊥

-- how one line of a command ends, from the specified result of the line
abbrev pub LineEndsAs : {C S : Type 0} → (C → S → Type 0) → LineOutcome S → Result ⊤ LineFault → C
    → Option (List ℕ) → Option (List ℕ) → Type 0
LineEndsAs represents outcome (Ok done) command old new =
    IsSomeAnd outcome (λ next. represents command next.1 × Appends old new next.0)
LineEndsAs represents outcome (Err Bad) command old new = IsNone outcome × Keeps old new
LineEndsAs represents outcome (Err LineMemory) command old new = Keeps old new
LineEndsAs represents outcome (Err LineDevice) command old new = ⊤

-- the program's exit status after a fault; status 2 is a fault in the command line
abbrev pub status_of : ScriptFault → ℕ
status_of (BadLine number) = 1
status_of Device = 3
status_of Memory = 4
status_of (Port fault) = 3
