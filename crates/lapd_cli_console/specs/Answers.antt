-- The answers to typed lines that are not passed on.
use Rattle.std.specs.Prelude.{◌≡◌, ℕ, if◌then◌else◌, List, [], ◌∷◌, ◌++◌, codes, map, Option, Some, None, IfSome}
use Rattle.std.specs.List.{cons_option, filter_map}
use Rattle.std.specs.Str.{bytes_eq}
use Rattle.lapd_cli_script.specs.Script.{lines_of}
use Rattle.lapd_cli_grammar.specs.declared.script.Script.{Script}
use Rattle.lapd_cli_grammar.specs.Values.{is_line_of}
use Rattle.lapd_cli_console.specs.Tidied.{tidied_line}
use Rattle.lapd_cli_console.specs.Typed.{before_end, ends_input}

-- the forms of the command's lines, or why a line is not executed
pub data Answer : Type 0 where
  Helped : Answer
  Refused : Answer

-- the answer to a tidied line; none if it is passed on
abbrev pub answer_to : Script → List ℕ → Option Answer
answer_to script line = if is_line_of script line then None else (
    if bytes_eq line (codes "help") then Some Helped else Some Refused)

-- the answers to typed octets, in order, up to the end of the input
abbrev pub answers_to : Script → List ℕ → List Answer
answers_to script octets =
    filter_map (answer_to script) (before_end (map (tidied_line script) (lines_of octets)))

-- the answers to one tidied line
abbrev pub answers_to_line : Script → List ℕ → List Answer
answers_to_line script line =
    if ends_input line then [] else cons_option (answer_to script line) []

-- these recorded answers were added
abbrev pub AddsAll : Option (List Answer) → Option (List Answer) → List Answer → Type 0
AddsAll old new answers = IfSome old (λ given. new ≡ Some (given ++ answers))

-- this recorded answer was added
abbrev pub Adds : Option (List Answer) → Option (List Answer) → Answer → Type 0
Adds old new answer = AddsAll old new (answer ∷ [])
