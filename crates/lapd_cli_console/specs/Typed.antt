-- The typed lines that a session passes on.
use Rattle.std.specs.Prelude.{◌≡◌, ℕ, ◌||◌, if◌then◌else◌, Bool, true, false, List, [], ◌∷◌, ◌++◌, codes, map, Option, option_map}
use Rattle.std.specs.List.{filter, flat_map}
use Rattle.std.specs.Str.{bytes_eq}
use Rattle.lapd_cli_script.specs.Line.{text_line}
use Rattle.lapd_cli_script.specs.Script.{lines_of}
use Rattle.lapd_cli_grammar.specs.declared.script.Script.{Script}
use Rattle.lapd_cli_console.specs.declared.session.Session.{Session}
use Rattle.lapd_cli_grammar.specs.Values.{is_line_of}
use Rattle.lapd_cli_console.specs.Tidied.{tidied_line}

-- ---- Which lines are passed on.

-- the line ends the input
abbrev pub ends_input : List ℕ → Bool
ends_input line = bytes_eq line (codes "quit") || bytes_eq line (codes "exit")

-- the lines before the first one that ends the input
abbrev pub before_end : List (List ℕ) → List (List ℕ)
before_end [] = []
before_end (line ∷ lines) = if ends_input line then [] else line ∷ before_end lines

-- the valid lines among the typed ones, tidied, up to the end of the input
abbrev pub passed_lines : Script → List (List ℕ) → List (List ℕ)
passed_lines script lines =
    filter (is_line_of script) (before_end (map (tidied_line script) lines))

-- the octets that are passed on of those typed: each of these lines once, in order, with a line
-- feed
abbrev pub passed_on : Script → List ℕ → List ℕ
passed_on script octets = flat_map text_line (passed_lines script (lines_of octets))

-- ---- The octets that a session has yet to pass on.

-- a session's octets: those that were typed and not handled, and those of its line that were not
-- returned
pub record Typing : Type 0 where
  pub script : Script
  pub is_ended : Bool
  pub line : List ℕ
  pub typed : List ℕ

abbrev pub typing_of : {R E : Type 0} → Session R E → Typing
typing_of session = record {
  script = session.script;
  is_ended = session.is_ended;
  line = session.line;
  typed = session.typed.items;
}

-- the octets that are passed on if these are typed next
abbrev pub passed_next : Typing → List ℕ → List ℕ
passed_next t octets = t.line ++ (if t.is_ended then [] else passed_on t.script (t.typed ++ octets))

-- the octets that reads of a session return, if its reader's octets are known
abbrev pub left_to_pass : {R E : Type 0} → (R → Option (List ℕ)) → Session R E → Option (List ℕ)
left_to_pass remaining session =
    option_map (passed_next (typing_of session)) (remaining session.reader)

-- its line was returned whole, and more may be typed
pub record IsUsedUp (t : Typing) : Type 0 where
  pub line : t.line ≡ []
  pub going_on : t.is_ended ≡ false

-- part of a line can be returned, or the input has ended
abbrev pub IsReady : Typing → Type 0
IsReady t = t.line ≡ [] → t.is_ended ≡ true

-- ---- One line.

-- what is passed on of a tidied line
abbrev pub passed_text : Script → List ℕ → List ℕ
passed_text script line = if ends_input line then [] else (
    if is_line_of script line then text_line line else [])

-- a session after this tidied line, with these octets left of those typed
abbrev pub after_line : Typing → List ℕ → List ℕ → Typing
after_line t line behind = record {
  script = t.script;
  is_ended = ends_input line;
  line = passed_text t.script line;
  typed = behind;
}
