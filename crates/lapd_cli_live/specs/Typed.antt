-- Typed lines, and how each is handled.
use Rattle.std.specs.Prelude.{◌≡◌, ℕ, List, ◌∷◌, ◌++◌, ◌||◌, if◌then◌else◌, codes, Option, None, Some}
use Rattle.std.specs.Str.{bytes_eq}
use Rattle.lapd_cli_script.specs.WalkState.{HasNoFeed}
use Rattle.lapd_cli_script.specs.Script.{is_passed_over}
use Rattle.lapd_cli_live.specs.declared.input.TypedAction.{TypedAction}
use Rattle.lapd_cli_live.specs.declared.input.TypedAction.TheVariants.{Pass, Help, Quit, Execute}

-- the first complete line is removed with its line feed, and nothing else; or no line is complete,
-- and nothing is removed
abbrev pub IsFirstLine : List ℕ → Option (List ℕ) → List ℕ → Type 0
IsFirstLine before None after = HasNoFeed before × (after ≡ before)
IsFirstLine before (Some line) after = HasNoFeed line × (before ≡ line ++ 10 ∷ after)

-- A line is executed like a line of a script, unless it is skipped, lists the lines or ends the
-- session.
abbrev pub typed_action_of : List ℕ → TypedAction
typed_action_of line = if is_passed_over line then Pass else (
    if bytes_eq line (codes "help") then Help else (
    if bytes_eq line (codes "quit") || bytes_eq line (codes "exit") then Quit else Execute))
