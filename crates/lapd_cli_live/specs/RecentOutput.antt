-- Lines that were printed while a line of input was awaited, for a later `expect`.
use Rattle.std.specs.Prelude.{ℕ, Bool, nat_le, if◌then◌else◌, List, [], ◌∷◌, ◌++◌, length, map}
use Rattle.std.specs.List.{list_any}
use Rattle.std.specs.declared.alloc.Global.{Global}
use Rattle.std.specs.declared.vec.Vec.{Vec}
use Rattle.lapd_cli_live_text.specs.AwaitedLine.{begins_as}
use Rattle.lapd_cli_live.specs.declared.recent_output.RecentOutput.{RecentOutput}

-- the octets of some lines
abbrev pub line_octets : List (Vec ℕ Global) → List (List ℕ)
line_octets lines = map (λ line. line.items) lines

-- the octets of the kept lines, in the order in which they were printed
abbrev pub recent_lines : RecentOutput → List (List ℕ)
recent_lines recent_output = line_octets recent_output.lines.items

-- A line is printed. If lines are kept, it is kept after the others; if these are 1,000, they are
-- forgotten first.
abbrev pub with_line : Bool → List ℕ → List (List ℕ) → List (List ℕ)
with_line preserved line lines = if preserved
    then (if nat_le 1000 (length lines) then [] else lines) ++ line ∷ [] else lines

-- a line of a vector begins with these words
abbrev pub begins_with : List ℕ → Vec ℕ Global → Bool
begins_with words line = begins_as words line.items

-- one of some lines begins with these words
abbrev pub has_line : List ℕ → List (List ℕ) → Bool
has_line words lines = list_any (λ line. begins_as words line) lines

-- the lines after the first one that begins with these words; none if no line begins so
abbrev pub lines_behind : List ℕ → List (List ℕ) → List (List ℕ)
lines_behind words [] = []
lines_behind words (line ∷ lines) = if begins_as words line
    then lines else lines_behind words lines
