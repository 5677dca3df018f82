-- The command `pair --ladder`: the moves of a script, drawn. A frame is an arrow when it arrives or
-- is lost, with both ends after that beside it. The reports of a side are notes.
use Rattle.std.specs.Prelude.{ℕ, ◌==◌, ◌||◌, if◌then◌else◌, nat_eq, Bool, true, false, List, [], ◌∷◌, ◌++◌, codes, slice_get, Option, Some, None, option_map, Result, ⊤}
use Rattle.std.specs.Fmt.{decimal}
use Rattle.std.specs.List.{flat_map, slice_split, starts_with}
use Rattle.std.specs.Io.KnownBytes.{Appends}
use Rattle.lapd_frame.specs.declared.Side.{Side}
use Rattle.lapd_frame.specs.declared.Side.TheVariants.{Network, User}
use Rattle.lapd_frame.specs.Address.{other_side}
use Rattle.lapd_supervision.specs.StateVariables.{StateVariables}
use Rattle.lapd_link_definition.specs.End.{End}
use Rattle.lapd_link_definition.specs.State.{state_number}
use Rattle.lapd_pair_laws.specs.Move.{PairEvent, Move, Deliver, Lose}
use Rattle.lapd_pair_laws.specs.World.{World, view_of}
use Rattle.lapd_cli_ladder.specs.Ladder.{arrival_line, note_line}
use Rattle.lapd_cli_script.specs.Line.{text_line}
use Rattle.lapd_cli_script.specs.Script.{Step}
use Rattle.lapd_cli_script.specs.declared.script.ScriptFault.{ScriptFault}
use Rattle.lapd_cli_link_commands.specs.Loop.{line_to}
use Rattle.lapd_cli_link_commands.specs.Moves.{move_of_line}
use Rattle.lapd_cli_link_commands.specs.Pair.{ClosesAs, pair_step}

-- ---- An end.

-- V(S), V(A) and V(R) (Q.921 3.5.2)
abbrev pub variables_words : StateVariables → List ℕ
variables_words m = codes " S" ++ (decimal m.vs ++ (codes " A" ++ (decimal m.va
    ++ (codes " R" ++ decimal m.vr))))

-- its state, and these
abbrev pub end_words : End → List ℕ
end_words e = decimal (state_number e.state) ++ variables_words e.window

abbrev pub words_of_end : Side → World → List ℕ
words_of_end side w = end_words (view_of side w).station.end

-- ---- The frame that a line of the script takes from the line between the ends.

-- whether it is lost, the side that sent it, and its octets
pub record TakenFrame : Type 0 where
  pub is_lost : Bool
  pub from : Side
  pub octets : List ℕ

-- a frame on its way to this side, if there is one
abbrev pub taken_at : Bool → Side → Option (List ℕ) → Option TakenFrame
taken_at is_lost to None = None
taken_at is_lost to (Some octets) = Some (record {
  is_lost = is_lost;
  from = other_side to;
  octets = octets;
})

-- the first one arrives by `deliver`, and the one at this place is lost by `lose`
abbrev pub taken_by : World → Side → PairEvent → Option TakenFrame
taken_by w to Deliver = taken_at false to (slice_get (line_to to w) 0)
taken_by w to (Lose at) = taken_at true to (slice_get (line_to to w) at)
taken_by w to event = None

abbrev pub taken_by_move : World → Option Move → Option TakenFrame
taken_by_move w None = None
taken_by_move w (Some move) = taken_by w move.side move.event

-- its arrow, with both ends of this world beside it
abbrev pub taken_line : World → Option TakenFrame → List ℕ
taken_line w None = []
taken_line w (Some frame) = arrival_line frame.is_lost frame.from frame.octets
    (words_of_end User w) (words_of_end Network w)

-- ---- The rest of the output of a line.

-- a line as a note. A trace line, `U>N` or `N>U`, is none: the frame that is sent becomes an arrow
-- when it arrives or is lost.
abbrev pub noted_line : List ℕ → List ℕ
noted_line [] = []
noted_line (first ∷ rest) = if (first == 85) || (first == 78) then []
    else note_line 0 (first ∷ rest)

abbrev pub is_feed : ℕ → Bool
is_feed octet = octet == 10

-- the lines of a text as notes
abbrev pub notes_in : List ℕ → List ℕ
notes_in text = flat_map noted_line (slice_split is_feed text)

-- ---- The output of a line with `--ladder`.

-- the move is refused
abbrev pub is_refusal : List ℕ → Bool
is_refusal text = starts_with nat_eq text (codes "refused")

-- the text of a line that took this frame and led to this world, by its text without `--ladder`. A
-- refusal stays unchanged.
abbrev pub drawn_text : World → Option TakenFrame → List ℕ → List ℕ
drawn_text w taken text = if is_refusal text then text else taken_line w taken ++ notes_in text

abbrev pub drawn : World → List ℕ → List ℕ × World → List ℕ × World
drawn w line (text, v) = (drawn_text v (taken_by_move w (move_of_line line)) text, v)

-- the result of each line of `pair`, drawn
abbrev pub drawn_step : Step World
drawn_step w line = option_map (drawn w line) (pair_step w line)

-- ---- The command.

-- the names of both ends
abbrev pub ends_head : List ℕ
ends_head = text_line
    (codes "             user |                                                | network")

-- how the command ends: the head is printed first, and the closing lines of `pair` last
abbrev pub LadderEndsAs : World → Result ⊤ ScriptFault → List (List ℕ) → Option (List ℕ)
    → Option (List ℕ) → Type 0
LadderEndsAs w result lines old new = (begun : Option (List ℕ)) × Appends old begun ends_head
    × ClosesAs drawn_step w result lines begun new
