-- The command `loop`: two ends, and a port that each frame on their line passes through. Its lines
-- are moves.
use Rattle.std.specs.Prelude.{ℕ, List, [], ◌∷◌, ◌++◌, drop, length, map, None, Option, Some, Result, ⊤}
use Rattle.lapd_frame.specs.declared.Side.{Side}
use Rattle.lapd_frame.specs.declared.Side.TheVariants.{Network, User}
use Rattle.lapd_frame.specs.Address.{other_side}
use Rattle.lapd_frame.specs.Frame.{spelling}
use Rattle.lapd_pair.specs.Line.{fields_of}
use Rattle.lapd_cli_script.specs.Script.{LineOutcome, outcome_of}
use Rattle.lapd_cli_script.specs.declared.script.ScriptFault.{ScriptFault}
use Rattle.lapd_pair_laws.specs.World.{World, view_of}
use Rattle.lapd_cli_link_commands.specs.Pair.{ClosesAs, move_step}

-- the octets of the frames on their way to a side, in order
abbrev pub line_to : Side → World → List (List ℕ)
line_to to w = map (λ frame. spelling (other_side to) (fields_of frame)) (view_of to w).incoming

-- the frames put on the line to a side between two worlds: those after as many as it had before. (A
-- move takes frames from one direction and adds frames to the other.)
abbrev pub put_to : Side → World → World → List (List ℕ)
put_to to w v = drop (length (line_to to w)) (line_to to v)

abbrev pub put_between : World → World → List (List ℕ)
put_between w v = put_to User w v ++ put_to Network w v

abbrev pub put_first : World → LineOutcome World → (World → List (List ℕ)) → List (List ℕ)
put_first w None rest = []
put_first w (Some (text, v)) rest = put_between w v ++ rest v

-- the frames that a script's lines put on the line, up to the first bad line
abbrev pub frames_put : World → List (List ℕ) → List (List ℕ)
frames_put w [] = []
frames_put w (line ∷ lines) = put_first w (outcome_of move_step w line) (λ v. frames_put v lines)

-- how the command ends
abbrev pub LoopEndsAs : World → Result ⊤ ScriptFault → List (List ℕ) → Option (List ℕ)
    → Option (List ℕ) → Type 0
LoopEndsAs w result lines old new = ClosesAs move_step w result lines old new
