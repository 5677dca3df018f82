-- Colors of printed lines, by the escape sequences of terminals (ECMA-48 8.3.117).
use Rattle.std.specs.Prelude.{ℕ, if◌then◌else◌, Bool, true, false, List, ◌∷◌, ◌++◌, codes, Option, Some, None}
use Rattle.lapd_frame.specs.declared.Side.{Side}
use Rattle.lapd_frame.specs.declared.Side.TheVariants.{Network, User}
use Rattle.lapd_follow.specs.declared.remarks.Remarks.{Remarks}
use Rattle.lapd_follow.specs.Remarks.{has_violation}
use Rattle.lapd_cli_frames.specs.declared.style.Style.{Style}
use Rattle.lapd_cli_frames.specs.declared.style.Style.TheVariants.{Plain, Named, Brief, Json, NamedJson}

-- cyan for the user side, green for the network side, yellow for a sender that is not known
abbrev pub color_of_sender : Option Side → List ℕ
color_of_sender (Some User) = 27 ∷ codes "[36m"
color_of_sender (Some Network) = 27 ∷ codes "[32m"
color_of_sender None = 27 ∷ codes "[33m"

-- a remark is a violation
abbrev pub is_violation : Option Remarks → Bool
is_violation None = false
is_violation (Some said) = has_violation said

-- red for a violation
abbrev pub color_of : Option Side → Option Remarks → List ℕ
color_of from said = if is_violation said then 27 ∷ codes "[31m" else color_of_sender from

-- the default color again
abbrev pub color_end : List ℕ
color_end = 27 ∷ codes "[0m"

-- a line in this color, if colors are requested; an object has none
abbrev pub colored : Bool → Style → List ℕ → List ℕ → List ℕ
colored false style color line = line
colored true Plain color line = color ++ (line ++ color_end)
colored true Named color line = color ++ (line ++ color_end)
colored true Brief color line = color ++ (line ++ color_end)
colored true Json color line = line
colored true NamedJson color line = line
