-- The forms of each command's lines.
use Rattle.std.specs.Prelude.{ℕ, List, [], ◌∷◌, ◌++◌, codes, Option, find}
use Rattle.std.specs.Str.{bytes_eq}
use Rattle.lapd_cli_grammar.specs.declared.form.Argument.{Argument}
use Rattle.lapd_cli_grammar.specs.declared.form.Argument.TheVariants.{Delay, FixedTei, Hex, Loss, Message, Milliseconds, OnOff, OptionalMilliseconds, OptionalSapi, Place, Reference, Sapi, Side, Station, Tei, Terminal, Words}
use Rattle.lapd_cli_grammar.specs.declared.form.Form.{Form}
use Rattle.lapd_cli_grammar.specs.declared.script.Script.{Script}
use Rattle.lapd_cli_grammar.specs.declared.script.Script.TheVariants.{Answer, Bus, BusLinks, Decode, LiveNet, LiveUser, Loop, Net, Pair, User}

-- the first word of a line, and the meaning of the words after it
abbrev pub Shape : Type 0
Shape = List ℕ × List Argument

abbrev pub shape_of : Form → Shape
shape_of form = (form.word.now, form.arguments.now)

-- ---- The lines of each command.

abbrev pub answer_shapes : List Shape
answer_shapes =
    (codes "frame", Hex ∷ []) ∷ (codes "t200", []) ∷ (codes "t203", []) ∷ (codes "establish", [])
    ∷ (codes "release", [])
    ∷ (codes "give", Hex ∷ []) ∷ (codes "unit", Hex ∷ []) ∷ (codes "busy", OnOff ∷ [])
    ∷ (codes "state", []) ∷ []

abbrev pub loop_shapes : List Shape
loop_shapes =
    (codes "establish", Side ∷ []) ∷ (codes "release", Side ∷ []) ∷ (codes "give", Side ∷ Hex ∷ [])
    ∷ (codes "unit", Side ∷ Hex ∷ []) ∷ (codes "deliver", Side ∷ [])
    ∷ (codes "lose", Side ∷ Place ∷ [])
    ∷ (codes "expire200", Side ∷ []) ∷ (codes "expire203", Side ∷ [])
    ∷ (codes "busy", Side ∷ OnOff ∷ [])
    ∷ (codes "restart", Side ∷ []) ∷ []

-- the lines for a link, which these arguments name
abbrev pub link_shapes : List Argument → List Shape
link_shapes link =
    (codes "establish", link) ∷ (codes "release", link) ∷ (codes "give", link ++ Hex ∷ [])
    ∷ (codes "unit", link ++ Hex ∷ []) ∷ []

-- the lines that `net` and `user` both have with the script's clock
abbrev pub side_shapes : List Shape
side_shapes = (codes "read", []) ∷ (codes "tick", Milliseconds ∷ []) ∷ link_shapes (Sapi ∷ Tei ∷ [])

-- the lines with the real clock that wait or assert, which both have
abbrev pub waiting_shapes : List Shape
waiting_shapes =
    (codes "read", OptionalMilliseconds ∷ []) ∷ (codes "run", OptionalMilliseconds ∷ [])
    ∷ (codes "wait", Milliseconds ∷ []) ∷ (codes "expect", Words ∷ Milliseconds ∷ []) ∷ []

-- the other lines with the real clock that both have
abbrev pub shown_shapes : List Shape
shown_shapes = (codes "stats", []) ∷ (codes "impair", Loss ∷ Delay ∷ []) ∷ []

-- the lines of `net` with the real clock
abbrev pub live_net_shapes : List Shape
live_net_shapes = waiting_shapes ++ link_shapes (Sapi ∷ Tei ∷ [])
    ++ (codes "busy", Sapi ∷ Tei ∷ OnOff ∷ []) ∷ (codes "check", Tei ∷ [])
    ∷ (codes "remove", Tei ∷ []) ∷ (codes "check-all", []) ∷ (codes "remove-all", [])
    ∷ (codes "state", OptionalSapi ∷ Tei ∷ []) ∷ shown_shapes

-- the lines of `user` with the real clock, which name no TEI: its links have the terminal's own
abbrev pub live_user_shapes : List Shape
live_user_shapes = waiting_shapes ++ link_shapes (Sapi ∷ [])
    ++ (codes "busy", Sapi ∷ OnOff ∷ []) ∷ (codes "ask", [])
    ∷ (codes "state", OptionalSapi ∷ []) ∷ shown_shapes

abbrev pub bus_shapes : List Shape
bus_shapes =
    (codes "ask", Terminal ∷ Reference ∷ []) ∷ (codes "t202", Terminal ∷ Reference ∷ [])
    ∷ (codes "hear", Message ∷ Terminal ∷ Reference ∷ []) ∷ (codes "drop", Message ∷ [])
    ∷ (codes "hear-up", Message ∷ [])
    ∷ (codes "drop-up", Message ∷ []) ∷ (codes "check", Tei ∷ []) ∷ (codes "t201", [])
    ∷ (codes "leave", Terminal ∷ []) ∷ []

-- the lines of a bus of whole sides
abbrev pub bus_links_shapes : List Shape
bus_links_shapes =
    (codes "take", Terminal ∷ []) ∷ (codes "take-up", Terminal ∷ [])
    ∷ (codes "lose", Terminal ∷ Place ∷ []) ∷ (codes "lose-up", Terminal ∷ Place ∷ [])
    ∷ (codes "settle", []) ∷ (codes "tick", Milliseconds ∷ [])
    ∷ link_shapes (Station ∷ Sapi ∷ Tei ∷ [])
    ++ (codes "busy", Station ∷ Sapi ∷ Tei ∷ OnOff ∷ []) ∷ (codes "ask", Terminal ∷ [])
    ∷ (codes "check", Tei ∷ []) ∷ (codes "remove", Tei ∷ []) ∷ (codes "check-all", [])
    ∷ (codes "remove-all", [])
    ∷ (codes "join", Terminal ∷ FixedTei ∷ []) ∷ (codes "restart", [])
    ∷ (codes "restart-known", []) ∷ []

abbrev pub shapes_of : Script → List Shape
shapes_of Answer = answer_shapes
shapes_of Bus = bus_shapes
shapes_of BusLinks = bus_links_shapes
shapes_of Decode = (codes "user", Hex ∷ []) ∷ (codes "net", Hex ∷ []) ∷ []
shapes_of LiveNet = live_net_shapes
shapes_of LiveUser = live_user_shapes
shapes_of Loop = loop_shapes
shapes_of Net = side_shapes ++
    (codes "check", Tei ∷ []) ∷ (codes "check-all", []) ∷ (codes "remove-all", []) ∷ []
shapes_of Pair = loop_shapes ++ (codes "settle", []) ∷ (codes "recover", []) ∷ []
shapes_of User = side_shapes ++ (codes "ask", []) ∷ []

-- the shape of a command's lines that begin with this word
abbrev pub shape_named : Script → List ℕ → Option Shape
shape_named script word = find (λ shape. bytes_eq word shape.0) (shapes_of script)
