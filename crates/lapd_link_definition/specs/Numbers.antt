-- The numbers of a reading, in an end and in frames: any number, or the tags 0 to 127 (Q.921
-- 3.5.2.1).
use Rattle.std.specs.Prelude.{List, [], ◌∷◌}
use Rattle.lapd_frame.specs.declared.Control.{Control}
use Rattle.lapd_frame.specs.Control.{IsControl}
use Rattle.lapd_mod128.specs.Counting.{Reading, Whole, Tagged}
use Rattle.lapd_supervision.specs.StateVariables.{StateVariables, AreTags}
use Rattle.lapd_link_definition.specs.declared.out.Out.{Out}
use Rattle.lapd_link_definition.specs.declared.out.Out.TheVariants.{Send, SendMessage}
use Rattle.lapd_link_definition.specs.Input.{Input, Heard}

-- V(S), V(A) and V(R)
abbrev pub AreNumbers : Reading → StateVariables → Type 0
AreNumbers Whole m = Unit {0}
AreNumbers Tagged m = AreTags m

-- N(S) and N(R)
abbrev pub HasNumbers : Reading → Control → Type 0
HasNumbers Whole control = Unit {0}
HasNumbers Tagged control = IsControl control

-- the numbers of an input
abbrev pub CarriesNumbers : Reading → Input → Type 0
CarriesNumbers r (Heard control role) = HasNumbers r control
CarriesNumbers r input = Unit {0}

-- the numbers of an output
abbrev pub IsNumbered : Reading → Out → Type 0
IsNumbered r (Send role control) = HasNumbers r control
IsNumbered r (SendMessage place control) = HasNumbers r control
IsNumbered r out = Unit {0}

abbrev pub AreNumbered : Reading → List Out → Type 0
AreNumbered r [] = Unit {0}
AreNumbered r (out ∷ outs) = IsNumbered r out × AreNumbered r outs
