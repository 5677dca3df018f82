-- The counts of a step's outputs, and the conditions on them.
use Rattle.std.specs.Prelude.{◌≡◌, ℕ, ◌<◌, ◌+◌, ◌&&◌, Bool, false, List, [], ◌∷◌}
use Rattle.lapd_frame.specs.declared.Role.TheVariants.{Command}
use Rattle.lapd_frame.specs.declared.Control.TheVariants.{I}
use Rattle.lapd_supervision.specs.StateVariables.{is_accepted}
use Rattle.lapd_link_definition.specs.declared.out.Out.{Out}
use Rattle.lapd_link_definition.specs.declared.out.Out.TheVariants.{SendMessage, Up, UnitUp, Acknowledged, Dropped}
use Rattle.lapd_link_definition.specs.EndOfStep.{is_7_or_8}
use Rattle.lapd_link_definition.specs.End.{End}
use Rattle.lapd_link_definition.specs.Input.{Input, Heard, Give}
use Rattle.lapd_link_definition.specs.Table.{is_unit_data}

-- how often the information of an I frame is delivered to layer 3
abbrev pub ups : List Out → ℕ
ups [] = 0
ups (Up ∷ outs) = ups outs + 1
ups (out ∷ outs) = ups outs

-- how often unit data is delivered to layer 3
abbrev pub unit_ups : List Out → ℕ
unit_ups [] = 0
unit_ups (UnitUp ∷ outs) = unit_ups outs + 1
unit_ups (out ∷ outs) = unit_ups outs

-- how many messages are reported acknowledged or dropped
abbrev pub leaving : List Out → ℕ
leaving [] = 0
leaving (Acknowledged n ∷ outs) = n + leaving outs
leaving (Dropped n ∷ outs) = n + leaving outs
leaving (out ∷ outs) = leaving outs

-- No message is reported acknowledged or dropped after one is sent. So the place of each is counted
-- from the first that is in the queue after the step.
abbrev pub AreCountedFirst : List Out → Type 0
AreCountedFirst [] = Unit {0}
AreCountedFirst (SendMessage place control ∷ outs) = (leaving outs ≡ 0) × AreCountedFirst outs
AreCountedFirst (out ∷ outs) = AreCountedFirst outs

-- each message that is sent exists: its place in the queue is below this number
abbrev pub IsPlaced : ℕ → Out → Type 0
IsPlaced waiting (SendMessage place control) = place < waiting
IsPlaced waiting out = Unit {0}

abbrev pub ArePlaced : ℕ → List Out → Type 0
ArePlaced waiting [] = Unit {0}
ArePlaced waiting (out ∷ outs) = IsPlaced waiting out × ArePlaced waiting outs

-- the message of an input, if it has one
abbrev pub messages_of : Input → List (List ℕ)
messages_of (Give message) = message ∷ []
messages_of input = []

-- an I frame that states 7 and 8 accept
abbrev pub accepts : Input → End → Bool
accepts (Heard (I ns nr p) Command) e = is_7_or_8 e.state && is_accepted ns e.window
accepts input e = false

-- a UI command is received
abbrev pub receives_unit : Input → Bool
receives_unit (Heard control role) = is_unit_data control role
receives_unit input = false
