-- The most outputs of a step, so that a caller can reserve room for them.
use Rattle.std.specs.Prelude.{◌≤◌, ℕ, Bool, true, false, List, length}
use Rattle.std.specs.List.{filter}
use Rattle.lapd_link_definition.specs.declared.out.Out.{Out}
use Rattle.lapd_link_definition.specs.declared.out.Out.TheVariants.{Send, SendMessage, SendUnit, Start, Stop}
use Rattle.lapd_link_definition.specs.Input.{Input, Establish}
use Rattle.lapd_link_machine.specs.declared.machine.TheConstants.{MOST_OUTPUTS}

-- an output for the layers above: neither a frame nor a timer
abbrev pub is_primitive : Out → Bool
is_primitive (Send role control) = false
is_primitive (SendMessage place control) = false
is_primitive SendUnit = false
is_primitive (Start timer) = false
is_primitive (Stop timer) = false
is_primitive out = true

-- how many outputs are for the layers above
abbrev pub primitive_count : List Out → ℕ
primitive_count outs = length (filter is_primitive outs)

-- If layer 3 requests an establishment no message is sent, else at most the messages of a window.
abbrev pub most_outputs : Input → ℕ
most_outputs Establish = 7
most_outputs input = MOST_OUTPUTS

-- the bounds of the outputs for this input
pub record IsBounded (input : Input) (outs : List Out) : Type 0 where
  pub all : length outs ≤ most_outputs input
  pub reported : primitive_count outs ≤ 6
