-- The octets of a request, and those that a refused request returns.
use Rattle.std.specs.Prelude.{◌≡◌, Option, Some, None, Result, Err, ⊤}
use Rattle.lapd_sides_links.specs.declared.side_fault.SideFault.{SideFault}
use Rattle.lapd_sides_links.specs.declared.side_fault.SideKind.{SideKind}
use Rattle.lapd_sides_links.specs.declared.side_fault.SideKind.TheVariants.{Memory}
use Rattle.lapd_sides_links.specs.Effects.{Effects, no_effects}
use Rattle.lapd_sides_links.specs.Messages.{Message}
use Rattle.lapd_sides.specs.declared.request.Request.{Request}
use Rattle.lapd_sides.specs.declared.request.Request.TheVariants as request

-- the message or unit data that a request contains
abbrev pub message_of : Request → Option Message
message_of (request.Unit id octets) = Some octets
message_of (request.Give id message) = Some message
message_of other = None

-- a refusal for this reason, of a request without octets
abbrev pub without_message : SideKind → SideFault
without_message kind = record { kind = kind; message = None }

-- ---- A message that is copied.

-- the message cannot be allocated, and nothing is changed
pub record LacksMessage {C : Type 0} (result : Result ⊤ SideFault) (old new : C) (acts : Effects) :
    Type 0 where
  pub refused : result ≡ Err (without_message Memory)
  pub unchanged : new ≡ old
  pub nothing : acts ≡ no_effects
