-- An input of an end: a frame by its control field and its role, a fault in a frame, an expiry, or
-- a request of layer 3.
use Rattle.std.specs.Prelude.{ℕ, List}
use Rattle.lapd_timers.specs.declared.timer.Timer.{Timer}
use Rattle.lapd_timers.specs.declared.timer.Timer.TheVariants.{T200, T203}
use Rattle.lapd_frame.specs.declared.Role.{Role}
use Rattle.lapd_frame.specs.declared.Control.{Control}
use Rattle.lapd_frame.specs.declared.fault_kind.FaultKind.{FaultKind}
use Rattle.lapd_link_definition.specs.declared.event.Event.{Event}
use Rattle.lapd_link_definition.specs.declared.event.Event.TheVariants as event

pub data Input : Type 0 where
  Heard : (control : Control) → (role : Role) → Input
  Faulty : (kind : FaultKind) → Input
  Expiry : (timer : Timer) → Input
  Establish : Input
  Release : Input
  BusyOn : Input
  BusyOff : Input
  UnitData : (len : ℕ) → Input
  Give : (message : List ℕ) → Input

-- the input of an event; messages are passed separately
abbrev pub input_of : Event → Input
input_of (event.Heard frame) = Heard frame.now.control frame.now.address.role
input_of (event.Fault kind) = Faulty kind
input_of event.T200 = Expiry T200
input_of event.T203 = Expiry T203
input_of event.Establish = Establish
input_of event.Release = Release
input_of event.BusyOn = BusyOn
input_of event.BusyOff = BusyOff
input_of (event.Unit len) = UnitData len
