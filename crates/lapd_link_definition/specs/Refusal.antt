-- Requests that are refused, in the order in which they are checked, and the names of refusals.
use Rattle.std.specs.Prelude.{ℕ, List, ◌==◌, nat_lt, if◌then◌else◌, Bool, true, false, length, codes, Option, Some, None}
use Rattle.lapd_frame.specs.Frame.{n201}
use Rattle.lapd_link_definition.specs.declared.state.State.{State}
use Rattle.lapd_link_definition.specs.declared.state.State.TheVariants.{TeiAssigned, AwaitingEstablishment, AwaitingRelease, MultipleFrameEstablished, TimerRecovery}
use Rattle.lapd_link_definition.specs.declared.event.LinkFault.{LinkFault}
use Rattle.lapd_link_definition.specs.declared.event.LinkFault.TheVariants.{NotEstablished, QueueFull, TooLong, Releasing, LayerThreeEstablishing}
use Rattle.lapd_link_definition.specs.Input.{Input, Establish, UnitData, Give}
use Rattle.lapd_link_definition.specs.End.{End, waiting}

abbrev pub refusal_name : LinkFault → List ℕ
refusal_name NotEstablished = codes "L1 NotEstablished"
refusal_name QueueFull = codes "L2 QueueFull"
refusal_name TooLong = codes "L3 TooLong"
refusal_name Releasing = codes "L4 Releasing"
refusal_name LayerThreeEstablishing = codes "L5 LayerThreeEstablishing"

-- a frame has at most N201 octets of information (Q.921 5.9.3)
abbrev pub refused_when_long : ℕ → Option LinkFault
refused_when_long len = if nat_lt n201 len then Some TooLong else None

abbrev pub refused_when_full : Bool → Option LinkFault
refused_when_full full = if full then Some QueueFull else None

-- a message, by the state, whether a release is pending, whether layer 3 initiated the
-- establishment, and whether the queue is full
abbrev pub give_refused : State → Bool → Bool → Bool → Option LinkFault
give_refused TeiAssigned release_pending layer3_initiated full = Some NotEstablished
give_refused AwaitingEstablishment true layer3_initiated full = Some Releasing
give_refused AwaitingEstablishment false true full = Some LayerThreeEstablishing
give_refused AwaitingEstablishment false false full = refused_when_full full
give_refused AwaitingRelease release_pending layer3_initiated full = Some Releasing
give_refused MultipleFrameEstablished release_pending layer3_initiated full = refused_when_full full
give_refused TimerRecovery release_pending layer3_initiated full = refused_when_full full

abbrev pub establish_refused : State → Bool → Option LinkFault
establish_refused AwaitingEstablishment true = Some Releasing
establish_refused AwaitingEstablishment false = None
establish_refused TeiAssigned release_pending = None
establish_refused AwaitingRelease release_pending = Some Releasing
establish_refused MultipleFrameEstablished release_pending = None
establish_refused TimerRecovery release_pending = None

abbrev pub refused : Input → End → Option LinkFault
refused (Give message) e = if nat_lt n201 (length message) then Some TooLong
    else give_refused e.state e.release_pending e.layer3_initiated (waiting e == e.parameters.room)
refused (UnitData len) e = refused_when_long len
refused Establish e = establish_refused e.state e.release_pending
refused input e = None
