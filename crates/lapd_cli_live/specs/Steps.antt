-- A running side, step by step. A step receives every frame that had arrived, then expires every
-- timer that is due, and then does a step of an audit or waits once, until the next deadline.
use Rattle.std.specs.Prelude.{◌≡◌, ◌⊎◌, ℕ, ◌+◌, ◌-◌, ◌/◌, ◌^◌, ◌<◌, ◌≤◌, Bool, true, false, List, [], ◌∷◌, ◌++◌, length, codes, max, min, Option, None, Some, Result, Ok, Err, ⊤}
use Rattle.lapd_timers.specs.Moments.{earlier}
use Rattle.lapd_sides_links.specs.Effects.{Effects}
use Rattle.lapd_sides_links.specs.declared.side_fault.SideFault.{SideFault}
use Rattle.lapd_sides.specs.declared.request.Request.{Request}
use Rattle.lapd_sides.specs.declared.request.Request.TheVariants as request
use Rattle.lapd_sides.specs.declared.either_side.EitherSide.{EitherSide}
use Rattle.lapd_frame.specs.declared.Side.TheVariants.{Network}
use Rattle.lapd_tei_audit.specs.declared.audit_step.AuditStep.{AuditStep}
use Rattle.lapd_tei_audit.specs.declared.audit_step.AuditStep.TheVariants as audit
use Rattle.lapd_sides.specs.Either.{Answers, HasNextDeadline, Takes, side_of}
use Rattle.lapd_cli_side_lines.specs.Calls.{ExpireInOrder}
use Rattle.lapd_cli_wire.specs.declared.outside.Lines.{Lines}
use Rattle.lapd_cli_wire.specs.declared.outside.Lines.TheVariants.{Awaited, Ignored}
use Rattle.lapd_cli_wire.specs.declared.outside.Woken.{Woken}
use Rattle.lapd_cli_wire.specs.declared.outside.Woken.TheVariants as woken
use Rattle.lapd_cli_live.specs.declared.service.Service.{Service}
use Rattle.lapd_cli_live.specs.declared.service.Until.{Until}
use Rattle.lapd_cli_live.specs.declared.service.Until.TheVariants as until
use Rattle.lapd_cli_live.specs.declared.service.EndReason.{EndReason}
use Rattle.lapd_cli_live.specs.declared.service.EndReason.TheVariants as end_reason
use Rattle.lapd_cli_wire.specs.IoEvents.{Arrives, FindsNone, Waits, is_reached}
use Rattle.lapd_cli_live.specs.Entries.{Entry, Received, Worded, refused}
use Rattle.lapd_cli_live.specs.Log.{Around, CarriesOut, CarriesOutAll, Chain, Happen, HappenBeside, LiveEvent, LiveState, ReadsClock, Shows, is_matched, moment_of, read_at}

-- ---- The end of a service.

-- a received frame ends it, or a printed line, if the service lasts until then
abbrev pub ended_by : Until → Bool → Bool → Option EndReason
ended_by until.NoEvent taken matched = None
ended_by until.Frame true matched = Some end_reason.Frame
ended_by until.Frame false matched = None
ended_by until.Matched taken true = Some end_reason.Matched
ended_by until.Matched taken false = None

-- the end of a wait ends the service, or it does not
abbrev pub end_by_wait : Lines → Woken → Option EndReason
end_by_wait lines woken.Arrival = None
end_by_wait lines woken.Due = None
end_by_wait lines woken.Lost = None
end_by_wait lines woken.Closed = Some end_reason.Closed
end_by_wait Awaited woken.Line = Some end_reason.Line
end_by_wait Ignored woken.Line = None

-- there is an end, and it is reached
abbrev pub IsReached : Option ℕ → ℕ → Type 0
IsReached end now = is_reached end now ≡ true

-- ---- Receiving.

-- a frame had arrived by the moment at which the side looks at the line: the side receives and
-- processes it, once, and carries out the output
pub record TakesFrame (a b : LiveState) : Type 0 where
  pub frame : List ℕ
  pub acts : Effects
  pub takes : Takes frame (moment_of b) (Ok tt) a.side b.side acts
  pub given : List LiveEvent
  pub carries : CarriesOut acts given
  pub rises : moment_of a ≤ moment_of b
  pub happen : Happen
      (read_at (moment_of b) ++ (Around (Arrives frame) ∷ Shows (Received frame) ∷ given)) a b

-- no frame had arrived by that moment that was not received
pub record LooksInVain (a b : LiveState) : Type 0 where
  pub side : b.side ≡ a.side
  pub rises : moment_of a ≤ moment_of b
  pub happen : Happen (read_at (moment_of b) ++ (Around FindsNone ∷ [])) a b

-- a frame is processed, and it does not end the service
pub record TakesAndContinues (until : Until) (a b : LiveState) : Type 0 where
  pub takes : TakesFrame a b
  pub continuing : ended_by until true (is_matched b) ≡ None

-- The most frames of a step with this many connections, so that timers expire however many frames
-- arrive. Each frame of the side is written to each connection. With up to 16 connections a step
-- that answers each frame by one has at most 4,096 writes. However many there are, it receives two
-- answers of each of 127 terminals.
abbrev pub most_frames : ℕ → ℕ
most_frames connections = max (4096 / max connections 1) 256

-- every frame that had arrived by a moment is processed
pub record TakesAll (until : Until) (a b : LiveState) : Type 0 where
  pub taken : List LiveState
  pub within : length taken < a.most
  pub last : LiveState
  pub are : Chain (TakesAndContinues until) taken a last
  pub looks : LooksInVain last b

-- or as many as a step receives
pub record TakesMost (until : Until) (a b : LiveState) : Type 0 where
  pub taken : List LiveState
  pub count : length taken ≡ a.most
  pub are : Chain (TakesAndContinues until) taken a b

abbrev pub Receives : Until → LiveState → LiveState → Type 0
Receives until a b = TakesAll until a b ⊎ TakesMost until a b

-- or one of the frames ends the service, and no more is received
pub record EndsByFrame (until : Until) (why : EndReason) (a b : LiveState) : Type 0 where
  pub taken : List LiveState
  pub last : LiveState
  pub are : Chain (TakesAndContinues until) taken a last
  pub takes : TakesFrame last b
  pub ends : ended_by until true (is_matched b) ≡ Some why

-- a frame is processed at this moment
pub record TakesAt (frame : List ℕ) (now : ℕ) (a b : LiveState) : Type 0 where
  pub acts : Effects
  pub takes : Takes frame now (Ok tt) a.side b.side acts
  pub given : List LiveEvent
  pub carries : CarriesOut acts given
  pub moment : moment_of b ≡ moment_of a
  pub happen : Happen (Shows (Received frame) ∷ given) a b

-- the side looks at the line once: a frame had arrived and is processed, or none had arrived
abbrev pub Looks : Bool → LiveState → LiveState → Type 0
Looks true a b = TakesFrame a b
Looks false a b = LooksInVain a b

-- all frames that had arrived are received, or a frame ends the service
abbrev pub HasReceived : Until → Option EndReason → LiveState → LiveState → Type 0
HasReceived until None a b = Receives until a b
HasReceived until (Some why) a b = EndsByFrame until why a b

-- ---- Expiring.

-- all timers that are due at the moment expire in turn, and the output is carried out
pub record DoesDue (a b : LiveState) : Type 0 where
  pub calls : List Effects
  pub in_order : ExpireInOrder (moment_of a) calls a.side b.side
  pub events : List LiveEvent
  pub carries : CarriesOutAll calls events
  pub moment : moment_of b ≡ moment_of a
  pub happen : Happen events a b

-- The side catches up with the clock: it receives what had arrived, and then expires what is due.
pub record CatchesUp (until : Until) (a b : LiveState) : Type 0 where
  pub received : LiveState
  pub receives : Receives until a received
  pub due : DoesDue received b

-- ---- Requests.

-- the refusal of a request is printed, with the reason
abbrev pub refusal_events : Result ⊤ SideFault → List LiveEvent
refusal_events (Ok done) = []
refusal_events (Err fault) = Shows (refused fault.kind) ∷ []

-- A request is executed at the moment of the clock that was read last. The output is carried out.
pub record IsExecuted (request : Request) (a b : LiveState) : Type 0 where
  pub result : Result ⊤ SideFault
  pub acts : Effects
  pub answers : Answers request (moment_of a) result a.side b.side acts
  pub given : List LiveEvent
  pub carries : CarriesOut acts given
  pub moment : moment_of b ≡ moment_of a
  pub happen : Happen (given ++ refusal_events result) a b

-- ---- Audits.

-- the request that does a step of an audit
abbrev pub request_for : AuditStep → Request
request_for (audit.Remove tei) = request.Remove tei
request_for (audit.Check tei) = request.Check tei
request_for audit.CheckAll = request.CheckAll

-- the request does a step of an audit of the TEIs that a network side has assigned (5.3.3)
pub record IsForAudit (side : EitherSide) (request : Request) : Type 0 where
  pub network : side_of side ≡ Network
  pub step : AuditStep
  pub is : request ≡ request_for step

-- ---- Steps.

-- an awaited line was printed, for which the service lasts
pub record IsMatched (service : Service) (a b : LiveState)
    (outcome : Option EndReason) : Type 0 where
  pub why : EndReason
  pub matched : ended_by service.until false (is_matched a) ≡ Some why
  pub is : outcome ≡ Some why
  pub same : b ≡ a

-- or its end is reached
pub record IsOver (service : Service) (a b : LiveState) (outcome : Option EndReason) : Type 0 where
  pub continuing : ended_by service.until false (is_matched a) ≡ None
  pub reached : IsReached service.end (moment_of a)
  pub is : outcome ≡ Some end_reason.End
  pub same : b ≡ a

-- the line that a side prints after a wait: it says that a connection was lost, if that ended the
-- wait
abbrev pub connection_lost : Entry
connection_lost = Worded (codes "connection lost")

abbrev pub loss_events : Woken → List LiveEvent
loss_events woken.Lost = Shows connection_lost ∷ []
loss_events other = []

-- one wait: until the next deadline or until the end, whichever is first; then the clock is read,
-- and a lost connection is printed
pub record WaitsFor (service : Service) (outcome : Option EndReason)
    (a b : LiveState) : Type 0 where
  pub deadline : Option ℕ
  pub is_next : HasNextDeadline a.side deadline
  pub woken : Woken
  pub waited : LiveState
  pub waits : HappenBeside (Around (Waits (earlier deadline service.end) woken) ∷ []) a waited
  pub now : ℕ
  pub read_to : LiveState
  pub reads : ReadsClock now waited read_to
  pub prints : HappenBeside (loss_events woken) read_to b
  pub is : outcome ≡ end_by_wait service.lines woken

-- a step of an audit is done, and the service continues
pub record Audits (outcome : Option EndReason) (a b : LiveState) : Type 0 where
  pub request : Request
  pub audits : IsForAudit a.side request
  pub executes : IsExecuted request a b
  pub is : outcome ≡ None

-- a step of an audit is done, or there is one wait
abbrev pub Proceeds : Service → Option EndReason → LiveState → LiveState → Type 0
Proceeds service outcome a b = Audits outcome a b ⊎ WaitsFor service outcome a b

-- or neither, and the side proceeds
pub record ProceedsOnce (service : Service) (a b : LiveState)
    (outcome : Option EndReason) : Type 0 where
  pub continuing : ended_by service.until false (is_matched a) ≡ None
  pub not_over : ¬ IsReached service.end (moment_of a)
  pub proceeds : Proceeds service outcome a b

-- a step that no frame ends
pub record WholeStep (service : Service) (a b : LiveState)
    (outcome : Option EndReason) : Type 0 where
  pub ready : LiveState
  pub catches_up : CatchesUp service.until a ready
  pub then : IsMatched service ready b outcome ⊎ IsOver service ready b outcome
      ⊎ ProceedsOnce service ready b outcome

-- A step of a service. The service continues if the outcome is `None`.
pub record CutStep (service : Service) (a b : LiveState) (outcome : Option EndReason) : Type 0 where
  pub why : EndReason
  pub ends : EndsByFrame service.until why a b
  pub is : outcome ≡ Some why

abbrev pub Step : Service → LiveState → LiveState → Option EndReason → Type 0
Step service a b outcome = CutStep service a b outcome ⊎ WholeStep service a b outcome

-- a step after which the service continues
abbrev pub Continues : Service → LiveState → LiveState → Type 0
Continues service a b = Step service a b None

-- A side runs: step after step, at least one, until one of them ends the service, for exactly this
-- reason.
pub record IsServed (service : Service) (end_reason : EndReason) (a b : LiveState) : Type 0 where
  pub passed : List LiveState
  pub last : LiveState
  pub are : Chain (Continues service) passed a last
  pub ends : Step service last b (Some end_reason)

-- The side catches up with the clock, and then executes a request.
pub record IsAsked (request : Request) (a b : LiveState) : Type 0 where
  pub ready : LiveState
  pub catches_up : CatchesUp until.NoEvent a ready
  pub executes : IsExecuted request ready b

-- The clock is read, and then a request is executed; nothing is received before.
pub record IsAskedFirst (request : Request) (a b : LiveState) : Type 0 where
  pub now : ℕ
  pub ready : LiveState
  pub reads : ReadsClock now a ready
  pub executes : IsExecuted request ready b

-- ---- Spans.

-- the moment this many milliseconds after the one of the clock
abbrev pub end_after : ℕ → Option ℕ → Option ℕ
end_after now None = None
end_after now (Some ms) = Some (min (now + ms) (2 ^ 64 - 1))

pub record EndsAfter (ms end : Option ℕ) (a b : LiveState) : Type 0 where
  pub now : ℕ
  pub reads : ReadsClock now a b
  pub is : end ≡ end_after now ms
