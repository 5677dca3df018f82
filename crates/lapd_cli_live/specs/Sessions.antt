-- Which lines of input a running side executes, in which order, and what ends the input: the lines
-- of a script, and typed lines.
use Rattle.std.specs.Prelude.{◌≡◌, ◌⊎◌, ℕ, ◌+◌, Bool, true, false, List, [], ◌∷◌, ◌++◌, length, Option, None, Some, Result, Ok, Err, ⊤, IfSome}
use Rattle.std.specs.Io.KnownBytes.{Consumes, IsAtEnd}
use Rattle.lapd_sides.specs.Either.{side_of}
use Rattle.lapd_cli_live_text.specs.LiveRequests.{live_request_of, live_request_of_line}
use Rattle.lapd_cli_live_text.specs.declared.words.LiveLine.{LiveLine}
use Rattle.lapd_cli_live_text.specs.declared.words.LiveLine.TheVariants as line
use Rattle.lapd_cli_script.specs.Script.{is_passed_over, lines_of}
use Rattle.lapd_cli_script.specs.WalkState.{HasNoFeed}
use Rattle.lapd_cli_script.specs.declared.script.LineFault.TheVariants as line_fault
use Rattle.lapd_cli_script.specs.declared.script.ScriptFault.TheVariants.{BadLine, Device, Memory, Port}
use Rattle.lapd_cli_live.specs.declared.fault.LiveFault.{LiveFault}
use Rattle.lapd_cli_live.specs.declared.fault.LiveFault.TheVariants as fault
use Rattle.lapd_cli_live.specs.declared.input.LiveStop.{LiveStop}
use Rattle.lapd_cli_live.specs.declared.input.TypedAction.{TypedAction}
use Rattle.lapd_cli_live.specs.declared.input.TypedAction.TheVariants.{Pass, Help, Quit, Execute}
use Rattle.lapd_cli_live.specs.declared.live_side.LiveSide.{LiveSide}
use Rattle.lapd_cli_live.specs.declared.input.LiveStop.TheVariants.{Script, Unmet}
use Rattle.lapd_cli_live.specs.declared.executed.Executed.{Executed}
use Rattle.lapd_cli_live.specs.declared.executed.Executed.TheVariants as executed
use Rattle.lapd_cli_wire.specs.declared.impairment.Impairment.{Impairment}
use Rattle.lapd_cli_wire.specs.declared.outside.Lines.{Lines}
use Rattle.lapd_cli_wire.specs.declared.outside.Lines.TheVariants.{Awaited, Ignored}
use Rattle.lapd_cli_live.specs.declared.service.EndReason.{EndReason}
use Rattle.lapd_cli_live.specs.declared.service.EndReason.TheVariants as end_reason
use Rattle.lapd_cli_live.specs.declared.service.Until.TheVariants as until
use Rattle.lapd_cli_wire.specs.IoEvents.{IoEvent}
use Rattle.lapd_cli_live.specs.Typed.{typed_action_of}
use Rattle.lapd_cli_live.specs.Log.{Chain, HappenBeside, LiveState, state_of}
use Rattle.lapd_cli_live.specs.Steps.{IsServed}
use Rattle.lapd_cli_live.specs.WaitingLines.{Runs, keeping, service}
use Rattle.lapd_cli_live.specs.LineDone.{HasOwnTei, LineDone, MissesLine, Executes, begun, is_expect}

-- ---- One line.

-- the outcome of a request: it is executed, or it expects a line that was not printed in time
abbrev pub RequestEnds : Executed → LiveLine → Lines → LiveState → LiveState → Type 0
RequestEnds executed.Done asked lines a b = LineDone asked lines a b
RequestEnds executed.Unmet (line.Expect words ms) lines a b = MissesLine words.now ms lines a b
RequestEnds executed.Unmet asked lines a b = ⊥
RequestEnds executed.Bad asked lines a b = ⊥

-- a line is not a valid request, and nothing happens
pub record IsBad (octets : List ℕ) (a b : LiveState) : Type 0 where
  pub own : ℕ
  pub own_is : HasOwnTei a.side own
  pub none : live_request_of_line (side_of a.side) own octets ≡ None
  pub same : b ≡ a

-- a valid request expects a line that was not printed in time
pub record IsUnmet (octets : List ℕ) (lines : Lines) (a b : LiveState) : Type 0 where
  pub own : ℕ
  pub own_is : HasOwnTei a.side own
  pub asked : LiveLine
  pub is : live_request_of_line (side_of a.side) own octets ≡ Some (live_request_of asked)
  pub missed_at : LiveState
  pub misses : RequestEnds executed.Unmet asked lines (begun (is_expect asked) a) missed_at
  pub beside : HappenBeside [] missed_at b

-- the outcome of a line
abbrev pub ExecutesAs : Executed → List ℕ → Lines → LiveState → LiveState → Type 0
ExecutesAs executed.Done octets lines a b = Executes octets lines a b
ExecutesAs executed.Bad octets lines a b = IsBad octets a b
ExecutesAs executed.Unmet octets lines a b = IsUnmet octets lines a b

-- ---- Waits for input.

-- the side runs until a line of input can be read, or the connection is closed; the lines that it
-- prints are kept for a later `expect`
abbrev pub AwaitsInput : EndReason → LiveState → LiveState → Type 0
AwaitsInput end_reason a b = IsServed (service None until.NoEvent Awaited) end_reason (keeping a) b

abbrev pub AwaitsOnce : LiveState → LiveState → Type 0
AwaitsOnce a b = (end_reason : EndReason) × AwaitsInput end_reason a b

-- input is awaited any number of times, and nothing else happens
pub record Awaits (a b : LiveState) : Type 0 where
  pub passed : List LiveState
  pub are : Chain AwaitsOnce passed a b

-- ---- The octets of a reader, and their lines.

-- A read appends octets of the reader to those that are held. Or the reader has ended, and they are
-- unchanged.
abbrev pub ReadsPart : Bool → Option (List ℕ) → Option (List ℕ) → List ℕ → List ℕ → Type 0
ReadsPart true before after held holds = (part : List ℕ) × Consumes before after part
    × (holds ≡ held ++ part)
ReadsPart false before after held holds = Consumes before after [] × IsAtEnd after
    × (holds ≡ held)

-- these lines are removed from the beginning of some octets: whatever follows, they are first, and
-- then the lines of the remaining octets
abbrev pub AreTaken : List (List ℕ) → List ℕ → List ℕ → Type 0
AreTaken lines before after = (more : List ℕ)
    → lines_of (before ++ more) ≡ lines ++ lines_of (after ++ more)

-- ---- Lines, one after another.

-- each of these lines is executed so, once and in order; before each, and after the last, nothing
-- happens but waiting for input
abbrev pub InOrder : {S : Type 0} → (S → S → Type 0) → (List ℕ → S → S → Type 0) → List (List ℕ)
    → S → S → Type 0
InOrder Waits Does [] a b = Waits a b
InOrder {S} Waits Does (line ∷ lines) a b = (ready : S) × (done : S) × Waits a ready
    × Does line ready done × InOrder Waits Does lines done b

-- lines are removed from the beginning of some octets, counted and executed
pub record TakesLines {S : Type 0} (Waits : S → S → Type 0) (Does : List ℕ → S → S → Type 0)
    (before after : List ℕ) (n m : ℕ) (a b : S) : Type 0 where
  pub lines : List (List ℕ)
  pub taken : AreTaken lines before after
  pub counted : m ≡ n + length lines
  pub done : InOrder Waits Does lines a b

-- after the end of the input the side runs until the connection is closed, if requested
abbrev pub ServesOn : Bool → LiveState → LiveState → Type 0
ServesOn true a b = Runs None Ignored a b
ServesOn false a b = b ≡ a

-- ---- Scripts.

-- a line of a script is executed, unless it is skipped
abbrev pub ExecutesUnless : Bool → List ℕ → LiveState → LiveState → Type 0
ExecutesUnless true octets a b = b ≡ a
ExecutesUnless false octets a b = Executes octets Ignored a b

abbrev pub DoesLine : List ℕ → LiveState → LiveState → Type 0
DoesLine octets a b = ExecutesUnless (is_passed_over octets) octets a b

-- The lines before one of them are executed. That one has this outcome, and no line after it is
-- executed. Its number counts from the lines before all of these.
pub record StopsAt (why : Executed) (number count : ℕ) (lines : List (List ℕ))
    (a b : LiveState) : Type 0 where
  pub before : List (List ℕ)
  pub stopping : List ℕ
  pub behind : List (List ℕ)
  pub are : lines ≡ before ++ stopping ∷ behind
  pub number_is : number ≡ count + length before + 1
  pub met : LiveState
  pub done : InOrder Awaits DoesLine before a met
  pub not_passed : is_passed_over stopping ≡ false
  pub stops : ExecutesAs why stopping Ignored met b

-- a fault of the surroundings may stop it anywhere
abbrev pub StopsBy : LiveStop → ℕ → List (List ℕ) → LiveState → LiveState → Type 0
StopsBy Unmet count lines a b = (number : ℕ) × StopsAt executed.Unmet number count lines a b
StopsBy (Script (BadLine number)) count lines a b = StopsAt executed.Bad number count lines a b
StopsBy (Script Device) count lines a b = ⊤
StopsBy (Script Memory) count lines a b = ⊤
StopsBy (Script (Port fault)) count lines a b = ⊤

-- one line of a script, with these numbers of lines before and after it
abbrev pub LineEnds : Result ⊤ LiveStop → List ℕ → ℕ → ℕ → LiveState → LiveState → Type 0
LineEnds (Ok done) octets n m a b = DoesLine octets a b × (m ≡ n + 1)
LineEnds (Err stop) octets n m a b = (behind : List (List ℕ)) → StopsBy stop n (octets ∷ behind) a b

-- the complete lines of some octets are executed, and the rest is left
abbrev pub LinesEnd : Result ⊤ LiveStop → List ℕ → List ℕ → ℕ → ℕ → LiveState → LiveState → Type 0
LinesEnd (Ok done) before after n m a b = TakesLines Awaits DoesLine before after n m a b
    × HasNoFeed after
LinesEnd (Err stop) before after n m a b = (more : List ℕ)
    → StopsBy stop n (lines_of (before ++ more)) a b

-- A script ends well once each of its lines is executed; then the side runs on, if requested.
-- Otherwise it stops at the first line that is bad or unmet.
abbrev pub ScriptEnds : Bool → Result ⊤ LiveStop → List (List ℕ) → LiveState → LiveState → Type 0
ScriptEnds serve_on (Ok done) lines a b = (ended : LiveState)
    × InOrder Awaits DoesLine lines a ended × ServesOn serve_on ended b
ScriptEnds serve_on (Err stop) lines a b = StopsBy stop 0 lines a b

-- ---- Typed lines.

-- messages to a person: that lines can be typed, the lines of the side, or that a line is not
-- executed
pub data Delivered : Type 0 where
  Greets : Delivered
  Helps : Delivered
  Refuses : (octets : List ℕ) → Delivered

-- if the messages are recorded, exactly these were sent since
abbrev pub AddsMessages : Option (List Delivered) → Option (List Delivered) → List Delivered
    → Type 0
AddsMessages None after reported = ⊤
AddsMessages (Some before) None reported = ⊥
AddsMessages (Some before) (Some after) reported = after ≡ before ++ reported

-- a running side, and the messages to the person
pub record Session : Type 0 where
  pub live : LiveState
  pub reported : Option (List Delivered)

abbrev pub session_of : {O W P : Type 0} → (O → Option (List IoEvent)) → (O → Option Impairment)
    → (W → Option (List ℕ)) → (P → Option (List Delivered)) → LiveSide O W → P → Session
session_of io_events impaired_by contents reported live console = record {
  live = state_of io_events impaired_by contents live;
  reported = reported console;
}

-- input is awaited, and no message is sent
abbrev pub AwaitsQuietly : Session → Session → Type 0
AwaitsQuietly a b = Awaits a.live b.live × (b.reported ≡ a.reported)

-- a bad line is refused
abbrev pub refusals : Executed → List ℕ → List Delivered
refusals executed.Bad octets = Refuses octets ∷ []
refusals executed.Done octets = []
refusals executed.Unmet octets = []

-- how a line is handled, and whether the session continues
abbrev pub TypedEnds : TypedAction → List ℕ → Bool → Session → Session → Type 0
TypedEnds Pass octets goes_on a b = (goes_on ≡ true) × (b ≡ a)
TypedEnds Help octets goes_on a b = (goes_on ≡ true) × (b.live ≡ a.live)
    × AddsMessages a.reported b.reported (Helps ∷ [])
TypedEnds Quit octets goes_on a b = (goes_on ≡ false) × (b ≡ a)
TypedEnds Execute octets goes_on a b = (goes_on ≡ true) × (why : Executed)
    × ExecutesAs why octets Awaited a.live b.live × AddsMessages a.reported b.reported
    (refusals why octets)

-- a typed line, which the person's reader tidies first
pub record Types (tidy : List ℕ → Option (List ℕ)) (octets : List ℕ) (goes_on : Bool)
    (a b : Session) : Type 0 where
  pub tidied : List ℕ
  pub is_tidied : IfSome (tidy octets) (λ text. tidied ≡ text)
  pub does : TypedEnds (typed_action_of tidied) tidied goes_on a b

abbrev pub TypesOn : (List ℕ → Option (List ℕ)) → List ℕ → Session → Session → Type 0
TypesOn tidy octets a b = Types tidy octets true a b

-- the last line, if it lacks its line feed
abbrev pub TypesLast : (List ℕ → Option (List ℕ)) → List ℕ → Bool → Session → Session → Type 0
TypesLast tidy [] goes_on a b = (goes_on ≡ true) × (b ≡ a)
TypesLast tidy (octet ∷ octets) goes_on a b = Types tidy (octet ∷ octets) goes_on a b

-- the lines before one of them are executed, and that one ends the session
pub record Quits (tidy : List ℕ → Option (List ℕ)) (lines : List (List ℕ)) (a b : Session) : Type 0
  where
    pub before : List (List ℕ)
    pub quit : List ℕ
    pub behind : List (List ℕ)
    pub are : lines ≡ before ++ quit ∷ behind
    pub met : Session
    pub done : InOrder AwaitsQuietly (TypesOn tidy) before a met
    pub quits : Types tidy quit false met b

-- the complete lines of some octets are executed, or one of them ends the session
abbrev pub LinesType : (List ℕ → Option (List ℕ)) → Bool → List ℕ → List ℕ → Session → Session
    → Type 0
LinesType tidy true before after a b = (count : ℕ)
    × TakesLines AwaitsQuietly (TypesOn tidy) before after 0 count a b × HasNoFeed after
LinesType tidy false before after a b = (more : List ℕ) → Quits tidy (lines_of (before ++ more)) a b

-- all lines are executed, and then the side runs on, if requested
pub record EndsByInput (tidy : List ℕ → Option (List ℕ)) (serve_on : Bool) (lines : List (List ℕ))
    (a b : Session) : Type 0 where
  pub ended : Session
  pub done : InOrder AwaitsQuietly (TypesOn tidy) lines a ended
  pub serves : ServesOn serve_on ended.live b.live
  pub reported : b.reported ≡ ended.reported

-- or the connection is closed while a line is awaited; the lines before it are executed
pub record EndsByClose (tidy : List ℕ → Option (List ℕ)) (lines : List (List ℕ)) (a b : Session) :
    Type 0 where
  pub before : List (List ℕ)
  pub behind : List (List ℕ)
  pub are : lines ≡ before ++ behind
  pub met : Session
  pub done : InOrder AwaitsQuietly (TypesOn tidy) before a met
  pub closes : AwaitsInput end_reason.Closed met.live b.live
  pub reported : b.reported ≡ met.reported

-- how a session ends without a fault
abbrev pub SessionEnds : (List ℕ → Option (List ℕ)) → Bool → List (List ℕ)
    → Session → Session → Type 0
SessionEnds tidy serve_on lines a b = EndsByInput tidy serve_on lines a b ⊎ Quits tidy lines a b
    ⊎ EndsByClose tidy lines a b

-- the person is greeted first
pub record GreetedAndEnds (tidy : List ℕ → Option (List ℕ)) (serve_on : Bool)
    (lines : List (List ℕ)) (a b : Session) : Type 0 where
  pub greeted : Option (List Delivered)
  pub greets : AddsMessages a.reported greeted (Greets ∷ [])
  pub ends : SessionEnds tidy serve_on lines (record { live = a.live; reported = greeted }) b

-- ---- Faults that stop the input.

abbrev pub stop_of : LiveFault → LiveStop
stop_of (fault.Line line_fault.Memory) = Script Memory
stop_of (fault.Line line_fault.Device) = Script Device
stop_of (fault.Line line_fault.Bad) = Script Device
stop_of (fault.Port fault) = Script (Port fault)
