-- The words of a suite, each with its meaning.
use Rattle.std.specs.Prelude.{ℕ, Bool, true, false, List, [], ◌∷◌, codes}
use Rattle.lapd_conform_suite.specs.declared.words.Named.{Named}
use Rattle.lapd_conform_suite.specs.declared.words.Keyword.{Keyword}
use Rattle.lapd_conform_suite.specs.declared.words.Keyword.TheVariants as keyword
use Rattle.lapd_conform_suite.specs.declared.words.Need.{Need}
use Rattle.lapd_conform_suite.specs.declared.words.Need.TheVariants as need
use Rattle.lapd_conform_suite.specs.declared.words.Preamble.{Preamble}
use Rattle.lapd_conform_suite.specs.declared.words.Preamble.TheVariants as preamble
use Rattle.lapd_conform_suite.specs.declared.words.Request.{Request}
use Rattle.lapd_conform_suite.specs.declared.words.Request.TheVariants as request
use Rattle.lapd_conform_suite.specs.declared.words.TimeUnit.{TimeUnit}
use Rattle.lapd_conform_suite.specs.declared.words.TimeUnit.TheVariants as timeunit
use Rattle.lapd_conform_suite.specs.declared.words.Kind.{Kind}
use Rattle.lapd_conform_suite.specs.declared.words.Kind.TheVariants as kind
use Rattle.lapd_tei.specs.declared.kind.TeiKind.{TeiKind}
use Rattle.lapd_tei.specs.declared.kind.TeiKind.TheVariants as teikind
use Rattle.lapd_conform_suite.specs.declared.words.Opening.{Opening}
use Rattle.lapd_conform_suite.specs.declared.words.Opening.TheVariants as opening
use Rattle.lapd_conform_suite.specs.declared.words.Field.{Field}
use Rattle.lapd_conform_suite.specs.declared.words.Field.TheVariants as field
use Rattle.lapd_conform_suite.specs.declared.words.Base.{Base}
use Rattle.lapd_conform_suite.specs.declared.words.Base.TheVariants as base
use Rattle.lapd_conform_suite.specs.declared.words.Choice.{Choice}
use Rattle.lapd_conform_suite.specs.declared.words.Choice.TheVariants as choice
use Rattle.lapd_frame.specs.declared.Role.{Role}
use Rattle.lapd_frame.specs.declared.Role.TheVariants as role
use Rattle.lapd_frame.specs.declared.Side.{Side}
use Rattle.lapd_frame.specs.declared.Side.TheVariants as side
use Rattle.lapd_timers.specs.declared.timer.Timer.{Timer}
use Rattle.lapd_timers.specs.declared.timer.Timer.TheVariants as timer

-- a word and its meaning
abbrev pub row_of : {A : Type 0} → Named A → List ℕ × A
row_of named = (named.word.now, named.value)

-- the first word of a line
abbrev pub keywords : List (List ℕ × Keyword)
keywords =
    (codes "case", keyword.Case)
    ∷ (codes "clause", keyword.Clause)
    ∷ (codes "ends", keyword.Ends)
    ∷ (codes "needs", keyword.Needs)
    ∷ (codes "state", keyword.State)
    ∷ (codes "send", keyword.Send)
    ∷ (codes "do", keyword.Do)
    ∷ (codes "expect", keyword.Expect)
    ∷ (codes "or", keyword.Or)
    ∷ (codes "and", keyword.And)
    ∷ (codes "at", keyword.At)
    ∷ (codes "within", keyword.Within)
    ∷ (codes "quiet", keyword.Quiet)
    ∷ (codes "pause", keyword.Pause)
    ∷ (codes "allow", keyword.Allow)
    ∷ (codes "forget", keyword.Forget)
    ∷ (codes "repeat", keyword.Repeat)
    ∷ (codes "end", keyword.End) ∷ []

-- what a stack needs for a case
abbrev pub needs : List (List ℕ × Need)
needs =
    (codes "give", need.Give)
    ∷ (codes "unit", need.Unit)
    ∷ (codes "busy", need.Busy)
    ∷ (codes "check", need.Check)
    ∷ (codes "ask", need.Ask)
    ∷ (codes "remove", need.Remove)
    ∷ (codes "establish", need.Establish)
    ∷ (codes "release", need.Release)
    ∷ (codes "k>1", need.WindowOverOne)
    ∷ (codes "k>2", need.WindowOverTwo)
    ∷ (codes "t203", need.IdleTimer)
    ∷ (codes "n201", need.LongestLength)
    ∷ (codes "sapis", need.ServedSapis)
    ∷ (codes "automatic", need.AutomaticTei) ∷ []

-- the state into which the preamble leads the stack
abbrev pub preambles : List (List ℕ × Preamble)
preambles =
    (codes "1", preamble.TeiUnassigned)
    ∷ (codes "2", preamble.AssignAwaitingTei)
    ∷ (codes "3", preamble.EstablishAwaitingTei)
    ∷ (codes "4", preamble.TeiAssigned)
    ∷ (codes "5", preamble.AwaitingEstablishment)
    ∷ (codes "5-line", preamble.LineEstablishes)
    ∷ (codes "6", preamble.AwaitingRelease)
    ∷ (codes "7", preamble.Established)
    ∷ (codes "8", preamble.TimerRecovery)
    ∷ (codes "8-out", preamble.OneOutstanding) ∷ []

-- a request to the upper tester
abbrev pub requests : List (List ℕ × Request)
requests =
    (codes "establish", request.Establish)
    ∷ (codes "release", request.Release)
    ∷ (codes "give", request.Give)
    ∷ (codes "unit", request.Unit)
    ∷ (codes "busy", request.Busy)
    ∷ (codes "ready", request.Ready)
    ∷ (codes "ask", request.Ask)
    ∷ (codes "check", request.Check)
    ∷ (codes "remove", request.Remove) ∷ []

-- the unit of a time
abbrev pub units : List (List ℕ × TimeUnit)
units =
    (codes "ms", timeunit.Milliseconds)
    ∷ (codes "%T200", timeunit.PercentOfT200)
    ∷ (codes "%T201", timeunit.PercentOfT201)
    ∷ (codes "%T202", timeunit.PercentOfT202)
    ∷ (codes "%T203", timeunit.PercentOfT203) ∷ []

-- the kind of a frame (Q.921 3.6, Table 5)
abbrev pub kinds : List (List ℕ × Kind)
kinds =
    (codes "I", kind.Information)
    ∷ (codes "RR", kind.ReceiveReady)
    ∷ (codes "RNR", kind.ReceiveNotReady)
    ∷ (codes "REJ", kind.Reject)
    ∷ (codes "SABME", kind.Sabme)
    ∷ (codes "DM", kind.DisconnectedMode)
    ∷ (codes "UI", kind.UnnumberedInformation)
    ∷ (codes "DISC", kind.Disconnect)
    ∷ (codes "UA", kind.UnnumberedAcknowledgement)
    ∷ (codes "FRMR", kind.FrameReject)
    ∷ (codes "XID", kind.ExchangeIdentification) ∷ []

-- the kind of a message of TEI management (Q.921 5.3.6, Table 8)
abbrev pub tei_kinds : List (List ℕ × TeiKind)
tei_kinds =
    (codes "Request", teikind.Request)
    ∷ (codes "Assigned", teikind.Assigned)
    ∷ (codes "Denied", teikind.Denied)
    ∷ (codes "CheckRequest", teikind.CheckRequest)
    ∷ (codes "CheckResponse", teikind.CheckResponse)
    ∷ (codes "Remove", teikind.Remove)
    ∷ (codes "Verify", teikind.Verify) ∷ []

-- the first word of a frame
abbrev pub openings : List (List ℕ × Opening)
openings =
    (codes "C", opening.Command)
    ∷ (codes "R", opening.Response)
    ∷ (codes "*", opening.CommandOrResponse)
    ∷ (codes "tei", opening.Tei)
    ∷ (codes "octets", opening.Octets)
    ∷ (codes "raw", opening.Raw)
    ∷ (codes "ack", opening.Acknowledgement)
    ∷ (codes "nothing", opening.Nothing) ∷ []

-- a field of a frame
abbrev pub fields : List (List ℕ × Field)
fields =
    (codes "N(S)=", field.SendNumber)
    ∷ (codes "N(R)=", field.ReceiveNumber)
    ∷ (codes "P=", field.Poll)
    ∷ (codes "F=", field.Final)
    ∷ (codes "sapi=", field.Sapi)
    ∷ (codes "tei=", field.Tei)
    ∷ (codes "Ri=", field.Reference)
    ∷ (codes "Ai=", field.ActionIndicator)
    ∷ (codes "info=", field.Information) ∷ []

-- what a number counts from
abbrev pub bases : List (List ℕ × Base)
bases =
    (codes "K", base.Window)
    ∷ (codes "N200", base.N200)
    ∷ (codes "N201", base.N201)
    ∷ (codes "N202-1", base.LastRequests)
    ∷ (codes "N202", base.N202)
    ∷ (codes "i", base.Turn)
    ∷ (codes "$a", base.ValueA)
    ∷ (codes "$q", base.ValueQ)
    ∷ (codes "$r", base.ValueR) ∷ []

-- a value of a field that is no number
abbrev pub choices : List (List ℕ × Choice)
choices =
    (codes "*", choice.Any)
    ∷ (codes "?a", choice.KeepA)
    ∷ (codes "?q", choice.KeepQ)
    ∷ (codes "?r", choice.KeepR)
    ∷ (codes "automatic", choice.Automatic)
    ∷ (codes "requested", choice.Requested)
    ∷ (codes "unlike-a", choice.UnlikeA)
    ∷ (codes "unlike-q", choice.UnlikeQ)
    ∷ (codes "unlike-r", choice.UnlikeR) ∷ []

abbrev pub roles : List (List ℕ × Role)
roles =
    (codes "C", role.Command)
    ∷ (codes "R", role.Answer) ∷ []

abbrev pub sides : List (List ℕ × Side)
sides =
    (codes "net", side.Network)
    ∷ (codes "user", side.User) ∷ []

abbrev pub timers : List (List ℕ × Timer)
timers =
    (codes "T200", timer.T200)
    ∷ (codes "T201", timer.T201)
    ∷ (codes "T202", timer.T202)
    ∷ (codes "T203", timer.T203) ∷ []

abbrev pub is_information : Field → Bool
is_information field.Information = true
is_information other = false
