-- The remarks on the next frame, by the state of both ends before it, and the class of each remark.
use Rattle.std.specs.Prelude.{ℕ, ◌-◌, ◌==◌, ◌&&◌, ◌||◌, nat_lt, nat_le, if◌then◌else◌, Bool, true, false, List, Option, Some, None, is_none, is_some}
use Rattle.std.specs.Str.{bytes_eq}
use Rattle.lapd_mod128.specs.Counting.{Tagged, steps, lies_within}
use Rattle.lapd_frame.specs.declared.Role.{Role}
use Rattle.lapd_frame.specs.declared.Control.{Control}
use Rattle.lapd_frame.specs.declared.Control.TheVariants.{I, Rr, Rnr, Rej, Sabme, Dm, Ui, Disc, Ua, Frmr, Xid}
use Rattle.lapd_frame.specs.Frame.{Fields}
use Rattle.lapd_frame.specs.Reading.{is_command}
use Rattle.lapd_follow.specs.declared.packet.Packet.{Packet}
use Rattle.lapd_follow.specs.declared.polls.Polls.{Polls}
use Rattle.lapd_follow.specs.declared.numbering.Numbering.{Numbering}
use Rattle.lapd_follow.specs.declared.end.Busy.{Busy}
use Rattle.lapd_follow.specs.declared.end.Busy.TheVariants as busy
use Rattle.lapd_follow.specs.declared.remark.Class.{Class}
use Rattle.lapd_follow.specs.declared.remark.Class.TheVariants.{Normal, Recovery, Violation}
use Rattle.lapd_follow.specs.declared.remark.Remark.{Remark}
use Rattle.lapd_follow.specs.declared.remark.Remark.TheVariants.{Begins, Ends, NumbersKnown, LateUa, UaWithoutCommand, SentReleased, FirstNs, NsExpected, Repeated, RepeatedOtherwise, WindowExceeded, SentToBusy, SentToKnownBusy, NrOutside, SabmeWithoutP, DiscWithoutP, UaWithoutF, OtherSidesBit, BeforeAnswer, Answers, LateResponse, ResponseWithoutPoll, NotAnswered, Manages, Unrequested, NotAutomatic, AssignedTwice, AssignedInUse, TwoResponses}
use Rattle.lapd_follow.specs.declared.remarks.Remarks.{Remarks}
use Rattle.lapd_follow.specs.Ends.{EndKnown, one_more, from_end}
use Rattle.lapd_follow.specs.Exchange.{Exchange, answers_disc, begins_establishment, is_learned}

-- Normal: an undisturbed data link does this. Recovery: two ends that follow Q.921 do this only if
-- frames are lost or late. Violation: two ends that follow Q.921 never do this.
abbrev pub class_of : Remark → Class
class_of (Begins n) = Normal
class_of (Ends n) = Normal
class_of NumbersKnown = Normal
class_of LateUa = Recovery
class_of UaWithoutCommand = Violation
class_of SentReleased = Violation
class_of (FirstNs ns) = Recovery
class_of (NsExpected ns expected) = Recovery
class_of Repeated = Recovery
class_of RepeatedOtherwise = Violation
class_of (WindowExceeded k) = Violation
class_of SentToBusy = Recovery
class_of SentToKnownBusy = Violation
class_of (NrOutside nr first last) = Violation
class_of SabmeWithoutP = Violation
class_of DiscWithoutP = Violation
class_of UaWithoutF = Violation
class_of OtherSidesBit = Violation
class_of (BeforeAnswer packet) = Violation
class_of (Answers packet after) = Normal
class_of LateResponse = Recovery
class_of ResponseWithoutPoll = Violation
class_of (NotAnswered packet) = Recovery
class_of (Manages message) = Normal
class_of Unrequested = Recovery
class_of (NotAutomatic tei) = Violation
class_of (AssignedTwice tei ri) = Violation
class_of (AssignedInUse tei) = Recovery
class_of (TwoResponses tei first second) = Recovery

abbrev pub is_violation_class : Class → Bool
is_violation_class Normal = false
is_violation_class Recovery = false
is_violation_class Violation = true

abbrev pub is_violation : Option Remark → Bool
is_violation None = false
is_violation (Some remark) = is_violation_class (class_of remark)

-- ---- Establishment: of a UA or DM (Q.921 5.5.1.2, 5.5.3.2), and of an I or S frame (5.5.4).

-- a UA is sent for a SABME or DISC alone
abbrev pub unexpected_ua : Polls → Remark
unexpected_ua commands = if commands.complete && (commands.unanswered == 0)
    then UaWithoutCommand else LateUa

-- a frame that releases a link, if that is known to be established
abbrev pub ended : Bool → Exchange → Option Remark
ended is_release x = if is_release && x.is_established then Some (Ends x.establishments) else None

abbrev pub ua_remark : Exchange → Option Remark
ua_remark x = if is_some x.to.commands.last
    then (if begins_establishment x then Some (Begins (one_more x.establishments))
    else ended (answers_disc x.to) x)
    else Some (unexpected_ua x.to.commands)

-- An end whose link is released sends no I or S frame. The frame that shows the last of the numbers
-- is the first that is followed.
abbrev pub sent_remark : Exchange → Option Remark
sent_remark x = if x.from.is_released then Some SentReleased
    else (if is_learned x then Some NumbersKnown else None)

abbrev pub establishment_remark : Control → Exchange → Option Remark
establishment_remark (I ns nr p) x = sent_remark x
establishment_remark (Rr nr pf) x = sent_remark x
establishment_remark (Rnr nr pf) x = sent_remark x
establishment_remark (Rej nr pf) x = sent_remark x
establishment_remark (Ua f) x = ua_remark x
establishment_remark (Dm f) x = ended true x
establishment_remark control x = None

-- ---- N(S): of an I frame, if the numbers of both ends are known (Q.921 3.5.2.4, 5.6.1, 5.6.4).

-- whether the frame has the same octets as the earlier one; `unknown` if that one is not kept
abbrev pub repeated : List ℕ → Option (List ℕ) → Remark → Remark
repeated octets None unknown = unknown
repeated octets (Some earlier) unknown = if bytes_eq earlier octets then Repeated
    else RepeatedOtherwise

-- The N(S) is not the next one: the frame is the first of an establishment, repeats one that is not
-- acknowledged, or is out of sequence.
abbrev pub out_of_sequence : ℕ → List ℕ → Numbering → List (List ℕ) → Remark
out_of_sequence ns octets own unacknowledged = if own.is_first then FirstNs ns
    else repeated octets (from_end (steps Tagged ns own.next) unacknowledged)
    (NsExpected ns own.next)

abbrev pub ns_remark : ℕ → List ℕ → List (List ℕ) → Option Numbering → Option Numbering
    → Option Remark
ns_remark ns octets unacknowledged None peer = None
ns_remark ns octets unacknowledged (Some own) None = None
ns_remark ns octets unacknowledged (Some own) (Some peer) = if ns == own.next then None
    else Some (out_of_sequence ns octets own unacknowledged)

-- ---- The window (Q.921 5.9.5). At most k I frames follow V(A), which is at most the last N(R) of
-- the peer. A frame is within, if fewer than k steps lead to it from that N(R), or if it is one of
-- the last k, whose acknowledgement may be lost. No k is greater than 127.
abbrev pub is_in_window : ℕ → ℕ → Numbering → Numbering → Bool
is_in_window k ns own peer = if nat_lt (steps Tagged peer.nr ns) k then true
    else (nat_lt 0 (steps Tagged ns own.next) && nat_le (steps Tagged ns own.next) k)

abbrev pub k_or_most : Option ℕ → ℕ
k_or_most None = 127
k_or_most (Some k) = k

abbrev pub window_remark : ℕ → ℕ → Option Numbering → Option Numbering → Option Remark
window_remark k ns None peer = None
window_remark k ns (Some own) None = None
window_remark k ns (Some own) (Some peer) = if is_in_window k ns own peer then None
    else Some (WindowExceeded k)

-- ---- Busy: of an I frame whose receiver is busy (Q.921 5.6.5). The last I frame again, with P=1,
-- is an enquiry of a sender that has no answer yet (5.6.7).
abbrev pub sent_to_busy : Bool → Busy → Option Remark
sent_to_busy p busy.Free = None
sent_to_busy p busy.Reported = Some SentToBusy
sent_to_busy true busy.Answered = Some SentToBusy
sent_to_busy false busy.Answered = Some SentToKnownBusy

-- ---- N(R): of an I or S frame, if the numbers of both ends are known (Q.921 3.5.2.3, 5.8.2).
abbrev pub nr_remark : ℕ → Option Numbering → Option Numbering → Option Remark
nr_remark nr None peer = None
nr_remark nr (Some own) None = None
nr_remark nr (Some own) (Some peer) = if lies_within Tagged own.nr nr peer.next then None
    else Some (NrOutside nr own.nr peer.next)

-- ---- The P bit of a SABME, DISC or I frame, and the F bit of a UA.

-- a SABME and a DISC are sent with P=1 alone (Q.921 5.5.1.2, 5.5.3.2)
abbrev pub without_p : Bool → Remark → Option Remark
without_p true remark = None
without_p false remark = Some remark

-- the F bit of a UA is the P bit of the command that it answers (5.5.1.2, 5.5.3.2)
abbrev pub ua_bit : Bool → EndKnown → Option Remark
ua_bit true e = None
ua_bit false e = if is_some e.commands.last && e.is_polling then Some UaWithoutF else None

-- an end that polled sends no I frame with P=0 before the answer (5.6.7)
abbrev pub before_answer : Bool → Option Packet → Option Remark
before_answer true awaited = None
before_answer false None = None
before_answer false (Some poll) = Some (BeforeAnswer poll.number)

abbrev pub bit_remark : Control → Exchange → Option Remark
bit_remark (I ns nr p) x = before_answer p x.from.awaited
bit_remark (Sabme p) x = without_p p SabmeWithoutP
bit_remark (Disc p) x = without_p p DiscWithoutP
bit_remark (Ua f) x = ua_bit f x.to
bit_remark control x = None

-- ---- Polls and their answers (Q.921 3.5.1, 5.6.2.1, 5.6.7).

-- the microseconds from one moment to another, if both are known
abbrev pub time_from : Option ℕ → Option ℕ → Option ℕ
time_from None last = None
time_from (Some first) None = None
time_from (Some first) (Some last) = Some (last - first)

-- this packet answers that one
abbrev pub answers_poll : Packet → Packet → Remark
answers_poll packet poll = Answers poll.number (time_from poll.moment packet.moment)

-- of a UA or DM with F=1, if it answers the last SABME or DISC
abbrev pub answer_to : Packet → Option Packet → Option Remark
answer_to packet None = None
answer_to packet (Some poll) = Some (answers_poll packet poll)

-- of an S response with F=1
abbrev pub response_to : Packet → Option Packet → Polls → Remark
response_to packet (Some poll) polls = answers_poll packet poll
response_to packet None polls = if polls.complete && (polls.unanswered == 0)
    then ResponseWithoutPoll else LateResponse

-- of a poll, while the one before it is not answered
abbrev pub left_unanswered : Option Packet → Option Remark
left_unanswered None = None
left_unanswered (Some poll) = Some (NotAnswered poll.number)

abbrev pub supervisory_remark : Role → Bool → Packet → Exchange → Option Remark
supervisory_remark role false packet x = None
supervisory_remark role true packet x = if is_command role then left_unanswered x.from.polls.last
    else Some (response_to packet x.to.polls.last x.to.polls)

abbrev pub answer_remark : Control → Role → Packet → Exchange → Option Remark
answer_remark (I ns nr p) role packet x = if p then left_unanswered x.from.polls.last else None
answer_remark (Rr nr pf) role packet x = supervisory_remark role pf packet x
answer_remark (Rnr nr pf) role packet x = supervisory_remark role pf packet x
answer_remark (Rej nr pf) role packet x = supervisory_remark role pf packet x
answer_remark (Sabme p) role packet x = left_unanswered x.from.commands.last
answer_remark (Dm f) role packet x = if f then answer_to packet x.to.commands.last else None
answer_remark (Ui p) role packet x = None
answer_remark (Disc p) role packet x = left_unanswered x.from.commands.last
answer_remark (Ua f) role packet x = answer_to packet x.to.commands.last
answer_remark (Frmr f) role packet x = None
answer_remark (Xid pf) role packet x = None

-- ---- All remarks on a frame.

abbrev pub ns_of : Control → List ℕ → Exchange → Option Remark
ns_of (I ns nr p) octets x =
    ns_remark ns octets x.from.unacknowledged x.from.numbering x.to.numbering
ns_of control octets x = None

abbrev pub window_of : Option ℕ → Control → Exchange → Option Remark
window_of k (I ns nr p) x = window_remark (k_or_most k) ns x.from.numbering x.to.numbering
window_of k control x = None

abbrev pub busy_of : Control → Exchange → Option Remark
busy_of (I ns nr p) x = sent_to_busy p x.to.busy
busy_of control x = None

abbrev pub nr_of : Control → Exchange → Option Remark
nr_of (I ns nr p) x = nr_remark nr x.from.numbering x.to.numbering
nr_of (Rr nr pf) x = nr_remark nr x.from.numbering x.to.numbering
nr_of (Rnr nr pf) x = nr_remark nr x.from.numbering x.to.numbering
nr_of (Rej nr pf) x = nr_remark nr x.from.numbering x.to.numbering
nr_of control x = None

-- the remarks of its own link on the frame in this packet; `k` is the window, if it is known
abbrev pub remarks_on : Option ℕ → Packet → Fields → Exchange → Remarks
remarks_on k packet f x = record {
  establishment = establishment_remark f.control x;
  ns = ns_of f.control f.info x;
  window = window_of k f.control x;
  busy = busy_of f.control x;
  nr = nr_of f.control x;
  bit = bit_remark f.control x;
  answer = answer_remark f.control f.address.role packet x;
  identity = None;
  conflict = None;
}

-- there is no remark
abbrev pub is_empty : Remarks → Bool
is_empty r = is_none r.establishment && (is_none r.ns && (is_none r.window && (is_none r.busy
    && (is_none r.nr && (is_none r.bit && (is_none r.answer && (is_none r.identity
    && is_none r.conflict)))))))

-- one of the remarks is a violation
abbrev pub has_violation : Remarks → Bool
has_violation r = is_violation r.establishment || is_violation r.ns || is_violation r.window
    || is_violation r.busy || is_violation r.nr || is_violation r.bit || is_violation r.answer
    || is_violation r.identity || is_violation r.conflict
