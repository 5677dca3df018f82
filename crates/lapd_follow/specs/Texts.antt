-- The words of each remark.
use Rattle.std.specs.Prelude.{ℕ, ◌/◌, ◌%◌, ◌==◌, if◌then◌else◌, List, [], ◌∷◌, ◌++◌, codes, Option, Some, None}
use Rattle.std.specs.Fmt.{decimal}
use Rattle.hex.specs.Hex.{encode_lower}
use Rattle.lapd_follow.specs.declared.identity.Identity.{Identity}
use Rattle.lapd_follow.specs.declared.identity.Identity.TheVariants.{Request, Assigned, Denied, CheckRequest, CheckResponse, Remove, Verify}
use Rattle.lapd_follow.specs.declared.remark.Class.{Class}
use Rattle.lapd_follow.specs.declared.remark.Class.TheVariants.{Normal, Recovery, Violation}
use Rattle.lapd_follow.specs.declared.remark.Remark.{Remark}
use Rattle.lapd_follow.specs.declared.remark.Remark.TheVariants.{Begins, Ends, NumbersKnown, LateUa, UaWithoutCommand, SentReleased, FirstNs, NsExpected, Repeated, RepeatedOtherwise, WindowExceeded, SentToBusy, SentToKnownBusy, NrOutside, SabmeWithoutP, DiscWithoutP, UaWithoutF, OtherSidesBit, BeforeAnswer, Answers, LateResponse, ResponseWithoutPoll, NotAnswered, Manages, Unrequested, NotAutomatic, AssignedTwice, AssignedInUse, TwoResponses}
use Rattle.lapd_follow.specs.declared.remarks.Remarks.{Remarks}
use Rattle.lapd_follow.specs.Remarks.{class_of}

abbrev pub class_name : Class → List ℕ
class_name Normal = codes "normal"
class_name Recovery = codes "recovery"
class_name Violation = codes "violation"

-- the clause of Q.921 that defines a message of TEI management
abbrev pub identity_clause : Identity → List ℕ
identity_clause (Request ri) = codes "5.3.2"
identity_clause (Assigned tei ri) = codes "5.3.2"
identity_clause (Denied ri) = codes "5.3.2"
identity_clause (CheckRequest tei) = codes "5.3.3.2"
identity_clause (CheckResponse tei ri) = codes "5.3.3.2"
identity_clause (Remove tei) = codes "5.3.4"
identity_clause (Verify tei) = codes "5.3.5"

-- the clause of Q.921 on which a remark depends
abbrev pub clause_of : Remark → List ℕ
clause_of (Begins n) = codes "5.5.1.2"
clause_of (Ends n) = codes "5.5.3.2"
clause_of NumbersKnown = codes "3.5.2"
clause_of LateUa = codes "5.5.1.3"
clause_of UaWithoutCommand = codes "3.6.8"
clause_of SentReleased = codes "5.5.4"
clause_of (FirstNs ns) = codes "5.5.1.2"
clause_of (NsExpected ns expected) = codes "5.6.2"
clause_of Repeated = codes "5.6.4"
clause_of RepeatedOtherwise = codes "5.6.1"
clause_of (WindowExceeded k) = codes "5.9.5"
clause_of SentToBusy = codes "5.6.5"
clause_of SentToKnownBusy = codes "5.6.5"
clause_of (NrOutside nr first last) = codes "3.5.2.3"
clause_of SabmeWithoutP = codes "5.5.1.2"
clause_of DiscWithoutP = codes "5.5.3.2"
clause_of UaWithoutF = codes "5.5.1.2"
clause_of OtherSidesBit = codes "3.3.2"
clause_of (BeforeAnswer packet) = codes "5.6.7"
clause_of (Answers packet after) = codes "3.5.1"
clause_of LateResponse = codes "5.6.7"
clause_of ResponseWithoutPoll = codes "5.6.2.1"
clause_of (NotAnswered packet) = codes "5.6.7"
clause_of (Manages message) = identity_clause message
clause_of Unrequested = codes "5.3.2"
clause_of (NotAutomatic tei) = codes "3.3.4.2"
clause_of (AssignedTwice tei ri) = codes "5.3.2"
clause_of (AssignedInUse tei) = codes "5.3.3.2"
clause_of (TwoResponses tei first second) = codes "5.3.3.2"

-- microseconds as seconds with six digits after the point
abbrev pub seconds_digits : ℕ → List ℕ
seconds_digits time = decimal (time / 1000000) ++ (codes "." ++ (decimal (time / 100000 % 10)
    ++ (decimal (time / 10000 % 10) ++ (decimal (time / 1000 % 10)
    ++ (decimal (time / 100 % 10) ++ (decimal (time / 10 % 10) ++ decimal (time % 10)))))))

-- the time from a poll to its answer, in microseconds, if it is known
abbrev pub within_text : Option ℕ → List ℕ
within_text None = []
within_text (Some time) = codes " in " ++ (seconds_digits time ++ codes " s")

-- a TEI in words; the group TEI stands for all
abbrev pub tei_names : ℕ → List ℕ
tei_names tei = if tei == 127 then codes "all TEIs" else (codes "TEI " ++ decimal tei)

-- a reference of TEI management, as its two octets in hexadecimal
abbrev pub reference_digits : ℕ → List ℕ
reference_digits ri = encode_lower ((ri / 256) ∷ (ri % 256) ∷ [])

-- a message of TEI management
abbrev pub identity_text : Identity → List ℕ
identity_text (Request ri) = codes "requests a TEI, reference " ++ reference_digits ri
identity_text (Assigned tei ri) = codes "assigns TEI " ++ (decimal tei
    ++ (codes " to reference " ++ reference_digits ri))
identity_text (Denied ri) = codes "denies a TEI to reference " ++ reference_digits ri
identity_text (CheckRequest tei) = codes "checks " ++ tei_names tei
identity_text (CheckResponse tei ri) = codes "answers the check of TEI " ++ (decimal tei
    ++ (codes ", reference " ++ reference_digits ri))
identity_text (Remove tei) = codes "removes " ++ tei_names tei
identity_text (Verify tei) = codes "requests a check of TEI " ++ decimal tei

-- an earlier assignment
abbrev pub assignment_text : ℕ → ℕ → List ℕ
assignment_text tei ri = codes "TEI " ++ (decimal tei
    ++ (codes " is already assigned to reference " ++ reference_digits ri))

-- the end of an establishment, which is 0 if it began before its first frame was seen
abbrev pub ended_text : ℕ → List ℕ
ended_text n = if n == 0 then codes "ends the establishment"
    else (codes "ends establishment " ++ decimal n)

abbrev pub remark_text : Remark → List ℕ
remark_text (Begins n) = codes "begins establishment " ++ decimal n
remark_text (Ends n) = ended_text n
remark_text NumbersKnown = codes "numbers known from here on"
remark_text LateUa = codes "answers an earlier SABME or DISC"
remark_text UaWithoutCommand = codes "UA without SABME or DISC"
remark_text SentReleased = codes "sent on a released link"
remark_text (FirstNs ns) = codes "first N(S) is " ++ (decimal ns ++ codes ", not 0")
remark_text (NsExpected ns expected) = codes "N(S) " ++ (decimal ns ++ (codes ", "
    ++ (decimal expected ++ codes " expected")))
remark_text Repeated = codes "repeated"
remark_text RepeatedOtherwise = codes "repeated with other octets"
remark_text (WindowExceeded k) = codes "window of " ++ (decimal k ++ codes " is exceeded")
remark_text SentToBusy = codes "sent to a busy peer"
remark_text SentToKnownBusy = codes "sent to a peer that answered a poll by RNR"
remark_text (NrOutside nr first last) = codes "N(R) " ++ (decimal nr ++ (codes " is not from "
    ++ (decimal first ++ (codes " to " ++ decimal last))))
remark_text SabmeWithoutP = codes "SABME with P=0"
remark_text DiscWithoutP = codes "DISC with P=0"
remark_text UaWithoutF = codes "F=0 answers P=1"
remark_text OtherSidesBit = codes "C/R bit of the other side"
remark_text (BeforeAnswer packet) = codes "sent before packet " ++ (decimal packet
    ++ codes " is answered")
remark_text (Answers packet after) = codes "answers packet "
    ++ (decimal packet ++ within_text after)
remark_text LateResponse = codes "answers an earlier poll"
remark_text ResponseWithoutPoll = codes "response without a poll"
remark_text (NotAnswered packet) = codes "packet " ++ (decimal packet ++ codes " is not answered")
remark_text (Manages message) = identity_text message
remark_text Unrequested = codes "no known request has this reference"
remark_text (NotAutomatic tei) = codes "TEI " ++ (decimal tei
    ++ codes " is not for automatic assignment")
remark_text (AssignedTwice tei ri) = assignment_text tei ri
remark_text (AssignedInUse tei) = codes "a terminal answered the last check of TEI "
    ++ decimal tei
remark_text (TwoResponses tei first second) = codes "two terminals answer the check of TEI "
    ++ (decimal tei ++ (codes ", references " ++ (reference_digits first
    ++ (codes " and " ++ reference_digits second))))

-- a remark after the line of its frame and a semicolon; a violation is marked
abbrev pub marked_text : Class → List ℕ → List ℕ
marked_text Normal words = codes "; " ++ words
marked_text Recovery words = codes "; " ++ words
marked_text Violation words = codes "; violation: " ++ words

abbrev pub noted_text : Option Remark → List ℕ
noted_text None = []
noted_text (Some remark) = marked_text (class_of remark) (remark_text remark)

-- all remarks on a frame, in the order of their kinds
abbrev pub remarks_text : Remarks → List ℕ
remarks_text r = noted_text r.establishment ++ (noted_text r.ns ++ (noted_text r.window
    ++ (noted_text r.busy ++ (noted_text r.nr ++ (noted_text r.bit ++ (noted_text r.answer
    ++ (noted_text r.identity ++ noted_text r.conflict)))))))
