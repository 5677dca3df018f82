-- The conjuncts of the invariant. Each is stated over the values that it reads, with one side as
-- speaker (it sends) and the other as hearer (it receives). All of them hold in both directions. A
-- side is open in states 7 and 8, and closed otherwise.
use Rattle.std.specs.Prelude.{◌≡◌, ◌⊎◌, ℕ, ◌+◌, ◌<◌, ◌≤◌, Bool, true, false, List, [], ◌∷◌, length, map, slice_get, Option, Some}
use Rattle.lapd_link_definition.specs.declared.state.State.{State}
use Rattle.lapd_link_definition.specs.declared.state.State.TheVariants.{TeiAssigned, AwaitingEstablishment, AwaitingRelease, MultipleFrameEstablished, TimerRecovery}
use Rattle.lapd_link_definition.specs.EndOfStep.{is_7_or_8}
use Rattle.lapd_pair_laws.specs.Histories.{Receipt}
use Rattle.lapd_pair_laws.specs.Safe.{IsAmong}
use Rattle.lapd_pair_laws.specs.Kinds.{Message, Kind, Final, messages, numbers, rejections, tally, ask_of, answer_of, poll_of, final_of, foreign_of}
use Rattle.lapd_pair_laws.specs.Parties.{Sender, Receiver, Party, Reception, OnReception, frames_received}

abbrev pub Each : {A : Type 0} → (A → Type 0) → List A → Type 0
Each P [] = Unit {0}
Each P (x ∷ xs) = P x × Each P xs

-- ---- Messages received.

-- one past the last place received, and the establishment in which it was received; the first
-- argument if no message was received
abbrev pub high_from : ℕ → List Receipt → ℕ
high_from low [] = low
high_from low (r ∷ rs) = high_from (r.place + 1) rs

abbrev pub high : List Receipt → ℕ
high rs = high_from 0 rs

abbrev pub era_from : ℕ → List Receipt → ℕ
era_from era [] = era
era_from era (r ∷ rs) = era_from r.establishment rs

abbrev pub latest : List Receipt → ℕ
latest rs = era_from 0 rs

-- the places received
abbrev pub places_of : List Receipt → List ℕ
places_of received = map (λ message. message.place) received

-- each message received is the message submitted at its place
abbrev pub AreGiven : List (List ℕ) → List Receipt → Type 0
AreGiven given [] = Unit {0}
AreGiven given (message ∷ received) = (slice_get given message.place ≡ Some message.octets)
    × AreGiven given received

-- the places rise from `next` on, and within one establishment of the receiver no place is skipped
abbrev pub IsRow : ℕ → ℕ → List Receipt → Type 0
IsRow next establishment [] = Unit {0}
IsRow next establishment (message ∷ received) =
    (next ≤ message.place) × (message.establishment ≡ establishment → message.place ≡ next)
    × IsRow (message.place + 1) message.establishment received

-- this place was received
abbrev pub HasPlace : ℕ → List Receipt → Type 0
HasPlace place rs = IsAmong place (places_of rs)

-- each of the n places from `base` on was received
abbrev pub IsGot : ℕ → ℕ → List Receipt → Type 0
IsGot base n rs = (m : ℕ) → m < n → HasPlace (base + m) rs

-- ---- A side by itself.

-- In states 7 and 8, message number n of the establishment is at place base + n. The first waiting
-- message has number V(A), the first unsent one V(S). All messages from the base up to the first
-- unsent one were last sent in this establishment. At most k are outstanding.
pub record IsNumbering (s : Sender) : Type 0 where
  pub first : s.first ≡ s.base + s.va
  pub next : s.next ≡ s.base + s.vs
  pub ordered : s.va ≤ s.vs
  pub window : s.vs ≤ s.va + s.k
  pub within : s.next ≤ length s.given
  pub since : (place : ℕ) → s.base ≤ place → place < s.next → s.sent_in place ≡ Some s.era

-- the messages left over from the previous establishment keep their numbering
pub record IsHolding (s : Sender) : Type 0 where
  pub first : s.first ≡ s.base + s.va
  pub next : s.next ≡ s.base + s.vs
  pub ordered : s.va ≤ s.vs
  pub within : s.next ≤ length s.given

-- no message waits
pub record IsEmpty (s : Sender) : Type 0 where
  pub first : s.first ≡ length s.given
  pub next : s.next ≡ length s.given

abbrev pub IsConsistentSender : State → Bool → Bool → Sender → Type 0
IsConsistentSender TeiAssigned asked leaving s = IsEmpty s
IsConsistentSender AwaitingEstablishment true leaving s = IsEmpty s
IsConsistentSender AwaitingEstablishment false true s = IsEmpty s
IsConsistentSender AwaitingEstablishment false false s = IsHolding s
IsConsistentSender AwaitingRelease asked leaving s = IsEmpty s
IsConsistentSender MultipleFrameEstablished asked leaving s = IsNumbering s
IsConsistentSender TimerRecovery asked leaving s = IsNumbering s

-- whether waiting messages were sent, or may have been sent, in the last establishment
abbrev pub is_holding : State → Bool → Bool → Bool
is_holding AwaitingEstablishment false false = true
is_holding MultipleFrameEstablished asked leaving = true
is_holding TimerRecovery asked leaving = true
is_holding state asked leaving = false

-- no place was sent in a later establishment than the present one, nor in the present one below its
-- base
abbrev pub IsPast : Sender → Type 0
IsPast s = (place era : ℕ) → s.sent_in place ≡ Some era
    → (era ≤ s.era) × (era ≡ s.era → s.base ≤ place)

-- ---- Messages in transit that the hearer will process.

-- a message with number n is at place base + n, was last sent in the present establishment, and has
-- the octets submitted
pub record IsPlaced (s : Sender) (m : Message) : Type 0 where
  pub place : m.place ≡ s.base + m.number
  pub same : slice_get s.given m.place ≡ Some m.octets
  pub sent : s.sent_in m.place ≡ Some s.era

-- its number is near the hearer's V(R), so that their tags are equal only if the numbers are
abbrev pub IsNearTo : ℕ → ℕ → Message → Type 0
IsNearTo vr k m = (vr ≤ m.number + 1) × (m.number < vr + k)

-- Numbers rise, from `low` on and below `end`. A message that polls repeats the last number, and no
-- message follows it.
abbrev pub IsNext : Bool → ℕ → ℕ → ℕ → List Message → Type 0 → Type 0
IsNext true low end number rest Run = (number + 1 ≡ end) × (rest ≡ [])
IsNext false low end number rest Run = (low ≤ number) × (number < end) × Run

abbrev pub IsRun : ℕ → ℕ → List Message → Type 0
IsRun low end [] = Unit {0}
IsRun low end (m ∷ ms) = IsNext m.polled low end m.number ms (IsRun (m.number + 1) end ms)

-- stale messages above `low` may precede the run: they were in transit when the sender set V(S)
-- back
abbrev pub IsJunkThenRun : ℕ → ℕ → List Message → Type 0
IsJunkThenRun low end [] = Unit {0}
IsJunkThenRun low end (m ∷ ms) = IsRun low end (m ∷ ms)
    ⊎ ((low < m.number) × (m.polled ≡ false) × IsJunkThenRun low end ms)

-- only a rejecting hearer may receive stale messages
abbrev pub IsInOrder : Bool → ℕ → ℕ → List Message → Type 0
IsInOrder false low end ms = IsRun low end ms
IsInOrder true low end ms = IsJunkThenRun low end ms

-- the hearer received every place from the base up to its V(R), and no later one
pub record IsInStep (base vr : ℕ) (received : List Receipt) : Type 0 where
  pub below : high received ≤ base + vr
  pub level : 0 < vr → high received ≡ base + vr
  pub got : IsGot base vr received

abbrev pub HasSome : List Message → Type 0
HasSome [] = ⊥
HasSome (m ∷ ms) = Unit {0}

-- the messages that the hearer will process with this V(R) and reject condition
pub record IsStream (speaking : Bool) (s : Sender) (received : List Receipt) (vr : ℕ)
    (rejecting : Bool) (ms : List Message) : Type 0 where
  pub placed : Each (IsPlaced s) ms
  pub near : Each (IsNearTo vr s.k) ms
  pub order : IsInOrder rejecting vr s.vs ms
  pub step : (speaking ≡ true) ⊎ HasSome ms → IsInStep s.base vr received
  pub between : speaking ≡ true → (s.va ≤ vr) × (vr ≤ s.vs)

-- ---- N(R) in transit that the hearer will process.

-- they do not decrease, from `low` up to `top`
abbrev pub IsClimb : ℕ → ℕ → List ℕ → Type 0
IsClimb low top [] = low ≤ top
IsClimb low top (n ∷ ns) = (low ≤ n) × IsClimb n top ns

-- they lie between the hearer's V(A) and V(S); the speaker has received all messages that they
-- acknowledge; those of an open speaker do not exceed its V(R)
pub record AreAcknowledging (speaking : Bool) (r : Receiver) (base va vs : ℕ) (ns : List ℕ) :
    Type 0 where
  pub climb : IsClimb va vs ns
  pub known : Each (λ nr. IsGot base nr r.received) ns
  pub top : speaking ≡ true → IsClimb va r.vr ns × (r.vr ≤ vs)

-- ---- Polls of the hearer and their answers: `out` is in transit to the speaker, `back` back.

pub record NoneAsked (out back : List Kind) : Type 0 where
  pub polls : tally poll_of out ≡ 0
  pub finals : tally final_of back ≡ 0

-- no message follows a poll
abbrev pub NoneBehindPoll : List Kind → Type 0
NoneBehindPoll [] = Unit {0}
NoneBehindPoll (k ∷ ks) = (0 < poll_of k → messages ks ≡ []) × NoneBehindPoll ks

-- a final acknowledges all messages received, and no REJ follows it
abbrev pub NamesAll : Kind → ℕ → ℕ → List Kind → Type 0
NamesAll (Final nr) base top ks = (top ≤ base + nr) × (rejections ks ≡ [])
NamesAll k base top ks = Unit {0}

abbrev pub FinalsNameAll : ℕ → ℕ → List Kind → Type 0
FinalsNameAll base top [] = Unit {0}
FinalsNameAll base top (k ∷ ks) = NamesAll k base top ks × FinalsNameAll base top ks

-- at most one poll or final is in transit; beside a final no message is in transit
pub record OneAsked (base : ℕ) (received : List Receipt) (out back : List Kind) : Type 0 where
  pub one : tally poll_of out + tally final_of back ≤ 1
  pub behind : NoneBehindPoll out
  pub alone : 0 < tally final_of back → messages out ≡ []
  pub names : FinalsNameAll base (high received) back

abbrev pub AreAsked : State → ℕ → List Receipt → List Kind → List Kind → Type 0
AreAsked TeiAssigned base received out back = Unit {0}
AreAsked AwaitingEstablishment base received out back = NoneAsked out back
AreAsked AwaitingRelease base received out back = Unit {0}
AreAsked MultipleFrameEstablished base received out back = NoneAsked out back
AreAsked TimerRecovery base received out back = OneAsked base received out back

-- ---- REJ with F=0 in transit that the hearer will process.

-- the speaker rejects all numbers but this one, and every message it will process has a greater
-- number
pub record IsAwaiting (nr : ℕ) (h : Reception) : Type 0 where
  pub rejecting : h.rejecting ≡ true
  pub at : h.vr ≡ nr
  pub above : Each (λ m. m.polled ≡ false → nr < m.number) (messages h.frames)

pub record IsSentBack (vs base : ℕ) (received : List Receipt) (waiting : Option Reception)
    (nr : ℕ) :
    Type 0 where
  pub below : nr < vs
  pub names : high received ≤ base + nr
  pub waits : OnReception (IsAwaiting nr) waiting

abbrev pub AtMostOne : (ℕ → Type 0) → List ℕ → Type 0
AtMostOne P [] = Unit {0}
AtMostOne P (n ∷ []) = P n
AtMostOne P (n ∷ m ∷ ns) = ⊥

abbrev pub AreRejected : State → ℕ → ℕ → List Receipt → Option Reception → List ℕ → Type 0
AreRejected TeiAssigned vs base received waiting ns = Unit {0}
AreRejected AwaitingEstablishment vs base received waiting ns = ns ≡ []
AreRejected AwaitingRelease vs base received waiting ns = Unit {0}
AreRejected MultipleFrameEstablished vs base received waiting ns =
    AtMostOne (IsSentBack vs base received waiting) ns
AreRejected TimerRecovery vs base received waiting ns = Unit {0}

-- ---- All that y receives from x; `waiting` is what x receives from y.

pub record IsReceivable (x y : Party) (waiting : Option Reception) (h : Reception) : Type 0 where
  pub stream : IsStream (is_7_or_8 x.state) x.sends y.takes.received h.vr h.rejecting
      (messages h.frames)
  pub acks : AreAcknowledging (is_7_or_8 x.state) x.takes y.sends.base h.va h.vs (numbers h.frames)
  pub asked : AreAsked y.state y.sends.base x.takes.received (frames_received waiting) h.frames
  pub rejected : AreRejected y.state y.sends.vs y.sends.base x.takes.received waiting
      (rejections h.frames)

-- ---- SABME and DISC, and their answers.

-- only in states 5 and 6, one SABME, DISC or response to it may be in transit
abbrev pub most_asks : State → ℕ
most_asks AwaitingEstablishment = 1
most_asks AwaitingRelease = 1
most_asks state = 0

-- no N(R) follows a SABME or DISC
abbrev pub NoneBehindAsk : List Kind → Type 0
NoneBehindAsk [] = Unit {0}
NoneBehindAsk (k ∷ ks) = (0 < ask_of k → numbers ks ≡ []) × NoneBehindAsk ks

-- at most one of the speaker's SABME and DISC commands and their answers is in transit; while an
-- answer is, no N(R) of the speaker is
pub record IsExchange (most : ℕ) (out back : List Kind) : Type 0 where
  pub one : tally ask_of out + tally answer_of back ≤ most
  pub behind : NoneBehindAsk out
  pub before : 0 < tally answer_of back → numbers out ≡ []
  pub clean : tally foreign_of out ≡ 0

-- ---- Histories of a sender and a receiver, from which safety follows.

pub record AreHistories (given : List (List ℕ)) (sent_in : ℕ → Option ℕ) (acked : List ℕ)
    (received : List Receipt) : Type 0 where
  pub as_given : AreGiven given received
  pub row : IsRow 0 0 received
  pub prefix : (place smaller : ℕ) → HasPlace place received → smaller < place
      → sent_in smaller ≡ sent_in place → HasPlace smaller received
  pub arrived : (place : ℕ) → IsAmong place acked → HasPlace place received
