-- The kinds of frames in transit that the invariant distinguishes. Each frame is classified once,
-- as one of ten kinds. The conjuncts read no control fields, only lists and numbers derived from
-- the kinds.
use Rattle.std.specs.Prelude.{ℕ, ◌+◌, Bool, true, false, List, [], ◌∷◌, ◌++◌, map}
use Rattle.lapd_frame.specs.declared.Role.{Role}
use Rattle.lapd_frame.specs.declared.Role.TheVariants.{Command, Answer}
use Rattle.lapd_frame.specs.declared.Control.{Control}
use Rattle.lapd_frame.specs.declared.Control.TheVariants.{I, Rr, Rnr, Rej, Sabme, Dm, Ui, Disc, Ua}
use Rattle.lapd_pair_laws.specs.Line.{Flight}

-- a message in transit: its N(S), whether its frame polls, its place among the sender's messages,
-- and its octets
pub record Message : Type 0 where
  pub number : ℕ
  pub polled : Bool
  pub place : ℕ
  pub octets : List ℕ

-- In this order: an I frame, with its N(R); RR or RNR that neither polls nor answers a poll; REJ
-- with F=0; RR or RNR with P=1; a supervisory response with F=1; SABME or DISC with P=1; UA with
-- F=1; DM with F=1; UI; and any frame that no end sends.
pub data Kind : Type 0 where
  Numbered : (message : Message) → (nr : ℕ) → Kind
  Status : (nr : ℕ) → Kind
  Rejection : (nr : ℕ) → Kind
  Enquiry : (nr : ℕ) → Kind
  Final : (nr : ℕ) → Kind
  Asks : Kind
  Accepts : Kind
  Refuses : Kind
  Unnumbered : Kind
  Foreign : Kind

-- the kind of a command with this control field, information and place, and of a response
abbrev pub kind_of : Role → Control → List ℕ → ℕ → Kind
kind_of Command (I ns nr p) info place = Numbered
    (record { number = ns; polled = p; place = place; octets = info }) nr
kind_of Command (Rr nr true) info place = Enquiry nr
kind_of Command (Rnr nr true) info place = Enquiry nr
kind_of Command (Sabme true) info place = Asks
kind_of Command (Disc true) info place = Asks
kind_of Command (Ui p) info place = Unnumbered
kind_of Answer (Rr nr true) info place = Final nr
kind_of Answer (Rnr nr true) info place = Final nr
kind_of Answer (Rej nr true) info place = Final nr
kind_of Answer (Rr nr false) info place = Status nr
kind_of Answer (Rnr nr false) info place = Status nr
kind_of Answer (Rej nr false) info place = Rejection nr
kind_of Answer (Ua true) info place = Accepts
kind_of Answer (Dm true) info place = Refuses
kind_of role control info place = Foreign

abbrev pub kind : Flight → Kind
kind f = kind_of f.role f.control f.info f.place

abbrev pub kinds : List Flight → List Kind
kinds line = map kind line

-- ---- Lists derived from the kinds.

-- the messages
abbrev pub message_of : Kind → List Message
message_of (Numbered m nr) = m ∷ []
message_of k = []

abbrev pub messages : List Kind → List Message
messages [] = []
messages (k ∷ ks) = message_of k ++ messages ks

-- the N(R)
abbrev pub number_of : Kind → List ℕ
number_of (Numbered m nr) = nr ∷ []
number_of (Status nr) = nr ∷ []
number_of (Rejection nr) = nr ∷ []
number_of (Enquiry nr) = nr ∷ []
number_of (Final nr) = nr ∷ []
number_of k = []

abbrev pub numbers : List Kind → List ℕ
numbers [] = []
numbers (k ∷ ks) = number_of k ++ numbers ks

-- the N(R) of the REJ with F=0
abbrev pub rejection_of : Kind → List ℕ
rejection_of (Rejection nr) = nr ∷ []
rejection_of k = []

abbrev pub rejections : List Kind → List ℕ
rejections [] = []
rejections (k ∷ ks) = rejection_of k ++ rejections ks

-- ---- How many frames are of some kinds.

abbrev pub tally : (Kind → ℕ) → List Kind → ℕ
tally f [] = 0
tally f (k ∷ ks) = f k + tally f ks

-- commands that request an establishment or a release, and responses to them
abbrev pub ask_of : Kind → ℕ
ask_of Asks = 1
ask_of k = 0

abbrev pub answer_of : Kind → ℕ
answer_of Accepts = 1
answer_of Refuses = 1
answer_of k = 0

-- frames that poll, and frames that answer a poll
abbrev pub bit : Bool → ℕ
bit true = 1
bit false = 0

abbrev pub poll_of : Kind → ℕ
poll_of (Numbered m nr) = bit m.polled
poll_of (Enquiry nr) = 1
poll_of k = 0

abbrev pub final_of : Kind → ℕ
final_of (Final nr) = 1
final_of k = 0

-- frames that no end sends
abbrev pub foreign_of : Kind → ℕ
foreign_of Foreign = 1
foreign_of k = 0

abbrev pub is_acceptance : Kind → Bool
is_acceptance Accepts = true
is_acceptance k = false
