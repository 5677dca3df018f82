-- Worked dialogues, which test the definitions.
use Rattle.std.specs.Prelude.{ℕ, ◌+◌, ◌*◌, true, false, List, [], ◌∷◌, ◌++◌, map, Some, option_to_list}
use Rattle.lapd_frame.specs.declared.Side.{Side}
use Rattle.lapd_frame.specs.declared.Side.TheVariants.{Network, User}
use Rattle.lapd_frame.specs.declared.Role.{Role}
use Rattle.lapd_frame.specs.declared.Role.TheVariants.{Command, Answer}
use Rattle.lapd_frame.specs.declared.Sapi.TheVariants.{Call}
use Rattle.lapd_frame.specs.declared.Control.{Control}
use Rattle.lapd_frame.specs.declared.Control.TheVariants.{I, Rr, Rnr, Rej, Sabme, Dm, Disc, Ua}
use Rattle.lapd_follow.specs.declared.remark.Remark.{Remark}
use Rattle.lapd_follow.specs.declared.remarks.Remarks.{Remarks}
use Rattle.lapd_follow.specs.Link.{Sighting, new_link, said_of_all}

-- the remarks in order
abbrev pub list_of : Remarks → List Remark
list_of r = option_to_list r.establishment ++ (option_to_list r.ns ++ (option_to_list r.window
    ++ (option_to_list r.busy ++ (option_to_list r.nr ++ (option_to_list r.bit
    ++ (option_to_list r.answer ++ (option_to_list r.identity
    ++ option_to_list r.conflict)))))))

-- a frame of SAPI 0 and TEI 64, before it is numbered
pub record Sent : Type 0 where
  pub sender : Side
  pub role : Role
  pub control : Control
  pub info : List ℕ

abbrev pub command : Side → Control → Sent
command sender control = record { sender = sender; role = Command; control = control; info = [] }

abbrev pub response : Side → Control → Sent
response sender control = record { sender = sender; role = Answer; control = control; info = [] }

-- an I frame with P=0 and one octet
abbrev pub message : Side → ℕ → ℕ → ℕ → Sent
message sender ns nr octet = record {
  sender = sender;
  role = Command;
  control = I ns nr false;
  info = octet ∷ [];
}

-- each frame in a packet of its own, 1,000 microseconds after the one before
abbrev pub sighted : ℕ → List Sent → List Sighting
sighted n [] = []
sighted n (s ∷ rest) = record {
  packet = record { number = n; moment = Some (n * 1000) };
  sender = s.sender;
  frame = record {
    address = record { sapi = Call; tei = 64; role = s.role };
    control = s.control;
    info = s.info;
  };
} ∷ sighted (n + 1) rest

-- the remarks on each frame, with a window of 3
abbrev pub told : List Sent → List (List Remark)
told frames = map list_of (said_of_all (sighted 1 frames) (new_link (Some 3)))

-- the user establishes the link
abbrev pub established : List Sent
established = command User (Sabme true) ∷ response Network (Ua true) ∷ []

-- a message and its acknowledgement in both directions, and a poll with its answer
abbrev pub undisturbed : List Sent
undisturbed = established ++ message User 0 0 5 ∷ response Network (Rr 1 false)
    ∷ message Network 0 1 6 ∷ response User (Rr 1 false) ∷ command User (Rr 1 true)
    ∷ response Network (Rr 1 true) ∷ []

-- the network does not set V(R) to 0 when the link is established again
abbrev pub vr_not_reset : List Sent
vr_not_reset = established ++ message User 0 0 5 ∷ response Network (Rr 1 false)
    ∷ command User (Sabme true) ∷ response Network (Ua true) ∷ message User 0 0 7
    ∷ response Network (Rr 2 false) ∷ []

-- the second I frame is lost, rejected and sent again, and then its N(S) with other octets
abbrev pub sent_again : List Sent
sent_again = established ++ message User 0 0 5 ∷ message User 2 0 7
    ∷ response Network (Rej 1 false) ∷ message User 1 0 6 ∷ message User 1 0 6
    ∷ message User 1 0 9 ∷ []

-- a UA, a response with F=1 and an N(R) without a cause
abbrev pub without_cause : List Sent
without_cause = established ++ response Network (Rr 0 true) ∷ response Network (Rr 1 false)
    ∷ response Network (Ua true) ∷ []

-- the user sends an I frame again to a network that answered its poll by RNR
abbrev pub to_busy : List Sent
to_busy = established ++ message User 0 0 5 ∷ response Network (Rnr 0 false) ∷ message User 0 0 5
    ∷ command User (Rr 0 true) ∷ response Network (Rnr 0 true) ∷ message User 0 0 5 ∷ []

-- more I frames than the window
abbrev pub four_messages : List Sent
four_messages = established ++ message User 0 0 1 ∷ message User 1 0 2 ∷ message User 2 0 3
    ∷ message User 3 0 4 ∷ []

-- after a release both ends send on, until the network establishes the link again; then it
-- disconnects, and sends on
abbrev pub to_released : List Sent
to_released = established ++ command User (Disc true) ∷ response Network (Ua true)
    ∷ message User 0 0 5 ∷ response Network (Rr 1 false) ∷ command Network (Sabme true)
    ∷ response User (Ua true) ∷ message User 0 0 6 ∷ response Network (Dm false)
    ∷ response Network (Rr 0 false) ∷ []

-- a SABME and a DISC with P=0, which a UA with F=0 may answer, and a UA with F=0 for P=1
abbrev pub without_bits : List Sent
without_bits = command User (Sabme false) ∷ response Network (Ua false)
    ∷ command User (Sabme true) ∷ response Network (Ua false) ∷ command User (Disc false) ∷ []

-- an end that polled sends an I frame with P=0 before the answer, one with P=1, and one after it
abbrev pub before_answers : List Sent
before_answers = established ++ command User (Rr 0 true) ∷ message User 0 0 5
    ∷ record (message User 0 0 5) { control = I 0 0 true } ∷ response Network (Rr 1 true) ∷ message User 1 0 6 ∷ []

-- both ends establish at once, while a frame of the old establishment is on the line
abbrev pub collision : List Sent
collision = established ++ message User 0 0 5 ∷ command User (Sabme true)
    ∷ response Network (Rr 1 false) ∷ command Network (Sabme true) ∷ response User (Ua true)
    ∷ response Network (Ua true) ∷ message User 0 0 7 ∷ response Network (Rr 1 false) ∷ []

-- The capture begins on an established link. The numbers of each end are learned from an I frame and
-- its acknowledgement; then an N(R) acknowledges more than was sent.
abbrev pub from_messages : List Sent
from_messages = message User 5 3 1 ∷ response Network (Rr 6 false) ∷ message Network 3 6 2
    ∷ response User (Rr 4 false) ∷ message User 6 4 3 ∷ response Network (Rr 8 false) ∷ []

-- They are learned from the answers to polls; then an I frame is sent again.
abbrev pub from_polls : List Sent
from_polls = command User (Rr 3 true) ∷ response Network (Rr 6 true) ∷ command Network (Rr 6 true)
    ∷ response User (Rr 3 true) ∷ message User 6 3 1 ∷ message User 6 3 1 ∷ []

-- An I frame alone shows nothing, nor does an N(R) that does not acknowledge it: so nothing is said
-- of the next ones.
abbrev pub from_doubts : List Sent
from_doubts = message User 5 3 1 ∷ message Network 3 5 2 ∷ message User 5 3 1
    ∷ response Network (Rr 9 false) ∷ response User (Rr 4 false) ∷ message User 8 4 3 ∷ []

-- The user asks by its last I frame with P=1, which the network may have received before.
abbrev pub from_enquiry : List Sent
from_enquiry = record (message User 5 3 1) { control = I 5 3 true } ∷ response Network (Rr 6 false)
    ∷ message Network 3 6 2 ∷ response User (Rr 4 false) ∷ response Network (Rr 6 true) ∷ []

-- the numbers are learned, and then the user disconnects
abbrev pub from_messages_to_release : List Sent
from_messages_to_release = message User 5 3 1 ∷ response Network (Rr 6 false)
    ∷ message Network 3 6 2 ∷ response User (Rr 4 false) ∷ command User (Disc true)
    ∷ response Network (Ua true) ∷ response Network (Dm false) ∷ []
