-- In which establishment each message of a link was received, and in which it was last sent. Both
-- are read from the link's end in the definition of a side, after each event.
--
-- The primitives and frames of a side do not show them. No primitive carries the number of an
-- establishment, and an establishment may begin without a primitive. No primitive reports that a
-- message is sent, and an I frame carries N(S), but not the position of its message.
use Rattle.std.specs.Prelude.{◌≡◌, ℕ, ◌+◌, ◌<◌, nat_le, nat_lt, ◌&&◌, if◌then◌else◌, Bool, false, List, [], ◌∷◌, ◌++◌, length, Option, Some, None}
use Rattle.lapd_frame.specs.declared.Side.{Side}
use Rattle.lapd_frame.specs.declared.Side.TheVariants as side
use Rattle.lapd_link_definition.specs.EndOfStep.{is_7_or_8}
use Rattle.lapd_link_definition.specs.End.{End}
use Rattle.lapd_pair_laws.specs.Safe.{IsAmong}
use Rattle.lapd_table.specs.declared.link_id.LinkId.{LinkId}
use Rattle.lapd_sides_links.specs.declared.primitive.What.{What}
use Rattle.lapd_sides_links.specs.declared.primitive.What.TheVariants as what
use Rattle.lapd_sides_links.specs.Links.{Linked}
use Rattle.lapd_two_side_laws.specs.Primitives.{link_primitives, IsReceived}
use Rattle.lapd_side_events.specs.SideView.{Behaviour, SideEvent, SideView, reaction}
use Rattle.lapd_side_events.specs.Interface.{Configs, Interface, Move, user_behaviour, network_behaviour, by_user, by_network, happens}

-- ---- One link of one side.

-- `received_in`: for each message received, in order, the number of this side's establishment.
-- `sent_in`: for each message submitted at this side, by its position, the establishment in which
-- it was last sent; `None` if it never was.
pub record LinkRecord : Type 0 where
  pub received_in : List ℕ
  pub sent_in : ℕ → Option ℕ

abbrev pub nothing_recorded : LinkRecord
nothing_recorded = record { received_in = []; sent_in = λ place. None }

-- how many establishments the link has had; 0 if it does not exist
abbrev pub establishments_of : Option Linked → ℕ
establishments_of None = 0
establishments_of (Some l) = l.end.establishments

-- this number for each message among the primitives
abbrev pub number_each : ℕ → List What → List ℕ
number_each n [] = []
number_each n (what.Up octets ∷ ws) = n ∷ number_each n ws
number_each n (w ∷ ws) = number_each n ws

-- The message at this position is sent, and neither acknowledged nor dropped. After an event this
-- holds of each message that was sent in the event, so the record misses none (`ShowsRecord`).
abbrev pub is_outstanding : End → ℕ → Bool
is_outstanding e place = is_7_or_8 e.state && (nat_le e.first place && nat_lt place e.next)

abbrev pub is_sent : Option Linked → ℕ → Bool
is_sent None place = false
is_sent (Some l) place = is_outstanding l.end place

-- what is recorded after an event
abbrev pub recorded : {S : Type 0} → Behaviour S → LinkId → SideEvent → SideView S → LinkRecord
    → LinkRecord
recorded w id event v r = record {
  received_in = r.received_in
      ++ number_each (establishments_of ((w.served (reaction w event v).after).links id))
      (link_primitives id (reaction w event v).effects.primitives);
  sent_in = λ place. if is_sent ((w.served (reaction w event v).after).links id) place
      then Some (establishments_of ((w.served (reaction w event v).after).links id))
      else r.sent_in place;
}

-- ---- Both sides, over a list of moves.

pub record LinkRecords : Type 0 where
  pub user : LinkRecord
  pub network : LinkRecord

abbrev pub side_recorded : Configs → LinkId → Side → SideEvent → Interface → LinkRecords
    → LinkRecords
side_recorded c id side.User event i r =
    record r { user = recorded (user_behaviour c.user) id event (by_user i) r.user }
side_recorded c id side.Network event i r =
    record r { network = recorded (network_behaviour c.network) id event (by_network i) r.network }

abbrev pub run_recorded : Configs → LinkId → List Move → Interface → LinkRecords → LinkRecords
run_recorded c id [] i r = r
run_recorded c id (move ∷ moves) i r = run_recorded c id moves (happens c move i)
    (side_recorded c id move.side move.event i r)

-- recorded from the first of these moves on
abbrev pub records_of : Configs → LinkId → List Move → Interface → LinkRecords
records_of c id moves i = run_recorded c id moves i
    (record { user = nothing_recorded; network = nothing_recorded })

-- ---- Within one establishment no message is skipped.

-- If a message was received in the same establishment as the one before it, its position is the
-- next one. The one before it was at position `before`, in `establishment`.
abbrev pub AreNeighboursAfter : ℕ → ℕ → List ℕ → List ℕ → Type 0
AreNeighboursAfter before establishment [] numbers = Unit {0}
AreNeighboursAfter before establishment (place ∷ places) [] = Unit {0}
AreNeighboursAfter before establishment (place ∷ places) (number ∷ numbers) =
    (number ≡ establishment → place ≡ before + 1)
    × AreNeighboursAfter place number places numbers

-- the first message has no predecessor
abbrev pub AreNeighbours : List ℕ → List ℕ → Type 0
AreNeighbours [] numbers = Unit {0}
AreNeighbours (place ∷ places) [] = Unit {0}
AreNeighbours (place ∷ places) (number ∷ numbers) =
    AreNeighboursAfter place number places numbers

-- The messages received are right (`IsReceived`), and within one establishment none is skipped:
--   numbered    each message received has the number of its receiver's establishment;
--   neighbours  if two successive messages were received in the same establishment of the receiver,
--               they were submitted one right after the other;
--   prefix      with a message, each earlier one that was last sent in the same establishment of
--               the sender was received.
pub record IsReceivedUnskipped (given : List (List ℕ)) (sent_in : ℕ → Option ℕ) (acked : List ℕ)
    (received : List (List ℕ)) (numbers : List ℕ) : Type 0 where
  pub right : IsReceived given acked received
  pub numbered : length numbers ≡ length received
  pub neighbours : AreNeighbours right.places numbers
  pub prefix : (place smaller : ℕ) → IsAmong place right.places → smaller < place
      → sent_in smaller ≡ sent_in place → IsAmong smaller right.places
