-- Safety: how the messages a side received relate to those submitted, sent and acknowledged at the
-- other side. It mentions no state, timer, counter or frame.
use Rattle.std.specs.Prelude.{◌≡◌, ◌⊎◌, ℕ, ◌+◌, ◌<◌, ◌≤◌, List, [], ◌∷◌, map, slice_get, Option, Some}
use Rattle.lapd_pair_laws.specs.Histories.{Receipt}
use Rattle.lapd_pair_laws.specs.Move.{Station}
use Rattle.lapd_pair_laws.specs.World.{World}

-- the places rise strictly, from at least `low` on
abbrev pub RiseFrom : ℕ → List ℕ → Type 0
RiseFrom low [] = Unit {0}
RiseFrom low (place ∷ places) = (low ≤ place) × RiseFrom (place + 1) places

-- the place is one of these
abbrev pub IsAmong : ℕ → List ℕ → Type 0
IsAmong place [] = ⊥
IsAmong place (first ∷ rest) = (first ≡ place) ⊎ IsAmong place rest

-- If a message was received in the same establishment as the one before it, its place is the next
-- one. The one before it was at place `before`, in `establishment`.
abbrev pub AreNeighboursAfter : ℕ → ℕ → List ℕ → List Receipt → Type 0
AreNeighboursAfter before establishment [] received = Unit {0}
AreNeighboursAfter before establishment (place ∷ places) [] = Unit {0}
AreNeighboursAfter before establishment (place ∷ places) (message ∷ received) =
    (message.establishment ≡ establishment → place ≡ before + 1)
    × AreNeighboursAfter place message.establishment places received

-- the first message has no predecessor
abbrev pub AreNeighbours : List ℕ → List Receipt → Type 0
AreNeighbours [] received = Unit {0}
AreNeighbours (place ∷ places) [] = Unit {0}
AreNeighbours (place ∷ places) (message ∷ received) =
    AreNeighboursAfter place message.establishment places received

-- Of a sender: the messages submitted to it, in which establishment each was last sent, and the
-- places that it counts as acknowledged. Of the receiver: the messages it received. There is one
-- list of places among the messages submitted, such that:
--   rising        it rises strictly: in order, and once each;
--   same          the messages received are, one by one, those submitted at these places;
--   neighbours    if two successive messages were received in the same establishment of the
--                 receiver, their places are successive too;
--   prefix        with a place, the list has each smaller one that was last sent in the same
--                 establishment of the sender;
--   acknowledged  each acknowledged place is in the list.
pub record IsSafe (given : List (List ℕ)) (sent_in : ℕ → Option ℕ) (acked : List ℕ)
    (received : List Receipt) : Type 0 where
  pub places : List ℕ
  pub rising : RiseFrom 0 places
  pub same : map (λ place. slice_get given place) places
      ≡ map (λ message. Some message.octets) received
  pub neighbours : AreNeighbours places received
  pub prefix : (place smaller : ℕ) → IsAmong place places → smaller < place
      → sent_in smaller ≡ sent_in place → IsAmong smaller places
  pub acknowledged : (place : ℕ) → IsAmong place acked → IsAmong place places

-- what the receiver received is safe with respect to the sender
abbrev pub IsSafeFrom : Station → Station → Type 0
IsSafeFrom sender receiver = IsSafe sender.end.given sender.history.sent_in sender.history.acked
    receiver.history.received

-- both directions
abbrev pub AreSafe : World → Type 0
AreSafe w = IsSafeFrom w.user w.network × IsSafeFrom w.network w.user
