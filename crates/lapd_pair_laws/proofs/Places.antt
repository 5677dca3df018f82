-- Safety, shown by the places that are recorded with the messages received.
use Rattle.std.proofs.Common.{◌≡◌, ℕ, ◌+◌, ◌<◌, ◌≤◌, List, [], ◌∷◌, map, slice_get, Option, Some, refl}
use Rattle.lapd_pair_laws.specs.Histories.{Receipt}
use Rattle.lapd_pair_laws.specs.Safe.{RiseFrom, IsAmong, AreNeighboursAfter, AreNeighbours, IsSafe}

abbrev pub places_of : List Receipt → List ℕ
places_of received = map (λ message. message.place) received

-- each message is the one submitted at its place
abbrev pub AreGiven : List (List ℕ) → List Receipt → Type 0
AreGiven given [] = Unit {0}
AreGiven given (message ∷ received) =
    (slice_get given message.place ≡ Some message.octets) × AreGiven given received

-- the places rise strictly from `next` on; a message received in `establishment`, as was the one
-- before it, is at `next`
abbrev pub IsRow : ℕ → ℕ → List Receipt → Type 0
IsRow next establishment [] = Unit {0}
IsRow next establishment (message ∷ received) =
    (next ≤ message.place) × (message.establishment ≡ establishment → message.place ≡ next)
    × IsRow (message.place + 1) message.establishment received

rising_row : (next establishment : ℕ) (received : List Receipt) → IsRow next establishment received
    → RiseFrom next (places_of received)
rising_row next establishment [] row = tt
rising_row next establishment (message ∷ received) row =
    (row.0, rising_row (message.place + 1) message.establishment received row.2)

neighbours_after : (before establishment : ℕ) (received : List Receipt)
    → IsRow (before + 1) establishment received
    → AreNeighboursAfter before establishment (places_of received) received
neighbours_after before establishment [] row = tt
neighbours_after before establishment (message ∷ received) row =
    (row.1, neighbours_after message.place message.establishment received row.2)

neighbours_row : (establishment : ℕ) (received : List Receipt) → IsRow 0 establishment received
    → AreNeighbours (places_of received) received
neighbours_row establishment [] row = tt
neighbours_row establishment (message ∷ received) row =
    neighbours_after message.place message.establishment received row.2

same_given : (given : List (List ℕ)) (received : List Receipt) → AreGiven given received
    → map (λ place. slice_get given place) (places_of received)
    ≡ map (λ message. Some message.octets) received
same_given given [] are = refl
same_given given (message ∷ received) are = rw (are.0, same_given given received are.1) refl

pub safe_by_places : (given : List (List ℕ)) (sent_in : ℕ → Option ℕ) (acked : List ℕ)
    (received : List Receipt)
    → AreGiven given received
    → IsRow 0 0 received
    → ((place smaller : ℕ) → IsAmong place (places_of received) → smaller < place
    → sent_in smaller ≡ sent_in place → IsAmong smaller (places_of received))
    → ((place : ℕ) → IsAmong place acked → IsAmong place (places_of received))
    → IsSafe given sent_in acked received
safe_by_places given sent_in acked received are row prefix acknowledged = record {
  places = places_of received;
  rising = rising_row 0 0 received row;
  same = same_given given received are;
  neighbours = neighbours_row 0 received row;
  prefix = prefix;
  acknowledged = acknowledged;
}
