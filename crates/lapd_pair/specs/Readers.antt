-- The results of the reading functions of a pair, and that they are safe. These statements name no
-- world, link or frame.
use Rattle.std.specs.Prelude.{◌≡◌, ℕ, ◌+◌, ◌<◌, List, length, map, slice_get, option_map, Option, Some, Vec}
use Rattle.std.specs.declared.alloc.Global.{Global}
use Rattle.lapd_frame.specs.Address.{other_side}
use Rattle.lapd_frame.specs.declared.Side.{Side}
use Rattle.lapd_frame.specs.declared.Side.TheVariants.{User, Network}
use Rattle.lapd_pair_laws.specs.Safe.{RiseFrom, IsAmong}
use Rattle.lapd_pair.specs.Establishments.{establishment_at, begun_at}
use Rattle.lapd_pair.specs.declared.fate.Ending.{Ending}
use Rattle.lapd_pair.specs.declared.fate.Ending.TheVariants.{Acked}
use Rattle.lapd_pair.specs.declared.fate.Fate.{Fate}
use Rattle.lapd_pair.specs.declared.log.Log.{Log}
use Rattle.lapd_pair.specs.declared.pair.Pair.{Pair}
use Rattle.lapd_pair.specs.declared.received.Received.{Received}

-- ---- The results of Pair::given, fates, received and begun for a side.

abbrev pub history_of : Side → Pair → Log
history_of User p = p.user.history
history_of Network p = p.network.history

abbrev pub given_by : Side → Pair → List (Vec ℕ Global)
given_by side p = (history_of side p).given.items

abbrev pub fates_by : Side → Pair → List Fate
fates_by side p = (history_of side p).fates.items

abbrev pub received_by : Side → Pair → List Received
received_by side p = (history_of side p).received.items

abbrev pub begun_by : Side → Pair → List ℕ
begun_by side p = (history_of side p).begun.items

-- ---- The content of these results for the message at an index, from 0.

abbrev pub octets_at : List (Vec ℕ Global) → ℕ → Option (List ℕ)
octets_at given place = option_map (λ message. message.items) (slice_get given place)

abbrev pub sent_in_at : List Fate → ℕ → Option (Option ℕ)
sent_in_at fates place = option_map (λ fate. fate.sent_in) (slice_get fates place)

abbrev pub end_at : List Fate → ℕ → Option Ending
end_at fates place = option_map (λ fate. fate.end) (slice_get fates place)

-- ---- Safe.

-- The lists are: the messages that the sender submitted, and their fates; the messages that the
-- receiver received; and for each establishment of the receiver, how many messages it had received
-- before it began. Each message received has an index among those submitted, such that:
--   octet_for_octet            its octets are those of the message submitted at its index;
--   in_order_once_each         the indices rise strictly;
--   nothing_between            of two consecutive messages in one establishment of the receiver,
--                              the second has the next index;
--   nothing_skipped            with each, all messages at smaller indices that were last sent in
--                              the same establishment of the sender were received;
--   acknowledged_was_received  each message acknowledged was received;
--   fate_of_each               each message submitted has a fate;
--   numbered                   each message received has the number of the establishment that was
--                              then the latest.
pub record IsSafeReading (given : List (Vec ℕ Global)) (fates : List Fate)
    (received : List Received) (begun : List ℕ) : Type 0 where
  pub places : List ℕ
  pub octet_for_octet : map (octets_at given) places
      ≡ map (λ message. Some message.octets.items) received
  pub in_order_once_each : RiseFrom 0 places
  pub nothing_between : (n : ℕ) → establishment_at received (n + 1) ≡ establishment_at received n
      → slice_get places (n + 1) ≡ option_map (λ place. place + 1) (slice_get places n)
  pub nothing_skipped : (place smaller : ℕ) → IsAmong place places → smaller < place
      → sent_in_at fates smaller ≡ sent_in_at fates place → IsAmong smaller places
  pub acknowledged_was_received : (place : ℕ) → end_at fates place ≡ Some Acked
      → IsAmong place places
  pub fate_of_each : length fates ≡ length given
  pub numbered : (n : ℕ) → n < length received → establishment_at received n
      ≡ Some (begun_at begun n)

-- the receiver's messages are safe with respect to those that the sender submitted
abbrev pub IsSafelyReadFrom : Side → Side → Pair → Type 0
IsSafelyReadFrom sender receiver p =
    IsSafeReading (given_by sender p) (fates_by sender p) (received_by receiver p)
    (begun_by receiver p)

-- safe in both directions
abbrev pub AreSafeReadings : Pair → Type 0
AreSafeReadings p = (sender : Side) → ∥ IsSafelyReadFrom sender (other_side sender) p ∥₁
