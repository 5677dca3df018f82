-- How the recorded history of a side represents its history in the world, and the space for more
-- records.
use Rattle.std.specs.Prelude.{◌≡◌, ◌+◌, ◌≤◌, ℕ, if◌then◌else◌, List, map, length}
use Rattle.std.specs.List.{range_with_len}
use Rattle.std.specs.Vec.{vec_len, vec_capacity}
use Rattle.lapd_pair_laws.specs.Histories as world
use Rattle.lapd_pair_laws.specs.Histories.{Receipt}
use Rattle.lapd_pair_laws.specs.Consistent.{is_one_of}
use Rattle.lapd_pair.specs.declared.log.Log.{Log}
use Rattle.lapd_pair.specs.declared.received.Received.{Received}
use Rattle.lapd_pair.specs.declared.fate.Fate.{Fate}
use Rattle.lapd_pair.specs.declared.fate.Ending.{Ending}
use Rattle.lapd_pair.specs.declared.fate.Ending.TheVariants.{Waiting, Acked, Dropped}

-- the ending of the message at this place, by the recorded acknowledgements and drops
abbrev pub ending_at : world.History → ℕ → Ending
ending_at h place = if is_one_of h.acked place then Acked
    else (if is_one_of h.dropped place then Dropped else Waiting)

-- its fate: this ending, and the establishment in which it was last sent
abbrev pub fate_at : world.History → ℕ → Fate
fate_at h place = record { sent_in = h.sent_in place; end = ending_at h place }

-- the fates of this many submitted messages
abbrev pub fates_of : ℕ → world.History → List Fate
fates_of given h = map (fate_at h) (range_with_len 0 given)

-- a message received, without its place
abbrev pub octets_and_establishment : Receipt → List ℕ × ℕ
octets_and_establishment message = (message.octets, message.establishment)

abbrev pub of_received : Received → List ℕ × ℕ
of_received message = (message.octets.items, message.establishment)

-- The recorded history represents the history h of a side that submitted these messages.
pub record IsHistory (preserved : Log) (messages : List (List ℕ)) (h : world.History) : Type 0 where
  pub given : map (λ message. message.items) preserved.given.items ≡ messages
  pub received : map of_received preserved.received.items ≡ map octets_and_establishment h.received
  pub units : map (λ unit. unit.items) preserved.units.items ≡ h.units
  pub fates : preserved.fates.items ≡ fates_of (length messages) h
  pub begun : preserved.begun.items ≡ h.begun
  pub acknowledged : preserved.acknowledged ≡ length h.acked
  pub dropped : preserved.dropped ≡ length h.dropped

-- Nothing was recorded: all items are equal, and only the capacity may differ.
pub record AreSame (old new : Log) : Type 0 where
  pub given : new.given.items ≡ old.given.items
  pub received : new.received.items ≡ old.received.items
  pub units : new.units.items ≡ old.units.items
  pub fates : new.fates.items ≡ old.fates.items
  pub begun : new.begun.items ≡ old.begun.items
  pub acknowledged : new.acknowledged ≡ old.acknowledged
  pub dropped : new.dropped ≡ old.dropped

-- All records except the fates are equal.
pub record AreSameButFates (old new : Log) : Type 0 where
  pub given : new.given.items ≡ old.given.items
  pub received : new.received.items ≡ old.received.items
  pub units : new.units.items ≡ old.units.items
  pub begun : new.begun.items ≡ old.begun.items
  pub acknowledged : new.acknowledged ≡ old.acknowledged
  pub dropped : new.dropped ≡ old.dropped

-- ---- Space that needs no further allocation.

-- space for this many submitted messages, received messages, received unit data and establishments
pub record Room : Type 0 where
  pub messages : ℕ
  pub receipts : ℕ
  pub unit_data : ℕ
  pub beginnings : ℕ

abbrev pub no_room : Room
no_room = record { messages = 0; receipts = 0; unit_data = 0; beginnings = 0 }

abbrev pub message_room : Room
message_room = record no_room { messages = 1 }

abbrev pub receipt_room : Room
receipt_room = record no_room { receipts = 1 }

abbrev pub unit_room : Room
unit_room = record no_room { unit_data = 1 }

abbrev pub beginning_room : Room
beginning_room = record no_room { beginnings = 1 }

-- what one frame may deliver: a message or unit data
abbrev pub data_room : Room
data_room = record { messages = 0; receipts = 1; unit_data = 1; beginnings = 0 }

-- the most that one step may need
abbrev pub step_room : Room
step_room = record { messages = 0; receipts = 1; unit_data = 1; beginnings = 1 }

-- the history has this much space
pub record HasHistoryRoom (room : Room) (h : Log) : Type 0 where
  pub given : vec_len h.given + room.messages ≤ vec_capacity h.given
  pub fates : vec_len h.fates + room.messages ≤ vec_capacity h.fates
  pub received : vec_len h.received + room.receipts ≤ vec_capacity h.received
  pub units : vec_len h.units + room.unit_data ≤ vec_capacity h.units
  pub begun : vec_len h.begun + room.beginnings ≤ vec_capacity h.begun

-- the history lost at most this much space
pub record TakesRoom (room : Room) (old new : Log) : Type 0 where
  pub given : vec_len new.given + vec_capacity old.given
      ≤ vec_len old.given + vec_capacity new.given + room.messages
  pub fates : vec_len new.fates + vec_capacity old.fates
      ≤ vec_len old.fates + vec_capacity new.fates + room.messages
  pub received : vec_len new.received + vec_capacity old.received
      ≤ vec_len old.received + vec_capacity new.received + room.receipts
  pub units : vec_len new.units + vec_capacity old.units
      ≤ vec_len old.units + vec_capacity new.units + room.unit_data
  pub begun : vec_len new.begun + vec_capacity old.begun
      ≤ vec_len old.begun + vec_capacity new.begun + room.beginnings
