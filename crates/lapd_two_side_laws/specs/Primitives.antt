-- Layer 3's knowledge of a link, from its primitives and its own messages, and when this is right.
-- These definitions mention no end, frame or line.
use Rattle.std.specs.Prelude.{◌≡◌, ℕ, ◌+◌, if◌then◌else◌, List, [], ◌∷◌, ◌++◌, map, slice_get, Option, Some, None}
use Rattle.std.specs.List.{filter_map, range_with_len}
use Rattle.lapd_link_definition.specs.Reports.{IsExpected}
use Rattle.lapd_pair_laws.specs.Safe.{RiseFrom, IsAmong}
use Rattle.lapd_table.specs.declared.link_id.LinkId.{LinkId}
use Rattle.lapd_table.specs.LinkId.{id_eq}
use Rattle.lapd_sides_links.specs.declared.primitive.Primitive.{Primitive}
use Rattle.lapd_sides_links.specs.declared.primitive.Primitive.TheVariants.{Of, Management}
use Rattle.lapd_sides_links.specs.declared.primitive.What.{What}
use Rattle.lapd_sides_links.specs.declared.primitive.What.TheVariants as what

-- ---- The primitives and messages of one link.

abbrev pub what_for : LinkId → Primitive → Option What
what_for id (Of other w) = if id_eq id other then Some w else None
what_for id (Management outcome) = None

abbrev pub link_primitives : LinkId → List Primitive → List What
link_primitives id primitives = filter_map (what_for id) primitives

-- accepted messages, each paired with its link
abbrev pub message_for : LinkId → LinkId × List ℕ → Option (List ℕ)
message_for id (other, message) = if id_eq id other then Some message else None

abbrev pub given_to : LinkId → List (LinkId × List ℕ) → List (List ℕ)
given_to id given = filter_map (message_for id) given

-- ---- The knowledge of layer 3.

-- The messages and the unit data received; the positions of layer 3's own messages, counted from 0,
-- that were acknowledged or dropped; and the count of these. A primitive always reports the next
-- ones.
pub record Known : Type 0 where
  pub received : List (List ℕ)
  pub units : List (List ℕ)
  pub acked : List ℕ
  pub dropped : List ℕ
  pub passed : ℕ

abbrev pub nothing_known : Known
nothing_known = record { received = []; units = []; acked = []; dropped = []; passed = 0 }

abbrev pub learns : What → Known → Known
learns (what.Up octets) k = record k { received = k.received ++ octets ∷ [] }
learns (what.UnitUp octets) k = record k { units = k.units ++ octets ∷ [] }
learns (what.Acknowledged n) k = record k {
  acked = k.acked ++ range_with_len k.passed n;
  passed = k.passed + n;
}
learns (what.Dropped n) k = record k {
  dropped = k.dropped ++ range_with_len k.passed n;
  passed = k.passed + n;
}
learns other k = k

abbrev pub learns_all : List What → Known → Known
learns_all [] k = k
learns_all (w ∷ ws) k = learns_all ws (learns w k)

abbrev pub known_of : LinkId → List Primitive → Known
known_of id delivered = learns_all (link_primitives id delivered) nothing_known

-- ---- That it is right.

-- For the sender: the messages submitted, and the positions of those that count as acknowledged.
-- For the receiver: the messages received. A list of positions among the messages submitted exists:
--   rising        it rises strictly: in order, and once each;
--   same          the messages received are, one by one, the messages at these positions;
--   acknowledged  each acknowledged position is in the list.
pub record IsReceived (given : List (List ℕ)) (acked : List ℕ) (received : List (List ℕ)) :
    Type 0 where
  pub places : List ℕ
  pub rising : RiseFrom 0 places
  pub same : map (λ place. slice_get given place) places ≡ map (λ message. Some message) received
  pub acknowledged : (place : ℕ) → IsAmong place acked → IsAmong place places

-- no error but F, G, H and I is reported (Q.921 Appendix II)
abbrev pub IsExpectedOfLink : What → Type 0
IsExpectedOfLink (what.Report letter) = IsExpected letter
IsExpectedOfLink other = Unit {0}

abbrev pub AreExpectedOfLink : List What → Type 0
AreExpectedOfLink [] = Unit {0}
AreExpectedOfLink (w ∷ ws) = IsExpectedOfLink w × AreExpectedOfLink ws
