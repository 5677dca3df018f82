-- The statistics of everything that happened on a side, as counts over its history.
use Rattle.std.specs.Prelude.{◌≡◌, ℕ, ◌==◌, Bool, List, [], ◌∷◌, length, slice_index, sum, sum_by, count_by}
use Rattle.lapd_frame.specs.Address.{other_side}
use Rattle.lapd_frame.specs.declared.Side.{Side}
use Rattle.lapd_frame.specs.Reading.{frame_at}
use Rattle.lapd_link_definition.specs.declared.out.Letter.{Letter}
use Rattle.lapd_sides_links.specs.declared.primitive.Primitive.{Primitive}
use Rattle.lapd_sides_links.specs.declared.primitive.Primitive.TheVariants.{Of}
use Rattle.lapd_sides_links.specs.declared.primitive.What.TheVariants as what
use Rattle.lapd_cli_live_text.specs.declared.frame_kind.FrameKind.{FrameKind}
use Rattle.lapd_cli_live_text.specs.declared.stats.Stats.{Stats}
use Rattle.lapd_cli_live_text.specs.declared.traffic.Traffic.{Traffic}
use Rattle.lapd_cli_live_text.specs.FrameKinds.{kind_of, kind_place}
use Rattle.lapd_cli_live_text.specs.Stats.{letter_place, received_counted, sent_counted, primitive_counted, up_to_most}

-- ---- Histories.

-- the side sent a frame, received one from the other side, or reported a primitive
pub data StatsEvent : Type 0 where
  Sent : List ℕ → StatsEvent
  Received : List ℕ → StatsEvent
  Delivered : Primitive → StatsEvent

-- the statistics after an event on this side
abbrev pub event_counted : Side → Stats → StatsEvent → Stats
event_counted own stats (Sent octets) = sent_counted stats own octets
event_counted own stats (Received octets) = received_counted stats (other_side own) octets
event_counted own stats (Delivered primitive) = primitive_counted stats primitive

-- and after a history, from its first event on
abbrev pub stats_after : Side → List StatsEvent → Stats → Stats
stats_after own [] stats = stats
stats_after own (event ∷ events) stats = stats_after own events (event_counted own stats event)

abbrev pub sent_in : List StatsEvent → List (List ℕ)
sent_in [] = []
sent_in (Sent octets ∷ events) = octets ∷ sent_in events
sent_in (Received octets ∷ events) = sent_in events
sent_in (Delivered primitive ∷ events) = sent_in events

abbrev pub received_in : List StatsEvent → List (List ℕ)
received_in [] = []
received_in (Sent octets ∷ events) = received_in events
received_in (Received octets ∷ events) = octets ∷ received_in events
received_in (Delivered primitive ∷ events) = received_in events

-- the letter of a primitive that is a report
abbrev pub with_report : Primitive → List Letter → List Letter
with_report (Of id (what.Report letter)) letters = letter ∷ letters
with_report primitive letters = letters

abbrev pub reports_in : List StatsEvent → List Letter
reports_in [] = []
reports_in (Sent octets ∷ events) = reports_in events
reports_in (Received octets ∷ events) = reports_in events
reports_in (Delivered primitive ∷ events) = with_report primitive (reports_in events)

-- ---- The meaning of the counts.

-- octets of this sender are of this kind
abbrev pub is_of_kind : Side → FrameKind → List ℕ → Bool
is_of_kind from kind octets = kind_place (kind_of (frame_at from octets)) == kind_place kind

abbrev pub is_letter : Letter → Letter → Bool
is_letter letter other = letter_place other == letter_place letter

-- these frames of this sender were counted: how many of each kind, how many, and how many octets
pub record CountsFrames (from : Side) (frames : List (List ℕ)) (traffic : Traffic) : Type 0 where
  pub kinds : (kind : FrameKind) → slice_index traffic.frames (kind_place kind)
      ≡ up_to_most (count_by (is_of_kind from kind) frames)
  pub all : up_to_most (sum traffic.frames) ≡ up_to_most (length frames)
  pub octets : traffic.octets ≡ up_to_most (sum_by (λ octets. length octets) frames)

-- the events of this history were counted
pub record CountsEvents (own : Side) (events : List StatsEvent) (stats : Stats) : Type 0 where
  pub sent : CountsFrames own (sent_in events) stats.sent
  pub received : CountsFrames (other_side own) (received_in events) stats.received
  pub reports : (letter : Letter) → slice_index stats.reports (letter_place letter)
      ≡ up_to_most (count_by (is_letter letter) (reports_in events))
