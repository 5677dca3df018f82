-- Which octets on the line belong to a link, and which of them poll or answer a poll.
use Rattle.std.specs.Prelude.{ℕ, Bool, false, not, ◌&&◌, List, map, Result, Ok, Err}
use Rattle.std.specs.List.{filter}
use Rattle.lapd_frame.specs.declared.Side.{Side}
use Rattle.lapd_frame.specs.declared.fault_kind.FaultKind.{FaultKind}
use Rattle.lapd_frame.specs.declared.frame_fault.FrameFault.{FrameFault}
use Rattle.lapd_frame.specs.Control.{poll_final}
use Rattle.lapd_frame.specs.Frame.{Fields, spelling}
use Rattle.lapd_frame.specs.Reading.{frame_at, is_command}
use Rattle.lapd_link_definition.specs.Input.{Input}
use Rattle.lapd_pair_laws.specs.Line.{Flight}
use Rattle.lapd_table.specs.declared.link_id.LinkId.{LinkId}
use Rattle.lapd_table.specs.LinkId.{id_eq}
use Rattle.lapd_table.specs.Octets.{addressed}

-- the octets were read as a frame, and its address names this link
abbrev pub is_named : LinkId → Result (LinkId × Input) FaultKind → Bool
is_named id (Ok (other, input)) = id_eq id other
is_named id (Err kind) = false

-- octets that this side sent belong to the link
abbrev pub is_for : Side → LinkId → List ℕ → Bool
is_for from id octets = is_named id (addressed from octets)

abbrev pub those_for : Side → LinkId → List (List ℕ) → List (List ℕ)
those_for from id line = filter (is_for from id) line

-- ---- Commands with P=1 and responses with F=1.

abbrev pub reads_as_poll : Result Fields FrameFault → Bool
reads_as_poll (Ok f) = is_command f.address.role && poll_final f.control
reads_as_poll (Err fault) = false

abbrev pub reads_as_final : Result Fields FrameFault → Bool
reads_as_final (Ok f) = not (is_command f.address.role) && poll_final f.control
reads_as_final (Err fault) = false

-- of the link, sent by this side
abbrev pub is_poll_for : Side → LinkId → List ℕ → Bool
is_poll_for from id octets = is_for from id octets && reads_as_poll (frame_at from octets)

abbrev pub is_final_for : Side → LinkId → List ℕ → Bool
is_final_for from id octets = is_for from id octets && reads_as_final (frame_at from octets)

-- ---- The octets of a frame of the link.

abbrev pub parts_of : LinkId → Flight → Fields
parts_of id frame = record {
  address = record { sapi = id.sapi; tei = id.tei; role = frame.role };
  control = frame.control;
  info = frame.info;
}

abbrev pub spelled : Side → LinkId → Flight → List ℕ
spelled from id frame = spelling from (parts_of id frame)

abbrev pub all_spelled : Side → LinkId → List Flight → List (List ℕ)
all_spelled from id frames = map (spelled from id) frames
