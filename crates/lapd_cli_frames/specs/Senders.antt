-- Who sent a frame, by name or by its octets.
use Rattle.std.specs.Prelude.{ℕ, List, Option, Some, None}
use Rattle.lapd_frame.specs.declared.Side.{Side}
use Rattle.lapd_follow.specs.Senders.{sender_by_kind}

-- the named sender, or the one that the octets name
abbrev pub named_or_by_kind : Option Side → List ℕ → Option Side
named_or_by_kind None octets = sender_by_kind octets
named_or_by_kind (Some from) octets = Some from
