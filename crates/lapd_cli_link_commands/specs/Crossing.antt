-- Frames that are sent through a port and received from it again.
use Rattle.std.specs.Prelude.{ℕ, List, Option}
use Rattle.std.specs.Io.KnownBytes.{Appends, Consumes}
use Rattle.lapd_port.specs.SocketText.{socket_text}

-- the source delivered these frames and the sink accepted them, as far as the octets of either are
-- known
abbrev pub HaveCrossed : Option (List ℕ) → Option (List ℕ) → Option (List ℕ) → Option (List ℕ)
    → List (List ℕ) → Type 0
HaveCrossed rest left written grown frames = Consumes rest left (socket_text frames)
    × Appends written grown (socket_text frames)
