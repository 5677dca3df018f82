-- Frames that request an answer or answer one: commands with P=1, and responses with F=1 (Q.921
-- 3.5.1).
use Rattle.std.specs.Prelude.{ℕ, ◌-◌, Bool, false, not, ◌&&◌, nat_lt, if◌then◌else◌, List, Result, Ok, Err}
use Rattle.std.specs.List.{position_or_len}
use Rattle.lapd_frame.specs.declared.Side.{Side}
use Rattle.lapd_frame.specs.declared.Role.{Role}
use Rattle.lapd_frame.specs.declared.Role.TheVariants.{Command, Answer}
use Rattle.lapd_frame.specs.declared.FrameFault.{FrameFault}
use Rattle.lapd_frame.specs.Control.{poll_final}
use Rattle.lapd_frame.specs.Frame.{Fields}
use Rattle.lapd_frame.specs.Reading.{is_command, frame_at}

-- both roles are equal
abbrev pub is_role : Role → Role → Bool
is_role Command role = is_command role
is_role Answer role = not (is_command role)

-- a frame of this role with its P or F bit set
abbrev pub is_marked : Role → Fields → Bool
is_marked role f = is_role role f.address.role && poll_final f.control

-- the octets read form such a frame
abbrev pub is_read_marked : Role → Result Fields FrameFault → Bool
is_read_marked role (Ok f) = is_marked role f
is_read_marked role (Err fault) = false

-- the index of the first such frame among the octets that the side `from` sent, or their number if
-- there is no such frame
abbrev pub place_of_marked : Role → Side → List (List ℕ) → ℕ
place_of_marked role from frames =
    position_or_len (λ octets. is_read_marked role (frame_at from octets)) frames

-- how many of the first `count` frames are left when the frame at this index is lost
abbrev pub left_of : ℕ → ℕ → ℕ
left_of place count = if nat_lt place count then count - 1 else count
