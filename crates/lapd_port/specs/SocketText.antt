-- The socket text of frames, and the next frame of an input.
use Rattle.std.specs.Prelude.{ℕ, ◌+◌, ◌*◌, ◌/◌, ◌%◌, ◌≤◌, ◌&&◌, nat_le, nat_lt, Bool, not, List, [], ◌∷◌, ◌++◌, length, take, if◌then◌else◌, Result, Ok, Err}
use Rattle.lapd_port.specs.declared.port_fault.PortFault.{PortFault}
use Rattle.lapd_port.specs.declared.port_fault.PortFault.TheVariants.{End, BadLength, Cut}

-- a frame has 3 to 264 octets
abbrev pub IsFrameLength : ℕ → Type 0
IsFrameLength n = (3 ≤ n) × (n ≤ 264)

abbrev pub is_frame_length : ℕ → Bool
is_frame_length n = nat_le 3 n && nat_le n 264

-- a length in two octets, high first
abbrev pub length_octets : ℕ → List ℕ
length_octets n = (n / 256) ∷ (n % 256) ∷ []

-- the text of a frame: its length, followed by its octets
abbrev pub frame_text : List ℕ → List ℕ
frame_text frame = length_octets (length frame) ++ frame

-- the text of a list of frames, in order
abbrev pub socket_text : List (List ℕ) → List ℕ
socket_text [] = []
socket_text (frame ∷ frames) = frame_text frame ++ socket_text frames

-- ---- The next frame of an input.

-- the frame of this length at the front of the octets, or the fault
abbrev pub frame_of_length : ℕ → List ℕ → Result (List ℕ) PortFault
frame_of_length n octets =
    if not (is_frame_length n) then Err BadLength else if nat_lt (length octets) n then Err Cut
    else Ok (take n octets)

-- the next frame of an input, or the fault
abbrev pub next_frame : List ℕ → Result (List ℕ) PortFault
next_frame [] = Err End
next_frame (high ∷ []) = Err Cut
next_frame (high ∷ low ∷ octets) = frame_of_length (high * 256 + low) octets
