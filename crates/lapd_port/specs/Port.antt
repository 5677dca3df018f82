-- The result of a call of a port, and its effect on the source and sink.
use Rattle.std.specs.Prelude.{◌≡◌, ℕ, ◌≤◌, ◌<◌, ◌⊎◌, Bool, true, false, List, [], ◌++◌, length, take, Option, Some, Result, Ok, Err, IfSome, ⊤}
use Rattle.std.specs.Io.KnownBytes.{Appends, Consumes, IsAtEnd}
use Rattle.lapd_port.specs.declared.port_fault.PortFault.{PortFault}
use Rattle.lapd_port.specs.declared.port_fault.PortFault.TheVariants.{End, BadLength, Cut, Device, TooManyTurns, Failed}
use Rattle.lapd_port.specs.declared.device_error.DeviceError.TheVariants.{Failed as DeviceFailed}
use Rattle.lapd_port.specs.Device.{Turns, failures_after}
use Rattle.lapd_port.specs.SocketText.{frame_text, length_octets, next_frame, socket_text}

-- the next frame or fault of a source with known octets
abbrev pub Shows : Option (List ℕ) → Result (List ℕ) PortFault → Type 0
Shows rest answer = IfSome rest (λ octets. next_frame octets ≡ answer)

-- the octets that are consumed from a source are less than the text of a frame
abbrev pub TakesPart : Option (List ℕ) → Option (List ℕ) → Type 0
TakesPart old new = (part : List ℕ) × Consumes old new part
    × ((next_frame part ≡ Err End) ⊎ (next_frame part ≡ Err Cut))

-- A read that does not return S4 to S6 returns the next frame or fault of the source. It consumes
-- exactly the text of the frame; nothing at S1, a length at S2, all octets at S3, and less than a
-- frame's text at S4 and S5.
abbrev pub ReadsNext : Option (List ℕ) → Option (List ℕ) → Result ℕ PortFault → List ℕ → Type 0
ReadsNext old new (Ok count) buffer = Shows old (Ok (take count buffer))
    × Consumes old new (frame_text (take count buffer))
ReadsNext old new (Err End) buffer = Shows old (Err End) × Consumes old new []
ReadsNext old new (Err BadLength) buffer = Shows old (Err BadLength)
    × ((count : ℕ) × Consumes old new (length_octets count))
ReadsNext old new (Err Cut) buffer = Shows old (Err Cut) × IsAtEnd new
ReadsNext old new (Err Device) buffer = TakesPart old new
ReadsNext old new (Err TooManyTurns) buffer = TakesPart old new
ReadsNext old new (Err Failed) buffer = ⊤

-- a write appends the whole text, or, on a fault, a front of the text that is not the whole
abbrev pub WritesText : Option (List ℕ) → Option (List ℕ) → Result ⊤ PortFault → List ℕ → Type 0
WritesText old new (Ok done) text = Appends old new text
WritesText old new (Err fault) text = (front : List ℕ) × (missing : List ℕ)
    × (text ≡ front ++ missing) × (0 < length missing) × Appends old new front

-- S4 is returned exactly if a call of the source or sink failed: its count of failures rose, or was
-- at its greatest value
abbrev pub CountsAsDevice : {T : Type 0} → Result T PortFault → ℕ → ℕ → Type 0
CountsAsDevice (Ok answer) old new = new ≡ old
CountsAsDevice (Err End) old new = new ≡ old
CountsAsDevice (Err BadLength) old new = new ≡ old
CountsAsDevice (Err Cut) old new = new ≡ old
CountsAsDevice (Err Device) old new = new ≡ failures_after DeviceFailed old
CountsAsDevice (Err TooManyTurns) old new = new ≡ old
CountsAsDevice (Err Failed) old new = new ≡ old

-- a call of a port makes at most 4,096 calls of its source or sink, and returns S5 only if it made
-- all of them
abbrev pub MakesTurns : {D T : Type 0} → (D → D → Type 0) → Result T PortFault → D → D → Type 0
MakesTurns turn result old new =
    (count : ℕ) × Turns turn count old new × (count ≤ 4096)
    × (result ≡ Err TooManyTurns → count ≡ 4096)

-- the port has failed after this result: S2 to S5, and S6 if it had failed before
abbrev pub is_failure : {T : Type 0} → Result T PortFault → Bool
is_failure (Ok answer) = false
is_failure (Err End) = false
is_failure (Err BadLength) = true
is_failure (Err Cut) = true
is_failure (Err Device) = true
is_failure (Err TooManyTurns) = true
is_failure (Err Failed) = true

-- S4 to S6, which say nothing about the input
abbrev pub IsApartFromInput : PortFault → Type 0
IsApartFromInput End = ⊥
IsApartFromInput BadLength = ⊥
IsApartFromInput Cut = ⊥
IsApartFromInput Device = ⊤
IsApartFromInput TooManyTurns = ⊤
IsApartFromInput Failed = ⊤

-- ---- Lists of frames.

-- If a frame and then others are next in a source, a read returns that frame and leaves the text of
-- the others, or it returns S4 to S6.
abbrev pub ReadsFirst : List ℕ → List (List ℕ) → Option (List ℕ) → Result ℕ PortFault → List ℕ
    → Type 0
ReadsFirst frame frames left (Ok count) buffer = (take count buffer ≡ frame)
    × (left ≡ Some (socket_text frames))
ReadsFirst frame frames left (Err fault) buffer = IsApartFromInput fault
