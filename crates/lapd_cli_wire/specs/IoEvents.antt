-- The calls of a side to its line and its clock.
use Rattle.std.specs.Prelude.{◌≡◌, ℕ, nat_le, Bool, false, List, [], ◌∷◌, ◌++◌, map, take, Option, None, Some, ⊤}
use Rattle.lapd_cli_wire.specs.declared.outside.Woken.{Woken}

-- The side reads the clock. It receives a frame that had arrived, or finds that none had. It waits,
-- until a moment or without limit, and something ends the wait. It sends a frame.
pub data IoEvent : Type 0 where
  Reads : (now : ℕ) → IoEvent
  Arrives : (frame : List ℕ) → IoEvent
  FindsNone : IoEvent
  Waits : (until : Option ℕ) → (woken : Woken) → IoEvent
  Sends : (frame : List ℕ) → IoEvent

-- If the calls are recorded, exactly these are added. If they are not, they are not afterwards
-- either.
abbrev pub Adds : Option (List IoEvent) → Option (List IoEvent) → List IoEvent → Type 0
Adds None None io_events = ⊤
Adds None (Some after) io_events = ⊥
Adds (Some before) None io_events = ⊥
Adds (Some before) (Some after) io_events = after ≡ before ++ io_events

-- there is such a moment, and it is reached
abbrev pub is_reached : Option ℕ → ℕ → Bool
is_reached None now = false
is_reached (Some moment) now = nat_le moment now

-- the frame that a call received is at the beginning of the buffer; or none had arrived
abbrev pub received : List ℕ → Option ℕ → List IoEvent
received room None = FindsNone ∷ []
received room (Some count) = Arrives (take count room) ∷ []

-- these frames are sent, in order
abbrev pub all_sent : List (List ℕ) → List IoEvent
all_sent frames = map Sends frames

-- this many of the frames are sent, from the first on, and nothing else is done
abbrev pub SendsFront : List (List ℕ) → Option (List IoEvent) → Option (List IoEvent) → Type 0
SendsFront frames before after = (count : ℕ) × Adds before after (all_sent (take count frames))
