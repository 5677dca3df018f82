-- A line that loses and delays the frames of one side on purpose.
use Rattle.std.specs.Prelude.{◌≡◌, ◌⊎◌, ◌&&◌, ℕ, ◌<◌, ◌≤◌, ◌+◌, ◌%◌, nat_eq, nat_lt, max, min, List, [], ◌∷◌, ◌++◌, length, map, flat_map, Bool, true, false, Option, None, Some, ⊤}
use Rattle.lapd_timers.specs.Moments.{earlier}
use Rattle.std.specs.List.{All}
use Rattle.rand_pcg.specs.Lcg.{Lcg}
use Rattle.rand_pcg.specs.Pcg.{pcg32}
use Rattle.lapd_cli_wire.specs.declared.delays.DelayedFrame.{DelayedFrame}
use Rattle.lapd_cli_wire.specs.declared.delays.Delays.{Delays}
use Rattle.lapd_cli_wire.specs.declared.outside.Sending.{Sending}
use Rattle.lapd_cli_wire.specs.declared.outside.Sending.TheVariants.{Sent, Lost}
use Rattle.lapd_cli_wire.specs.declared.outside.Woken.{Woken}
use Rattle.lapd_cli_wire.specs.declared.outside.Woken.TheVariants.{Due}
use Rattle.lapd_cli_wire.specs.IoEvents.{Adds, IoEvent, Reads, Sends, Waits, is_reached, received}

-- some calls are made for which this holds
abbrev pub AddsSome : Option (List IoEvent) → Option (List IoEvent) → (List IoEvent → Type 0)
    → Type 0
AddsSome before after P = (io_events : List IoEvent) × Adds before after io_events × P io_events

-- ---- Which frames are lost.

abbrev pub word_of : ℕ × Lcg → ℕ
word_of (word, random) = word

abbrev pub rest_of : ℕ × Lcg → Lcg
rest_of (word, random) = random

-- a frame is lost with this chance, in per cent, as the next word of the generator decides
abbrev pub is_lost : ℕ → Lcg → Bool
is_lost loss random = nat_lt (word_of (pcg32 random) % 100) loss

pub record IsDrawn (lost : Bool) (old new : Delays) : Type 0 where
  pub is : lost ≡ is_lost old.impairment.loss old.random
  pub drawn : new ≡ record old { random = rest_of (pcg32 old.random) }

-- ---- Delayed frames, and their moments.

abbrev pub octets_of : DelayedFrame → List ℕ
octets_of frame = frame.octets.items

abbrev pub sent_of : DelayedFrame → IoEvent
sent_of frame = Sends (octets_of frame)

-- the first frame is sent later than this moment, if there is one
abbrev pub FirstIsLater : ℕ → List DelayedFrame → Type 0
FirstIsLater now [] = ⊤
FirstIsLater now (frame ∷ frames) = now < frame.moment

abbrev pub first_moment : List DelayedFrame → Option ℕ
first_moment [] = None
first_moment (frame ∷ frames) = Some frame.moment

-- a frame that is passed in now is sent after the delay, and not before the last delayed frame;
-- moments end at 2^64 - 1
abbrev pub moment_of_next : ℕ → Delays → ℕ
moment_of_next now line = max (min (now + line.impairment.delay) 18446744073709551615) line.latest

-- a frame is added after the others
pub record IsPutOff (now : ℕ) (octets : List ℕ) (old new : Delays) : Type 0 where
  pub frame : DelayedFrame
  pub octets_are : octets_of frame ≡ octets
  pub moment : frame.moment ≡ moment_of_next now old
  pub behind : new.delayed.items ≡ old.delayed.items ++ frame ∷ []
  pub latest : new.latest ≡ moment_of_next now old
  pub impairment : new.impairment ≡ old.impairment
  pub random : new.random ≡ old.random

-- the first frame is removed
pub record IsTakenOff (frame : DelayedFrame) (old new : Delays) : Type 0 where
  pub front : old.delayed.items ≡ frame ∷ new.delayed.items
  pub latest : new.latest ≡ old.latest
  pub impairment : new.impairment ≡ old.impairment
  pub random : new.random ≡ old.random

-- ---- Sending and waiting.

-- The clock is read, and the frames that are due then are sent, in order. The others stay.
pub record SendsDue (old new : Delays) (io_events : List IoEvent) : Type 0 where
  pub now : ℕ
  pub gone : List DelayedFrame
  pub parts : old.delayed.items ≡ gone ++ new.delayed.items
  pub due : All (λ frame. frame.moment ≤ now) gone
  pub later : FirstIsLater now new.delayed.items
  pub sent : io_events ≡ Reads now ∷ map sent_of gone
  pub latest : new.latest ≡ old.latest
  pub impairment : new.impairment ≡ old.impairment
  pub random : new.random ≡ old.random

-- The frames that are due are sent. Then there is one wait, until the next frame is due or a moment
-- is reached.
pub record WaitsOnce (until : Option ℕ) (woken : Woken) (old new : Delays)
    (io_events : List IoEvent)
    : Type 0 where
  pub first : List IoEvent
  pub due : SendsDue old new first
  pub all : io_events ≡ first ++ Waits (earlier until (first_moment new.delayed.items)) woken ∷ []

-- ---- A frame is passed in.

-- frames are sent at once while none is delayed
abbrev pub is_direct : Delays → Bool
is_direct line = nat_eq line.impairment.delay 0 && nat_eq (length line.delayed.items) 0

-- it is lost, and no call is made
pub record LosesFrame (sending : Sending) (old new : Delays)
    (io_events : List IoEvent) : Type 0 where
  pub drawn : IsDrawn true old new
  pub fate : sending ≡ Lost
  pub none : io_events ≡ []

-- or it is sent
pub record SendsFrame (octets : List ℕ) (old new : Delays) (io_events : List IoEvent) : Type 0 where
  pub drawn : IsDrawn false old new
  pub direct : is_direct old ≡ true
  pub sent : io_events ≡ Sends octets ∷ []

-- the clock is read, and a frame is delayed
pub record PutsOff (octets : List ℕ) (old new : Delays) (io_events : List IoEvent) : Type 0 where
  pub now : ℕ
  pub put_off : IsPutOff now octets old new
  pub read : io_events ≡ Reads now ∷ []

-- or it is delayed
pub record PutsFrameOff (octets : List ℕ) (sending : Sending) (old new : Delays)
    (io_events : List IoEvent)
    : Type 0 where
  pub mid : Delays
  pub drawn : IsDrawn false old mid
  pub indirect : is_direct old ≡ false
  pub put_off : PutsOff octets mid new io_events
  pub fate : sending ≡ Sent

abbrev pub PassesFrame : List ℕ → Sending → Delays → Delays → List IoEvent → Type 0
PassesFrame octets sending old new io_events = LosesFrame sending old new io_events
    ⊎ SendsFrame octets old new io_events ⊎ PutsFrameOff octets sending old new io_events

-- ---- A frame of the other side is received.

-- the frames that are due are sent, and then the line is looked at
pub record Receives (room : List ℕ) (count : Option ℕ) (old new : Delays) (io_events : List IoEvent)
    : Type 0 where
  pub first : List IoEvent
  pub due : SendsDue old new first
  pub all : io_events ≡ first ++ received room count

-- ---- A wait.

-- A wait that something ended is over, unless that was the moment of a delayed frame alone.
abbrev pub IsOver : Option ℕ → Woken → Bool → List IoEvent → Type 0
IsOver until Due over io_events = (now : ℕ) × (io_events ≡ Reads now ∷ [])
    × (over ≡ is_reached until now)
IsOver until woken over io_events = (io_events ≡ []) × (over ≡ true)

-- one wait, and whether it is over
pub record Round (until : Option ℕ) (woken : Woken) (over : Bool) (old new : Delays)
    (io_events : List IoEvent) : Type 0 where
  pub first : List IoEvent
  pub once : WaitsOnce until woken old new first
  pub rest : List IoEvent
  pub is : IsOver until woken over rest
  pub all : io_events ≡ first ++ rest

-- rounds that are not over, one after another
abbrev pub AreRounds : Option ℕ → List (List IoEvent) → Delays → Delays → Type 0
AreRounds until [] old new = new ≡ old
AreRounds until (io_events ∷ more) old new = (mid : Delays) × (woken : Woken)
    × Round until woken false old mid io_events × AreRounds until more mid new

-- Rounds follow each other until one is over.
pub record WaitsOn (until : Option ℕ) (woken : Woken) (old new : Delays) (io_events : List IoEvent)
    : Type 0 where
  pub rounds : List (List IoEvent)
  pub mid : Delays
  pub are : AreRounds until rounds old mid
  pub last : List IoEvent
  pub end : Round until woken true mid new last
  pub all : io_events ≡ flat_map (λ round. round) rounds ++ last
