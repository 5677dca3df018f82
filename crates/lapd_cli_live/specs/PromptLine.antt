-- A line that passes on what has arrived, and what is known in a step when its timers expire.
use Rattle.std.specs.Prelude.{◌≡◌, ◌⊎◌, ℕ, nat_lt, true, List, [], ◌∷◌, ◌++◌, filter, map, Option, Some, None, ⊤}
use Rattle.lapd_cli_live.specs.declared.service.Service.{Service}
use Rattle.lapd_cli_live.specs.declared.service.Until.{Until}
use Rattle.lapd_cli_wire.specs.declared.outside.Woken.TheVariants as woken
use Rattle.lapd_cli_wire.specs.IoEvents.{Arrives, IoEvent, FindsNone, Reads, Sends, Waits, is_reached}
use Rattle.lapd_cli_live.specs.Log.{LiveState, moment_of}
use Rattle.lapd_cli_live.specs.Steps.{DoesDue, Receives, TakesMost}

-- a frame that arrives at a moment, in milliseconds since the start
pub record Arrival : Type 0 where
  pub moment : ℕ
  pub frame : List ℕ

-- the frames that arrived in milliseconds before this one, in order
abbrev pub arrived_before : ℕ → List Arrival → List (List ℕ)
arrived_before now arrivals = map (λ a. a.frame) (filter (λ a. nat_lt a.moment now) arrivals)

-- the frames that arrived before this millisecond, in order, and perhaps more
pub record StartsWithEarlier (now : ℕ) (arrivals : List Arrival) (frames : List (List ℕ))
    : Type 0 where
  pub more : List (List ℕ)
  pub are : frames ≡ arrived_before now arrivals ++ more

-- the frames that some calls received, in order
abbrev pub frames_received : List IoEvent → List (List ℕ)
frames_received [] = []
frames_received (Arrives frame ∷ io_events) = frame ∷ frames_received io_events
frames_received (Reads now ∷ io_events) = frames_received io_events
frames_received (FindsNone ∷ io_events) = frames_received io_events
frames_received (Waits until woken ∷ io_events) = frames_received io_events
frames_received (Sends frame ∷ io_events) = frames_received io_events

-- a look that finds no frame: if the clock was read right before it, every frame that arrived in
-- an earlier millisecond was received
abbrev pub IsPromptLook : Option ℕ → List Arrival → List (List ℕ) → Type 0
IsPromptLook None arrivals received = ⊤
IsPromptLook (Some now) arrivals received = StartsWithEarlier now arrivals received

-- each look is prompt, after a reading of the clock, if there was one, and these frames
abbrev pub IsPromptAfter : Option ℕ → List (List ℕ) → List Arrival → List IoEvent → Type 0
IsPromptAfter clock received arrivals [] = ⊤
IsPromptAfter clock received arrivals (Arrives frame ∷ io_events) =
    IsPromptAfter None (received ++ frame ∷ []) arrivals io_events
IsPromptAfter clock received arrivals (Reads now ∷ io_events) =
    IsPromptAfter (Some now) received arrivals io_events
IsPromptAfter clock received arrivals (FindsNone ∷ io_events) =
    IsPromptLook clock arrivals received × IsPromptAfter None received arrivals io_events
IsPromptAfter clock received arrivals (Waits until woken ∷ io_events) =
    IsPromptAfter None received arrivals io_events
IsPromptAfter clock received arrivals (Sends frame ∷ io_events) =
    IsPromptAfter None received arrivals io_events

-- The line passes on what has arrived: if the clock was read and then a look finds no frame, every
-- frame that arrived in an earlier millisecond was received.
abbrev pub IsPrompt : List Arrival → List IoEvent → Type 0
IsPrompt arrivals io_events = IsPromptAfter None [] arrivals io_events

-- every frame that arrived before the millisecond of a side's moment was received
pub record HasAllThatArrived (arrivals : List Arrival) (s : LiveState) : Type 0 where
  pub io_events : List IoEvent
  pub are : s.io_events ≡ Some io_events
  pub received : StartsWithEarlier (moment_of s) arrivals (frames_received io_events)

-- A side that catches up expires timers for a moment only after every frame that arrived before its
-- millisecond was received, and so also the response that a timer waits for; or if as many frames
-- arrived at once as a step receives.
pub record ExpiresInTime (arrivals : List Arrival) (until : Until) (a b : LiveState) : Type 0 where
  pub received : LiveState
  pub receives : Receives until a received
  pub due : DoesDue received b
  pub moment : moment_of b ≡ moment_of received
  pub in_time : HasAllThatArrived arrivals received ⊎ TakesMost until a received

-- A service ends at its end only after its last look came at this moment or later: every frame that
-- arrived before the millisecond of its last moment was received, and the due timers expired; or as
-- many frames arrived at once as a step receives.
pub record EndsInTime (arrivals : List Arrival) (service : Service) (b : LiveState) : Type 0 where
  pub last : LiveState
  pub expires : ExpiresInTime arrivals service.until last b
  pub reached : is_reached service.end (moment_of b) ≡ true

-- ---- A worked line: three frames arrive in millisecond 5, each after a look that found none.

abbrev pub three_at_once : List Arrival
three_at_once = record { moment = 5; frame = 1 ∷ [] } ∷ record { moment = 5; frame = 2 ∷ [] }
    ∷ record { moment = 5; frame = 3 ∷ [] } ∷ []

abbrev pub three_received : List IoEvent
three_received = Reads 5 ∷ FindsNone ∷ Arrives (1 ∷ []) ∷ Reads 5 ∷ FindsNone ∷ Arrives (2 ∷ [])
    ∷ Reads 5 ∷ FindsNone ∷ Waits None woken.Arrival ∷ Arrives (3 ∷ []) ∷ Reads 6 ∷ FindsNone ∷ []

-- the third is left on the line
abbrev pub one_left : List IoEvent
one_left = Arrives (1 ∷ []) ∷ Arrives (2 ∷ []) ∷ Reads 6 ∷ FindsNone ∷ []
