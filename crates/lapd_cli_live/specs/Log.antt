-- The events at a running side, in order: its calls to the surroundings, and the entries that it
-- prints and counts.
use Rattle.std.specs.Prelude.{◌≡◌, ℕ, ◌≤◌, Bool, List, [], ◌∷◌, ◌++◌, map, flat_map, Option}
use Rattle.lapd_sides_links.specs.declared.primitive.Primitive.{Primitive}
use Rattle.lapd_sides_links.specs.Effects.{Effects}
use Rattle.lapd_sides.specs.declared.either_side.EitherSide.{EitherSide}
use Rattle.lapd_sides.specs.Either.{side_of}
use Rattle.lapd_cli_live.specs.declared.style.Style.{Style}
use Rattle.lapd_cli_live.specs.declared.live_side.LiveSide.{LiveSide}
use Rattle.lapd_cli_wire.specs.declared.impairment.Impairment.{Impairment}
use Rattle.lapd_cli_wire.specs.IoEvents.{Adds, IoEvent, Reads, Sends}
use Rattle.lapd_cli_live.specs.Entries.{Dated, Entry, Outgoing, Prints, Shown, Delivered, octets_of, outgoing_entry}
use Rattle.lapd_cli_live.specs.Printers.{shown}

-- a call to the surroundings, or an entry that is printed and counted
pub data LiveEvent : Type 0 where
  Around : (io_event : IoEvent) → LiveEvent
  Shows : (entry : Entry) → LiveEvent

-- the calls among some events, and the entries
abbrev pub io_events_in : List LiveEvent → List IoEvent
io_events_in [] = []
io_events_in (Around io_event ∷ events) = io_event ∷ io_events_in events
io_events_in (Shows entry ∷ events) = io_events_in events

abbrev pub entries_in : List LiveEvent → List Entry
entries_in [] = []
entries_in (Around io_event ∷ events) = entries_in events
entries_in (Shows entry ∷ events) = entry ∷ entries_in events

-- A running side: its style, its calls to the surroundings, if they are recorded, how its frames
-- are impaired, if that is known, what it has printed and counted, and the most frames that a step
-- of it receives. Its lines have the moment at which the clock was last read.
pub record LiveState : Type 0 where
  pub side : EitherSide
  pub style : Style
  pub io_events : Option (List IoEvent)
  pub impairment : Option Impairment
  pub shown : Shown
  pub most : ℕ

abbrev pub state_of : {O W : Type 0} → (O → Option (List IoEvent)) → (O → Option Impairment)
    → (W → Option (List ℕ)) → LiveSide O W → LiveState
state_of io_events impaired_by contents live = record {
  side = live.side;
  style = live.printer.style;
  io_events = io_events live.outside;
  impairment = impaired_by live.outside;
  shown = shown contents live.printer;
  most = live.most;
}

abbrev pub moment_of : LiveState → ℕ
moment_of s = s.shown.now

abbrev pub is_matched : LiveState → Bool
is_matched s = s.shown.matched

-- this holds for a live side before and after a call
abbrev pub Between : {O W : Type 0} → (O → Option (List IoEvent)) → (O → Option Impairment)
    → (W → Option (List ℕ)) → LiveSide O W → LiveSide O W
    → (LiveState → LiveState → Type 0) → Type 0
Between io_events impaired_by contents old new R = R (state_of io_events impaired_by contents old)
    (state_of io_events impaired_by contents new)

-- exactly these events happen; frames are impaired as before, and a step receives as many
pub record Happen (events : List LiveEvent) (a b : LiveState) : Type 0 where
  pub own : side_of b.side ≡ side_of a.side
  pub style : b.style ≡ a.style
  pub io_events : Adds a.io_events b.io_events (io_events_in events)
  pub impairment : b.impairment ≡ a.impairment
  pub shown : Prints a.style (side_of a.side) (entries_in events) a.shown b.shown
  pub most : b.most ≡ a.most

-- they happen, and the side and the moment of its lines are unchanged
pub record HappenBeside (events : List LiveEvent) (a b : LiveState) : Type 0 where
  pub side : b.side ≡ a.side
  pub moment : moment_of b ≡ moment_of a
  pub happen : Happen events a b

-- ---- The clock.

-- the clock is read: it shows no earlier moment than before, and later lines have this moment
abbrev pub read_at : ℕ → List LiveEvent
read_at now = Around (Reads now) ∷ Shows (Dated now) ∷ []

pub record ReadsClock (now : ℕ) (a b : LiveState) : Type 0 where
  pub side : b.side ≡ a.side
  pub moment : moment_of b ≡ now
  pub rises : moment_of a ≤ now
  pub happen : Happen (read_at now) a b

-- ---- The output of a call of the side.

-- it is sent, and then printed and counted
abbrev pub sending_events : Outgoing → List LiveEvent
sending_events outgoing =
    Around (Sends outgoing.octets) ∷ Shows (outgoing_entry outgoing) ∷ []

abbrev pub primitive_event : Primitive → LiveEvent
primitive_event primitive = Shows (Delivered primitive)

-- each frame of a call's output is sent and printed, in order, and then its primitives are printed
pub record CarriesOut (acts : Effects) (events : List LiveEvent) : Type 0 where
  pub outgoing : List Outgoing
  pub frames : map octets_of outgoing ≡ acts.frames
  pub are : events
      ≡ flat_map sending_events outgoing ++ map primitive_event acts.primitives

-- the same for several calls, one after another
abbrev pub CarriesOutAll : List Effects → List LiveEvent → Type 0
CarriesOutAll [] events = events ≡ []
CarriesOutAll (acts ∷ calls) events = (first : List LiveEvent) × (rest : List LiveEvent)
    × CarriesOut acts first × CarriesOutAll calls rest × (events ≡ first ++ rest)

-- the output of a call is carried out, and nothing else happens
pub record IsCarriedOut (acts : Effects) (a b : LiveState) : Type 0 where
  pub events : List LiveEvent
  pub carries : CarriesOut acts events
  pub beside : HappenBeside events a b

-- one after another, each between two states that follow each other
abbrev pub Chain : (LiveState → LiveState → Type 0)
    → List LiveState → LiveState → LiveState → Type 0
Chain R [] a b = b ≡ a
Chain R (mid ∷ more) a b = R a mid × Chain R more mid b
