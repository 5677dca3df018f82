-- The lines of `state` and `stats`: links, timers and statistics of a side.
use Rattle.std.specs.Prelude.{◌≡◌, ◌⊎◌, ◌↔◌, ℕ, Bool, true, false, List, [], ◌∷◌, map, Contains, Option, None, Some, IsSome}
use Rattle.lapd_link.specs.declared.link.Link.{Link}
use Rattle.lapd_table.specs.declared.link_id.LinkId.{LinkId}
use Rattle.lapd_table.specs.declared.link_table.LinkTable.{LinkTable}
use Rattle.std.specs.List.Sorted.{IsStrictlySortedBy}
use Rattle.lapd_table.specs.LinkTable.{link_at}
use Rattle.lapd_table.specs.LinkId.{id_cmp}
use Rattle.lapd_timers.specs.Due.{Timers}
use Rattle.lapd_sides_links.specs.declared.side_fault.SideKind.TheVariants.{NoLink}
use Rattle.lapd_sides.specs.Either.{HasDiscarded, HasTable, HasTimers}
use Rattle.lapd_cli_live.specs.declared.service.Until.TheVariants as until
use Rattle.lapd_cli_live_text.specs.LinkText.{link_text, management_text, shown_end}
use Rattle.lapd_cli_live.specs.Entries.{Entry, Worded, refused, stats_entries}
use Rattle.lapd_cli_live.specs.Log.{HappenBeside, LiveEvent, LiveState, Shows, moment_of}
use Rattle.lapd_cli_live.specs.Steps.{CatchesUp}

-- these words are the state of a link of the side, at the side's moment
pub record StatesOneLink (id : LinkId) (s : LiveState) (words : List ℕ) : Type 0 where
  pub table : LinkTable
  pub has : HasTable s.side table
  pub link : Link
  pub is : link_at table id ≡ Some link
  pub timers : Option Timers
  pub have : HasTimers s.side (Some id) timers
  pub are : words ≡ link_text id (shown_end link) timers (moment_of s)

-- the side does not have this link
pub record LacksLink (id : LinkId) (s : LiveState) : Type 0 where
  pub table : LinkTable
  pub has : HasTable s.side table
  pub none : link_at table id ≡ None

-- the line of a link is printed
pub record PutsLink (id : LinkId) (a b : LiveState) : Type 0 where
  pub words : List ℕ
  pub reporting : StatesOneLink id a words
  pub prints : HappenBeside (Shows (Worded words) ∷ []) a b

-- or nothing is printed, since the side does not have it
pub record PutsNoLink (id : LinkId) (a b : LiveState) : Type 0 where
  pub lacks : LacksLink id a
  pub same : b ≡ a

abbrev pub PutsState : LinkId → Bool → LiveState → LiveState → Type 0
PutsState id true a b = PutsLink id a b
PutsState id false a b = PutsNoLink id a b

-- it is printed that the side does not have a link
pub record RefusesLink (id : LinkId) (a b : LiveState) : Type 0 where
  pub lacks : LacksLink id a
  pub prints : HappenBeside (Shows (refused NoLink) ∷ []) a b

-- `state SAPI TEI`
pub record StatesLink (id : LinkId) (a b : LiveState) : Type 0 where
  pub ready : LiveState
  pub catches_up : CatchesUp until.NoEvent a ready
  pub prints : PutsLink id ready b ⊎ RefusesLink id ready b

abbrev pub shown_event : Entry → LiveEvent
shown_event entry = Shows entry

-- `stats`
pub record StatesCounts (a b : LiveState) : Type 0 where
  pub ready : LiveState
  pub catches_up : CatchesUp until.NoEvent a ready
  pub discarded : ℕ
  pub have : HasDiscarded ready.side discarded
  pub prints : HappenBeside (map shown_event (stats_entries ready.shown.stats discarded)) ready b

-- the lines of these links are printed, one after another
abbrev pub StateEach : List LinkId → LiveState → LiveState → Type 0
StateEach [] a b = b ≡ a
StateEach (id ∷ ids) a b = (mid : LiveState) × (matched : Bool) × PutsState id matched a mid
    × StateEach ids mid b

-- a line, unless it is empty
abbrev pub line_unless_empty : List ℕ → List LiveEvent
line_unless_empty [] = []
line_unless_empty (first ∷ words) = Shows (Worded (first ∷ words)) ∷ []

-- the line of TEI management, if one of its timers runs
abbrev pub management_events : Option Timers → ℕ → List LiveEvent
management_events None now = []
management_events (Some timers) now = line_unless_empty (management_text timers now)

pub record PutsManagement (a b : LiveState) : Type 0 where
  pub timers : Option Timers
  pub have : HasTimers a.side None timers
  pub prints : HappenBeside (management_events timers (moment_of a)) a b

-- `state`: the line of each link that the side has, by rising SAPI and then TEI, and that of TEI
-- management
pub record StatesAll (a b : LiveState) : Type 0 where
  pub ready : LiveState
  pub catches_up : CatchesUp until.NoEvent a ready
  pub table : LinkTable
  pub has : HasTable ready.side table
  pub ids : List LinkId
  pub rising : IsStrictlySortedBy id_cmp ids
  pub all : (id : LinkId) → Contains ids id ↔ IsSome (link_at table id)
  pub links_done : LiveState
  pub each : StateEach ids ready links_done
  pub management : PutsManagement links_done b
