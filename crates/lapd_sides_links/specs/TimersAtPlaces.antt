-- The timers in the slots of the links.
use Rattle.std.specs.Prelude.{◌≡◌, ℕ, ◌+◌, List, Option, Some, None, slice_get, if◌then◌else◌}
use Rattle.lapd_timers.specs.Due.{Timers}
use Rattle.lapd_frame.specs.declared.Sapi.{Sapi}
use Rattle.lapd_frame.specs.declared.Sapi.TheVariants.{Call, Packet, Management}
use Rattle.lapd_table.specs.declared.link_id.LinkId.{LinkId}
use Rattle.lapd_table.specs.LinkId.{id_eq}
use Rattle.lapd_sides_links.specs.declared.lone_timers.LoneTimers.{LoneTimers}
use Rattle.lapd_sides_links.specs.declared.timer_places.TimerPlaces.{TimerPlaces}
use Rattle.lapd_sides_links.specs.declared.running_timer.RunningTimer.{RunningTimer}
use Rattle.lapd_sides_links.specs.Expiries.{Runs, IsFirst}
use Rattle.lapd_sides_links.specs.Places.{RunsFor}
use Rattle.lapd_sides_links.specs.Tournament.{entry}

-- the timers in the slot of a link, whether or not the link exists; management has no links
abbrev pub timers_among : List Timers → List Timers → Sapi → ℕ → Option Timers
timers_among call packet Call tei = slice_get call tei
timers_among call packet Packet tei = slice_get packet tei
timers_among call packet Management tei = None

unfoldable pub placed : TimerPlaces → LinkId → Option Timers
placed s id = timers_among s.call.items s.packet.items id.sapi id.tei

-- the timers of the only link
unfoldable pub alone : LoneTimers → LinkId → Option Timers
alone s id = if id_eq id s.id then Some s.timers else None

-- these timers of links, and none of TEI management
abbrev pub of_each_link : (LinkId → Option Timers) → Option LinkId → Option Timers
of_each_link timers None = None
of_each_link timers (Some id) = timers id

-- all slots, as the timers of links
abbrev pub of_places : TimerPlaces → Option LinkId → Option Timers
of_places s = of_each_link (placed s)

-- ---- The tournament of these timers.

-- the tournament slot of a link: first those of SAPI 0 by TEI, then those of SAPI 16
abbrev pub entry_place : Sapi → ℕ → Option ℕ
entry_place Call tei = Some tei
entry_place Packet tei = Some (128 + tei)
entry_place Management tei = None

-- a timer of the link with this tournament slot runs
pub record RunsAt (s : TimerPlaces) (at : ℕ) (e : RunningTimer) : Type 0 where
  pub id : LinkId
  pub is_of : e.of ≡ Some id
  pub represented : entry_place id.sapi id.tei ≡ Some at
  pub runs : Runs (of_places s) e

-- each tournament slot has the first of T200 and T203 of its link
abbrev pub AreEntered : TimerPlaces → List (Option RunningTimer) → Type 0
AreEntered s entries = (at : ℕ) → IsFirst (RunsAt s at) (entry entries at)

-- a running timer of this link, if the link has a slot
abbrev pub RunsForPlaced : LinkId → Option Timers → RunningTimer → Type 0
RunsForPlaced id None e = ⊥
RunsForPlaced id (Some timers) e = RunsFor id timers e
