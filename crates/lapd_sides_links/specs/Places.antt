-- The slots of the links' timers, and the order of two expiries.
use Rattle.std.specs.Prelude.{◌≡◌, ℕ, ◌<◌, ◌≤◌, Bool, true, false, List, length, Option, Some, None, IfSome, ◌⊎◌}
use Rattle.lapd_timers.specs.declared.timer.Timer.{Timer}
use Rattle.lapd_timers.specs.Due.{Timers, deadline_of}
use Rattle.lapd_frame.specs.declared.Sapi.{Sapi}
use Rattle.lapd_frame.specs.declared.Sapi.TheVariants.{Call, Packet, Management}
use Rattle.lapd_table.specs.declared.link_id.LinkId.{LinkId}
use Rattle.lapd_sides_links.specs.declared.running_timer.RunningTimer.{RunningTimer}
use Rattle.lapd_sides_links.specs.Links.{IsOfLink}
use Rattle.lapd_sides_links.specs.Expiries.{IsNoLater}

-- slots for TEIs of 0 to 126 (Q.921 3.3.4), in SAPI 0 and in SAPI 16
pub record HasPlaces (call packet : List Timers) : Type 0 where
  pub call_places : length call ≤ 127
  pub packet_places : length packet ≤ 127

-- a link that can have timers: of SAPI 0 or 16, and TEI 0 to 126
abbrev pub has_links : Sapi → Bool
has_links Call = true
has_links Packet = true
has_links Management = false

pub record HasSlot (id : LinkId) : Type 0 where
  pub sapi : has_links id.sapi ≡ true
  pub tei : id.tei < 127

-- none of these runs
abbrev pub AreStopped : Timers → Type 0
AreStopped timers = (timer : Timer) → deadline_of timer timers ≡ None

-- timers that exist are unchanged; if none existed, none runs
abbrev pub IsKept : Option Timers → Option Timers → Type 0
IsKept None after = IfSome after AreStopped
IsKept (Some timers) after = after ≡ Some timers

-- ---- The running timers.

-- the expiry of a timer of a link
abbrev pub expiry_at : LinkId → Timer → ℕ → RunningTimer
expiry_at id timer deadline = record { deadline = deadline; timer = timer; of = Some id }

-- the expiry of a timer of TEI management
abbrev pub own_expiry_at : Timer → ℕ → RunningTimer
own_expiry_at timer deadline = record { deadline = deadline; timer = timer; of = None }

-- a timer of this link runs with this deadline
pub record RunsFor (id : LinkId) (timers : Timers) (e : RunningTimer) : Type 0 where
  pub is_of : e.of ≡ Some id
  pub own : IsOfLink e.timer
  pub until : deadline_of e.timer timers ≡ Some e.deadline

-- the earlier one of two optional expiries
abbrev pub IsSooner : Option RunningTimer → Option RunningTimer → Option RunningTimer → Type 0
IsSooner None b c = c ≡ b
IsSooner (Some a) None c = c ≡ Some a
IsSooner (Some a) (Some b) c = ((c ≡ Some a) × IsNoLater a b) ⊎ ((c ≡ Some b) × IsNoLater b a)
