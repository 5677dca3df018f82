-- The timer of a side that is due: of the running timers whose deadline has been reached, the one
-- with the earliest deadline; if several share it, the first of T200, T201, T202, T203, then the
-- one with the lowest SAPI, then with the lowest TEI (Q.921 5.9).
use Rattle.std.specs.Prelude.{◌≡◌, ℕ, ◌<◌, ◌≤◌, Option, Some, None, option_map, ◌⊎◌, ⊤}
use Rattle.lapd_timers.specs.declared.timer.Timer.{Timer}
use Rattle.lapd_timers.specs.Due.{Timers, deadline_of, place}
use Rattle.lapd_frame.specs.Address.{sapi_value}
use Rattle.lapd_table.specs.declared.link_id.LinkId.{LinkId}
use Rattle.lapd_sides_links.specs.declared.running_timer.RunningTimer.{RunningTimer}
use Rattle.lapd_sides_links.specs.Links.{Links, Linked, IsOfLink}
use Rattle.lapd_sides_links.specs.Links.{Served}

-- ---- The running timers. Each is named by its link, or by `None` for TEI management.

-- a link has T200 and T203; TEI management may have any timer
abbrev pub IsTimerOf : Option LinkId → Timer → Type 0
IsTimerOf None timer = ⊤
IsTimerOf (Some id) timer = IsOfLink timer

-- among these timers, one runs with this deadline
pub record Runs (timers : Option LinkId → Option Timers) (e : RunningTimer) : Type 0 where
  pub its : Timers
  pub there : timers e.of ≡ Some its
  pub own : IsTimerOf e.of e.timer
  pub until : deadline_of e.timer its ≡ Some e.deadline

pub record IsPast (now : ℕ) (timers : Option LinkId → Option Timers) (e : RunningTimer) :
    Type 0 where
  pub runs : Runs timers e
  pub is_past : e.deadline ≤ now

-- the timers of the existing links
abbrev pub of_links : Links → Option LinkId → Option Timers
of_links links None = None
of_links links (Some id) = option_map (λ (l : Linked). l.timers) (links id)

-- the timers of TEI management
abbrev pub of_management : Timers → Option LinkId → Option Timers
of_management timers None = Some timers
of_management timers (Some id) = None

-- the timers of the links and of TEI management
abbrev pub of_served : Served → Option LinkId → Option Timers
of_served s None = Some s.timers
of_served s (Some id) = of_links s.links (Some id)

-- ---- The order of expiries.

-- the order of links: by SAPI, then by TEI; TEI management is first (a link never has its
-- timers)
abbrev pub IsNoLaterLink : Option LinkId → Option LinkId → Type 0
IsNoLaterLink None b = ⊤
IsNoLaterLink (Some a) None = ⊥
IsNoLaterLink (Some a) (Some b) = (sapi_value a.sapi < sapi_value b.sapi)
    ⊎ ((sapi_value a.sapi ≡ sapi_value b.sapi) × (a.tei ≤ b.tei))

-- the order of expiries: by deadline, then by timer, then by link
abbrev pub IsNoLater : RunningTimer → RunningTimer → Type 0
IsNoLater a b = (a.deadline < b.deadline) ⊎ ((a.deadline ≡ b.deadline)
    × ((place a.timer < place b.timer) ⊎ ((place a.timer ≡ place b.timer)
    × IsNoLaterLink a.of b.of)))

-- the first of some timers, or `None` if there are none
abbrev pub IsFirst : (RunningTimer → Type 0) → Option RunningTimer → Type 0
IsFirst Among None = (e : RunningTimer) → Among e → ⊥
IsFirst Among (Some e) = Among e × ((other : RunningTimer) → Among other → IsNoLater e other)

-- the timer of a side that is due now
abbrev pub IsDue : ℕ → Served → Option RunningTimer → Type 0
IsDue now s = IsFirst (IsPast now (of_served s))

-- nothing is due on a side before this moment
abbrev pub IsQuietBefore : Served → ℕ → Type 0
IsQuietBefore s moment = (now : ℕ) → now < moment → IsDue now s None

-- nothing is due on a side before this moment, and something is due at it
pub record IsNextMoment (s : Served) (moment : ℕ) : Type 0 where
  pub before : IsQuietBefore s moment
  pub expiry : RunningTimer
  pub due : IsDue moment s (Some expiry)

-- the next moment at which something is due; `None` if nothing will be due unless a timer is
-- started
abbrev pub IsNextDeadline : Served → Option ℕ → Type 0
IsNextDeadline s None = (now : ℕ) → IsDue now s None
IsNextDeadline s (Some moment) = IsNextMoment s moment
