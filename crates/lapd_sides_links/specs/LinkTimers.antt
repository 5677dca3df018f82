-- The timers for which a side has room.
use Rattle.std.specs.Prelude.{Option, None}
use Rattle.lapd_timers.specs.Due.{Timers}
use Rattle.lapd_table.specs.declared.link_id.LinkId.{LinkId}
use Rattle.lapd_sides_links.specs.declared.link_timers.LinkTimers.{LinkTimers}
use Rattle.lapd_sides_links.specs.declared.link_timers.LinkTimers.TheVariants.{Empty, One, Many}
use Rattle.lapd_sides_links.specs.TimersAtPlaces.{alone, placed}

-- the timers of a link, whether or not the link exists, if there is room for them
unfoldable pub timers_of : LinkTimers → LinkId → Option Timers
timers_of Empty = λ id. None
timers_of (One s) = alone s
timers_of (Many s) = placed s
