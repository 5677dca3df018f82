-- The names of the timers (Q.921 5.9).
use Rattle.std.specs.Prelude.{ℕ, List, codes}
use Rattle.lapd_timers.specs.declared.timer.Timer.{Timer}
use Rattle.lapd_timers.specs.declared.timer.Timer.TheVariants.{T200, T201, T202, T203}

abbrev pub timer_name : Timer → List ℕ
timer_name T200 = codes "T200"
timer_name T201 = codes "T201"
timer_name T202 = codes "T202"
timer_name T203 = codes "T203"
