-- The time that is printed before a trace line.
use Rattle.std.specs.Prelude.{ℕ, ◌-◌, ◌/◌, ◌%◌, nat_lt, if◌then◌else◌, List, [], ◌++◌, codes, Option, None, Some}
use Rattle.std.specs.Fmt.{decimal}
use Rattle.lapd_follow.specs.Texts.{seconds_digits}
use Rattle.lapd_zone.specs.declared.calendar.Date.{Date as CalendarDate}
use Rattle.lapd_zone.specs.Calendar.{date_of}
use Rattle.lapd_zone.specs.Zone.{ZoneTable, local_time}
use Rattle.lapd_cli_frames.specs.declared.frame_time.FrameTime.{FrameTime}
use Rattle.lapd_cli_frames.specs.declared.frame_time.FrameTime.TheVariants.{Hidden, Absolute, Relative, Delta, Day, Date}
use Rattle.lapd_cli_frames.specs.declared.style.Style.{Style}
use Rattle.lapd_cli_frames.specs.declared.style.Style.TheVariants.{Plain, Named, Brief, Json, NamedJson}

-- the first of two that is known
abbrev pub either : Option ℕ → Option ℕ → Option ℕ
either None other = other
either (Some moment) other = Some moment

-- the time since an earlier moment; 0 if there is none, or if the clock ran back
abbrev pub since : Option ℕ → Option ℕ → Option ℕ
since earlier None = None
since None (Some moment) = Some 0
since (Some earlier) (Some moment) = Some (moment - earlier)

-- the time that a clock in the zone shows at a moment
abbrev pub zone_time : ZoneTable → Option ℕ → Option ℕ
zone_time zone None = None
zone_time zone (Some moment) = Some (local_time zone moment)

-- the time of a frame that was captured at this moment, in microseconds: since 1970, since the
-- first printed frame, or since the printed frame before; that of day is counted from 1970 too, and
-- so is a date, in the zone
abbrev pub time_of : FrameTime → ZoneTable → Option ℕ → Option ℕ → Option ℕ → Option ℕ
time_of Hidden zone first last moment = None
time_of Absolute zone first last moment = moment
time_of Relative zone first last moment = since first moment
time_of Delta zone first last moment = since last moment
time_of Day zone first last moment = moment
time_of Date zone first last moment = zone_time zone moment

-- microseconds since 1970 as the time of day (UTC): two digits of the hour and of the minute, and
-- the second with two digits before the point and six after it
abbrev pub two_digits : ℕ → List ℕ
two_digits n = decimal (n / 10) ++ decimal (n % 10)

abbrev pub day_digits : ℕ → List ℕ
day_digits time = two_digits (time / 3600000000 % 24) ++ (codes ":"
    ++ (two_digits (time / 60000000 % 60) ++ (codes ":"
    ++ (decimal (time / 10000000 % 6) ++ seconds_digits (time % 10000000)))))

-- a date, and a space behind it: without its year before 1980, and nothing before 1972
abbrev pub month_digits : CalendarDate → List ℕ
month_digits date =
    two_digits date.month ++ (codes "-" ++ (two_digits date.day ++ codes " "))

abbrev pub date_digits : CalendarDate → List ℕ
date_digits date = if nat_lt date.year 1972 then [] else (
    if nat_lt date.year 1980 then month_digits date
    else decimal date.year ++ (codes "-" ++ month_digits date))

-- and a space; `-` if the time is not known
abbrev pub known_text : Option ℕ → List ℕ
known_text None = codes "- "
known_text (Some time) = seconds_digits time ++ codes " "

abbrev pub day_text : Option ℕ → List ℕ
day_text None = codes "- "
day_text (Some time) = day_digits time ++ codes " "

abbrev pub date_text : Option ℕ → List ℕ
date_text None = codes "- "
date_text (Some time) =
    date_digits (date_of (time / 86400000000)) ++ (day_digits time ++ codes " ")

abbrev pub time_text : FrameTime → Option ℕ → List ℕ
time_text Hidden time = []
time_text Absolute time = known_text time
time_text Relative time = known_text time
time_text Delta time = known_text time
time_text Day time = day_text time
time_text Date time = date_text time

-- only a trace line begins with it
abbrev pub front_text : Style → FrameTime → Option ℕ → List ℕ
front_text Plain time moment = time_text time moment
front_text Named time moment = time_text time moment
front_text Brief time moment = time_text time moment
front_text Json time moment = []
front_text NamedJson time moment = []

-- the columns of these times in a ladder, with the space behind them
abbrev pub time_width : FrameTime → ℕ
time_width Hidden = 0
time_width Absolute = 18
time_width Relative = 13
time_width Delta = 13
time_width Day = 16
time_width Date = 27
