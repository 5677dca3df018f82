-- When a packet was captured, in microseconds since 1970, and how many are missing before it.
use Rattle.std.specs.Prelude.{ℕ, zero, suc, ◌+◌, ◌*◌, ◌/◌, ◌%◌, ◌-◌, ◌^◌, ◌==◌, nat_lt, if◌then◌else◌, List, length, drop, slice_index, Option, Some, None}
use Rattle.lapd_capture.specs.declared.order.Order.{Order}
use Rattle.lapd_capture.specs.Octets.{number_at}

-- how many units of time a second has, by the octet of the option if_tsresol: a power of ten up to
-- 10^9, or with its high bit a power of two up to 2^63; 0 if it is another
abbrev pub units_of : ℕ → ℕ
units_of octet = if nat_lt octet 10 then 10 ^ octet else (
    if nat_lt octet 128 then 0 else (
    if nat_lt octet 192 then 2 ^ (octet - 128) else 0))

-- the length of an option's value with its padding
abbrev pub padded : ℕ → ℕ
padded n = n + (4 - n % 4) % 4

-- the units of an interface with these options, of which this many are looked at: an option has a
-- code, a length and a value, code 9 is if_tsresol, code 0 ends the list
unfoldable pub units_among : ℕ → Order → List ℕ → ℕ
units_among zero order options = 1000000
units_among (suc n) order options = if nat_lt (length options) 5 then 1000000 else (
    if number_at order 2 0 options == 0 then 1000000 else (
    if number_at order 2 0 options == 9 then units_of (slice_index options 4) else
    units_among n order (drop (4 + padded (number_at order 2 2 options)) options)))

-- the units of an interface with these options: microseconds unless one of the first 64 is
-- if_tsresol
abbrev pub units_in : Order → List ℕ → ℕ
units_in order options = units_among 64 order options

-- this many microseconds, if they are below 2^64
abbrev pub moment_below : ℕ → Option ℕ
moment_below moment = if nat_lt moment (2 ^ 64) then Some moment else None

-- the moment after this many units of time, in microseconds; `None` if the units are unknown
abbrev pub moment_in : ℕ → ℕ → Option ℕ
moment_in units ticks = if units == 0 then None else moment_below (ticks * 1000000 / units)

-- How many packets are missing before a packet with these options, of which this many are looked
-- at: the value of epb_dropcount, which has code 4 and 8 octets.
unfoldable pub missing_among : ℕ → Order → List ℕ → ℕ
missing_among zero order options = 0
missing_among (suc n) order options = if nat_lt (length options) 12 then 0 else (
    if number_at order 2 0 options == 0 then 0 else (
    if number_at order 2 0 options == 4 then number_at order 8 4 options else
    missing_among n order (drop (4 + padded (number_at order 2 2 options)) options)))

-- the same if the first 64 are looked at
abbrev pub missing_in : Order → List ℕ → ℕ
missing_in order options = missing_among 64 order options
