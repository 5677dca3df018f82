-- Time zones, by what jiff_tz reads.
use Rattle.std.specs.Prelude.{◌≡◌, ◌⊎◌, ℕ, ◌+◌, ◌-◌, ◌*◌, ◌/◌, ◌%◌, nat_lt, min, if◌then◌else◌, ℤ, pos, int_lt, unsigned_abs, List, Some, Ok, Err}
use Rattle.jiff_core.specs.Timestamp.{nanos_of_seconds}
use Rattle.jiff_core.specs.declared.error.TzifFault.{TzifFault}
use Rattle.jiff_tz.specs.PosixReader.{read_whole}
use Rattle.jiff_tz.specs.PosixRule as PosixRule
use Rattle.jiff_tz.specs.PosixText.{tz_view}
use Rattle.jiff_tz.specs.Tzif as Tzif
use Rattle.jiff_tz.specs.TzifReader.{read_tzif}
use Rattle.lapd_zone.specs.declared.zone.Zone.{Zone}
use Rattle.lapd_zone.specs.declared.zone.Zone.TheVariants.{Utc, Table, Rule}

-- what contracts see of a zone: its kind, with what jiff_tz read
abbrev pub ZoneTable : Type 0
ZoneTable = Zone

abbrev pub utc_table : ZoneTable
utc_table = Utc

-- the zone of a TZif file: its table, and a rule that agrees with it
abbrev pub IsTableOf : List ℕ → Zone → Type 0
IsTableOf file Utc = ⊥
IsTableOf file (Table table) = (read_tzif file ≡ Ok (Tzif.tzif_view table)) × Tzif.RuleAgrees table
IsTableOf file (Rule rule) = ⊥

-- a file that is no zone: it has a fault, or its rule does not agree with its table
abbrev pub IsNoTable : List ℕ → Type 0
IsNoTable file = ((fault : TzifFault) × (read_tzif file ≡ Err fault))
    ⊎ Tzif.HasBadRule (read_tzif file)

-- the zone of a POSIX TZ string
abbrev pub IsRuleOf : List ℕ → Zone → Type 0
IsRuleOf text Utc = ⊥
IsRuleOf text (Table table) = ⊥
IsRuleOf text (Rule rule) = read_whole text ≡ Some (tz_view rule)

-- the seconds that a clock is ahead of UTC at a moment, in nanoseconds since 1970
abbrev pub zone_offset : Zone → ℤ → ℤ
zone_offset Utc nanos = pos 0
zone_offset (Table table) nanos = (Tzif.offset_at table nanos).seconds
zone_offset (Rule rule) nanos = (PosixRule.offset_at rule nanos).seconds

-- a second of the years up to 9999. A later one counts as the same of the last 400 years before
-- 30 December 9999, 22:00:01: the calendar repeats after 400 years, which have this many seconds
abbrev pub within_9999 : ℕ → ℕ
within_9999 seconds = if nat_lt seconds 253402207201 then seconds
    else 240779426401 + (seconds - 253402207201) % 12622780800

-- the seconds that a clock is ahead of UTC at a second since 1970
abbrev pub offset_at : Zone → ℕ → ℤ
offset_at zone seconds = zone_offset zone (nanos_of_seconds (pos (within_9999 seconds)))

-- a moment, in microseconds since 1970, moved by an offset in seconds, within 64 bits
abbrev pub moved : ℤ → ℕ → ℕ
moved offset micros = if int_lt offset (pos 0)
    then micros - unsigned_abs offset * 1000000
    else min (micros + unsigned_abs offset * 1000000) 18446744073709551615

-- the microseconds since 1970 that a clock in the zone shows
abbrev pub local_time : Zone → ℕ → ℕ
local_time zone micros = moved (offset_at zone (micros / 1000000)) micros
