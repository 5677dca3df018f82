-- Settings have a configuration exactly if none is out of its range.
use Rattle.std.proofs.Common.{◌≡◌, ℕ, Bool, true, false, Option, Some, None, refl}
use Rattle.std.specs.Prelude.{◌==◌, ◌&&◌, ◌||◌, not, is_some, if◌then◌else◌}
use Rattle.std.specs.List.{list_all}
use Rattle.lapd_timers.specs.Durations.{Lengths, is_length}
use Rattle.lapd_link_definition.specs.Parameters.{Parameters, lies_between}
use Rattle.lapd_link_definition.specs.declared.recovery.Recovery.TheVariants.{Enquiry}
use Rattle.lapd_c.specs.declared.settings.Settings.{Settings}
use Rattle.lapd_c.specs.declared.settings.TheConstants.{SETTINGS_SIZE}
use Rattle.lapd_c.specs.Settings.{config_of, config_with, is_0}
use Rattle.lapd_c.specs.WrongSetting.{wrong_setting}

-- the parameters with this window, and the durations, if these tests hold
abbrev parameters_if : Settings → ℕ → (k n200 room : Bool) → Option Parameters
parameters_if s window k n200 room = if k && (n200 && room)
    then Some (record { k = window; n200 = s.n200; room = s.room; recovery = Enquiry }) else None

abbrev lengths_if : Settings → (t200 t201 t202 t203 : Bool) → Option Lengths
lengths_if s t200 t201 t202 t203 = if t200 && (t201 && (t202 && t203))
    then Some (record { t200 = s.t200; t201 = s.t201; t202 = s.t202; t203 = s.t203 }) else None

-- whether there is a configuration, by the tests of the settings
abbrev has_config : Settings → (size no_most unused k0 n200 room k16 t200 t201 t202 t203 : Bool) → Bool
has_config s size no_most unused k0 n200 room k16 t200 t201 t202 t203 =
    is_some (if not size || (no_most || not unused) then None
    else config_with s (parameters_if s s.k0 k0 n200 room) (parameters_if s s.k16 k16 n200 room)
    (lengths_if s t200 t201 t202 t203))

-- the number of the first test that fails
abbrev first_failed : (size no_most unused k0 n200 room k16 t200 t201 t202 t203 : Bool) → ℕ
first_failed size no_most unused k0 n200 room k16 t200 t201 t202 t203 =
    if not size then 1 else (
    if no_most then 7 else (
    if not unused then 11 else (
    if not k0 then 9 else (
    if not n200 then 8 else (
    if not room then 6 else (
    if not k16 then 10 else (
    if not t200 then 2 else (
    if not t201 then 3 else (
    if not t202 then 4 else (
    if not t203 then 5 else 0))))))))))

by_tests : (s : Settings) (size no_most unused k0 n200 room k16 t200 t201 t202 t203 : Bool)
    → has_config s size no_most unused k0 n200 room k16 t200 t201 t202 t203
    ≡ (first_failed size no_most unused k0 n200 room k16 t200 t201 t202 t203 == 0)
by_tests s false b c d e f g h i j k = refl
by_tests s true true c d e f g h i j k = refl
by_tests s true false false d e f g h i j k = refl
by_tests s true false true false e f g h i j k = refl
by_tests s true false true true false f g h i j k = refl
by_tests s true false true true true false g h i j k = refl
by_tests s true false true true true true false h i j k = refl
by_tests s true false true true true true true false i j k = refl
by_tests s true false true true true true true true false j k = refl
by_tests s true false true true true true true true true false k = refl
by_tests s true false true true true true true true true true false = refl
by_tests s true false true true true true true true true true true = refl

pub checked : (s : Settings) → is_some (config_of s) ≡ (wrong_setting s == 0)
checked s =
    by_tests s (s.size == SETTINGS_SIZE) (s.most_waiting == 0) (list_all is_0 s.reserved)
    (lies_between 1 s.k0 127) (lies_between 1 s.n200 100) (lies_between 1 s.room 1024)
    (lies_between 1 s.k16 127) (is_length s.t200) (is_length s.t201) (is_length s.t202)
    (is_length s.t203)
