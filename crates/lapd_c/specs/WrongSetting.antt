-- Which setting is out of its range, by the numbers of lapd_setting in c/lapd.h.
use Rattle.std.specs.Prelude.{◌≡◌, ℕ, ◌==◌, not, if◌then◌else◌}
use Rattle.std.specs.List.{list_all}
use Rattle.lapd_timers.specs.Durations.{is_length}
use Rattle.lapd_link_definition.specs.Parameters.{lies_between}
use Rattle.lapd_c.specs.declared.settings.Settings.{Settings}
use Rattle.lapd_c.specs.declared.settings.TheConstants.{SETTINGS_SIZE}
use Rattle.lapd_c.specs.Codes.{done, out_of_range}
use Rattle.lapd_c.specs.Settings.{is_0}

-- The number of a setting that is out of its range, and 0 if none is. If several are, it is the first
-- of this list. Another size comes first, since then the other settings may lie elsewhere.
abbrev pub wrong_setting : Settings → ℕ
wrong_setting s =
    if not (s.size == SETTINGS_SIZE) then 1 else (
    if s.most_waiting == 0 then 7 else (
    if not (list_all is_0 s.reserved) then 11 else (
    if not (lies_between 1 s.k0 127) then 9 else (
    if not (lies_between 1 s.n200 100) then 8 else (
    if not (lies_between 1 s.room 1024) then 6 else (
    if not (lies_between 1 s.k16 127) then 10 else (
    if not (is_length s.t200) then 2 else (
    if not (is_length s.t201) then 3 else (
    if not (is_length s.t202) then 4 else (
    if not (is_length s.t203) then 5 else 0))))))))))

abbrev pub code_of_setting : ℕ → ℕ
code_of_setting setting = if setting == 0 then done else out_of_range

-- the setting that is out of its range, and the code for it
pub record ChecksSettings (s : Settings) (code setting : ℕ) : Type 0 where
  pub named : setting ≡ wrong_setting s
  pub coded : code ≡ code_of_setting setting
