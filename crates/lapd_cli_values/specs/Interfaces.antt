-- The values chosen by the options of `net` and `user`, and the text of a TEI.
use Rattle.std.specs.Prelude.{ℕ, List, [], ◌∷◌, map, codes, Bool, true, false, Option, Some, None, option_map, ⊤}
use Rattle.std.specs.List.{All}
use Rattle.std.specs.Str.Parse.{digits_value}
use Rattle.lapd_frame.specs.declared.Sapi.{Sapi}
use Rattle.lapd_frame.specs.declared.Sapi.TheVariants.{Packet}
use Rattle.lapd_timers.specs.Durations.{Lengths}
use Rattle.lapd_link_definition.specs.declared.recovery.Recovery.{Recovery}
use Rattle.lapd_link_definition.specs.Parameters.{Parameters}
use Rattle.lapd_cli_values.specs.Numerals.{parameters_written}
use Rattle.lapd_cli_values.specs.Options.{IsNumberFrom}

-- the default window (Q.921 5.9.5): 7 at primary rate; at basic access 3 for packet communication,
-- else 1
abbrev pub default_window : Bool → Sapi → List ℕ
default_window true sapi = codes "7"
default_window false Packet = codes "3"
default_window false sapi = codes "1"

abbrev pub window_meant : Bool → Sapi → Option (List ℕ) → List ℕ
window_meant pri sapi None = default_window pri sapi
window_meant pri sapi (Some k) = k

-- the parameters with these numbers and this recovery
abbrev pub link_written : List ℕ → List ℕ → List ℕ → Recovery → Parameters
link_written k n200 room recovery = record (parameters_written k n200 room) { recovery = recovery }

-- ---- Timers, in milliseconds.

abbrev pub lengths_written : List ℕ → List ℕ → List ℕ → List ℕ → Lengths
lengths_written t200 t201 t202 t203 = record {
  t200 = digits_value 10 t200;
  t201 = digits_value 10 t201;
  t202 = digits_value 10 t202;
  t203 = digits_value 10 t203;
}

-- each is in decimal digits, from a millisecond to an hour
pub record AreLengths (t200 t201 t202 t203 : List ℕ) : Type 0 where
  pub t200_is : IsNumberFrom 1 3600000 t200
  pub t201_is : IsNumberFrom 1 3600000 t201
  pub t202_is : IsNumberFrom 1 3600000 t202
  pub t203_is : IsNumberFrom 1 3600000 t203

-- ---- The seed, which may be left out.

abbrev pub IsSeed : Option (List ℕ) → Type 0
IsSeed None = ⊤
IsSeed (Some text) = IsNumberFrom 0 18446744073709551615 text

abbrev pub seed_meant : Option (List ℕ) → Option ℕ
seed_meant seed = option_map (digits_value 10) seed

-- ---- TEIs.

-- the numbers that these texts spell; each must be a TEI that a terminal may have (Q.921 3.3.4)
abbrev pub teis_written : List (List ℕ) → List ℕ
teis_written texts = map (digits_value 10) texts

abbrev pub AreTeis : List (List ℕ) → Type 0
AreTeis texts = All (IsNumberFrom 0 126) texts

-- the listed TEIs, in order; at primary rate TEI 0 if the list is empty
abbrev pub teis_meant : Bool → List ℕ → List ℕ
teis_meant true [] = 0 ∷ []
teis_meant pri teis = teis

abbrev pub first_of : List ℕ → Option ℕ
first_of [] = None
first_of (tei ∷ teis) = Some tei
