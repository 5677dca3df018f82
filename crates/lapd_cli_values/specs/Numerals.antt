-- The numbers of a link, written as text.
use Rattle.std.specs.Prelude.{ℕ, List}
use Rattle.std.specs.Str.Parse.{digits_value, IsNumeral}
use Rattle.lapd_link_definition.specs.declared.recovery.Recovery.TheVariants.{Enquiry}
use Rattle.lapd_link_definition.specs.Parameters.{Parameters, AreInRange}

-- the parameters with the numbers that these texts spell in decimal digits
abbrev pub parameters_written : List ℕ → List ℕ → List ℕ → Parameters
parameters_written k n200 room = record {
  k = digits_value 10 k;
  n200 = digits_value 10 n200;
  room = digits_value 10 room;
  recovery = Enquiry;
}

-- all three are in decimal digits, and in their ranges
pub record AreWritten (k n200 room : List ℕ) : Type 0 where
  pub k_digits : IsNumeral 10 k
  pub n200_digits : IsNumeral 10 n200
  pub room_digits : IsNumeral 10 room
  pub in_range : AreInRange (parameters_written k n200 room)
