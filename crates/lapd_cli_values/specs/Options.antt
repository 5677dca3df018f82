-- The values that options accept.
use Rattle.std.specs.Prelude.{◌≡◌, ℕ, ◌≤◌, List, ◌⊎◌}
use Rattle.std.specs.Str.Parse.{digits_value, IsNumeral}

-- a number in decimal digits, from `least` to `most`
pub record IsNumberFrom (least most : ℕ) (text : List ℕ) : Type 0 where
  pub digits : IsNumeral 10 text
  pub low : least ≤ digits_value 10 text
  pub high : digits_value 10 text ≤ most

-- the text is one of the three, and `most` is the last number of its range
abbrev pub IsRangeOf : List ℕ → List ℕ → List ℕ → ℕ → List ℕ → Type 0
IsRangeOf k n200 room most text = ((text ≡ k) × (most ≡ 127)) ⊎ ((text ≡ n200) × (most ≡ 100))
    ⊎ ((text ≡ room) × (most ≡ 1024))
