-- The order of the codes of a call that passes something in.
use Rattle.std.specs.Prelude.{◌≡◌, ◌&&◌, ℕ, nat_eq, not, Bool, true, false, Some, None}
use Rattle.lapd_c.specs.Calls.{is_full}
use Rattle.lapd_c.specs.Codes.{no_side, out_of_range, pending}
use Rattle.lapd_c.specs.Owned.{Held}

-- the handle owns no side
abbrev pub owns_none : Held → Bool
owns_none None = true
owns_none (Some held) = false

-- the handle owns a side, and too many results wait to be fetched
abbrev pub owns_full : Held → Bool
owns_full None = false
owns_full (Some held) = is_full held

-- Code 3 is returned exactly if a number is out of range, otherwise code 1 exactly if the handle
-- owns no side, otherwise code 2 exactly if too many results wait.
pub record ReturnsInOrder (in_range : Bool) (old : Held) (code : ℕ) : Type 0 where
  pub range : nat_eq code out_of_range ≡ not in_range
  pub side : nat_eq code no_side ≡ in_range && owns_none old
  pub room : nat_eq code pending ≡ in_range && owns_full old
