-- Words in columns of fixed width.
use Rattle.std.specs.Prelude.{ℕ, ◌-◌, nat_le, if◌then◌else◌, List, ◌++◌, codes, length, replicate, take}

-- words, and behind them this octet up to this width; longer words are unchanged
abbrev pub filled : ℕ → ℕ → List ℕ → List ℕ
filled octet width words = words ++ replicate (width - length words) octet

-- words at the left, or at the right, of a column of this width
abbrev pub at_left : ℕ → List ℕ → List ℕ
at_left width words = filled 32 width words

abbrev pub at_right : ℕ → List ℕ → List ℕ
at_right width words = replicate (width - length words) 32 ++ words

-- words of at most this length; longer ones are cut, and end with two points
abbrev pub shortened : ℕ → List ℕ → List ℕ
shortened most words = if nat_le (length words) most then words
    else take (most - 2) words ++ codes ".."
