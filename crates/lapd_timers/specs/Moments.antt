-- Moments, in milliseconds, each of which may be unset.
use Rattle.std.specs.Prelude.{ℕ, min, Option, Some, None}

-- the earlier of two optional moments
abbrev pub earlier : Option ℕ → Option ℕ → Option ℕ
earlier None other = other
earlier (Some one) None = Some one
earlier (Some one) (Some other) = Some (min one other)
