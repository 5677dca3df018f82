-- A history's room and the lines that it keeps.
use Rattle.std.specs.Prelude.{ℕ, ◌-◌, List, length, drop}

pub record HistoryLines : Type 0 where
  pub room : ℕ
  pub lines : List (List ℕ)

-- the last n of these lines
abbrev pub last_of : ℕ → List (List ℕ) → List (List ℕ)
last_of n lines = drop (length lines - n) lines
