-- Plans of drawn stimuli: rounds of 30.
use Rattle.std.specs.Prelude.{ℕ, ◌+◌, ◌-◌, ◌*◌, ◌/◌, min}

abbrev pub round_count : ℕ → ℕ
round_count count = (count + 29) / 30

-- the stimuli of the round with this number, from 1; the last round may have fewer than 30
abbrev pub stimuli_of : ℕ → ℕ → ℕ
stimuli_of count number = min (count - (number - 1) * 30) 30
