-- Counts of verdicts, and the exit status.
use Rattle.std.specs.Prelude.{ℕ, ◌+◌, ◌-◌, ◌^◌, ◌==◌, if◌then◌else◌, min}
use Rattle.lapd_cli_conform.specs.declared.results.Grade.{Grade}
use Rattle.lapd_cli_conform.specs.declared.results.Grade.TheVariants.{Pass, Fail, Known, Inconclusive, NotApplicable}
use Rattle.lapd_cli_conform.specs.declared.tally.Tally.{Tally}

abbrev pub no_case : Tally
no_case = record { passed = 0; failed = 0; known = 0; inconclusive = 0; not_applicable = 0 }

-- one more, up to the greatest number of 64 bits
abbrev pub one_more : ℕ → ℕ
one_more n = min (n + 1) (2 ^ 64 - 1)

abbrev pub counted : Tally → Grade → Tally
counted t Pass = record t { passed = one_more t.passed }
counted t Fail = record t { failed = one_more t.failed }
counted t Known = record t { known = one_more t.known }
counted t Inconclusive = record t { inconclusive = one_more t.inconclusive }
counted t NotApplicable = record t { not_applicable = one_more t.not_applicable }

-- 1 after a fail that is not known, 4 if no case passed or failed
abbrev pub status_of : Tally → ℕ
status_of t = if t.failed == 0
    then (if t.passed == 0 then (if t.known == 0 then 4 else 0) else 0) else 1
