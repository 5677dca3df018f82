-- Numbers, values of fields and times.
use Rattle.std.specs.Prelude.{ℕ, nat_le, ◌==◌, List, [], ◌∷◌, if◌then◌else◌, Option, Some, None, option_and_then, Result, Ok, Err}
use Rattle.lapd_cli_script.specs.Line.{parsed_number}
use Rattle.lapd_conform_suite.specs.declared.fault.Wanted.TheVariants as wanted
use Rattle.lapd_conform_suite.specs.declared.number.Number.{Number}
use Rattle.lapd_conform_suite.specs.declared.number.Span.{Span}
use Rattle.lapd_conform_suite.specs.declared.number.Value.{Value}
use Rattle.lapd_conform_suite.specs.declared.number.Value.TheVariants.{Choice, Is}
use Rattle.lapd_conform_suite.specs.declared.words.Base.{Base}
use Rattle.lapd_conform_suite.specs.declared.words.Choice.{Choice as ChoiceWord}
use Rattle.lapd_conform_suite.specs.declared.words.TimeUnit.{TimeUnit}
use Rattle.lapd_conform_suite.specs.Reading.{Wrong, ended, first_of, front_value, or_wrong, read_on, rest_of, value_at, value_named}
use Rattle.lapd_conform_suite.specs.Words.{bases, choices, units}

-- a number up to 65,535, counted from a base if there is one
abbrev pub counted : Option Base → ℕ → Number
counted base n = record { base = base; plus = n }

abbrev pub small_at : Option Base → ℕ → Option Number
small_at base n = if nat_le n 65535 then Some (counted base n) else None

-- a base alone, or a base, `+` and a number
abbrev pub plus_at : Base → List ℕ → Option Number
plus_at base [] = Some (counted (Some base) 0)
plus_at base (octet ∷ digits) =
    if octet == 43 then option_and_then (small_at (Some base)) (parsed_number digits) else None

abbrev pub by_front : Option (Base × List ℕ) → Option Number
by_front None = None
by_front (Some front) = plus_at front.0 front.1

abbrev pub by_digits : Option ℕ → List ℕ → Option Number
by_digits (Some n) word = small_at None n
by_digits None word = by_front (front_value bases word)

-- a number alone, or one that counts from a base
abbrev pub counted_from : List ℕ → Option Number
counted_from word = by_digits (parsed_number word) word

abbrev pub number_at : List ℕ → Result Number Wrong
number_at word = or_wrong word wanted.Number (counted_from word)

-- the value of a field: a word for several values, or a number
abbrev pub by_choice : Option ChoiceWord → List ℕ → Result Value Wrong
by_choice (Some choice) word = Ok (Choice choice)
by_choice None word = read_on (number_at word) (λ n. Ok (Is n))

abbrev pub value_in : List ℕ → Result Value Wrong
value_in word = by_choice (value_named choices word) word

-- a time: a number up to 100,000 and its unit
abbrev pub amount_by : List ℕ → Option ℕ → Result ℕ Wrong
amount_by word None = Err (word, wanted.Amount)
amount_by word (Some n) = if nat_le n 100000 then Ok n else Err (word, wanted.Amount)

abbrev pub amount_at : List ℕ → Result ℕ Wrong
amount_at word = amount_by word (parsed_number word)

abbrev pub span : ℕ → TimeUnit → Span
span amount unit = record { amount = amount; unit = unit }

abbrev pub span_at : List (List ℕ) → Result Span Wrong
span_at words = read_on (amount_at (first_of words)) (λ amount.
    read_on (value_at units wanted.Unit (first_of (rest_of words))) (λ unit.
    read_on (ended (rest_of (rest_of words))) (λ done.
    Ok (span amount unit))))
