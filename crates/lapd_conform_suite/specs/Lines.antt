-- The lines of a suite: the first word says what the others mean.
use Rattle.std.specs.Prelude.{ℕ, ◌==◌, List, [], ◌∷◌, length, slice_index, if◌then◌else◌, None, Result, Ok, Err}
use Rattle.std.specs.List.{join_with_byte}
use Rattle.lapd_cli_script.specs.Line.{is_digit, words_of}
use Rattle.lapd_conform_suite.specs.declared.fault.Wanted.{Wanted}
use Rattle.lapd_conform_suite.specs.declared.fault.Wanted.TheVariants as wanted
use Rattle.lapd_conform_suite.specs.declared.line.Step.{Step}
use Rattle.lapd_conform_suite.specs.declared.line.Step.TheVariants as step
use Rattle.lapd_conform_suite.specs.declared.number.Number.{Number}
use Rattle.lapd_conform_suite.specs.declared.words.Keyword.{Keyword}
use Rattle.lapd_conform_suite.specs.declared.words.Keyword.TheVariants as keyword
use Rattle.lapd_conform_suite.specs.Frames.{FrameWords, frame_in, is_comparable, is_sendable}
use Rattle.lapd_conform_suite.specs.Names.{name_at}
use Rattle.lapd_conform_suite.specs.Numbers.{counted, number_at, span_at}
use Rattle.lapd_conform_suite.specs.Reading.{Wrong, ended, first_of, read_on, rest_of, value_at}
use Rattle.lapd_conform_suite.specs.Words.{keywords, needs, preambles, requests, sides, timers}

-- what a line says, and its text
abbrev pub LineWords : Type 0
LineWords = Step × List ℕ

-- a line without text
abbrev pub plain : Step → LineWords
plain s = (s, [])

-- the last word, by a table or as a number
abbrev pub last_value : {A : Type 0} → List (List ℕ × A) → Wanted → List (List ℕ)
    → Result A Wrong
last_value rows w words = read_on (value_at rows w (first_of words)) (λ v.
    read_on (ended (rest_of words)) (λ done. Ok v))

abbrev pub last_number : List (List ℕ) → Result Number Wrong
last_number words = read_on (number_at (first_of words)) (λ n.
    read_on (ended (rest_of words)) (λ done. Ok n))

-- text of at least one octet
abbrev pub some_text : Wanted → List ℕ → Result (List ℕ) Wrong
some_text w text = if length text == 0 then Err ([], w) else Ok text

abbrev pub text_in : Wanted → List (List ℕ) → Result (List ℕ) Wrong
text_in w words = some_text w (join_with_byte 32 words)

-- text that begins with a digit, as the number of a clause does
abbrev pub clause_text : List ℕ → Result (List ℕ) Wrong
clause_text text = if is_digit (slice_index text 0) then Ok text else Err (text, wanted.Clause)

abbrev pub clause_in : List (List ℕ) → Result (List ℕ) Wrong
clause_in words = read_on (text_in wanted.Clause words) clause_text

-- a frame that can be sent, or that is compared
abbrev pub sendable_in : List (List ℕ) → Result FrameWords Wrong
sendable_in words = read_on (frame_in words) (λ f.
    if is_sendable f.0 then Ok f else Err ([], wanted.Sendable))

abbrev pub comparable_in : List (List ℕ) → Result FrameWords Wrong
comparable_in words = read_on (frame_in words) (λ f.
    if is_comparable f.0 then Ok f else Err ([], wanted.Comparable))

-- how often, or for which TEI; once if it is left out
abbrev pub count_in : List (List ℕ) → Result Number Wrong
count_in [] = Ok (counted None 1)
count_in (word ∷ words) = read_on (number_at word) (λ n. read_on (ended words) (λ done. Ok n))

abbrev pub request_in : List (List ℕ) → Result LineWords Wrong
request_in words = read_on (value_at requests wanted.Request (first_of words)) (λ r.
    read_on (count_in (rest_of words)) (λ n. Ok (plain (step.Do r n))))

abbrev pub line_by : Keyword → List (List ℕ) → Result LineWords Wrong
line_by keyword.Case words = read_on (name_at (first_of words)) (λ name.
    read_on (text_in wanted.Title (rest_of words)) (λ title. Ok (step.Case name, title)))
line_by keyword.Clause words = read_on (clause_in words) (λ text. Ok (step.Clause, text))
line_by keyword.Ends words =
    read_on (last_value sides wanted.Side words) (λ v. Ok (plain (step.Ends v)))
line_by keyword.Needs words =
    read_on (last_value needs wanted.Need words) (λ v. Ok (plain (step.Needs v)))
line_by keyword.State words =
    read_on (last_value preambles wanted.Preamble words) (λ v. Ok (plain (step.State v)))
line_by keyword.Send words = read_on (sendable_in words) (λ f. Ok (step.Send f.0, f.1))
line_by keyword.Do words = request_in words
line_by keyword.Expect words = read_on (comparable_in words) (λ f. Ok (step.Expect f.0, f.1))
line_by keyword.Or words = read_on (comparable_in words) (λ f. Ok (step.Or f.0, f.1))
line_by keyword.And words = read_on (comparable_in words) (λ f. Ok (step.And f.0, f.1))
line_by keyword.At words = read_on (last_value timers wanted.Timer words) (λ v. Ok (plain (step.At v)))
line_by keyword.Within words = read_on (span_at words) (λ v. Ok (plain (step.Within v)))
line_by keyword.Quiet words = read_on (span_at words) (λ v. Ok (plain (step.Quiet v)))
line_by keyword.Pause words = read_on (span_at words) (λ v. Ok (plain (step.Pause v)))
line_by keyword.Allow words = read_on (comparable_in words) (λ f. Ok (step.Allow f.0, f.1))
line_by keyword.Forget words = read_on (ended words) (λ done. Ok (plain step.Forget))
line_by keyword.Repeat words = read_on (last_number words) (λ n. Ok (plain (step.Repeat n)))
line_by keyword.End words = read_on (ended words) (λ done. Ok (plain step.End))

abbrev pub line_in : List ℕ → Result LineWords Wrong
line_in line = read_on (value_at keywords wanted.Keyword (first_of (words_of line)))
    (λ k. line_by k (rest_of (words_of line)))
