-- Whole suites: their lines, and the order of lines.
use Rattle.std.specs.Prelude.{◌≡◌, ℕ, ◌+◌, ◌*◌, nat_lt, true, false, List, [], ◌∷◌, ◌++◌, map, if◌then◌else◌, Result, Ok, Err, ⊤}
use Rattle.lapd_cli_script.specs.Script.{is_passed_over, lines_of}
use Rattle.lapd_conform_suite.specs.declared.fault.SuiteFault.{SuiteFault}
use Rattle.lapd_conform_suite.specs.declared.fault.SuiteFault.TheVariants.{Line, Memory}
use Rattle.lapd_conform_suite.specs.declared.fault.Wanted.{Wanted}
use Rattle.lapd_conform_suite.specs.declared.fault.Wanted.TheVariants as wanted
use Rattle.lapd_conform_suite.specs.declared.line.Step.{Step}
use Rattle.lapd_conform_suite.specs.declared.line.Step.TheVariants as step
use Rattle.lapd_conform_suite.specs.declared.name.Name.{Name}
use Rattle.lapd_conform_suite.specs.declared.suite.NumberedLine.{NumberedLine}
use Rattle.lapd_conform_suite.specs.declared.suite.Place.{Place}
use Rattle.lapd_conform_suite.specs.declared.suite.Place.TheVariants.{Answer, Named, Outside, Ready, Steps}
use Rattle.lapd_conform_suite.specs.declared.suite.Progress.{Progress}
use Rattle.lapd_conform_suite.specs.Lines.{LineWords, line_in}
use Rattle.lapd_conform_suite.specs.Names.{slot_of}
use Rattle.lapd_conform_suite.specs.Reading.{Wrong, read_on}

-- ---- The order of lines.

-- before the first line
abbrev pub start : Progress
start = record { place = Outside; repeats = false; least = 0 }

-- the place of a name in the order of names: by state, then class, then number
abbrev pub key_of : Name → ℕ
key_of name = slot_of name * 256 + name.number

-- a case begins: the one before it has a clause and a step, and a lesser name
abbrev pub next_name : Progress → Name → Result Progress Wanted
next_name p name = if nat_lt (key_of name) p.least then Err wanted.NewName
    else Ok (record { place = Named; repeats = false; least = key_of name + 1 })

abbrev pub case_at : Place → Progress → Name → Result Progress Wanted
case_at Named p name = Err wanted.ClauseNext
case_at Ready p name = Err wanted.Step
case_at other p name = next_name p name

abbrev pub after_case : Progress → Name → Result Progress Wanted
after_case p name = if p.repeats then Err wanted.EndOfRepetition else case_at p.place p name

-- the clause follows the case
abbrev pub clause_at : Place → Progress → Result Progress Wanted
clause_at Outside p = Err wanted.CaseFirst
clause_at Named p = Ok (record p { place = Ready })
clause_at other p = Err wanted.Step

-- what a case is for, and what it needs, follow the clause
abbrev pub head_at : Place → Progress → Result Progress Wanted
head_at Outside p = Err wanted.CaseFirst
head_at Named p = Err wanted.ClauseNext
head_at Ready p = Ok p
head_at other p = Err wanted.Step

-- a step follows the head
abbrev pub step_at : Place → Progress → Place → Result Progress Wanted
step_at Outside p place = Err wanted.CaseFirst
step_at Named p place = Err wanted.ClauseNext
step_at other p place = Ok (record p { place = place })

abbrev pub step_in : Progress → Place → Result Progress Wanted
step_in p place = step_at p.place p place

-- what belongs to an expectation follows it
abbrev pub answer_at : Place → Progress → Place → Result Progress Wanted
answer_at Answer p place = Ok (record p { place = place })
answer_at other p place = Err wanted.Expectation

-- repetitions are not nested
abbrev pub after_repeat : Progress → Result Progress Wanted
after_repeat p = if p.repeats then Err wanted.EndOfRepetition
    else step_in (record p { repeats = true }) Steps

abbrev pub after_end : Progress → Result Progress Wanted
after_end p = if p.repeats then step_in (record p { repeats = false }) Steps
    else Err wanted.EndOfRepetition

-- after a line that says this
abbrev pub after_step : Progress → Step → Result Progress Wanted
after_step p (step.Case name) = after_case p name
after_step p step.Clause = clause_at p.place p
after_step p (step.Ends side) = head_at p.place p
after_step p (step.Needs need) = head_at p.place p
after_step p (step.Expect f) = step_in p Answer
after_step p (step.Or f) = answer_at p.place p Answer
after_step p (step.And f) = answer_at p.place p Answer
after_step p (step.At timer) = answer_at p.place p Steps
after_step p (step.Within span) = answer_at p.place p Steps
after_step p (step.Repeat n) = after_repeat p
after_step p step.End = after_end p
after_step p other = step_in p Steps

-- a suite ends after a step
abbrev pub ends_at : Place → Result ⊤ Wanted
ends_at Outside = Err wanted.CaseFirst
ends_at Named = Err wanted.ClauseNext
ends_at Ready = Err wanted.Step
ends_at other = Ok tt

abbrev pub end_in : Progress → Result ⊤ Wanted
end_in p = if p.repeats then Err wanted.EndOfRepetition else ends_at p.place

-- ---- A suite.

-- the number of the wrong line, from 1, and what is wrong
abbrev pub WrongLine : Type 0
WrongLine = ℕ × Wrong

abbrev pub of_line : {A : Type 0} → ℕ → Result A Wrong → Result A WrongLine
of_line n (Ok a) = Ok a
of_line n (Err wrong) = Err (n, wrong)

abbrev pub of_place : {A : Type 0} → ℕ → Result A Wanted → Result A WrongLine
of_place n (Ok a) = Ok a
of_place n (Err w) = Err (n, ([], w))

-- a line, and what may follow it
abbrev pub line_after : Progress → ℕ → List ℕ → Result (LineWords × Progress) WrongLine
line_after p n line = read_on (of_line n (line_in line)) (λ l.
    read_on (of_place n (after_step p l.0)) (λ q. Ok (l, q)))

-- the lines in front of others
abbrev pub prepended : {A : Type 0} → List A → Result (List A) WrongLine → Result (List A) WrongLine
prepended xs (Ok ys) = Ok (xs ++ ys)
prepended xs (Err wrong) = Err wrong

-- the lines with their numbers, from the line with number n on
abbrev pub lines_from : ℕ → Progress → List (List ℕ) → Result (List (ℕ × LineWords)) WrongLine
lines_from n p [] = read_on (of_place n (end_in p)) (λ done. Ok [])
lines_from n p (line ∷ lines) = if is_passed_over line then lines_from (n + 1) p lines
    else read_on (line_after p n line) (λ l.
    prepended ((n, l.0) ∷ []) (lines_from (n + 1) l.1 lines))

abbrev pub suite_in : List ℕ → Result (List (ℕ × LineWords)) WrongLine
suite_in text = lines_from 1 start (lines_of text)

-- ---- How the code reads.

abbrev pub ReadsAt : {X Y : Type 0} → (X → Y) → Result X SuiteFault → Result Y WrongLine → Type 0
ReadsAt view (Ok x) read = read ≡ Ok (view x)
ReadsAt view (Err (Line n fault)) read = read ≡ Err (n, (fault.found.now, fault.wanted))
ReadsAt view (Err Memory) read = ⊤

abbrev pub numbered_words : NumberedLine → ℕ × LineWords
numbered_words l = (l.number, (l.line.step, l.line.text.now))

-- the lines that were read, in front of those that are left
abbrev pub after_lines : List NumberedLine → Result (List (ℕ × LineWords)) WrongLine
    → Result (List (ℕ × LineWords)) WrongLine
after_lines lines rest = prepended (map numbered_words lines) rest

-- the suite `all` is what `read` says of the next place, or the line is wrong
abbrev pub GoesOn : {Y : Type 0} → (Progress → Result Y WrongLine) → Result Progress SuiteFault
    → Result Y WrongLine → Type 0
GoesOn read (Ok after) all = all ≡ read after
GoesOn read (Err (Line n fault)) all = all ≡ Err (n, (fault.found.now, fault.wanted))
GoesOn read (Err Memory) all = ⊤
