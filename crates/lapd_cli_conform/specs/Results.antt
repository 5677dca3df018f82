-- The line of a result.
use Rattle.std.specs.Prelude.{Bool, true, false, ℕ, List, [], ◌∷◌, ◌++◌, codes}
use Rattle.lapd_cli_conform.specs.declared.results.CaseReport.{CaseReport}
use Rattle.lapd_cli_conform.specs.declared.results.Grade.{Grade}
use Rattle.lapd_cli_conform.specs.declared.results.Grade.TheVariants.{Pass, Fail, Known, Inconclusive, NotApplicable}

abbrev pub grade_word : Grade → List ℕ
grade_word Pass = codes "pass"
grade_word Fail = codes "fail"
grade_word Known = codes "known"
grade_word Inconclusive = codes "inconclusive"
grade_word NotApplicable = codes "n/a"

-- the grade of a case that is known to fail (true), or not
abbrev pub known_grade : Grade → Bool → Grade
known_grade Fail true = Known
known_grade grade known = grade

-- a part after the title; an empty one is left out
abbrev pub part_text : List ℕ → List ℕ → List ℕ
part_text name [] = []
part_text name (octet ∷ value) = codes "; " ++ name ++ octet ∷ value

-- the frames that were expected, and the one that was received
abbrev pub frames_text : CaseReport → List ℕ
frames_text r = part_text (codes "wanted ") r.wanted.now ++ part_text (codes "seen ") r.seen.now

-- what explains the verdict
abbrev pub tail_by : Grade → CaseReport → List ℕ
tail_by Pass r = part_text [] r.reason.now
tail_by NotApplicable r = part_text (codes "needs ") r.needs.now
tail_by Inconclusive r = part_text [] r.reason.now ++ frames_text r
tail_by Fail r = part_text [] r.reason.now ++ part_text (codes "clause ") r.clause.now
    ++ frames_text r
tail_by Known r = part_text [] r.reason.now ++ part_text (codes "clause ") r.clause.now
    ++ frames_text r

-- the verdict, the name, the title, and what explains the verdict
abbrev pub result_line : CaseReport → List ℕ
result_line r = grade_word r.grade ++ 32 ∷ r.name.now ++ 32 ∷ r.title.now
    ++ tail_by r.grade r ++ 10 ∷ []
