-- The JSON object of a result.
use Rattle.std.specs.Prelude.{ℕ, List, [], ◌∷◌, ◌++◌, codes}
use Rattle.lapd_cli_conform.specs.declared.escaped.Format.TheVariants.{Json}
use Rattle.lapd_cli_conform.specs.declared.results.CaseReport.{CaseReport}
use Rattle.lapd_cli_conform.specs.Escaped.{escaped}
use Rattle.lapd_cli_conform.specs.Results.{grade_word}

-- a string, in quotes
abbrev pub quoted : List ℕ → List ℕ
quoted text = 34 ∷ escaped Json text ++ 34 ∷ []

-- a member after another one; an empty one is left out
abbrev pub member_text : List ℕ → List ℕ → List ℕ
member_text name [] = []
member_text name (octet ∷ value) = codes ",\"" ++ name ++ codes "\":" ++ quoted (octet ∷ value)

abbrev pub object_line : CaseReport → List ℕ
object_line r = codes "{\"case\":" ++ quoted r.name.now
    ++ member_text (codes "clause") r.clause.now
    ++ member_text (codes "needs") r.needs.now
    ++ member_text (codes "reason") r.reason.now
    ++ member_text (codes "seen") r.seen.now
    ++ member_text (codes "suite") r.suite.now
    ++ member_text (codes "title") r.title.now
    ++ member_text (codes "verdict") (grade_word r.grade)
    ++ member_text (codes "wanted") r.wanted.now
    ++ codes "}\n"
