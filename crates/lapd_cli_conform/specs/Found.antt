-- The result of a drawn case that failed, as a suite.
use Rattle.std.specs.Prelude.{ℕ, List, ◌++◌, codes}
use Rattle.lapd_cli_conform.specs.declared.results.CaseReport.{CaseReport}
use Rattle.lapd_cli_conform.specs.Results.{result_line}

-- what may be done with the text
abbrev pub hint : List ℕ
hint = codes "# The least case that fails. --suite FILE plays it again, if FILE has these lines.\n"

-- the line of the result as a comment, the hint, and the case
abbrev pub found_text : CaseReport → List ℕ
found_text r = codes "# " ++ result_line r ++ hint ++ r.suite.now
