use Rattle.std.proofs.Common.{refl}
use Rattle.std.specs.Str.{chars, is_utf8}
use Rattle.lapd_cli_grammar.proofs.laws.worked_lines_by_form.Goals as goal

pub returns-clause-words : goal.returns-clause-words
unfolding is_utf8 chars lib.Utf8.encode
returns-clause-words c = refl
