use Rattle.std.proofs.Common.{rules}
use Rattle.lapd_cli_grammar.proofs.line_forms.forms.Goals as goal

pub returns-in-Loop : goal.returns-in-Loop
returns-in-Loop c = search rules
