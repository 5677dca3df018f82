use Rattle.std.proofs.Common.{rules}
use Rattle.lapd_cli_script.proofs.script.append_cut.Goals as goal

pub returns-then-is_comment-clause-ok : goal.returns-then-is_comment-clause-ok
returns-then-is_comment-clause-ok c = search rules
