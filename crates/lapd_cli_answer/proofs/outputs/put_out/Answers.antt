use Rattle.std.proofs.Common.{rules}
use Rattle.lapd_cli_answer.proofs.outputs.put_out.Goals as goal

pub returns-in-Sent-clause-ok : goal.returns-in-Sent-clause-ok
returns-in-Sent-clause-ok g c = search rules
