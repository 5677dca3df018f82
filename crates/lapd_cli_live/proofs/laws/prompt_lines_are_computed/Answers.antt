use Rattle.lapd_cli_live.proofs.InTime.{one_left_is_late, three_are_prompt}
use Rattle.lapd_cli_live.proofs.laws.prompt_lines_are_computed.Goals as goal

pub returns-clause-three : goal.returns-clause-three
returns-clause-three c = three_are_prompt

pub returns-clause-left : goal.returns-clause-left
returns-clause-left c = one_left_is_late
