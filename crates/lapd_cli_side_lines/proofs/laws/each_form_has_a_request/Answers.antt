use Rattle.lapd_cli_side_lines.proofs.FormRequests.{each_form}
use Rattle.lapd_cli_side_lines.proofs.laws.each_form_has_a_request.Goals as goal

pub returns : goal.returns
returns c = each_form
