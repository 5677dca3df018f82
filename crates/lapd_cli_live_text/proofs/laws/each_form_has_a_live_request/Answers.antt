use Rattle.lapd_cli_live_text.proofs.FormRequests.{each_form}
use Rattle.lapd_cli_live_text.proofs.laws.each_form_has_a_live_request.Goals as goal

pub returns : goal.returns
returns c = each_form
