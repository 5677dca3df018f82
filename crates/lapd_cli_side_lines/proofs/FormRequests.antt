-- A side has a request for each form of a script's lines.
use Rattle.std.proofs.Common.{◌≡◌, ℕ, List, rules}
use Rattle.std.specs.Prelude.{is_some}
use Rattle.lapd_frame.specs.declared.Side.{Side}
use Rattle.lapd_frame.specs.declared.Side.TheVariants.{Network, User}
use Rattle.lapd_cli_script.specs.Line.{words_of}
use Rattle.lapd_cli_grammar.specs.declared.script.Script.TheVariants as script
use Rattle.lapd_cli_grammar.specs.Forms.{shapes_of}
use Rattle.lapd_cli_grammar.specs.Values.{parsed_line}
use Rattle.lapd_cli_grammar.proofs.Requests.{AllHaveRequests, requests_exist}
use Rattle.lapd_cli_side_lines.specs.LineRequests.{request_of_line, script_of, script_request}

net_forms : AllHaveRequests script_request (shapes_of script.Net)
net_forms = search rules

user_forms : AllHaveRequests script_request (shapes_of script.User)
user_forms = search rules

pub each_form : (side : Side) (line : List ℕ)
    → is_some (request_of_line side line) ≡ is_some (parsed_line (script_of side) line)
each_form Network line = requests_exist script_request script.Net net_forms (words_of line)
each_form User line = requests_exist script_request script.User user_forms (words_of line)
