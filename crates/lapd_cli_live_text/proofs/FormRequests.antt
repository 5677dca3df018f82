-- A side with the real clock has a request for each form of its lines.
use Rattle.std.proofs.Common.{◌≡◌, ℕ, List, rules}
use Rattle.std.specs.Prelude.{is_some}
use Rattle.lapd_frame.specs.declared.Side.{Side}
use Rattle.lapd_frame.specs.declared.Side.TheVariants.{Network, User}
use Rattle.lapd_cli_script.specs.Line.{words_of}
use Rattle.lapd_cli_grammar.specs.declared.script.Script.TheVariants.{LiveNet, LiveUser}
use Rattle.lapd_cli_grammar.specs.Forms.{shapes_of}
use Rattle.lapd_cli_grammar.specs.Values.{parsed_line}
use Rattle.lapd_cli_grammar.proofs.Requests.{AllHaveRequests, requests_exist}
use Rattle.lapd_cli_live_text.specs.LiveRequests.{live_request, live_request_of_line, live_script_of}

net_forms : (own : ℕ) → AllHaveRequests (live_request own) (shapes_of LiveNet)
net_forms own = search rules

user_forms : (own : ℕ) → AllHaveRequests (live_request own) (shapes_of LiveUser)
user_forms own = search rules

pub each_form : (side : Side) (own : ℕ) (line : List ℕ)
    → is_some (live_request_of_line side own line)
    ≡ is_some (parsed_line (live_script_of side) line)
each_form Network own line =
    requests_exist (live_request own) LiveNet (net_forms own) (words_of line)
each_form User own line =
    requests_exist (live_request own) LiveUser (user_forms own) (words_of line)
