use Rattle.lapd_cli_decode.proofs.LiveLadder.{capture_is_drawn}
use Rattle.lapd_cli_decode.proofs.live_laws.ladder_is_decoded.Goals as goal

pub returns : goal.returns
returns c = capture_is_drawn
