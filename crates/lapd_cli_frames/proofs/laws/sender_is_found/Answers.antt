use Rattle.lapd_cli_frames.proofs.ByKind.{sender_found}
use Rattle.lapd_cli_frames.proofs.laws.sender_is_found.Goals as goal

pub returns : goal.returns
returns c = sender_found
