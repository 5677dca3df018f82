use Rattle.lapd_cli_frames.proofs.ByKind.{shown_alike}
use Rattle.lapd_cli_frames.proofs.laws.both_read_alike.Goals as goal

pub returns : goal.returns
returns c = shown_alike
