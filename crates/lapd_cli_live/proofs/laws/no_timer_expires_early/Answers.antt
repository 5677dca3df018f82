use Rattle.lapd_cli_live.proofs.InTime.{expires_in_time}
use Rattle.lapd_cli_live.proofs.laws.no_timer_expires_early.Goals as goal

pub returns : goal.returns
returns c = expires_in_time
