use Rattle.lapd_cli_live.proofs.InTime.{ends_in_time}
use Rattle.lapd_cli_live.proofs.laws.no_service_ends_early.Goals as goal

pub returns : goal.returns
returns c = ends_in_time
