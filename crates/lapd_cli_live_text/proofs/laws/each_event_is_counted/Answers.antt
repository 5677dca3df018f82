use Rattle.lapd_cli_live_text.proofs.EachEvent.{each_counted}
use Rattle.lapd_cli_live_text.proofs.laws.each_event_is_counted.Goals as goal

pub returns : goal.returns
returns c = each_counted
