use Rattle.lapd_cli_live_text.proofs.AwaitedLines.{plain}
use Rattle.lapd_cli_live_text.proofs.laws.plain_words_are_first_octets.Goals as goal

pub returns : goal.returns
returns c words line h = plain words line h
