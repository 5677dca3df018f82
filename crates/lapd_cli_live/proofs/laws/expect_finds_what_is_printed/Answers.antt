use Rattle.lapd_cli_live.proofs.Meanwhile.{prints_meanwhile}
use Rattle.lapd_cli_live.proofs.laws.expect_finds_what_is_printed.Goals as goal

pub returns : goal.returns
returns c = prints_meanwhile
