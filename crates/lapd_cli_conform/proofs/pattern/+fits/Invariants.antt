use Rattle.std.proofs.Common.{◌≡◌, ◌+◌, length}
use Rattle.lapd_cli_conform.proofs.pattern.+fits.Given as goal

abbrev pub decreases-fits : goal.decreases-fits
decreases-fits l = length l.pattern.now + length l.text.now
