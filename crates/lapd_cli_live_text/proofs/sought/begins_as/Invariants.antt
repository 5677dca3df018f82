use Rattle.std.proofs.Common.{◌≡◌, drop}
use Rattle.lapd_cli_live_text.specs.AwaitedLine.{behind_words}
use Rattle.lapd_cli_live_text.proofs.sought.begins_as.Given as goal

abbrev pub invariant-loop-octet : goal.invariant-loop-octet
invariant-loop-octet l =
    behind_words (drop l.octet-index l.words) l.rest ≡ behind_words l.words l.line
