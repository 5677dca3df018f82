use Rattle.std.proofs.Common.{◌≡◌, length}
use Rattle.lapd_cli_conform.specs.Settings.{requests_from}
use Rattle.lapd_cli_conform.proofs.setting.read_upper.Given as goal

abbrev pub invariant-loop-word : goal.invariant-loop-word
invariant-loop-word l = requests_from l.initial.taken l.initial.words
    ≡ requests_from l.taken l.words

abbrev pub decreases-loop-word : goal.decreases-loop-word
decreases-loop-word l = length l.words
