use Rattle.std.proofs.Common.{◌≡◌, length}
use Rattle.lapd_log.specs.Text.{behind}
use Rattle.lapd_log.proofs.text.behind.Given as goal

-- the word was not found yet
abbrev pub invariant-loop-rest : goal.invariant-loop-rest
invariant-loop-rest l = behind l.word l.rest ≡ behind l.word l.text

abbrev pub decreases-loop-rest : goal.decreases-loop-rest
decreases-loop-rest l = length l.rest
