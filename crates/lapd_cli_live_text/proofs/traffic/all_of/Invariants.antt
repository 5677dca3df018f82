use Rattle.std.proofs.Common.{◌≡◌, take}
use Rattle.std.specs.List.{sum}
use Rattle.lapd_cli_live_text.specs.Stats.{up_to_most}
use Rattle.lapd_cli_live_text.proofs.traffic.all_of.Given as goal

abbrev pub invariant-loop-count : goal.invariant-loop-count
invariant-loop-count l = l.all ≡ up_to_most (sum (take l.count-index l.counts))
