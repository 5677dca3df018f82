use Rattle.std.proofs.Common.{◌≡◌, ◌++◌, map, take, drop}
use Rattle.lapd_pair.specs.Fates.{ended}
use Rattle.lapd_pair.proofs.log.end_all.Given as goal

abbrev pub invariant-loop-fate : goal.invariant-loop-fate
invariant-loop-fate l =
    l.fate-items ≡ map (ended l.ending) (take l.fate-index l.initial.fate-items)
    ++ drop l.fate-index l.initial.fate-items
