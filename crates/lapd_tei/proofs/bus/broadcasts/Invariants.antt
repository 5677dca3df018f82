use Rattle.std.proofs.Common.{◌≡◌, map, take}
use Rattle.lapd_tei.specs.Bus.{broadcast}
use Rattle.lapd_tei.proofs.bus.broadcasts.Given as goal

abbrev pub invariant-loop-message : goal.invariant-loop-message
invariant-loop-message l =
    l.all.items ≡ map (broadcast l.terminals) (take l.message-index l.messages)
