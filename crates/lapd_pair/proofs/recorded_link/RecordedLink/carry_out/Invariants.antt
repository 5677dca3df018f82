use Rattle.std.proofs.Common.{drop}
use Rattle.lapd_pair.proofs.Recording.{AreRecordedUpTo}
use Rattle.lapd_pair.proofs.recorded_link.RecordedLink.carry_out.Given as goal

abbrev pub invariant-loop-out : goal.invariant-loop-out
invariant-loop-out l =
    AreRecordedUpTo l.initial.outs l.initial.octets l.initial.self l.initial.outward l.initial.copy
    (drop l.out-index l.outs) l.self l.outward l.copy
