use Rattle.std.proofs.Common.{take}
use Rattle.lapd_cli_live.specs.Log.{state_of}
use Rattle.lapd_cli_live.specs.StateLines.{StateEach}
use Rattle.lapd_cli_live.proofs.live_side.LiveSide.put_each.Given as goal

abbrev pub invariant-loop-id : goal.invariant-loop-id
invariant-loop-id g l =
    StateEach (take l.id-index l.ids)
    (state_of g.O.Outside.io_events g.O.Outside.impaired_by g.W.Write.contents l.initial.self)
    (state_of g.O.Outside.io_events g.O.Outside.impaired_by g.W.Write.contents l.self)
