use Rattle.std.proofs.Common.{map, take}
use Rattle.lapd_frame.specs.declared.Side.{Side}
use Rattle.lapd_cli_live.specs.Entries.{Delivered}
use Rattle.lapd_cli_live.specs.Printers.{PrintsOn}
use Rattle.lapd_cli_live.proofs.live_side.put_primitives.Given as goal

abbrev pub invariant-loop-primitive : goal.invariant-loop-primitive
invariant-loop-primitive g l =
    (own : Side)
    → PrintsOn g.W.Write.contents own (map Delivered (take l.primitive-index l.primitives))
    l.initial.printer l.printer
