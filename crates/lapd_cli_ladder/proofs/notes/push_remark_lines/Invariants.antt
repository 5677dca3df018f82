use Rattle.std.proofs.Common.{◌≡◌, ◌++◌, take}
use Rattle.std.specs.Prelude.{flat_map}
use Rattle.lapd_cli_ladder.specs.Ladder.{remark_line}
use Rattle.lapd_cli_ladder.proofs.notes.push_remark_lines.Given as goal

abbrev pub invariant-loop-remark : goal.invariant-loop-remark
invariant-loop-remark l = l.text.items
    ≡ l.initial.text.items ++ flat_map (remark_line l.width) (take l.remark-index l.remarks)
