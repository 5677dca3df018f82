use Rattle.std.proofs.Common.{◌≡◌, ◌++◌, take}
use Rattle.std.specs.Prelude.{flat_map}
use Rattle.lapd_cli_page.specs.Row.{remark_or_none}
use Rattle.lapd_cli_page.proofs.row.push_remarks.Given as goal

abbrev pub invariant-loop-remark : goal.invariant-loop-remark
invariant-loop-remark l = l.text.items
    ≡ l.initial.text.items ++ flat_map remark_or_none (take l.remark-index l.remarks)
