use Rattle.std.specs.Prelude.{codes}
use Rattle.lapd_cli_conform.specs.Found.{hint}
use Rattle.lapd_cli_conform.specs.Results.{result_line}
use Rattle.lapd_cli_conform.proofs.Appended.{four_parts}
use Rattle.lapd_cli_conform.proofs.found.push_found.Goals as goal

pub returns : goal.returns
returns c = four_parts (codes "# ") (result_line c.args.report.now) hint
    c.args.report.now.suite.now c.args.text.now.items
    c.in_ok-extend_from_slice.ensures.items c.in_ok-push_line.ensures
    c.in_ok-extend_from_slice-2.ensures.items c.in_ok-extend_from_slice-3.ensures.items
