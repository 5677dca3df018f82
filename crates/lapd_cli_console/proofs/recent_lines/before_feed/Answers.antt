use Rattle.std.proofs.Common.{sym}
use Rattle.lapd_cli_console.proofs.KeptLines.{front_cut, front_whole}
use Rattle.lapd_cli_console.proofs.recent_lines.before_feed.Goals as goal

pub returns-in-Some : goal.returns-in-Some
returns-in-Some c =
    let found = c.in-Some.ensures.found in
    sym (front_cut c.args.octets.now c.in-Some.line.now c.in-Some._behind.now found.1 found.0)

pub returns-in-None : goal.returns-in-None
returns-in-None c = sym (front_whole c.args.octets.now c.in-None.ensures.none)
