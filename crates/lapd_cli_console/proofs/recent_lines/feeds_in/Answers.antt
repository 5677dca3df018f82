use Rattle.std.proofs.Common.{◌+◌, arith}
use Rattle.lapd_cli_console.proofs.KeptLines.{feeds-cut, no_feeds}
use Rattle.lapd_cli_console.proofs.recent_lines.feeds_in.Goals as goal

pub loop-line-preserved : goal.loop-line-preserved
loop-line-preserved c =
    let i = c.loop-line.invariant in
    let found = c.in-Some.ensures.found in
    let sum = c.saturating_add-feeds.ensures in
    let rest =
    feeds-cut c.loop-line.rest.now c.in-Some._line.now c.in-Some.behind.now found.1
    found.0 in
    (i.0 + 1, omega arith, omega arith)

pub returns : goal.returns
returns c =
    let i = c.loop-line.invariant in
    let none = no_feeds c.loop-line.rest.now c.in_default.ensures.none in
    omega arith
