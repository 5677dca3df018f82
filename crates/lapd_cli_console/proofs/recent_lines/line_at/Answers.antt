use Rattle.std.proofs.Common.{◌≡◌, ◌+◌, ◌-◌, suc, Some, arith, ap, sym, ◌∙◌, slice_get}
use Rattle.lapd_cli_console.specs.Recent.{lines_in}
use Rattle.lapd_cli_console.proofs.KeptLines.{first_front, lines_cut, only_line}
use Rattle.lapd_cli_console.proofs.recent_lines.line_at.Goals as goal

pub returns-in_err-_line : goal.returns-in_err-_line
returns-in_err-_line c =
    let left = c.args.feeds - (c.loop-feed._feed + 1) in
    let test = c.loop-feed-test.true in
    let same : c.args.feeds ≡ c.loop-feed._feed + suc left = omega arith in
    rw c.from_residual.ensures (sym (ap (slice_get (lines_in c.args.octets.now)) same
    ∙ c.loop-feed.invariant (suc left)
    ∙ only_line c.loop-feed.rest.now left c.in_err-_line.ensures.none))

pub loop-feed-preserved : goal.loop-feed-preserved
loop-feed-preserved c = λ n.
    let found = c.in_ok-_line.ensures.found in
    let same : c.loop-feed._feed + 1 + n ≡ c.loop-feed._feed + suc n = omega arith in
    ap (slice_get (lines_in c.args.octets.now)) same ∙ c.loop-feed.invariant (suc n)
    ∙ lines_cut c.loop-feed.rest.now c.in_ok-_line._line.now c.in_ok-_line.behind.now n found.1
    found.0

pub returns : goal.returns
returns c =
    let test = c.loop-feed-test.false in
    let same : c.args.feeds ≡ c.loop-feed._feed + 0 = omega arith in
    sym (ap (slice_get (lines_in c.args.octets.now)) same ∙ c.loop-feed.invariant 0
    ∙ first_front c.loop-feed.rest.now ∙ ap Some (sym c.before_feed.ensures))
