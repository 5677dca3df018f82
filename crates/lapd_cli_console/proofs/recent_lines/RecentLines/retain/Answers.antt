use Rattle.std.proofs.Common.{◌≢◌, ◌++◌, [], arith, ap, ◌∙◌, length, take}
use Rattle.lapd_cli_console.specs.Recent.{line_begun}
use Rattle.lapd_cli_console.proofs.KeptLines.{after_some, longer_front, on_ok}
use Rattle.lapd_cli_console.proofs.recent_lines.RecentLines.retain.Goals as goal

pub returns-clause-read : goal.returns-clause-read
returns-clause-read g c = λ r h.
    let f = c.forget_ended.ensures.read r h in
    let some : c.args.octets.now ≢ [] =
    λ e. let same = rw e at c.is_empty.ensures in let no = c.if-is_empty.false in cc in
    let t = c.try_extend_from_slice.ensures in
    let empty = ap length f.part in
    let front = line_begun (r.before ++ r.last) in
    rw (after_some r c.args.octets.now some) (record {
      ended = f.ended;
      head =
          longer_front front c.before_feed.result.now c.lengthen.new.head.items
          (c.lengthen.ensures ∙ ap (λ x. take 4096 (x ++ c.before_feed.result.now)) f.head)
          ∙ ap (λ y. take 4096 (front ++ y)) c.before_feed.ensures;
      part =
          on_ok c.try_extend_from_slice.result (t.variant.1 (omega (arith, c.requires, empty))) t.ok
          ∙ ap (λ x. x ++ c.args.octets.now) f.part;
    })
