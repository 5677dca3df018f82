use Rattle.std.proofs.Common.{◌∷◌, ◌++◌, length, ap, sym, subst, length-append, rules, arith}
use Rattle.lapd_cli_script.specs.WalkState.{walk_lines, HasNoFeed}
use Rattle.lapd_cli_script.proofs.Lines.{HasNoFeed-append}
use Rattle.lapd_cli_script.proofs.Walks.{fails_after, memory_after, Walk-cut, Walk-same, Walk-trans}
use Rattle.lapd_cli_script.proofs.script.walk_part.Goals as goal

pub returns-in_err-walk_whole-clause-ended : goal.returns-in_err-walk_whole-clause-ended
returns-in_err-walk_whole-clause-ended g c = λ s after h.
    let w = c.loop-line.invariant.walked s after h in
    let step = g.C.Command.step in
    let cut = c.loop-line.cut.items in
    let whole = cut ++ (c.in-Some.line.now ++ 10 ∷ c.in-Some.left.now) ++ after in
    let lines = walk_lines (c.args.cut.now.items ++ c.args.octets.now ++ after) in
    let n = c.args.number.now in
    let i = c.loop-line.number in
    let m = c.walk_whole.new.number in
    let a = g.W.Write.contents c.args.out.now in
    let b = g.W.Write.contents c.loop-line.out in
    let d = g.W.Write.contents c.walk_whole.new.out in
    fails_after g.C.Command.represents step s w.0 c.from_residual.result
    c.in_err-walk_whole.field-0.0 lines (walk_lines whole)
    (walk_lines (c.walk_whole.new.cut.items ++ after))
    (walk_lines (c.in-Some.left.now ++ after)) c.walk_whole.new.command n i m m a b d
    c.from_residual.ensures.1 (Walk-same step s lines _ whole w.0 n
    i a b (ap (λ x. cut ++ x ++ after) c.in-Some.ensures.found.1) w.2)
    (c.in_err-walk_whole.ensures.ended w.0 c.in-Some.left.now after w.1)

pub loop-line-preserved : goal.loop-line-preserved
loop-line-preserved g c = record {
  counted =
      let e = ap length c.in-Some.ensures.found.1 in
      let f = length-append c.in-Some.line.now (10 ∷ c.in-Some.left.now) in
      let k = c.loop-line.invariant.counted in
      let j = c.in_ok-walk_whole.ensures.count in
      omega arith;
  no_feed = subst HasNoFeed (sym c.in_ok-walk_whole.ensures.used) tt;
  walked = λ s after h.
      let w = c.loop-line.invariant.walked s after h in
      let step = g.C.Command.step in
      let cut = c.loop-line.cut.items in
      let left = c.in-Some.left.now in
      let whole = cut ++ (c.in-Some.line.now ++ 10 ∷ left) ++ after in
      let lines = walk_lines (c.args.cut.now.items ++ c.args.octets.now ++ after) in
      let n = c.args.number.now in
      let i = c.loop-line.number in
      let m = c.walk_whole.new.number in
      let a = g.W.Write.contents c.args.out.now in
      let b = g.W.Write.contents c.loop-line.out in
      let d = g.W.Write.contents c.walk_whole.new.out in
      let q = c.in_ok-walk_whole.ensures.ended w.0 left after w.1 in (
        q.0,
        q.1,
        Walk-trans step s lines (walk_lines whole)
            (walk_lines (c.walk_whole.new.cut.items ++ left ++ after)) w.0 q.0 n i m a b d
            (Walk-same step s lines _ whole w.0 n
            i a b (ap (λ x. cut ++ x ++ after) c.in-Some.ensures.found.1) w.2)
            (Walk-same step w.0 (walk_lines whole) (left ++ after)
            (c.walk_whole.new.cut.items ++ left ++ after) q.0 i m b d
            (ap (λ x. x ++ left ++ after) (sym c.in_ok-walk_whole.ensures.used)) q.2),
      );
}

pub returns-in_err-append_cut-clause-ended : goal.returns-in_err-append_cut-clause-ended
returns-in_err-append_cut-clause-ended g c = λ s after h.
    let w = c.loop-line.invariant.walked s after h in
    memory_after g.C.Command.represents g.C.Command.step s w.0
    c.from_residual-in_err-append_cut.result c.in_err-append_cut.field-0.0
    (walk_lines (c.args.cut.now.items ++ c.args.octets.now ++ after))
    (walk_lines (c.loop-line.cut.items ++ c.loop-line.rest.now ++ after))
    (walk_lines (c.append_cut.new.cut.items ++ after)) c.loop-line.command c.args.number.now
    c.loop-line.number c.loop-line.number (g.W.Write.contents c.args.out.now)
    (g.W.Write.contents c.loop-line.out)
    c.from_residual-in_err-append_cut.ensures.1 c.in_err-append_cut.ensures.err w.2

pub returns-clause-ended : goal.returns-clause-ended
returns-clause-ended g c = λ s after h.
    let w = c.loop-line.invariant.walked s after h in
    let last : HasNoFeed c.loop-line.rest.now = search rules in (
      w.0,
      w.1,
      Walk-cut g.C.Command.step s (walk_lines (c.args.cut.now.items ++ c.args.octets.now ++ after))
          (c.loop-line.cut.items ++ c.loop-line.rest.now) c.append_cut.new.cut.items after w.0
          c.args.number.now c.loop-line.number (g.W.Write.contents c.args.out.now)
          (g.W.Write.contents c.loop-line.out)
          (HasNoFeed-append c.loop-line.cut.items c.loop-line.rest.now c.loop-line.invariant.no_feed
          last) c.in_ok-append_cut.ensures.ok w.2,
    )
