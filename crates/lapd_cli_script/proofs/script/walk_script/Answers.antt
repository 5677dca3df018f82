use Rattle.std.proofs.Common.{◌≡◌, take, sym, ◌∙◌, arith, refl}
use Rattle.lapd_cli_script.proofs.Walks.{WalkIsAt-unchanged, WalkIsAt-unread, WalkIsAt-read, WalkIsAt-fails, WalkIsAt-last, device_ends, flush_fails}
use Rattle.lapd_cli_script.proofs.script.walk_script.Goals as goal
use Rattle.lapd_cli_script.proofs.script.walk_script.Goals.{in-Ok+in_ok-walk_part-in-Ok, in-Err+else-ne}

pub returns-in_err-flush_rest : goal.returns-in_err-flush_rest
returns-in_err-flush_rest g c = λ s h.
    device_ends g.C.Command.represents g.C.Command.step s (g.R.Read.remaining c.args.script.now)
    c.from_residual.result c.loop-read.command (g.W.Write.contents c.args.out.now)
    (g.W.Write.contents c.flush_rest.new.out)
    (flush_fails c.from_residual.result c.in_err-flush_rest.field-0.0 c.from_residual.ensures.1
    c.in_err-flush_rest.ensures.ended)

pub returns-in-Ok-eq0 : goal.returns-in-Ok-eq0
returns-in-Ok-eq0 g c = λ s h.
    let representation = g.C.Command.represents in
    let step = g.C.Command.step in
    let initial = g.R.Read.remaining c.args.script.now in
    let now = g.R.Read.remaining c.loop-read.script in
    let cut = c.loop-read.cut.items in
    let n = c.loop-read.number in
    let a = g.W.Write.contents c.args.out.now in
    let b = g.W.Write.contents c.flush_rest.new.out in
    let part = take c.in-Ok-eq0.field-0 c.read.new.buf in
    let none : c.in-Ok-eq0.field-0 ≡ 0 = omega arith in
    WalkIsAt-last representation step s initial now (g.R.Read.remaining c.read.new.self)
    c.loop-read.command c.walk_last.new.command c.walk_last.result cut part n
    c.walk_last.new.number a b (g.W.Write.contents c.walk_last.new.out)
    (WalkIsAt-unchanged representation step s initial now c.loop-read.command cut n
    a (g.W.Write.contents c.loop-read.out) b (c.loop-read.invariant.walked s h)
    c.in_ok-flush_rest.ensures.bytes)
    c.in-Ok-eq0.ensures.bytes.0 (sym c.in-Ok-eq0.ensures.bound.1 ∙ none)
    (c.in-Ok-eq0.ensures.bytes.1 none (omega arith))
    (rw c.as_slice.ensures.value at c.walk_last.ensures)

pub returns-in_err-walk_part-in-Ok : goal.returns-in_err-walk_part-in-Ok
returns-in_err-walk_part-in-Ok g c = λ s h.
    let representation = g.C.Command.represents in
    let step = g.C.Command.step in
    let initial = g.R.Read.remaining c.args.script.now in
    let now = g.R.Read.remaining c.loop-read.script in
    let cut = c.loop-read.cut.items in
    let n = c.loop-read.number in
    let a = g.W.Write.contents c.args.out.now in
    let b = g.W.Write.contents c.flush_rest.new.out in
    let part = take c.in-Ok.count c.read.new.buf in
    WalkIsAt-fails representation step s initial now (g.R.Read.remaining c.read.new.self)
    c.loop-read.command c.walk_part.new.command c.from_residual-in_err-walk_part-in-Ok.result
    c.in_err-walk_part-in-Ok.field-0.0 cut part c.walk_part.new.cut.items n
    c.walk_part.new.number a b (g.W.Write.contents c.walk_part.new.out)
    c.from_residual-in_err-walk_part-in-Ok.ensures.1
    (WalkIsAt-unchanged representation step s initial now c.loop-read.command cut n
    a (g.W.Write.contents c.loop-read.out) b (c.loop-read.invariant.walked s h)
    c.in_ok-flush_rest.ensures.bytes)
    c.in-Ok.ensures.bytes.0 c.in_err-walk_part-in-Ok.ensures.ended

pub loop-read-preserved : goal.loop-read-preserved
loop-read-preserved g c =
    elim c.match-read.branch [
      | in-Ok+in_ok-walk_part-in-Ok w ↦ rw (w.command-is, w.out-is, w.number-is, w.cut-is) (record {
        counted =
            let k = c.loop-read.invariant.counted in
            let j = w.walk_part.ensures.count in
            let b = w.in-Ok.ensures.bound in let d = c.read.auto.buf in omega arith;
        no_feed = w.in_ok-walk_part-in-Ok.ensures.cut;
        walked = λ s h.
            let representation = g.C.Command.represents in
            let step = g.C.Command.step in
            let initial = g.R.Read.remaining c.args.script.now in
            let now = g.R.Read.remaining c.loop-read.script in
            let cut = c.loop-read.cut.items in
            let n = c.loop-read.number in
            let a = g.W.Write.contents c.args.out.now in
            let b = g.W.Write.contents c.flush_rest.new.out in
            WalkIsAt-read representation step s initial now (g.R.Read.remaining c.read.new.self)
            c.loop-read.command w.walk_part.new.command cut (take w.in-Ok.count c.read.new.buf)
            w.walk_part.new.cut.items n w.walk_part.new.number a b
            (g.W.Write.contents w.walk_part.new.out)
            (WalkIsAt-unchanged representation step s initial now c.loop-read.command cut n
            a (g.W.Write.contents c.loop-read.out) b (c.loop-read.invariant.walked s h)
            c.in_ok-flush_rest.ensures.bytes)
            w.in-Ok.ensures.bytes.0 w.in_ok-walk_part-in-Ok.ensures.ended;
      })
      | in-Err+else-ne w ↦ rw (w.command-is, w.out-is, w.number-is, w.cut-is) (record {
        counted = let k = c.loop-read.invariant.counted in omega arith;
        no_feed = c.loop-read.invariant.no_feed;
        walked = λ s h.
            let representation = g.C.Command.represents in
            let step = g.C.Command.step in
            let initial = g.R.Read.remaining c.args.script.now in
            let now = g.R.Read.remaining c.loop-read.script in
            let cut = c.loop-read.cut.items in
            let n = c.loop-read.number in
            let a = g.W.Write.contents c.args.out.now in
            let b = g.W.Write.contents c.flush_rest.new.out in
            WalkIsAt-unread representation step s initial now (g.R.Read.remaining c.read.new.self)
            c.loop-read.command cut n a b
            (WalkIsAt-unchanged representation step s initial now c.loop-read.command cut n
            a (g.W.Write.contents c.loop-read.out) b (c.loop-read.invariant.walked s h)
            c.in_ok-flush_rest.ensures.bytes)
            w.in-Err.ensures.bytes;
      })
    ]

pub returns : goal.returns
returns g c = λ s h.
    device_ends g.C.Command.represents g.C.Command.step s (g.R.Read.remaining c.args.script.now) _
    c.loop-read.command (g.W.Write.contents c.args.out.now) (g.W.Write.contents c.loop-read.out)
    refl
