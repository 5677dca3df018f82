use Rattle.std.proofs.Common.{◌≡◌, ℕ, ap, ◌∙◌, arith}
use Rattle.lapd_sides.specs.AllTeis.{holds_any, holds_below}
use Rattle.lapd_sides.proofs.all_teis.holds_any.Goals as goal

pub returns : goal.returns
unfolding holds_any
returns c =
    let last : c.loop-tei.tei ≡ 127 =
    omega (arith, c.loop-tei.auto.tei-end, c.loop-tei-test.false) in
    c.loop-tei.invariant ∙ ap (λ (n : ℕ). holds_below n c.args.assigner.now.held) last
