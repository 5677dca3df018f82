use Rattle.std.proofs.Common.{◌≡◌, ◌<◌, ◌≤◌, nat_eq, true, false, length, drop, sym, ap, ◌∙◌}
use Rattle.std.specs.List.{starts_with}
use Rattle.std.proofs.lemmas.List.{take_rest}
use Rattle.lapd_cli_decode.proofs.LooseLine.{gap_end, gap_found, gap_passed}
use Rattle.lapd_cli_decode.proofs.loose.before_gap.Goals as goal

pub returns-then-starts_with : goal.returns-then-starts_with
returns-then-starts_with c =
    let h : c.loop-end.end < length c.args.text.now = c.loop-end-test.true in
    let passes : starts_with nat_eq (drop c.loop-end.end c.args.text.now) c.args.gap.now ≡ true =
    ap (λ xs. starts_with nat_eq xs c.args.gap.now) (sym (take_rest c.args.text.now c.loop-end.end))
    ∙ sym c.starts_with.ensures.value ∙ c.if-starts_with.true in
    sym (gap_found c.args.gap.now c.args.text.now c.loop-end.end h passes) ∙ c.loop-end.invariant

pub loop-end-preserved : goal.loop-end-preserved
loop-end-preserved c =
    let h : c.loop-end.end < length c.args.text.now = c.loop-end-test.true in
    let fails : starts_with nat_eq (drop c.loop-end.end c.args.text.now) c.args.gap.now ≡ false =
    ap (λ xs. starts_with nat_eq xs c.args.gap.now) (sym (take_rest c.args.text.now c.loop-end.end))
    ∙ sym c.starts_with.ensures.value ∙ c.if-starts_with.false in
    gap_passed c.args.gap.now c.args.text.now c.loop-end.end h fails ∙ c.loop-end.invariant

pub returns : goal.returns
returns c =
    let h : length c.args.text.now ≤ c.loop-end.end = c.loop-end-test.false in
    sym (gap_end c.args.gap.now c.args.text.now c.loop-end.end h) ∙ c.loop-end.invariant
