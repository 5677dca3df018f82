use Rattle.std.proofs.Common.{◌≡◌, ℕ, ◌+◌, ◌<◌, List, [], ◌∷◌, ◌++◌, length, arith, sym, ap, ◌∙◌}
use Rattle.std.proofs.lemmas.Bool.Decides.{nat_tests}
use Rattle.arrayvec.specs.ArrayVec.{ArrayVec, array_vec_len}
use Rattle.lapd_c.proofs.TeiLists.{nothing_below, chosen, passed}
use Rattle.lapd_c.proofs.tei_lists.those_below.Goals.{then-has, else-has}
use Rattle.lapd_c.proofs.tei_lists.those_below.Goals as goal

pub loop-tei-init : goal.loop-tei-init
loop-tei-init g c = record {
  so_far = λ test same. c.new-teis.ensures ∙ nothing_below test;
  fits = let none : array_vec_len c.new-teis.result ≡ 0 = ap (λ (items : List ℕ). length items) c.new-teis.ensures in
      omega (arith, none);
}

pub loop-tei-preserved : goal.loop-tei-preserved
loop-tei-preserved g c =
    let tei = c.loop-tei.tei in
    let low : tei < c.args.end = grind (arith, nat_tests, c.loop-tei-test.true) in
    elim c.if-has.branch [
      | then-has w ↦ record {
        so_far = λ test same.
            ap (λ (v : ArrayVec ℕ). v.items) w.teis-is ∙ w.push.ensures.items
            ∙ ap (λ (items : List ℕ). items ++ tei ∷ []) (c.loop-tei.invariant.so_far test same)
            ∙ chosen test tei (sym (same tei c.has.result low c.has.ensures)
            ∙ w.if-has.true);
        fits =
            omega (
              arith,
              ap (λ (v : ArrayVec ℕ). array_vec_len v) w.teis-is,
              w.push.ensures.len,
              c.loop-tei.invariant.fits,
            );
      }
      | else-has w ↦ record {
        so_far = λ test same.
            ap (λ (v : ArrayVec ℕ). v.items) w.teis-is ∙ c.loop-tei.invariant.so_far test same
            ∙ passed test tei (sym (same tei c.has.result low c.has.ensures)
            ∙ w.if-has.false);
        fits = omega (arith, ap (λ (v : ArrayVec ℕ). array_vec_len v) w.teis-is, c.loop-tei.invariant.fits);
      }
    ]
