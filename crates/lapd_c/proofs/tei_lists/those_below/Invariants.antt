use Rattle.std.proofs.Common.{◌≡◌, ◌<◌, ◌≤◌, ℕ, Bool}
use Rattle.arrayvec.specs.ArrayVec.{array_vec_len}
use Rattle.lapd_c.specs.TeiLists.{those_below}
use Rattle.lapd_c.proofs.tei_lists.those_below.Given as goal

abbrev pub invariant-loop-tei : goal.invariant-loop-tei
invariant-loop-tei g l = record {
  so_far : (test : ℕ → Bool)
      → ((tei : ℕ) (held : Bool) → tei < l.end → goal.F-post g l.has tei held → held ≡ test tei)
      → l.teis.items ≡ those_below test l.tei;
  fits : array_vec_len l.teis ≤ l.tei;
}
