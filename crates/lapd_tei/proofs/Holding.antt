-- The held TEIs, examined one by one.
use Rattle.std.proofs.Common.{◌≡◌, ℕ, ◌+◌, ◌<◌, ◌≤◌, Bool, true, false, List, ◌∷◌, drop, set, length, get_or, Some, None, refl}
use Rattle.std.proofs.Math.Numerals.{add-one}
use Rattle.std.proofs.Math.ListN.{drop_of_length-le}
use Rattle.std.proofs.Math.Seq.{drop-cons}
use Rattle.lapd_tei.specs.Assigner.{first_free, holding}

-- a held TEI is skipped
pub passed_over : (held : List Bool) (n : ℕ) → n < length held → get_or held n false ≡ true
    → first_free n (drop n held) ≡ first_free (n + 1) (drop (n + 1) held)
passed_over held n within is =
    let e : drop n held ≡ true ∷ drop (n + 1) held =
    rw (add-one, drop-cons held n false, is) refl in
    rw e refl

-- a TEI that is not held is found
pub found : (held : List Bool) (n : ℕ) → n < length held → get_or held n false ≡ false
    → first_free n (drop n held) ≡ Some n
found held n within is = rw (drop-cons held n false, is) refl

-- past the last TEI nothing is found
pub none_left : (held : List Bool) (n : ℕ) → length held ≤ n → first_free n (drop n held) ≡ None
none_left held n past = rw (drop_of_length-le held past) refl

-- one more TEI is held
pub one_more_held : (held : List Bool) (teis : List ℕ) (n : ℕ) → n < length teis
    → holding held (drop n teis) ≡ holding (set held (get_or teis n 0) true) (drop (n + 1) teis)
one_more_held held teis n within = rw (add-one, drop-cons teis n 0) refl
