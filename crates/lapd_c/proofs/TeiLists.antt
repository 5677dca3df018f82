-- A list of the numbers with a property, one number after another.
use Rattle.std.proofs.Common.{◌≡◌, ℕ, zero, suc, ◌+◌, Bool, true, false, [], ◌∷◌, ◌++◌, ap, refl, sym, ◌∙◌, arith}
use Rattle.std.specs.List.{filter, range_with_len}
use Rattle.std.proofs.lemmas.List.{append-nil}
use Rattle.std.proofs.lemmas.List.Elements.{filter-append}
use Rattle.lapd_c.specs.TeiLists.{those_below}

-- one number more
more : (first n : ℕ) → range_with_len first (suc n) ≡ range_with_len first n ++ (first + n) ∷ []
more first zero = let same : first ≡ first + 0 = omega arith in ap (λ k. k ∷ []) same
more first (suc n) =
    ap (λ rest. first ∷ rest) (more (first + 1) n)
    ∙ (let same : first + 1 + n ≡ first + suc n = omega arith in
    ap (λ k. first ∷ (range_with_len (first + 1) n ++ k ∷ [])) same)

below : (n : ℕ) → range_with_len 0 (n + 1) ≡ range_with_len 0 n ++ n ∷ []
below n =
    let next : n + 1 ≡ suc n = omega arith in
    let same : 0 + n ≡ n = omega arith in
    ap (range_with_len 0) next ∙ (more 0 n ∙ ap (λ k. range_with_len 0 n ++ k ∷ []) same)

one : (has : ℕ → Bool) (n : ℕ) → has n ≡ true → filter has (n ∷ []) ≡ n ∷ []
one has n is = rw is refl

none : (has : ℕ → Bool) (n : ℕ) → has n ≡ false → filter has (n ∷ []) ≡ []
none has n is = rw is refl

pub nothing_below : (has : ℕ → Bool) → [] ≡ those_below has 0
unfolding those_below
nothing_below has = refl

pub chosen : (has : ℕ → Bool) (n : ℕ) → has n ≡ true
    → those_below has n ++ n ∷ [] ≡ those_below has (n + 1)
unfolding those_below
chosen has n is = sym (ap (filter has) (below n) ∙ filter-append has (range_with_len 0 n) (n ∷ [])
    ∙ ap (λ rest. filter has (range_with_len 0 n) ++ rest) (one has n is))

pub passed : (has : ℕ → Bool) (n : ℕ) → has n ≡ false
    → those_below has n ≡ those_below has (n + 1)
unfolding those_below
passed has n is = sym (ap (filter has) (below n) ∙ filter-append has (range_with_len 0 n) (n ∷ [])
    ∙ ap (λ rest. filter has (range_with_len 0 n) ++ rest) (none has n is)
    ∙ append-nil (filter has (range_with_len 0 n)))
