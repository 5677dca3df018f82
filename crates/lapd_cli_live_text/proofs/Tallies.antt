-- Counters that stop at 2^64 - 1: the value of each of them, and of their sum, over a list.
use Rattle.std.proofs.Common.{◌≡◌, ◌≢◌, ℕ, ◌+◌, ◌<◌, ◌≤◌, ◌==◌, ◌⊎◌, inl, inr, true, false, cond, List, [], ◌∷◌, length, get_or, suc, refl, sym, ap, ◌∙◌, arith}
use Rattle.std.specs.List.{count_by, sum}
use Rattle.std.proofs.Math.Dec.{eqb}
use Rattle.std.proofs.Math.ListN.{length-set}
use Rattle.std.proofs.lemmas.Bool.Decides.{eqb_tells}
use Rattle.std.proofs.lemmas.Grind.{get_or-set_at}
use Rattle.std.proofs.lemmas.List.{get_or-set_other}
use Rattle.std.proofs.lemmas.List.Sums.{sum_by-cons, sum_by-set}
use Rattle.lapd_cli_live_text.specs.Stats.{one_more_at, up_to_most}

-- a number that a counter can hold
abbrev pub Fits : ℕ → Type 0
Fits n = n ≤ 18446744073709551615

pub few : (n : ℕ) → Fits n → n ≡ up_to_most (n + 0)
few n h = omega arith

pub more : (a b c n : ℕ) → a ≡ up_to_most (n + b) → up_to_most (a + c) ≡ up_to_most (n + (b + c))
more a b c n h = omega arith

-- one more in the place of each element
abbrev pub tally : {X : Type 0} → (X → ℕ) → List X → List ℕ → List ℕ
tally place [] counts = counts
tally place (x ∷ xs) counts = tally place xs (one_more_at (place x) counts)

-- ---- One counter.

step_at : (j k : ℕ) (counts : List ℕ) → j < length counts → Fits (get_or counts k 0)
    → ((eqb j k ≡ true) × (j ≡ k)) ⊎ ((eqb j k ≡ false) × (j ≢ k))
    → get_or (one_more_at j counts) k 0 ≡ up_to_most (get_or counts k 0 + cond (j == k) 1 0)
step_at j k counts within fits (inl same) =
    get_or-set_at counts j k (up_to_most (get_or counts j 0 + 1)) 0 (sym same.1) within
    ∙ rw (same.0, same.1) refl
step_at j k counts within fits (inr other) =
    get_or-set_other counts j k (up_to_most (get_or counts j 0 + 1)) 0 (λ e. other.1 (sym e))
    ∙ rw other.0 (few (get_or counts k 0) fits)

step_fits : (j k : ℕ) (counts : List ℕ) → j < length counts → Fits (get_or counts k 0)
    → Fits (get_or (one_more_at j counts) k 0)
step_fits j k counts within fits =
    let one = step_at j k counts within fits (eqb_tells j k) in
    omega (arith, one)

still_within : {X : Type 0} (place : X → ℕ) (j : ℕ) (counts : List ℕ)
    → ((x : X) → place x < length counts) → (x : X) → place x < length (one_more_at j counts)
still_within place j counts within x = rw length-set (within x)

pub tally_at : {X : Type 0} (place : X → ℕ) (xs : List X) (counts : List ℕ) (k : ℕ)
    → ((x : X) → place x < length counts) → Fits (get_or counts k 0)
    → get_or (tally place xs counts) k 0
    ≡ up_to_most (get_or counts k 0 + count_by (λ x. place x == k) xs)
tally_at place [] counts k within fits = few (get_or counts k 0) fits
tally_at {X} place (x ∷ xs) counts k within fits =
    let one = step_at (place x) k counts (within x) fits (eqb_tells (place x) k) in
    let rest =
    tally_at place xs (one_more_at (place x) counts) k
    (still_within place (place x) counts within)
    (step_fits (place x) k counts (within x) fits) in
    rest
    ∙ more (get_or (one_more_at (place x) counts) k 0) (cond (place x == k) 1 0)
    (count_by (λ y. place y == k) xs) (get_or counts k 0) one
    ∙ ap (λ n. up_to_most (get_or counts k 0 + n))
    (sym (sum_by-cons (λ (y : X). cond (place y == k) 1 0) x xs))

-- ---- Their sum.

step_sum : (j : ℕ) (counts : List ℕ) → j < length counts → Fits (get_or counts j 0)
    → up_to_most (sum (one_more_at j counts)) ≡ up_to_most (sum counts + 1)
step_sum j counts within fits =
    let one = sum_by-set (λ n. n) counts j (up_to_most (get_or counts j 0 + 1)) 0 within in
    let none = sum_by-set (λ n. n) counts j 0 0 within in
    omega (arith, one, none)

one_more : (a b n : ℕ) → up_to_most a ≡ up_to_most (b + 1)
    → up_to_most (a + n) ≡ up_to_most (b + suc n)
one_more a b n h = omega arith

pub tally_sum : {X : Type 0} (place : X → ℕ) (xs : List X) (counts : List ℕ)
    → ((x : X) → place x < length counts) → ((k : ℕ) → Fits (get_or counts k 0))
    → up_to_most (sum (tally place xs counts)) ≡ up_to_most (sum counts + length xs)
tally_sum place [] counts within fits = omega arith
tally_sum place (x ∷ xs) counts within fits =
    tally_sum place xs (one_more_at (place x) counts) (still_within place (place x) counts within)
    (λ k. step_fits (place x) k counts (within x) (fits k))
    ∙ one_more (sum (one_more_at (place x) counts)) (sum counts) (length xs)
    (step_sum (place x) counts (within x) (fits (place x)))
