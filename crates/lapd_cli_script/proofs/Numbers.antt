-- Numbers written in decimal digits.
use Rattle.std.proofs.Common.{◌≡◌, ℕ, ◌==◌, ◌+◌, ◌*◌, ◌-◌, ◌^◌, ◌<◌, ◌≤◌, List, [], ◌∷◌, length, drop, slice_index_or, None, Some, option_and_then, if◌then◌else◌, true, false, Bool, Option, refl, arith, ap, suc, sym, subst}
use Rattle.std.proofs.lemmas.Bool.{le-ltb, lt-ltb}
use Rattle.std.proofs.Math.Nat.{lt_of_not-le}
use Rattle.std.proofs.lemmas.List.{drop_all, drop_more}
use Rattle.lapd_cli_script.specs.Line.{below_2_64, digits_behind, is_digit, parsed_number}

none_either_way : (b : Bool) (number : Option ℕ) → option_and_then below_2_64 number ≡ None
    → option_and_then below_2_64 (if b then number else None) ≡ None
none_either_way true number h = h
none_either_way false number h = refl

-- a number of 2^64 or more is too large, whatever digits follow
too_great : (n : ℕ) (digits : List ℕ) → 2 ^ 64 ≤ n
    → option_and_then below_2_64 (digits_behind n digits) ≡ None
too_great n [] h = rw (le-ltb n (2 ^ 64) h) refl
too_great n (digit ∷ digits) h =
    let more : 2 ^ 64 ≤ n * 10 + (digit - 48) = omega arith in
    none_either_way (is_digit digit) _ (too_great (n * 10 + (digit - 48)) digits more)

-- the result is `None` if ten times the number before a digit is 2^64 or more
pub ten_times_too_great : (n i : ℕ) (digits : List ℕ) → i < length digits → 2 ^ 64 ≤ n * 10
    → option_and_then below_2_64 (digits_behind n (drop i digits)) ≡ None
ten_times_too_great n i digits within h =
    let more : 2 ^ 64 ≤ n * 10 + (slice_index_or digits i 0 - 48) = omega arith in
    rw (drop_more digits i 0 within) (none_either_way (is_digit (slice_index_or digits i 0)) _
    (too_great _ (drop (i + 1) digits) more))

abbrev counted : Option ℕ → ℕ
counted None = 0
counted (Some k) = k

with_digit : (b : Bool) (n m k : ℕ) (rest : List ℕ) → (if b then Some k else None) ≡ Some m
    → 2 ^ 64 ≤ n * 10 + m
    → option_and_then below_2_64 (if b then digits_behind (n * 10 + k) rest else None) ≡ None
with_digit true n m k rest counts h =
    too_great (n * 10 + k) rest (subst (λ x. 2 ^ 64 ≤ n * 10 + x) (sym (ap counted counts)) h)
with_digit false n m k rest counts h = refl

-- the same if it is 2^64 or more once the digit is added
pub with_digit_too_great : (n ten m i : ℕ) (digits : List ℕ) → i < length digits → ten ≡ n * 10
    → (if is_digit (slice_index_or digits i 0) then Some (slice_index_or digits i 0 - 48) else None)
    ≡ Some m → 2 ^ 64 ≤ ten + m
    → option_and_then below_2_64 (digits_behind n (drop i digits)) ≡ None
with_digit_too_great n ten m i digits within is counts h =
    rw (drop_more digits i 0 within) (with_digit (is_digit (slice_index_or digits i 0)) n
    m (slice_index_or digits i 0 - 48) (drop (i + 1) digits) counts
    (subst (λ x. 2 ^ 64 ≤ x + m) is h))

-- a number that is not below n is at least n
pub at_least : (m n : ℕ) → (m < n → ⊥) → n ≤ m
at_least m n h =
    let below : n < suc m = lt_of_not-le h in
    omega arith

-- the number that the digits spell is the number that the loop computes
pub parsed : (digits : List ℕ) (number : Option ℕ) → (length digits == 0) ≡ false
    → option_and_then below_2_64 (digits_behind 0 digits) ≡ number → parsed_number digits ≡ number
parsed digits number some h = rw some h

-- when no digit is left, a number that fits is the result
pub at_end : (n i : ℕ) (digits : List ℕ) → length digits ≤ i → n < 2 ^ 64
    → option_and_then below_2_64 (digits_behind n (drop i digits)) ≡ Some n
at_end n i digits past h = rw (drop_all i digits past, lt-ltb n (2 ^ 64) h) refl
