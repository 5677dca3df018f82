-- How many packets are missing before a block, option by option.
use Rattle.std.proofs.Common.{◌≡◌, ◌≢◌, ℕ, suc, ◌+◌, ◌-◌, ◌≤◌, ◌<◌, ◌==◌, true, false, List, length, drop, nat_lt, if◌then◌else◌, refl, sym, ap, ◌∙◌, arith}
use Rattle.std.proofs.lemmas.Bool.Decides.{nat_tests}
use Rattle.lapd_capture.specs.declared.order.Order.{Order}
use Rattle.lapd_capture.specs.Octets.{number_at}
use Rattle.lapd_capture.specs.Moment.{missing_among, padded}

-- one more option
among_suc : (i : ℕ) (order : Order) (rest : List ℕ) → i < 64
    → missing_among (64 - i) order rest ≡ missing_among (suc (64 - (i + 1))) order rest
among_suc i order rest h =
    let e : 64 - i ≡ suc (64 - (i + 1)) = omega arith in ap (λ n. missing_among n order rest) e

-- by the code of the option
abbrev by_code : ℕ → ℕ → Order → List ℕ → ℕ
by_code n code order rest = if code == 0 then 0 else (
    if code == 4 then number_at order 8 4 rest
    else missing_among n order (drop (4 + padded (number_at order 2 2 rest)) rest))

among_code : (i code : ℕ) (order : Order) (rest : List ℕ) → i < 64 → 12 ≤ length rest
    → code ≡ number_at order 2 0 rest
    → missing_among (64 - i) order rest ≡ by_code (64 - (i + 1)) code order rest
unfolding missing_among
among_code i code order rest h enough is =
    let long : nat_lt (length rest) 12 ≡ false = grind (arith, nat_tests) in
    let once : missing_among (suc (64 - (i + 1))) order rest ≡ by_code (64 - (i + 1))
    (number_at order 2 0 rest) order rest =
    rw long refl in
    among_suc i order rest h ∙ once ∙ ap (λ k. by_code (64 - (i + 1)) k order rest) (sym is)

pub among_short : (i : ℕ) (order : Order) (rest : List ℕ) → i < 64 → length rest < 12
    → missing_among (64 - i) order rest ≡ 0
unfolding missing_among
among_short i order rest h few =
    let short : nat_lt (length rest) 12 ≡ true = grind (arith, nat_tests) in
    let once : missing_among (suc (64 - (i + 1))) order rest ≡ 0 = rw short refl in
    among_suc i order rest h ∙ once

pub among_end : (i code : ℕ) (order : Order) (rest : List ℕ) → i < 64 → 12 ≤ length rest
    → code ≡ number_at order 2 0 rest → code ≡ 0 → missing_among (64 - i) order rest ≡ 0
unfolding missing_among
among_end i code order rest h enough is zero =
    among_code i code order rest h enough is ∙ ap (λ k. by_code (64 - (i + 1)) k order rest) zero

pub among_found : (i code : ℕ) (order : Order) (rest : List ℕ) → i < 64 → 12 ≤ length rest
    → code ≡ number_at order 2 0 rest → code ≡ 4
    → missing_among (64 - i) order rest ≡ number_at order 8 4 rest
unfolding missing_among
among_found i code order rest h enough is four =
    among_code i code order rest h enough is ∙ ap (λ k. by_code (64 - (i + 1)) k order rest) four

pub among_passed : (i code size count : ℕ) (order : Order) (rest after : List ℕ) → i < 64
    → 12 ≤ length rest → code ≡ number_at order 2 0 rest → code ≢ 0 → code ≢ 4
    → size ≡ number_at order 2 2 rest → count ≡ padded size → after ≡ drop (4 + count) rest
    → missing_among (64 - i) order rest ≡ missing_among (64 - (i + 1)) order after
unfolding missing_among
among_passed i code size count order rest after h enough is not_zero not_four is_size is_count
    is_after =
    let a : (code == 0) ≡ false = grind (arith, nat_tests) in
    let b : (code == 4) ≡ false = grind (arith, nat_tests) in
    let passed : by_code (64 - (i + 1)) code order rest ≡ missing_among (64 - (i + 1)) order
    (drop (4 + padded (number_at order 2 2 rest)) rest) =
    rw (a, b) refl in
    among_code i code order rest h enough is ∙ passed
    ∙ ap (λ n. missing_among (64 - (i + 1)) order (drop (4 + padded n) rest)) (sym is_size)
    ∙ ap (λ n. missing_among (64 - (i + 1)) order (drop (4 + n) rest)) (sym is_count)
    ∙ ap (λ l. missing_among (64 - (i + 1)) order l) (sym is_after)

pub among_none : (i : ℕ) (order : Order) (rest : List ℕ) → 64 ≤ i
    → missing_among (64 - i) order rest ≡ 0
unfolding missing_among
among_none i order rest h = let e : 64 - i ≡ 0 = omega arith in ap (λ n. missing_among n order rest) e
