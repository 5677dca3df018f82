-- The automatic TEIs, examined one by one.
use Rattle.std.proofs.Common.{◌≡◌, ℕ, suc, ◌+◌, ◌-◌, ◌<◌, ◌≤◌, Bool, true, false, Option, Some, None, refl, arith}
use Rattle.lapd_tei_audit.specs.Audit.{first_of, first_automatic}

-- before the first one
pub before_first : (test : ℕ → Bool) → first_automatic test ≡ first_of (127 - 64) 64 test
unfolding first_automatic
before_first test = refl

-- one without the property is skipped
pub skipped : (test : ℕ → Bool) (n : ℕ) → n < 127 → test n ≡ false
    → first_of (127 - n) n test ≡ first_of (127 - (n + 1)) (n + 1) test
skipped test n within is =
    let e : 127 - n ≡ suc (127 - (n + 1)) = omega arith in
    rw (e, is) refl

-- one with the property is found
pub found : (test : ℕ → Bool) (n : ℕ) → n < 127 → test n ≡ true
    → first_of (127 - n) n test ≡ Some n
found test n within is =
    let e : 127 - n ≡ suc (127 - (n + 1)) = omega arith in
    rw (e, is) refl

-- past the last one nothing is found
pub none_left : (test : ℕ → Bool) (n : ℕ) → 127 ≤ n → first_of (127 - n) n test ≡ None
none_left test n past =
    let e : 127 - n ≡ 0 = omega arith in
    rw e refl
