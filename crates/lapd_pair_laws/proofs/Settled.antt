-- The places that are acknowledged or dropped, and those that are left.
use Rattle.std.proofs.Common.{◌≡◌, ℕ, ◌+◌, ◌-◌, nat_lt, nat_le, Bool, true, false, not, cond, ◌&&◌, ◌||◌, List, ◌∷◌, ◌++◌, length, refl, ap, ◌∙◌, zero, suc, arith}
use Rattle.std.proofs.lemmas.Bool.Decides.{nat_tests}
use Rattle.std.proofs.lemmas.List.Folds.{list_any-append}
use Rattle.std.specs.List.{filter, range_with_len}
use Rattle.lapd_pair_laws.specs.Consistent.{is_one_of, AreSettled}
use Rattle.lapd_pair_laws.specs.Move.{Station}
use Rattle.lapd_pair_laws.specs.World.{left_of}

pub one_of_both : (before after : List ℕ) (place : ℕ)
    → is_one_of (before ++ after) place ≡ (is_one_of before place || is_one_of after place)
one_of_both before after place = list_any-append _ before after

pub one_of_range : (first n place : ℕ)
    → is_one_of (range_with_len first n) place ≡ (nat_le first place && nat_lt place (first + n))
one_of_range first zero place = grind (arith, nat_tests)
one_of_range first (suc n) place =
    let rest = one_of_range (first + 1) n place in grind (arith, nat_tests)

neither : (a b c : Bool) → (a || b) ≡ c → (not a && not b) ≡ not c
neither true b c e = ap not e
neither false true c e = ap not e
neither false false c e = ap not e

counted_on : (settled : Bool) (first n passed : ℕ) (rest : List ℕ) → nat_lt first passed ≡ settled
    → length rest ≡ (first + 1 + n - passed) - (first + 1 - passed)
    → length (cond (not settled) (first ∷ rest) rest) ≡ (first + suc n - passed) - (first - passed)
counted_on true first n passed rest e h = grind (arith, nat_tests)
counted_on false first n passed rest e h = grind (arith, nat_tests)

unsettled_in : (acked dropped : List ℕ) (passed first n : ℕ)
    → ((place : ℕ) → (is_one_of acked place || is_one_of dropped place) ≡ nat_lt place passed)
    → length (filter (λ place. not (is_one_of acked place) && not (is_one_of dropped place))
    (range_with_len first n)) ≡ (first + n - passed) - (first - passed)
unsettled_in acked dropped passed first zero settled = omega arith
unsettled_in acked dropped passed first (suc n) settled =
    rw (neither _ _ _ (settled first)) (counted_on (nat_lt first passed) first n
    passed _ refl (unsettled_in acked dropped passed (first + 1) n settled))

-- the messages left are those submitted, less those acknowledged or dropped
pub left_settled : (s : Station) → AreSettled s.history
    → left_of s ≡ length s.end.given - s.history.passed
left_settled s are =
    let left =
    unsettled_in s.history.acked s.history.dropped s.history.passed 0 (length s.end.given)
    are.settled in
    left ∙ omega arith
