-- The places acknowledged or dropped are those before the first waiting message.
use Rattle.std.proofs.Common.{◌≡◌, ℕ, ◌+◌, ◌==◌, ◌&&◌, ◌||◌, nat_le, nat_lt, Bool, true, false, length-append, arith}
use Rattle.std.specs.List.{range_with_len}
use Rattle.std.proofs.lemmas.Bool.Decides.{nat_tests}
use Rattle.std.proofs.lemmas.List.Folds.{list_any-append}
use Rattle.std.proofs.lemmas.List.FromFn.{length-range_with_len}
use Rattle.lapd_pair_laws.specs.Histories.{History, with_acked, with_dropped}
use Rattle.lapd_pair_laws.specs.Consistent.{is_one_of, AreSettled}
use Rattle.lapd_pair_laws.proofs.Settled.{one_of_range}

more_settled : (acked dropped new : Bool) (place passed n : ℕ)
    → (acked || dropped) ≡ nat_lt place passed
    → new ≡ (nat_le passed place && nat_lt place (passed + n))
    → ((acked || new) || dropped) ≡ nat_lt place (passed + n)
more_settled true dropped new place passed n before more = grind (arith, nat_tests)
more_settled false true new place passed n before more = grind (arith, nat_tests)
more_settled false false new place passed n before more = grind (arith, nat_tests)

more_dropped : (acked dropped new : Bool) (place passed n : ℕ)
    → (acked || dropped) ≡ nat_lt place passed
    → new ≡ (nat_le passed place && nat_lt place (passed + n))
    → (acked || (dropped || new)) ≡ nat_lt place (passed + n)
more_dropped true dropped new place passed n before more = grind (arith, nat_tests)
more_dropped false true new place passed n before more = grind (arith, nat_tests)
more_dropped false false new place passed n before more = grind (arith, nat_tests)

pub acked_settled : (n : ℕ) (h : History) → AreSettled h → AreSettled (with_acked n h)
acked_settled n h preserved = record {
  counted =
      omega (
        arith,
        length-append h.acked (range_with_len h.passed n),
        length-range_with_len h.passed n,
        preserved.counted,
      );
  settled = λ place. rw (list_any-append (λ p. p == place) h.acked (range_with_len h.passed n))
      (more_settled (is_one_of h.acked place) (is_one_of h.dropped place)
      (is_one_of (range_with_len h.passed n) place) place h.passed n
      (preserved.settled place) (one_of_range h.passed n place));
}

pub dropped_settled : (n : ℕ) (h : History) → AreSettled h → AreSettled (with_dropped n h)
dropped_settled n h preserved = record {
  counted =
      omega (
        arith,
        length-append h.dropped (range_with_len h.passed n),
        length-range_with_len h.passed n,
        preserved.counted,
      );
  settled = λ place. rw (list_any-append (λ p. p == place) h.dropped (range_with_len h.passed n))
      (more_dropped (is_one_of h.acked place) (is_one_of h.dropped place)
      (is_one_of (range_with_len h.passed n) place) place h.passed n
      (preserved.settled place) (one_of_range h.passed n place));
}
