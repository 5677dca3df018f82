-- The numbers of establishments recorded with the messages received.
use Rattle.std.proofs.Common.{◌≡◌, ◌⊎◌, inl, inr, ℕ, zero, suc, ◌+◌, ◌<◌, ◌≤◌, nat_le, nat_lt, Bool, true, false, cond, if◌then◌else◌, List, [], ◌∷◌, ◌++◌, length, slice_get, Option, Some, refl, sym, ap, ◌∙◌, length-append, arith}
use Rattle.std.proofs.lemmas.Bool.Decides.{nat_tests}
use Rattle.std.proofs.lemmas.List.Sums.{sum_by-append}
use Rattle.std.specs.Option.{option_map}
use Rattle.lapd_pair.specs.Establishments.{establishment_at, begun_at, AreNumbered}
use Rattle.lapd_pair.specs.declared.received.Received.{Received}

abbrev establishment_of : Option Received → Option ℕ
establishment_of message = option_map (λ message. message.establishment) message

read_before : (received : List Received) (message : Received) (n : ℕ) → n < length received
    → slice_get (received ++ message ∷ []) n ≡ slice_get received n
read_before [] message n lt = absurd (omega (arith, lt))
read_before (first ∷ received) message zero lt = refl
read_before (first ∷ received) message (suc n) lt =
    read_before received message n (omega (arith, lt))

read_last : (received : List Received) (message : Received)
    → slice_get (received ++ message ∷ []) (length received) ≡ Some message
read_last [] message = refl
read_last (first ∷ received) message = read_last received message

begun_more : (begun : List ℕ) (before n : ℕ) → before ≤ n
    → begun_at (begun ++ before ∷ []) n ≡ begun_at begun n + 1
begun_more begun before n le =
    let yes : nat_le before n ≡ true = grind (arith, nat_tests) in
    sum_by-append (λ x. cond (nat_le x n) 1 0) begun (before ∷ []) ∙ rw yes refl

begun_no_more : (begun : List ℕ) (before n : ℕ) → n < before
    → begun_at (begun ++ before ∷ []) n ≡ begun_at begun n
begun_no_more begun before n lt =
    let no : nat_le before n ≡ false = grind (arith, nat_tests) in
    sum_by-append (λ x. cond (nat_le x n) 1 0) begun (before ∷ []) ∙ rw no (omega arith)

begins_numbered : (received : List Received) (begun : List ℕ) (before : ℕ)
    → before ≡ length received → AreNumbered received begun
    → AreNumbered received (begun ++ before ∷ [])
begins_numbered received begun before is are = record {
  arrived =
      λ n lt. are.arrived n lt ∙ ap (λ number. Some number)
      (sym (begun_no_more begun before n (omega (arith, is, lt))));
  next =
      λ n le. begun_more begun before n (omega (arith, is, le)) ∙ rw (are.next n le)
      (sym (length-append begun (before ∷ [])));
}

-- an establishment begins, and is recorded if there is space
pub begins_where : (room : Bool) (received : List Received) (begun now : List ℕ) (before : ℕ)
    → now ≡ (if room then begun ++ before ∷ [] else begun) → before ≡ length received
    → AreNumbered received begun → AreNumbered received now
begins_where true received begun now before is counted are =
    rw is (begins_numbered received begun before counted are)
begins_where false received begun now before is counted are = rw is are

either_by : (less : Bool) (n len : ℕ) → nat_lt n len ≡ less → n < len + 1 → (n < len) ⊎ (n ≡ len)
either_by true n len is lt = inl (grind (arith, nat_tests))
either_by false n len is lt = inr (grind (arith, nat_tests))

message_arrived : (received : List Received) (begun : List ℕ) (message : Received)
    → message.establishment ≡ length begun → AreNumbered received begun
    → (n : ℕ) → (n < length received) ⊎ (n ≡ length received)
    → establishment_at (received ++ message ∷ []) n ≡ Some (begun_at begun n)
message_arrived received begun message is are n (inl lt) =
    ap establishment_of (read_before received message n lt) ∙ are.arrived n lt
message_arrived received begun message is are n (inr here) =
    rw here (ap establishment_of (read_last received message)
    ∙ ap (λ number. Some number) (is ∙ sym (are.next (length received) (omega arith))))

receives_numbered : (received : List Received) (begun : List ℕ) (message : Received)
    → message.establishment ≡ length begun → AreNumbered received begun
    → AreNumbered (received ++ message ∷ []) begun
receives_numbered received begun message is are = record {
  arrived =
      λ n lt. message_arrived received begun message is are n
      (either_by (nat_lt n (length received)) n
      (length received) refl (omega (arith, lt, length-append received (message ∷ []))));
  next = λ n le. are.next n (omega (arith, le, length-append received (message ∷ [])));
}

-- a message arrives, and is recorded if there is space
pub receives_where : (room : Bool) (received now : List Received) (begun : List ℕ)
    (message : Received) → now ≡ (if room then received ++ message ∷ [] else received)
    → message.establishment ≡ length begun
    → AreNumbered received begun → AreNumbered now begun
receives_where true received now begun message is counted are =
    rw is (receives_numbered received begun message counted are)
receives_where false received now begun message is counted are = rw is are
