-- Messages received, when one more arrives.
use Rattle.std.proofs.Common.{◌≡◌, ◌⊎◌, inl, inr, ℕ, ◌+◌, ◌<◌, ◌≤◌, List, [], ◌∷◌, ◌++◌, length, slice_get, Some, refl, arith}
use Rattle.std.proofs.lemmas.Option.{slice_get_within}
use Rattle.lapd_pair_laws.specs.Histories.{Receipt}
use Rattle.lapd_pair_laws.specs.Conjuncts.{high_from, era_from, HasPlace, AreGiven, IsRow}

pub high_more : (low : ℕ) (rs : List Receipt) (r : Receipt)
    → high_from low (rs ++ r ∷ []) ≡ r.place + 1
high_more low [] r = refl
high_more low (s ∷ rs) r = high_more (s.place + 1) rs r

pub era_more : (era : ℕ) (rs : List Receipt) (r : Receipt)
    → era_from era (rs ++ r ∷ []) ≡ r.establishment
era_more era [] r = refl
era_more era (s ∷ rs) r = era_more s.establishment rs r

pub place_stays : (place : ℕ) (rs : List Receipt) (r : Receipt) → HasPlace place rs
    → HasPlace place (rs ++ r ∷ [])
place_stays place [] r h = absurd h
place_stays place (s ∷ rs) r (inl here) = inl here
place_stays place (s ∷ rs) r (inr there) = inr (place_stays place rs r there)

pub place_arrives : (rs : List Receipt) (r : Receipt) → HasPlace r.place (rs ++ r ∷ [])
place_arrives [] r = inl refl
place_arrives (s ∷ rs) r = inr (place_arrives rs r)

-- a place received was received before, or is that of the new message
pub place_either : (place : ℕ) (rs : List Receipt) (r : Receipt) → HasPlace place (rs ++ r ∷ [])
    → HasPlace place rs ⊎ (r.place ≡ place)
place_either place [] r (inl here) = inr here
place_either place [] r (inr impossible) = absurd impossible
place_either place (s ∷ rs) r (inl here) = inl (inl here)
place_either place (s ∷ rs) r (inr there) =
    elim (place_either place rs r there) [ inl before ↦ inl (inr before) | inr new ↦ inr new ]

high_rises : (low era : ℕ) (rs : List Receipt) → IsRow low era rs → low ≤ high_from low rs
high_rises low era [] row = omega arith
high_rises low era (s ∷ rs) row =
    let up : s.place + 1 ≤ high_from (s.place + 1) rs =
    high_rises (s.place + 1) s.establishment rs row.2 in
    let here : low ≤ s.place = row.0 in omega (arith, up, here)

-- all places are below `high`
pub place_below : (low era place : ℕ) (rs : List Receipt) → IsRow low era rs → HasPlace place rs
    → place < high_from low rs
place_below low era place [] row h = absurd h
place_below low era place (s ∷ rs) row (inl here) =
    let up : s.place + 1 ≤ high_from (s.place + 1) rs =
    high_rises (s.place + 1) s.establishment rs row.2 in
    omega (arith, here, up)
place_below low era place (s ∷ rs) row (inr there) =
    place_below (s.place + 1) s.establishment place rs row.2 there

pub row_more : (low era : ℕ) (rs : List Receipt) (r : Receipt) → IsRow low era rs
    → high_from low rs ≤ r.place
    → (r.establishment ≡ era_from era rs → r.place ≡ high_from low rs)
    → IsRow low era (rs ++ r ∷ [])
row_more low era [] r row above next = (above, next, tt)
row_more low era (s ∷ rs) r row above next =
    (row.0, row.1, row_more (s.place + 1) s.establishment rs r row.2 above next)

pub given_more : (given : List (List ℕ)) (rs : List Receipt) (r : Receipt) → AreGiven given rs
    → slice_get given r.place ≡ Some r.octets → AreGiven given (rs ++ r ∷ [])
given_more given [] r are is = (is, tt)
given_more given (s ∷ rs) r are is = (are.0, given_more given rs r are.1 is)

-- all places received are places of submitted messages
pub high_given : (low : ℕ) (given : List (List ℕ)) (rs : List Receipt) → low ≤ length given
    → AreGiven given rs → high_from low rs ≤ length given
high_given low given [] within are = within
high_given low given (s ∷ rs) within are =
    let here : s.place < length given = slice_get_within given s.place s.octets are.0 in
    high_given (s.place + 1) given rs (omega (arith, here)) are.1
