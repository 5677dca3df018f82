-- Safe and unsafe histories.
use Rattle.std.proofs.Common.{◌≡◌, inl, inr, ℕ, zero, suc, ◌+◌, ◌<◌, ◌==◌, if◌then◌else◌, List, [], ◌∷◌, map, slice_get, Option, Some, None, refl, sym, subst, arith}
use Rattle.lapd_link_definition.specs.Parameters.{Parameters}
use Rattle.lapd_pair_laws.specs.Safe.{RiseFrom, IsAmong, AreNeighbours, IsSafe, AreSafe}
use Rattle.lapd_pair_laws.specs.Schedule.{receipt, one_message, two_messages, three_messages, in_first, in_first_but}
use Rattle.lapd_pair_laws.specs.World.{new_world}

-- ---- Safe histories.

-- no message received, and none acknowledged
nothing_is_safe : (given : List (List ℕ)) (sent_in : ℕ → Option ℕ) → IsSafe given sent_in [] []
nothing_is_safe given sent_in = record {
  places = [];
  rising = tt;
  same = refl;
  neighbours = tt;
  prefix = λ place smaller among less equal. among;
  acknowledged = λ place among. among;
}

pub new_is_safe : (user network : Parameters) → AreSafe (new_world user network)
new_is_safe user network = (nothing_is_safe _ _, nothing_is_safe _ _)

-- the user's messages at the end of the schedule: the second was sent, lost and dropped
abbrev user_sent_in : ℕ → Option ℕ
user_sent_in place =
    if place == 2 then Some 2
    else (if place == 1 then Some 1
    else (if place == 0 then Some 1 else (if place == 0 then Some 1 else None)))

user_prefix : (place smaller : ℕ) → IsAmong place (0 ∷ 2 ∷ []) → smaller < place
    → user_sent_in smaller ≡ user_sent_in place → IsAmong smaller (0 ∷ 2 ∷ [])
user_prefix place smaller (inl here) less equal = absurd (omega (arith, here, less))
user_prefix place zero (inr (inl here)) less equal = inl refl
user_prefix place (suc zero) (inr (inl here)) less equal =
    let other : Some 1 ≡ Some 2 = subst (λ p. user_sent_in 1 ≡ user_sent_in p) (sym here) equal in
    grind (arith, other)
user_prefix place (suc (suc n)) (inr (inl here)) less equal = absurd (omega (arith, here, less))
user_prefix place smaller (inr (inr impossible)) less equal = absurd impossible

pub user_is_safe : IsSafe ((8 ∷ 1 ∷ []) ∷ (8 ∷ 2 ∷ []) ∷ (8 ∷ 3 ∷ []) ∷ []) user_sent_in
    (0 ∷ 2 ∷ []) (receipt 0 1 (8 ∷ 1 ∷ []) ∷ receipt 2 2 (8 ∷ 3 ∷ []) ∷ [])
user_is_safe = record {
  places = 0 ∷ 2 ∷ [];
  rising = (omega arith, (omega arith, tt));
  same = refl;
  neighbours = ((λ equal. grind (arith, equal)), tt);
  prefix = user_prefix;
  acknowledged = λ place among. among;
}

abbrev network_sent_in : ℕ → Option ℕ
network_sent_in place = if place == 0 then Some 1 else None

network_prefix : (place smaller : ℕ) → IsAmong place (0 ∷ []) → smaller < place
    → network_sent_in smaller ≡ network_sent_in place → IsAmong smaller (0 ∷ [])
network_prefix place smaller (inl here) less equal = absurd (omega (arith, here, less))
network_prefix place smaller (inr impossible) less equal = absurd impossible

pub network_is_safe : IsSafe ((5 ∷ []) ∷ []) network_sent_in (0 ∷ []) (receipt 0 1 (5 ∷ []) ∷ [])
network_is_safe = record {
  places = 0 ∷ [];
  rising = (omega arith, tt);
  same = refl;
  neighbours = tt;
  prefix = network_prefix;
  acknowledged = λ place among. among;
}

-- ---- Unsafe histories.

-- one message, received twice
twice_at : (places : List ℕ) → RiseFrom 0 places
    → map (λ place. slice_get one_message place) places ≡ Some (1 ∷ []) ∷ Some (1 ∷ []) ∷ [] → ⊥
twice_at (zero ∷ zero ∷ places) rising same = omega (arith, rising.1.0)
twice_at places rising same = cc

pub twice_is_not_safe : IsSafe one_message in_first []
    (receipt 0 1 (1 ∷ []) ∷ receipt 0 2 (1 ∷ []) ∷ []) → ⊥
twice_is_not_safe safe = twice_at safe.places safe.rising safe.same

-- two messages, received in the wrong order
swapped_at : (places : List ℕ) → RiseFrom 0 places
    → map (λ place. slice_get two_messages place) places ≡ Some (2 ∷ []) ∷ Some (1 ∷ []) ∷ [] → ⊥
swapped_at (zero ∷ places) rising same = grind (arith, same)
swapped_at (suc zero ∷ zero ∷ places) rising same = omega (arith, rising.1.0)
swapped_at (suc zero ∷ suc zero ∷ places) rising same = grind (arith, same)
swapped_at places rising same = cc

pub swapped_is_not_safe : IsSafe two_messages in_first []
    (receipt 1 1 (2 ∷ []) ∷ receipt 0 2 (1 ∷ []) ∷ []) → ⊥
swapped_is_not_safe safe = swapped_at safe.places safe.rising safe.same

-- one skipped in the receiver's establishment
skipped_at : (places : List ℕ)
    → AreNeighbours places (receipt 0 1 (1 ∷ []) ∷ receipt 2 1 (3 ∷ []) ∷ [])
    → map (λ place. slice_get three_messages place) places ≡ Some (1 ∷ []) ∷ Some (3 ∷ []) ∷ [] → ⊥
skipped_at [] neighbours same = cc
skipped_at (zero ∷ []) neighbours same = cc
skipped_at (zero ∷ suc (suc place) ∷ places) neighbours same =
    let next : suc (suc place) ≡ 0 + 1 = neighbours.0 refl in omega (arith, next)
skipped_at (suc (suc (suc place)) ∷ places) neighbours same = cc
skipped_at places neighbours same = grind (arith, same)

pub skipped_is_not_safe : IsSafe three_messages (in_first_but 1) []
    (receipt 0 1 (1 ∷ []) ∷ receipt 2 1 (3 ∷ []) ∷ []) → ⊥
skipped_is_not_safe safe = skipped_at safe.places safe.neighbours safe.same

-- one missing from the sender's establishment
missing_at : (places : List ℕ)
    → ((place smaller : ℕ) → IsAmong place places → smaller < place
    → in_first smaller ≡ in_first place → IsAmong smaller places)
    → map (λ place. slice_get two_messages place) places ≡ Some (2 ∷ []) ∷ [] → ⊥
missing_at [] prefix same = cc
missing_at (zero ∷ places) prefix same = grind (arith, same)
missing_at (suc zero ∷ []) prefix same =
    elim (prefix 1 0 (inl refl) (omega arith) refl)
    [ inl here ↦ omega (arith, here) | inr impossible ↦ impossible ]
missing_at (suc zero ∷ place ∷ places) prefix same = cc
missing_at (suc (suc place) ∷ places) prefix same = cc

pub missing_is_not_safe : IsSafe two_messages in_first [] (receipt 1 1 (2 ∷ []) ∷ []) → ⊥
missing_is_not_safe safe = missing_at safe.places safe.prefix safe.same

-- one acknowledged, and not received
unreceived_at : (places : List ℕ) → IsAmong 0 places
    → map (λ place. slice_get one_message place) places ≡ [] → ⊥
unreceived_at [] among same = among
unreceived_at (place ∷ places) among same = cc

pub unreceived_is_not_safe : IsSafe one_message in_first (0 ∷ []) [] → ⊥
unreceived_is_not_safe safe = unreceived_at safe.places (safe.acknowledged 0 (inl refl)) safe.same

-- other octets than those submitted
altered_at : (places : List ℕ)
    → map (λ place. slice_get one_message place) places ≡ Some (2 ∷ []) ∷ [] → ⊥
altered_at [] same = cc
altered_at (zero ∷ places) same = grind (arith, same)
altered_at (suc place ∷ places) same = cc

pub altered_is_not_safe : IsSafe one_message in_first [] (receipt 0 1 (2 ∷ []) ∷ []) → ⊥
altered_is_not_safe safe = altered_at safe.places safe.same
