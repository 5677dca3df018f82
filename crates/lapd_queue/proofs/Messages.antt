-- Lemmas about the octets of a list of messages.
use Rattle.std.proofs.Common.{arith, ◌≡◌, ◌-◌, List, [], ◌∷◌, length, take, drop, refl}
use Rattle.std.proofs.lemmas.List.{length-map, map-append, drop-map}
use Rattle.std.proofs.lemmas.Option.{slice_get-map}

pub ruleset messages = (length-map, map-append, drop-map, slice_get-map)

-- the rest of a list of one item is empty
pub rest_of_one : {A : Type 0} (xs : List A) → length xs ≡ 1 → take (length xs - 1) xs ≡ drop 1 xs
rest_of_one [] one = absurd (omega (arith, one))
rest_of_one (x ∷ []) one = refl
rest_of_one (x ∷ y ∷ rest) one = absurd (omega (arith, one))
