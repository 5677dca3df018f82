-- The octets that a reader with known octets has left after some were taken from it.
use Rattle.std.proofs.Common.{◌≡◌, ◌⊎◌, inl, inr, ℕ, ◌+◌, ◌-◌, ◌≤◌, ◌<◌, Bool, true, false, List, [], Option, Some, Ok, ap, ◌∙◌, subst, length, take, drop, length-drop, drop-drop, arith}
use Rattle.lapd_capture.specs.declared.taking.Taken.{Taken}
use Rattle.lapd_capture.specs.declared.taking.Taken.TheVariants.{All, Part, Nothing}
use Rattle.lapd_capture.specs.Takes.{Skips, SkipsFrom, Takes, TakesFrom}

-- ---- what is left, from what was taken

pub all_taken : (old new : Option (List ℕ)) (taken : Taken) (octets left : List ℕ) (n : ℕ)
    → Takes old (Ok taken) octets new → taken ≡ All → length octets ≡ n → old ≡ Some left
    → (n ≤ length left) × (octets ≡ take n left) × (new ≡ Some (drop n left))
all_taken old new taken octets left n h is len e =
    let t : TakesFrom left (Ok All) octets new =
    subst (λ t. TakesFrom left (Ok t) octets new) is (h left e) in
    subst (λ m. (m ≤ length left) × (octets ≡ take m left) × (new ≡ Some (drop m left))) len t

pub part_taken : (old new : Option (List ℕ)) (taken : Taken) (octets left : List ℕ) (n : ℕ)
    → Takes old (Ok taken) octets new → taken ≡ Part → length octets ≡ n → old ≡ Some left
    → (0 < length left) × (length left < n)
part_taken old new taken octets left n h is len e =
    let t : TakesFrom left (Ok Part) octets new =
    subst (λ t. TakesFrom left (Ok t) octets new) is (h left e) in
    subst (λ m. (0 < length left) × (length left < m)) len t

pub nothing_taken : (old new : Option (List ℕ)) (taken : Taken) (octets left : List ℕ)
    → Takes old (Ok taken) octets new → taken ≡ Nothing → old ≡ Some left
    → (left ≡ []) × (new ≡ Some []) × (0 < length octets)
nothing_taken old new taken octets left h is e =
    subst (λ t. TakesFrom left (Ok t) octets new) is (h left e)

pub too_few : (old new : Option (List ℕ)) (taken : Taken) (octets left : List ℕ) (n : ℕ)
    → Takes old (Ok taken) octets new → (taken ≡ Part) ⊎ (taken ≡ Nothing) → length octets ≡ n
    → old ≡ Some left
    → length left < n
too_few old new taken octets left n h (inl is) len e =
    (part_taken old new taken octets left n h is len e).1
too_few old new taken octets left n h (inr is) len e =
    let t = nothing_taken old new taken octets left h is e in
    let none : length left ≡ 0 = ap length t.0 in
    let some : 0 < length octets = t.2 in
    omega arith

-- ---- octets that were skipped

pub all_skipped : (count : ℕ) (old new : Option (List ℕ)) (found : Bool) (left : List ℕ)
    → Skips count old (Ok found) new → found ≡ true → old ≡ Some left
    → (count ≤ length left) × (new ≡ Some (drop count left))
all_skipped count old new found left h is e =
    subst (λ b. SkipsFrom count left (Ok b) new) is (h left e)

pub fewer_skipped : (count : ℕ) (old new : Option (List ℕ)) (found : Bool) (left : List ℕ)
    → Skips count old (Ok found) new → found ≡ false → old ≡ Some left
    → length left < count
fewer_skipped count old new found left h is e =
    subst (λ b. SkipsFrom count left (Ok b) new) is (h left e)

-- one part more was skipped
pub skipped_more : (count ahead size : ℕ) (xs : List ℕ) (new : Option (List ℕ)) → ahead ≤ count
    → size ≤ ahead → count - ahead ≤ length xs → size ≤ length (drop (count - ahead) xs)
    → new ≡ Some (drop size (drop (count - ahead) xs))
    → (count - (ahead - size) ≤ length xs) × (new ≡ Some (drop (count - (ahead - size)) xs))
skipped_more count ahead size xs new fits part before enough h =
    let len : length (drop (count - ahead) xs) ≡ length xs - (count - ahead) =
    length-drop (count - ahead) xs in
    let sum : (count - ahead) + size ≡ count - (ahead - size) = omega arith in
    (omega arith, h ∙ ap Some (drop-drop size (count - ahead) xs ∙ ap (λ n. drop n xs) sum))

-- too few for the next part
pub skipped_fewer : (count ahead size : ℕ) (xs : List ℕ) → ahead ≤ count → size ≤ ahead
    → count - ahead ≤ length xs → length (drop (count - ahead) xs) < size → length xs < count
skipped_fewer count ahead size xs fits part before few =
    let len : length (drop (count - ahead) xs) ≡ length xs - (count - ahead) =
    length-drop (count - ahead) xs in
    omega arith

-- the octets after those that were skipped
pub last_taken : (count : ℕ) (left last : List ℕ) (new : Option (List ℕ)) → count ≤ length left
    → 4 ≤ length (drop count left) → new ≡ Some (drop 4 (drop count left))
    → (count + 4 ≤ length left) × (new ≡ Some (drop (count + 4) left))
last_taken count left last new skipped enough h =
    let len : length (drop count left) ≡ length left - count = length-drop count left in
    (omega arith, h ∙ ap Some (drop-drop 4 count left))

pub last_missing : (count : ℕ) (left : List ℕ) → count ≤ length left → length (drop count left) < 4
    → length left < count + 4
last_missing count left skipped few =
    let len : length (drop count left) ≡ length left - count = length-drop count left in omega arith
