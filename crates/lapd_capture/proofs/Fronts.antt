-- The first octets of a file decide on its kind.
use Rattle.std.proofs.Common.{◌≡◌, ◌⊎◌, inl, inr, ℕ, ◌≤◌, ◌<◌, List, [], ◌++◌, Option, Some, None, Result, Ok, Err, IfOk, ap, sym, ◌∙◌, subst, length, take, length-take-le, arith}
use Rattle.std.proofs.lemmas.Bool.{cases_lt}
use Rattle.std.proofs.lemmas.List.{append-nil, take-append-le}
use Rattle.std.specs.Io.KnownBytes.{Consumes, IsAtEnd}
use Rattle.lapd_capture.specs.declared.fault.ReadFault.{ReadFault}
use Rattle.lapd_capture.specs.FileKind.{kind_of_file, kind_of_front}

-- all octets were read
pub front_whole : (front xs ys : List ℕ) → xs ≡ front ++ ys → ys ≡ [] → take 8 front ≡ take 8 xs
front_whole front xs ys e none =
    ap (take 8) (sym (e ∙ (ap (λ zs. front ++ zs) none ∙ append-nil front)))

-- eight octets were read
pub front_full : (front xs ys : List ℕ) → xs ≡ front ++ ys → 8 ≤ length front
    → take 8 front ≡ take 8 xs
front_full front xs ys e long = sym (ap (take 8) e ∙ take-append-le 8 front ys long)

pub front_by : (count : ℕ) (buf xs ys : List ℕ) → (count < 8) ⊎ (8 ≤ count) → length buf ≡ 8
    → count ≤ length buf → xs ≡ take count buf ++ ys → (count < length buf → ys ≡ [])
    → take 8 (take count buf) ≡ take 8 xs
front_by count buf xs ys (inl short) len most e ended =
    front_whole (take count buf) xs ys e (ended (omega arith))
front_by count buf xs ys (inr long) len most e ended =
    let same : length (take count buf) ≡ count = length-take-le count buf most in
    front_full (take count buf) xs ys e (omega arith)

pub front_new : (count : ℕ) (new : Option (List ℕ)) (buf xs : List ℕ) → length buf ≡ 8
    → count ≤ length buf → Consumes (Some xs) new (take count buf)
    → (count < length buf → IsAtEnd new)
    → kind_of_file (take count buf) ≡ kind_of_file xs
front_new count None buf xs len most given ended = absurd given
front_new count (Some ys) buf xs len most given ended =
    ap kind_of_front (front_by count buf xs ys (cases_lt count 8) len most given ended)

-- as the result of a call
pub front_kind : (result : Result ℕ ReadFault) (old new : Option (List ℕ)) (buf xs : List ℕ)
    → length buf ≡ 8 → IfOk result (λ count. count ≤ length buf)
    → IfOk result (λ count. Consumes old new (take count buf) × (count < length buf → IsAtEnd new))
    → old ≡ Some xs
    → IfOk result (λ count. kind_of_file (take count buf) ≡ kind_of_file xs)
front_kind (Err fault) old new buf xs len most given e = tt
front_kind (Ok count) old new buf xs len most given e =
    front_new count new buf xs len most (subst (λ o. Consumes o new (take count buf)) e given.0)
    given.1
