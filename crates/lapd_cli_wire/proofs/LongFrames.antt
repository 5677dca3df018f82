-- A frame of more than 264 octets has the fault of its first 265.
use Rattle.std.proofs.Common.{◌≡◌, ℕ, ◌<◌, Bool, true, false, if◌then◌else◌, List, [], ◌∷◌, length, take, drop, Option, None, Some, Result, Ok, Err, nat_lt, nat_eq, refl, sym, ap, ◌∙◌, arith}
use Rattle.std.proofs.lemmas.Bool.Decides.{nat_tests}
use Rattle.std.proofs.lemmas.List.{length-take-le}
use Rattle.lapd_field.specs.declared.side.Side.{Side}
use Rattle.lapd_field.specs.declared.side.Role.{Role}
use Rattle.lapd_field.specs.declared.side.Role.TheVariants.{Command, Answer}
use Rattle.lapd_field.specs.declared.address.Address.{Address}
use Rattle.lapd_field.specs.declared.control.Control.{Control}
use Rattle.lapd_field.specs.declared.control.Control.TheVariants.{I, Rr, Rnr, Rej, Sabme, Dm, Ui, Disc, Ua, Frmr, Xid}
use Rattle.lapd_field.specs.declared.field_fault.FieldFault.{FieldFault}
use Rattle.lapd_field.specs.declared.field_fault.FieldFault.TheVariants as field
use Rattle.lapd_field.specs.Address.{address_at}
use Rattle.lapd_field.specs.Control.{has_second, numbered_at, unnumbered_at, with_length}
use Rattle.lapd_frame.specs.Frame.{content_fault, frame_of}
use Rattle.lapd_frame.specs.Reading.{fault_for_link, frame_at, frame_of_fields}

-- more than 260 octets of information are a fault of every control field, whatever their number
long_content : (address : Address) (role : Role) (control : Control) (info : List ℕ)
    → 260 < length info
    → frame_of address control info (content_fault role control (length info))
    ≡ frame_of address control [] (content_fault role control 261)
long_content address Command (I ns nr p) info long =
    let most : nat_lt 260 (length info) ≡ true = grind (arith, nat_tests) in rw most refl
long_content address Answer (I ns nr p) info long = refl
long_content address role (Rr nr pf) info long =
    let some : nat_lt 0 (length info) ≡ true = grind (arith, nat_tests) in rw some refl
long_content address role (Rnr nr pf) info long =
    let some : nat_lt 0 (length info) ≡ true = grind (arith, nat_tests) in rw some refl
long_content address role (Rej nr pf) info long =
    let some : nat_lt 0 (length info) ≡ true = grind (arith, nat_tests) in rw some refl
long_content address Command (Sabme p) info long =
    let some : nat_lt 0 (length info) ≡ true = grind (arith, nat_tests) in rw some refl
long_content address Answer (Sabme p) info long = refl
long_content address Answer (Dm f) info long =
    let some : nat_lt 0 (length info) ≡ true = grind (arith, nat_tests) in rw some refl
long_content address Command (Dm f) info long = refl
long_content address Command (Ui p) info long =
    let most : nat_lt 260 (length info) ≡ true = grind (arith, nat_tests) in rw most refl
long_content address Answer (Ui p) info long = refl
long_content address Command (Disc p) info long =
    let some : nat_lt 0 (length info) ≡ true = grind (arith, nat_tests) in rw some refl
long_content address Answer (Disc p) info long = refl
long_content address Answer (Ua f) info long =
    let some : nat_lt 0 (length info) ≡ true = grind (arith, nat_tests) in rw some refl
long_content address Command (Ua f) info long = refl
long_content address Answer (Frmr f) info long =
    let five : nat_eq (length info) 5 ≡ false = grind (arith, nat_tests) in rw five refl
long_content address Command (Frmr f) info long = refl
long_content address role (Xid pf) info long =
    let most : nat_lt 260 (length info) ≡ true = grind (arith, nat_tests) in rw most refl

same_content : (address : Address) (role : Role) (control : Control) (info more : List ℕ)
    → 260 < length info → 260 < length more
    → frame_of address control info (content_fault role control (length info))
    ≡ frame_of address control more (content_fault role control (length more))
same_content address role control info more long longer =
    long_content address role control info long
    ∙ sym (long_content address role control more longer)

-- the same for octets: a control field of n octets, and more than 260 after it
same_fields : (address : Result Address FieldFault) (control : Option Control) (n : ℕ)
    (front octets : List ℕ) → 260 < length (drop n front) → 260 < length (drop n octets)
    → frame_of_fields address (with_length control n) front
    ≡ frame_of_fields address (with_length control n) octets
same_fields (Err field.TooShort) None n front octets long longer = refl
same_fields (Err field.BadAddress) None n front octets long longer = refl
same_fields (Err field.SapiNotServed) None n front octets long longer = refl
same_fields (Err field.Undefined) None n front octets long longer = refl
same_fields (Err field.TooShort) (Some control) n front octets long longer = refl
same_fields (Err field.BadAddress) (Some control) n front octets long longer = refl
same_fields (Err field.SapiNotServed) (Some control) n front octets long longer = refl
same_fields (Err field.Undefined) (Some control) n front octets long longer = refl
same_fields (Ok address) None n front octets long longer = refl
same_fields (Ok address) (Some control) n front octets long longer =
    ap (fault_for_link address)
    (same_content address address.role control (drop n front) (drop n octets) long longer)

by_second : (is_second : Bool) (address : Result Address FieldFault) (third fourth : ℕ)
    (front octets : List ℕ) → 260 < length front → 260 < length octets
    → frame_of_fields address (if is_second then with_length (numbered_at third fourth) 2
    else with_length (unnumbered_at third) 1) (third ∷ fourth ∷ front)
    ≡ frame_of_fields address (if is_second then with_length (numbered_at third fourth) 2
    else with_length (unnumbered_at third) 1) (third ∷ fourth ∷ octets)
by_second true address third fourth front octets long longer =
    same_fields address (numbered_at third fourth) 2 (third ∷ fourth ∷ front)
    (third ∷ fourth ∷ octets) long longer
by_second false address third fourth front octets long longer =
    same_fields address (unnumbered_at third) 1 (third ∷ fourth ∷ front)
    (third ∷ fourth ∷ octets) (omega (arith, long)) (omega (arith, longer))

pub front_is_read : (from : Side) (octets : List ℕ) → 264 < length octets
    → frame_at from (take 265 octets) ≡ frame_at from octets
front_is_read from [] long = refl
front_is_read from (first ∷ []) long = refl
front_is_read from (first ∷ second ∷ []) long = refl
front_is_read from (first ∷ second ∷ third ∷ []) long = refl
front_is_read from (first ∷ second ∷ third ∷ fourth ∷ rest) long =
    let longer : 260 < length rest = omega arith in
    let count : length (take 261 rest) ≡ 261 = length-take-le 261 rest (omega arith) in
    by_second (has_second third) (address_at from (first ∷ second ∷ [])) third fourth
    (take 261 rest) rest (omega arith) longer
