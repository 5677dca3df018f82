-- Both fields: reading the written octets returns the field.
use Rattle.std.proofs.Common.{◌≡◌, ◌+◌, ◌*◌, ◌/◌, ◌%◌, ◌==◌, ℕ, Bool, true, false, List, [], ◌∷◌, ◌++◌, length, take, if◌then◌else◌, Option, None, Result, Ok, Some, refl, sym, ap, arith}
use Rattle.std.proofs.lemmas.Grind.{common_steps}
use Rattle.lapd_field.specs.declared.side.Side.{Side}
use Rattle.lapd_field.specs.declared.side.Side.TheVariants.{Network, User}
use Rattle.lapd_field.specs.declared.side.Role.{Role}
use Rattle.lapd_field.specs.declared.side.Role.TheVariants.{Command, Answer}
use Rattle.lapd_field.specs.declared.sapi.Sapi.{Sapi}
use Rattle.lapd_field.specs.declared.sapi.Sapi.TheVariants.{Call, Packet, Management}
use Rattle.lapd_field.specs.declared.address.Address.{Address}
use Rattle.lapd_field.specs.declared.control.Control.{Control}
use Rattle.lapd_field.specs.declared.control.Control.TheVariants.{I, Rr, Rnr, Rej, Sabme, Dm, Ui, Disc, Ua, Frmr, Xid}
use Rattle.lapd_field.specs.declared.field_fault.FieldFault.{FieldFault}
use Rattle.lapd_field.specs.Address.{address_octets, address_at, sapi_value, command_bit}
use Rattle.lapd_field.specs.Control.{bit, control_octets, control_at, has_second, with_second, with_length, unnumbered_at, numbered_at}

-- the octet of a TEI is odd, and its half is the TEI
odd_again : (n : ℕ) → ((n * 2 + 1) % 2 ≡ 1) × ((n * 2 + 1) / 2 ≡ n)
odd_again n = (omega arith, omega arith)

parts_again : (from : Side) (sapi : Sapi) (role : Role) (tei : ℕ)
    → address_at from ((sapi_value sapi * 4 + command_bit from role * 2) ∷ (tei * 2 + 1) ∷ [])
    ≡ Ok (record { sapi = sapi; tei = tei; role = role })
parts_again Network Call Command tei = rw (odd_again tei).0 (rw (odd_again tei).1 refl)
parts_again Network Call Answer tei = rw (odd_again tei).0 (rw (odd_again tei).1 refl)
parts_again Network Packet Command tei = rw (odd_again tei).0 (rw (odd_again tei).1 refl)
parts_again Network Packet Answer tei = rw (odd_again tei).0 (rw (odd_again tei).1 refl)
parts_again Network Management Command tei = rw (odd_again tei).0 (rw (odd_again tei).1 refl)
parts_again Network Management Answer tei = rw (odd_again tei).0 (rw (odd_again tei).1 refl)
parts_again User Call Command tei = rw (odd_again tei).0 (rw (odd_again tei).1 refl)
parts_again User Call Answer tei = rw (odd_again tei).0 (rw (odd_again tei).1 refl)
parts_again User Packet Command tei = rw (odd_again tei).0 (rw (odd_again tei).1 refl)
parts_again User Packet Answer tei = rw (odd_again tei).0 (rw (odd_again tei).1 refl)
parts_again User Management Command tei = rw (odd_again tei).0 (rw (odd_again tei).1 refl)
parts_again User Management Answer tei = rw (odd_again tei).0 (rw (odd_again tei).1 refl)

pub address_again : (from : Side) (a : Address) → address_at from (address_octets from a) ≡ Ok a
address_again from a = parts_again from a.sapi a.role a.tei

-- the octet of N(R) and P or F
octet_again : (n : ℕ) (b : Bool) → ((n * 2 + bit b) / 2 ≡ n) × (((n * 2 + bit b) % 2 == 1) ≡ b)
octet_again n false = let even : (n * 2 + 0) % 2 ≡ 0 = omega arith in (omega arith, rw even refl)
octet_again n true = let odd : (n * 2 + 1) % 2 ≡ 1 = omega arith in (omega arith, rw odd refl)

even_again : (n : ℕ) → ((n * 2) % 2 ≡ 0) × ((n * 2) / 2 ≡ n)
even_again n = (omega arith, omega arith)

pub control_again : (c : Control) (rest : List ℕ)
    → control_at (control_octets c ++ rest) ≡ Ok (c, length (control_octets c))
control_again (I ns nr p) rest =
    rw ((even_again ns).0, (even_again ns).1, (octet_again nr p).0, (octet_again nr p).1) refl
control_again (Rr nr pf) rest = rw ((octet_again nr pf).0, (octet_again nr pf).1) refl
control_again (Rnr nr pf) rest = rw ((octet_again nr pf).0, (octet_again nr pf).1) refl
control_again (Rej nr pf) rest = rw ((octet_again nr pf).0, (octet_again nr pf).1) refl
control_again (Sabme false) rest = refl
control_again (Sabme true) rest = refl
control_again (Dm false) rest = refl
control_again (Dm true) rest = refl
control_again (Ui false) rest = refl
control_again (Ui true) rest = refl
control_again (Disc false) rest = refl
control_again (Disc true) rest = refl
control_again (Ua false) rest = refl
control_again (Ua true) rest = refl
control_again (Frmr false) rest = refl
control_again (Frmr true) rest = refl
control_again (Xid false) rest = refl
control_again (Xid true) rest = refl

-- ---- Fields that are read were spelled so.

pub address_spelled : (from : Side) (first second : ℕ) (a : Address)
    → address_at from (first ∷ second ∷ []) ≡ Ok a → first ∷ second ∷ [] ≡ address_octets from a
address_spelled Network first second a h = grind (arith, common_steps)
address_spelled User first second a h = grind (arith, common_steps)

pub unnumbered_spelled : (first : ℕ) (c : Control) → unnumbered_at first ≡ Some c
    → first ∷ [] ≡ control_octets c
unnumbered_spelled first c h = grind (arith, common_steps)

pub numbered_spelled : (first second : ℕ) (c : Control) → numbered_at first second ≡ Some c
    → first ∷ second ∷ [] ≡ control_octets c
numbered_spelled first second c h = grind (arith, common_steps)

abbrev Taken : Control × ℕ → Result (Control × ℕ) FieldFault
Taken x = Ok x

same_ok : (x y : Control × ℕ) → Taken x ≡ Taken y → x ≡ y
same_ok x y h = cc

with_length_ok : (field : Option Control) (m : ℕ) (c : Control) (n : ℕ)
    → with_length field m ≡ Ok (c, n) → (field ≡ Some c) × (n ≡ m)
with_length_ok None m c n h = cc
with_length_ok (Some d) m c n h =
    let e = same_ok (d, m) (c, n) h in
    (ap (λ (p : Control × ℕ). Some p.0) e, sym (ap (λ (p : Control × ℕ). p.1) e))

control_spelled_at : (first : ℕ) (rest : List ℕ) (c : Control) (n : ℕ) (two : Bool)
    → (if two then with_second first rest else with_length (unnumbered_at first) 1) ≡ Ok (c, n)
    → take n (first ∷ rest) ≡ control_octets c
control_spelled_at first [] c n true h = cc
control_spelled_at first (second ∷ rest) c n true h =
    let found = with_length_ok (numbered_at first second) 2 c n h in
    rw found.1 (numbered_spelled first second c found.0)
control_spelled_at first rest c n false h =
    let found = with_length_ok (unnumbered_at first) 1 c n h in
    rw found.1 (unnumbered_spelled first c found.0)

-- the octets that a control field takes are the octets of the field
pub control_spelled : (octets : List ℕ) (c : Control) (n : ℕ) → control_at octets ≡ Ok (c, n)
    → take n octets ≡ control_octets c
control_spelled [] c n h = cc
control_spelled (first ∷ rest) c n h = control_spelled_at first rest c n (has_second first) h
