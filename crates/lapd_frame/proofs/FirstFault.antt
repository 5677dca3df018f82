-- The decoder's fault is the first line of the list of faults that holds.
use Rattle.std.proofs.Common.{◌≡◌, ℕ, ◌/◌, ◌%◌, ◌==◌, ◌&&◌, nat_eq, nat_lt, if◌then◌else◌, List, [], ◌∷◌, Bool, true, false, not, length, Option, None, Some, Result, Ok, Err, option_map, refl, sym, subst, arith}
use Rattle.std.specs.Result.{result_err}
use Rattle.std.specs.Option.{is_none}
use Rattle.lapd_field.specs.declared.side.Side.{Side}
use Rattle.lapd_field.specs.declared.side.Role.{Role}
use Rattle.lapd_field.specs.declared.side.Role.TheVariants.{Command, Answer}
use Rattle.lapd_field.specs.declared.sapi.Sapi.{Sapi}
use Rattle.lapd_field.specs.declared.address.Address.{Address}
use Rattle.lapd_field.specs.declared.control.Control.{Control}
use Rattle.lapd_field.specs.declared.field_fault.FieldFault.{FieldFault}
use Rattle.lapd_field.specs.declared.field_fault.FieldFault.TheVariants as field
use Rattle.lapd_field.specs.Address.{is_badly_extended, with_sapi, sapi_at, role_of}
use Rattle.lapd_field.specs.Control.{control_at, has_second, with_second, with_length, numbered_at, unnumbered_at}
use Rattle.lapd_frame.specs.declared.fault_kind.FaultKind.{FaultKind}
use Rattle.lapd_frame.specs.declared.fault_kind.FaultKind.TheVariants.{TooShort, BadAddress, SapiNotServed, InfoNotPermitted, WrongSize, InfoTooLong}
use Rattle.lapd_frame.specs.declared.frame_fault.FrameFault.{FrameFault}
use Rattle.lapd_frame.specs.Frame.{Fields, n201, frame_of}
use Rattle.lapd_frame.specs.Reading.{frame_at, first_fault, frame_of_fields, fault_for_link, line, content_lines, info_len, is_nil}

abbrev pub kind_at : Result Fields FrameFault → Option FaultKind
kind_at r = option_map (λ (e : FrameFault). e.kind) (result_err r)

-- ---- Tools: a test both ways, and whether an octet is in the table.

same_octet : (n k : ℕ) → (n == k) ≡ true → n ≡ k
same_octet n k h = grind (arith, h)

octet_cases_at : (P : ℕ → Type 0) (n k : ℕ) (b : Bool) → (n == k) ≡ b → P k
    → ((n == k) ≡ false → P n) → P n
octet_cases_at P n k true e same other = subst P (sym (same_octet n k e)) same
octet_cases_at P n k false e same other = other e

octet_cases : (P : ℕ → Type 0) (n k : ℕ) → P k → ((n == k) ≡ false → P n) → P n
octet_cases P n k same other = octet_cases_at P n k (n == k) refl same other

no_second_at : (even low : Bool) → (if even then true else low) ≡ false
    → (even ≡ false) × (low ≡ false)
no_second_at true low h = cc
no_second_at false low h = (refl, h)

no_second : (third : ℕ) → has_second third ≡ false
    → ((third % 2 == 0) ≡ false) × ((third % 4 == 1) ≡ false)
no_second third h = no_second_at (third % 2 == 0) (third % 4 == 1) h

kind_if : (a : Address) (c : Control) (info : List ℕ) (b : Bool) (fault : FaultKind)
    → kind_at (fault_for_link a (frame_of a c info (if b then Some fault else None)))
    ≡ (if b then Some fault else None)
kind_if a c info true fault = refl
kind_if a c info false fault = refl

kind_unless : (a : Address) (c : Control) (info : List ℕ) (b : Bool) (fault : FaultKind)
    → kind_at (fault_for_link a (frame_of a c info (if b then None else Some fault)))
    ≡ (if not b then Some fault else None)
kind_unless a c info true fault = refl
kind_unless a c info false fault = refl

-- ---- The content of a frame with this address.

-- after a control field of one octet
abbrev IsOneOctet : Sapi → ℕ → Role → List ℕ → ℕ → Type 0
IsOneOctet sapi tei role rest third = has_second third ≡ false
    → kind_at (frame_of_fields (Ok (record { sapi = sapi; tei = tei; role = role }))
    (with_length (unnumbered_at third) 1) (third ∷ rest))
    ≡ content_lines role third (length rest)

-- a U frame as a command
command_octet : (sapi : Sapi) (tei : ℕ) (third : ℕ) (rest : List ℕ)
    → IsOneOctet sapi tei Command rest third
command_octet sapi tei third rest =
    let P = IsOneOctet sapi tei Command rest in
    octet_cases P third 0x6F (λ _. kind_if _ _ rest (nat_lt 0 (length rest)) InfoNotPermitted)
    (λ e6F.
    octet_cases P third 0x7F (λ _. kind_if _ _ rest (nat_lt 0 (length rest)) InfoNotPermitted)
    (λ e7F.
    octet_cases P third 0x0F (λ _. refl) (λ e0F.
    octet_cases P third 0x1F (λ _. refl) (λ e1F.
    octet_cases P third 0x03 (λ _. kind_if _ _ rest (nat_lt n201 (length rest)) InfoTooLong) (λ e03.
    octet_cases P third 0x13 (λ _. kind_if _ _ rest (nat_lt n201 (length rest)) InfoTooLong) (λ e13.
    octet_cases P third 0x43 (λ _. kind_if _ _ rest (nat_lt 0 (length rest)) InfoNotPermitted)
    (λ e43.
    octet_cases P third 0x53 (λ _. kind_if _ _ rest (nat_lt 0 (length rest)) InfoNotPermitted)
    (λ e53.
    octet_cases P third 0x63 (λ _. refl) (λ e63.
    octet_cases P third 0x73 (λ _. refl) (λ e73.
    octet_cases P third 0x87 (λ _. refl) (λ e87.
    octet_cases P third 0x97 (λ _. refl) (λ e97.
    octet_cases P third 0xAF (λ _. kind_if _ _ rest (nat_lt n201 (length rest)) InfoTooLong) (λ eAF.
    octet_cases P third 0xBF (λ _. kind_if _ _ rest (nat_lt n201 (length rest)) InfoTooLong) (λ eBF.
    λ h. let odd =
    (no_second third h).0 in let low =
    (no_second third h).1 in rw
    (e6F, e7F, e0F, e1F, e03, e13, e43, e53, e63, e73, e87, e97, eAF, eBF, odd, low)
    refl))))))))))))))

-- a U frame as a response
answer_octet : (sapi : Sapi) (tei : ℕ) (third : ℕ) (rest : List ℕ)
    → IsOneOctet sapi tei Answer rest third
answer_octet sapi tei third rest =
    let P = IsOneOctet sapi tei Answer rest in
    octet_cases P third 0x6F (λ _. refl) (λ e6F.
    octet_cases P third 0x7F (λ _. refl) (λ e7F.
    octet_cases P third 0x0F (λ _. kind_if _ _ rest (nat_lt 0 (length rest)) InfoNotPermitted)
    (λ e0F.
    octet_cases P third 0x1F (λ _. kind_if _ _ rest (nat_lt 0 (length rest)) InfoNotPermitted)
    (λ e1F.
    octet_cases P third 0x03 (λ _. refl) (λ e03.
    octet_cases P third 0x13 (λ _. refl) (λ e13.
    octet_cases P third 0x43 (λ _. refl) (λ e43.
    octet_cases P third 0x53 (λ _. refl) (λ e53.
    octet_cases P third 0x63 (λ _. kind_if _ _ rest (nat_lt 0 (length rest)) InfoNotPermitted)
    (λ e63.
    octet_cases P third 0x73 (λ _. kind_if _ _ rest (nat_lt 0 (length rest)) InfoNotPermitted)
    (λ e73.
    octet_cases P third 0x87 (λ _. kind_unless _ _ rest (nat_eq (length rest) 5) WrongSize) (λ e87.
    octet_cases P third 0x97 (λ _. kind_unless _ _ rest (nat_eq (length rest) 5) WrongSize) (λ e97.
    octet_cases P third 0xAF (λ _. kind_if _ _ rest (nat_lt n201 (length rest)) InfoTooLong) (λ eAF.
    octet_cases P third 0xBF (λ _. kind_if _ _ rest (nat_lt n201 (length rest)) InfoTooLong) (λ eBF.
    λ h. let odd =
    (no_second third h).0 in let low =
    (no_second third h).1 in rw
    (e6F, e7F, e0F, e1F, e03, e13, e43, e53, e63, e73, e87, e97, eAF, eBF, odd, low)
    refl))))))))))))))

-- after a control field of two octets
abbrev IsTwoOctets : Sapi → ℕ → Role → ℕ → List ℕ → ℕ → Type 0
IsTwoOctets sapi tei role second rest third =
    kind_at (frame_of_fields (Ok (record { sapi = sapi; tei = tei; role = role }))
    (with_length (numbered_at third second) 2) (third ∷ second ∷ rest))
    ≡ content_lines role third (length rest)

-- an I frame
even_octets : (sapi : Sapi) (tei : ℕ) (role : Role) (second : ℕ) (rest : List ℕ) (third : ℕ)
    → (third % 2 == 0) ≡ true → IsTwoOctets sapi tei role second rest third
even_octets sapi tei Command second rest third even =
    rw even (kind_if _ _ rest (nat_lt n201 (length rest)) InfoTooLong)
even_octets sapi tei Answer second rest third even = rw even refl

-- an S frame
abbrev IsOdd : Sapi → ℕ → Role → ℕ → List ℕ → ℕ → Type 0
IsOdd sapi tei role second rest third =
    (third % 2 == 0) ≡ false → (third % 4 == 1) ≡ true → IsTwoOctets sapi tei role second rest third

odd_octets : (sapi : Sapi) (tei : ℕ) (role : Role) (second : ℕ) (rest : List ℕ) (third : ℕ)
    → IsOdd sapi tei role second rest third
odd_octets sapi tei role second rest third =
    let P = IsOdd sapi tei role second rest in
    octet_cases P third 0x01 (λ _ _. kind_if _ _ rest (nat_lt 0 (length rest)) WrongSize) (λ e01.
    octet_cases P third 0x05 (λ _ _. kind_if _ _ rest (nat_lt 0 (length rest)) WrongSize) (λ e05.
    octet_cases P third 0x09 (λ _ _. kind_if _ _ rest (nat_lt 0 (length rest)) WrongSize) (λ e09.
    λ odd low. rw (e01, e05, e09, odd, low) refl)))

two_octets_at : (sapi : Sapi) (tei : ℕ) (role : Role) (second : ℕ) (rest : List ℕ) (third : ℕ)
    (even : Bool) → (third % 2 == 0) ≡ even → (if even then true else (third % 4 == 1)) ≡ true
    → IsTwoOctets sapi tei role second rest third
two_octets_at sapi tei role second rest third true e h =
    even_octets sapi tei role second rest third e
two_octets_at sapi tei role second rest third false e h =
    odd_octets sapi tei role second rest third e h

-- ---- All of the octets.

-- the service access point is not served
unserved : (octets : List ℕ) (control : Result (Control × ℕ) FieldFault)
    → (control ≡ Err field.TooShort → ⊥)
    → kind_at (frame_of_fields (Err field.SapiNotServed) control octets) ≡ Some SapiNotServed
unserved octets (Ok c) h = refl
unserved octets (Err field.TooShort) h = absurd (h refl)
unserved octets (Err field.BadAddress) h = refl
unserved octets (Err field.SapiNotServed) h = refl
unserved octets (Err field.Undefined) h = refl

with_length-fits : (control : Option Control) (n : ℕ) → with_length control n ≡ Err field.TooShort
    → ⊥
with_length-fits None n h = cc
with_length-fits (Some c) n h = cc

unserved_at : (third : ℕ) (rest octets : List ℕ) (two : Bool)
    → kind_at (frame_of_fields (Err field.SapiNotServed)
    (if two then with_second third rest else with_length (unnumbered_at third) 1) octets)
    ≡ line (two && is_nil rest) TooShort (Some SapiNotServed)
unserved_at third [] octets true = refl
unserved_at third (second ∷ rest) octets true =
    unserved octets _ (with_length-fits (numbered_at third second) 2)
unserved_at third rest octets false = unserved octets _ (with_length-fits (unnumbered_at third) 1)

served : (sapi : Sapi) (tei : ℕ) (role : Role) (third : ℕ) (rest : List ℕ) (two : Bool)
    → has_second third ≡ two
    → kind_at (frame_of_fields (Ok (record { sapi = sapi; tei = tei; role = role }))
    (control_at (third ∷ rest)) (third ∷ rest))
    ≡ line (has_second third && is_nil rest) TooShort
    (content_lines role third (info_len third rest))
served sapi tei role third [] true e = rw e refl
served sapi tei role third (second ∷ rest) true e =
    rw e (two_octets_at sapi tei role second rest third _ refl e)
served sapi tei Command third rest false e = rw e (command_octet sapi tei third rest e)
served sapi tei Answer third rest false e = rw e (answer_octet sapi tei third rest e)

whole : (bad : Bool) (sapi : Option Sapi) (tei : ℕ) (role : Role) (third : ℕ) (rest : List ℕ)
    → kind_at (frame_of_fields (if bad then Err field.BadAddress else with_sapi sapi tei role)
    (control_at (third ∷ rest)) (third ∷ rest))
    ≡ line bad BadAddress (line (has_second third && is_nil rest) TooShort
    (line (is_none sapi) SapiNotServed (content_lines role third (info_len third rest))))
whole true sapi tei role third rest = refl
whole false None tei role third rest = unserved_at third rest (third ∷ rest) (has_second third)
whole false (Some sapi) tei role third rest = served sapi tei role third rest _ refl

pub first_fault_law : (from : Side) (octets : List ℕ)
    → kind_at (frame_at from octets) ≡ first_fault from octets
first_fault_law from [] = refl
first_fault_law from (first ∷ []) = refl
first_fault_law from (first ∷ second ∷ []) = refl
first_fault_law from (first ∷ second ∷ third ∷ rest) =
    whole (is_badly_extended first second) (sapi_at (first / 4)) (second / 2)
    (role_of from (first / 2 % 2 == 1)) third rest
