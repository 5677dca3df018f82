-- Spelled fields are read again, and fields that are read were spelled so.
use Rattle.std.proofs.Common.{◌≡◌, ◌≤◌, ◌+◌, ◌*◌, ℕ, List, [], ◌∷◌, ◌++◌, length, take, drop, get_or, Option, None, Some, Result, Ok, Err, IfOk, IfErr, IfSome, Bool, true, false, nat_lt, nat_eq, if◌then◌else◌, refl, subst, sym, ap, ◌∙◌, append_assoc, arith}
use Rattle.std.proofs.lemmas.List.{take-append-drop}
use Rattle.std.specs.Result.{result_ok}
use Rattle.lapd_field.specs.declared.side.Side.{Side}
use Rattle.lapd_field.specs.declared.side.Role.{Role}
use Rattle.lapd_field.specs.declared.side.Role.TheVariants.{Command, Answer}
use Rattle.lapd_field.specs.declared.address.Address.{Address}
use Rattle.lapd_field.specs.declared.control.Control.{Control}
use Rattle.lapd_field.specs.declared.control.Control.TheVariants.{I, Rr, Rnr, Rej, Sabme, Dm, Ui, Disc, Ua, Frmr, Xid}
use Rattle.lapd_field.specs.declared.field_fault.FieldFault.{FieldFault}
use Rattle.lapd_field.specs.declared.field_fault.FieldFault.TheVariants as field
use Rattle.lapd_field.specs.Address.{address_at, address_octets, sapi_value, command_bit, IsAddress}
use Rattle.lapd_field.specs.Control.{control_at, control_octets, IsControl}
use Rattle.lapd_field.proofs.FieldLaws.{address_again, control_again, address_spelled, control_spelled}
use Rattle.lapd_frame.specs.declared.fault_kind.FaultKind.{FaultKind}
use Rattle.lapd_frame.specs.declared.fault_kind.FaultKind.TheVariants.{InfoNotPermitted, WrongSize, InfoTooLong}
use Rattle.lapd_frame.specs.declared.frame_fault.FrameFault.{FrameFault}
use Rattle.lapd_frame.specs.Fault.{is_for_link}
use Rattle.lapd_frame.specs.Frame.{Fields, IsFrame, n201, content_fault, frame_of, spelling}
use Rattle.lapd_frame.specs.Reading.{frame_at, fault_for_link, frame_of_fields, address_of}

-- three octets or more are read as an address, then a control field
pub joined_is_frame_at : (from : Side) (octets : List ℕ) → 3 ≤ length octets
    → frame_of_fields (address_at from (get_or octets 0 0 ∷ get_or octets 1 0 ∷ []))
    (control_at (drop 2 octets)) (drop 2 octets) ≡ frame_at from octets
joined_is_frame_at from [] h = absurd (omega arith)
joined_is_frame_at from (first ∷ []) h = absurd (omega arith)
joined_is_frame_at from (first ∷ second ∷ []) h = absurd (omega arith)
joined_is_frame_at from (first ∷ second ∷ third ∷ rest) h = refl

-- ---- Spelled fields are read again.

-- the information follows the octets of a control field
drop-control : (c : Control) (info : List ℕ)
    → drop (length (control_octets c)) (control_octets c ++ info) ≡ info
drop-control (I ns nr p) info = refl
drop-control (Rr nr pf) info = refl
drop-control (Rnr nr pf) info = refl
drop-control (Rej nr pf) info = refl
drop-control (Sabme p) info = refl
drop-control (Dm f) info = refl
drop-control (Ui p) info = refl
drop-control (Disc p) info = refl
drop-control (Ua f) info = refl
drop-control (Frmr f) info = refl
drop-control (Xid pf) info = refl

-- reading the octets of a frame combines its address, control field and information
spelling-frame_of_fields : (from : Side) (first second : ℕ) (c : Control) (info : List ℕ)
    → frame_at from (first ∷ second ∷ (control_octets c ++ info))
    ≡ frame_of_fields (address_at from (first ∷ second ∷ []))
    (control_at (control_octets c ++ info)) (control_octets c ++ info)
spelling-frame_of_fields from first second (I ns nr p) info = refl
spelling-frame_of_fields from first second (Rr nr pf) info = refl
spelling-frame_of_fields from first second (Rnr nr pf) info = refl
spelling-frame_of_fields from first second (Rej nr pf) info = refl
spelling-frame_of_fields from first second (Sabme p) info = refl
spelling-frame_of_fields from first second (Dm f) info = refl
spelling-frame_of_fields from first second (Ui p) info = refl
spelling-frame_of_fields from first second (Disc p) info = refl
spelling-frame_of_fields from first second (Ua f) info = refl
spelling-frame_of_fields from first second (Frmr f) info = refl
spelling-frame_of_fields from first second (Xid pf) info = refl

-- reading the spelling of parts returns the parts, or a fault of the link with their address
pub parts_again : (from : Side) (f : Fields)
    → frame_at from (spelling from f)
    ≡ fault_for_link f.address (frame_of f.address f.control f.info
    (content_fault f.address.role f.control (length f.info)))
parts_again from f =
    spelling-frame_of_fields from
    (sapi_value f.address.sapi * 4 + command_bit from f.address.role * 2)
    (f.address.tei * 2 + 1) f.control f.info
    ∙ rw (
      address_again from f.address,
      control_again f.control f.info,
      drop-control f.control f.info,
    ) refl

pub frame_again : (from : Side) (f : Fields)
    → content_fault f.address.role f.control (length f.info) ≡ None
    → frame_at from (spelling from f) ≡ Ok f
frame_again from f h =
    parts_again from f
    ∙ ap (λ fault. fault_for_link f.address (frame_of f.address f.control f.info fault)) h

-- ---- Fields that are read were spelled so.

-- what follows from a frame that was combined from its fields
pub record IsJoined (address : Result Address FieldFault)
    (control : Result (Control × ℕ) FieldFault) (octets : List ℕ) (f : Fields) : Type 0 where
  pub taken : ℕ
  pub address_is : address ≡ Ok f.address
  pub control_is : control ≡ Ok (f.control, taken)
  pub info_is : f.info ≡ drop taken octets
  pub content : content_fault f.address.role f.control (length f.info) ≡ None

abbrev Read : Fields → Result Fields FrameFault
Read f = Ok f

same_frame : (f g : Fields) → Read f ≡ Read g → f ≡ g
same_frame f g h = cc

fault_for_link_ok : (a : Address) (c : Control) (n : ℕ) (octets : List ℕ) (fault : Option FaultKind)
    (f : Fields) → content_fault a.role c (length (drop n octets)) ≡ fault
    → fault_for_link a (frame_of a c (drop n octets) fault) ≡ Ok f
    → IsJoined (Ok a) (Ok (c, n)) octets f
fault_for_link_ok a c n octets (Some fault) f e h = cc
fault_for_link_ok a c n octets None f e h =
    let same : record { address = a; control = c; info = drop n octets } ≡ f = same_frame _ f h in
    subst (IsJoined (Ok a) (Ok (c, n)) octets) same
    (record { taken = n; address_is = refl; control_is = refl; info_is = refl; content = e })

joined_ok : (address : Result Address FieldFault) (control : Result (Control × ℕ) FieldFault)
    (octets : List ℕ) (f : Fields) → frame_of_fields address control octets ≡ Ok f
    → IsJoined address control octets f
joined_ok (Ok a) (Ok (c, n)) octets f h = fault_for_link_ok a c n octets _ f refl h
joined_ok (Err field.TooShort) (Ok c) octets f h = cc
joined_ok (Err field.TooShort) (Err field.TooShort) octets f h = cc
joined_ok (Err field.TooShort) (Err field.BadAddress) octets f h = cc
joined_ok (Err field.TooShort) (Err field.SapiNotServed) octets f h = cc
joined_ok (Err field.TooShort) (Err field.Undefined) octets f h = cc
joined_ok (Err field.BadAddress) control octets f h = cc
joined_ok (Err field.SapiNotServed) (Ok c) octets f h = cc
joined_ok (Err field.SapiNotServed) (Err field.TooShort) octets f h = cc
joined_ok (Err field.SapiNotServed) (Err field.BadAddress) octets f h = cc
joined_ok (Err field.SapiNotServed) (Err field.SapiNotServed) octets f h = cc
joined_ok (Err field.SapiNotServed) (Err field.Undefined) octets f h = cc
joined_ok (Err field.Undefined) (Ok c) octets f h = cc
joined_ok (Err field.Undefined) (Err field.TooShort) octets f h = cc
joined_ok (Err field.Undefined) (Err field.BadAddress) octets f h = cc
joined_ok (Err field.Undefined) (Err field.SapiNotServed) octets f h = cc
joined_ok (Err field.Undefined) (Err field.Undefined) octets f h = cc
joined_ok (Ok a) (Err field.TooShort) octets f h = cc
joined_ok (Ok a) (Err field.BadAddress) octets f h = cc
joined_ok (Ok a) (Err field.SapiNotServed) octets f h = cc
joined_ok (Ok a) (Err field.Undefined) octets f h = cc

-- the octets of the address and the control field, followed by the information, are the spelling
spelled : (from : Side) (f : Fields) (head octets : List ℕ) (n : ℕ)
    → head ≡ address_octets from f.address → take n octets ≡ control_octets f.control
    → f.info ≡ drop n octets
    → head ++ octets ≡ spelling from f
spelled from f head octets n ha hc hi =
    let cut : octets ≡ control_octets f.control ++ f.info =
    sym (take-append-drop n octets) ∙ ap (λ l. l ++ drop n octets) hc
    ∙ ap (λ l. control_octets f.control ++ l) (sym hi) in
    ap (λ l. l ++ octets) ha ∙ ap (λ l. address_octets from f.address ++ l) cut
    ∙ sym (append_assoc (address_octets from f.address) (control_octets f.control) f.info)

-- combining valid fields that were spelled so
pub spelled_joined : (from : Side) (address : Result Address FieldFault)
    (control : Result (Control × ℕ) FieldFault) (head octets : List ℕ) (f : Fields)
    → IfOk address (λ a. IsAddress a × (head ≡ address_octets from a))
    → IfOk control (λ r. IsControl r.0 × (r.1 ≡ length (control_octets r.0)) ×
    (take r.1 octets ≡ control_octets r.0))
    → frame_of_fields address control octets ≡ Ok f → IsFrame f × (head ++ octets ≡ spelling from f)
spelled_joined from address control head octets f ha hc h =
    let j = joined_ok address control octets f h in
    let a = rw j.address_is at ha in
    let c = rw j.control_is at hc in (
      record { address = a.0; control = c.0; content = j.content },
      spelled from f head octets j.taken a.1 c.2 j.info_is,
    )

if_ok : (r : Result Fields FrameFault) (P : Fields → Type 0) → ((f : Fields) → r ≡ Ok f → P f)
    → IfOk r P
if_ok (Ok f) P h = h f refl
if_ok (Err e) P h = tt

cells : (octets : List ℕ) → 3 ≤ length octets
    → (get_or octets 0 0 ∷ get_or octets 1 0 ∷ []) ++ drop 2 octets ≡ octets
cells [] h = absurd (omega arith)
cells (first ∷ []) h = absurd (omega arith)
cells (first ∷ second ∷ rest) h = refl

pub spelled_frame_at : (from : Side) (octets : List ℕ) (address : Result Address FieldFault)
    (control : Result (Control × ℕ) FieldFault) (r : Result Fields FrameFault) → 3 ≤ length octets
    → IfOk address
    (λ a. IsAddress a × (get_or octets 0 0 ∷ get_or octets 1 0 ∷ [] ≡ address_octets from a))
    → IfOk control (λ c. IsControl c.0 × (c.1 ≡ length (control_octets c.0)) ×
    (take c.1 (drop 2 octets) ≡ control_octets c.0))
    → r ≡ frame_of_fields address control (drop 2 octets)
    → IfOk r (λ f. IsFrame f × (octets ≡ spelling from f))
spelled_frame_at from octets address control r long ha hc e =
    if_ok r _ (λ f h.
    let j =
    spelled_joined from address control (get_or octets 0 0 ∷ get_or octets 1 0 ∷ [])
    (drop 2 octets) f ha hc (sym e ∙ h) in
    (j.0, sym (cells octets long) ∙ j.1))

-- the octets of a frame are its spelling
pub frame_spelled : (from : Side) (octets : List ℕ) (f : Fields) → frame_at from octets ≡ Ok f
    → octets ≡ spelling from f
frame_spelled from [] f h = cc
frame_spelled from (first ∷ []) f h = cc
frame_spelled from (first ∷ second ∷ []) f h = cc
frame_spelled from (first ∷ second ∷ third ∷ rest) f h =
    let j =
    joined_ok (address_at from (first ∷ second ∷ [])) (control_at (third ∷ rest))
    (third ∷ rest) f h in
    spelled from f (first ∷ second ∷ []) (third ∷ rest) j.taken
    (address_spelled from first second f.address j.address_is)
    (control_spelled (third ∷ rest) f.control j.taken j.control_is) j.info_is

-- ---- The link that a fault is for.

abbrev IsOfLink : Option FaultKind → Type 0
IsOfLink fault = IfSome fault (λ kind. is_for_link kind ≡ true)

if_for_link : (b : Bool) (kind : FaultKind) → is_for_link kind ≡ true
    → IsOfLink (if b then Some kind else None)
if_for_link true kind h = h
if_for_link false kind h = tt

unless_for_link : (b : Bool) (kind : FaultKind) → is_for_link kind ≡ true
    → IsOfLink (if b then None else Some kind)
unless_for_link true kind h = tt
unless_for_link false kind h = h

content_for_link : (role : Role) (c : Control) (len : ℕ) → IsOfLink (content_fault role c len)
content_for_link Command (I ns nr p) len = if_for_link (nat_lt n201 len) InfoTooLong refl
content_for_link Answer (I ns nr p) len = refl
content_for_link Command (Rr nr pf) len = if_for_link (nat_lt 0 len) WrongSize refl
content_for_link Answer (Rr nr pf) len = if_for_link (nat_lt 0 len) WrongSize refl
content_for_link Command (Rnr nr pf) len = if_for_link (nat_lt 0 len) WrongSize refl
content_for_link Answer (Rnr nr pf) len = if_for_link (nat_lt 0 len) WrongSize refl
content_for_link Command (Rej nr pf) len = if_for_link (nat_lt 0 len) WrongSize refl
content_for_link Answer (Rej nr pf) len = if_for_link (nat_lt 0 len) WrongSize refl
content_for_link Command (Sabme p) len = if_for_link (nat_lt 0 len) InfoNotPermitted refl
content_for_link Answer (Sabme p) len = refl
content_for_link Command (Dm f) len = refl
content_for_link Answer (Dm f) len = if_for_link (nat_lt 0 len) InfoNotPermitted refl
content_for_link Command (Ui p) len = if_for_link (nat_lt n201 len) InfoTooLong refl
content_for_link Answer (Ui p) len = refl
content_for_link Command (Disc p) len = if_for_link (nat_lt 0 len) InfoNotPermitted refl
content_for_link Answer (Disc p) len = refl
content_for_link Command (Ua f) len = refl
content_for_link Answer (Ua f) len = if_for_link (nat_lt 0 len) InfoNotPermitted refl
content_for_link Command (Frmr f) len = refl
content_for_link Answer (Frmr f) len = unless_for_link (nat_eq len 5) WrongSize refl
content_for_link Command (Xid pf) len = if_for_link (nat_lt n201 len) InfoTooLong refl
content_for_link Answer (Xid pf) len = if_for_link (nat_lt n201 len) InfoTooLong refl

-- a fault carries this address if it is for a link
abbrev Carries : Option Address → Result Fields FrameFault → Type 0
Carries address r = IfErr r (λ e. e.address ≡ (if is_for_link e.kind then address else None))

fault_for_link_carries : (a : Address) (c : Control) (info : List ℕ) (fault : Option FaultKind)
    → IsOfLink fault → Carries (Some a) (fault_for_link a (frame_of a c info fault))
fault_for_link_carries a c info None h = tt
fault_for_link_carries a c info (Some kind) h = rw h refl

address_joined : (address : Result Address FieldFault) (control : Result (Control × ℕ) FieldFault)
    (octets : List ℕ) → Carries (result_ok address) (frame_of_fields address control octets)
address_joined (Ok a) (Ok (c, n)) octets =
    fault_for_link_carries a c (drop n octets) _
    (content_for_link a.role c (length (drop n octets)))
address_joined (Err field.BadAddress) control octets = refl
address_joined (Err field.TooShort) (Ok c) octets = refl
address_joined (Err field.TooShort) (Err field.TooShort) octets = refl
address_joined (Err field.TooShort) (Err field.BadAddress) octets = refl
address_joined (Err field.TooShort) (Err field.SapiNotServed) octets = refl
address_joined (Err field.TooShort) (Err field.Undefined) octets = refl
address_joined (Err field.SapiNotServed) (Ok c) octets = refl
address_joined (Err field.SapiNotServed) (Err field.TooShort) octets = refl
address_joined (Err field.SapiNotServed) (Err field.BadAddress) octets = refl
address_joined (Err field.SapiNotServed) (Err field.SapiNotServed) octets = refl
address_joined (Err field.SapiNotServed) (Err field.Undefined) octets = refl
address_joined (Err field.Undefined) (Ok c) octets = refl
address_joined (Err field.Undefined) (Err field.TooShort) octets = refl
address_joined (Err field.Undefined) (Err field.BadAddress) octets = refl
address_joined (Err field.Undefined) (Err field.SapiNotServed) octets = refl
address_joined (Err field.Undefined) (Err field.Undefined) octets = refl
address_joined (Ok a) (Err field.TooShort) octets = refl
address_joined (Ok a) (Err field.BadAddress) octets = refl
address_joined (Ok a) (Err field.SapiNotServed) octets = refl
address_joined (Ok a) (Err field.Undefined) octets = refl

pub address_carried : (from : Side) (octets : List ℕ)
    → IfErr (frame_at from octets) (λ e. e.address ≡ address_of from octets e.kind)
address_carried from [] = refl
address_carried from (first ∷ []) = refl
address_carried from (first ∷ second ∷ []) = refl
address_carried from (first ∷ second ∷ third ∷ rest) =
    address_joined (address_at from (first ∷ second ∷ [])) (control_at (third ∷ rest))
    (third ∷ rest)

-- frames with the same spelling are the same
pub one_frame : (from : Side) (f g : Fields) → IsFrame f → IsFrame g
    → spelling from f ≡ spelling from g → f ≡ g
one_frame from f g hf hg e =
    same_frame f g
    (sym (frame_again from f hf.content) ∙ ap (frame_at from) e ∙ frame_again from g hg.content)
