-- A read fails after it consumed less than the text of a frame.
use Rattle.std.proofs.Common.{◌≡◌, ◌⊎◌, inl, inr, ℕ, ◌<◌, ◌≤◌, nat_le, nat_lt, true, List, [], ◌∷◌, ◌++◌, length, take, length-take-le, Option, Result, Ok, Err, IsErrAnd, refl, ap, subst, ◌∙◌, arith}
use Rattle.std.proofs.lemmas.Bool.{le-leb}
use Rattle.std.proofs.lemmas.Nat.{div-add-mod'}
use Rattle.std.specs.Io.KnownBytes.{Consumes}
use Rattle.std.proofs.KnownBytes.{Consumes-trans}
use Rattle.lapd_port.specs.declared.port_fault.PortFault.{PortFault}
use Rattle.lapd_port.specs.declared.port_fault.PortFault.TheVariants.{End, BadLength, Cut, Device, TooManyTurns, Failed}
use Rattle.lapd_port.specs.SocketText.{IsFrameLength, frame_of_length, length_octets, next_frame}
use Rattle.lapd_port.specs.Port.{ReadsNext, TakesPart}

-- fewer octets than a length has
shows_cut_length : (octets : List ℕ) → length octets < 2
    → (next_frame octets ≡ Err End) ⊎ (next_frame octets ≡ Err Cut)
shows_cut_length [] few = inl refl
shows_cut_length (octet ∷ []) few = inr refl
shows_cut_length (high ∷ low ∷ octets) few = absurd (omega arith)

-- a read fails inside a length
pub part_of_length : (old new : Option (List ℕ)) (octets : List ℕ) → length octets ≡ 2
    → ((count : ℕ) × (count < length octets) × Consumes old new (take count octets))
    → TakesPart old new
part_of_length old new octets two part =
    let few : length (take part.0 octets) < 2 = omega (arith, length-take-le part.0 octets) in
    (take part.0 octets, part.2, shows_cut_length (take part.0 octets) few)

-- fewer octets than a valid length says
shows_cut_frame : (n : ℕ) (octets : List ℕ) → IsFrameLength n → length octets < n
    → next_frame (length_octets n ++ octets) ≡ Err Cut
shows_cut_frame n octets fits few =
    let least : nat_le 3 n ≡ true = le-leb _ _ fits.0 in
    let most : nat_le n 264 ≡ true = le-leb _ _ fits.1 in
    let missing : nat_lt (length octets) n ≡ true = le-leb _ _ few in
    let cut : frame_of_length n octets ≡ Err Cut = rw (least, most, missing) in
    ap (λ m. frame_of_length m octets) (div-add-mod' n 256) ∙ cut

-- a read fails inside a frame
pub part_of_frame : (old mid new : Option (List ℕ)) (before octets : List ℕ) (two n : ℕ)
    → IsFrameLength n → before ≡ length_octets n → Consumes old mid (take two before) → two ≡ 2
    → length octets ≤ n
    → ((count : ℕ) × (count < length octets) × Consumes mid new (take count octets))
    → TakesPart old new
part_of_frame old mid new before octets two n fits says length_taken is_two most part =
    let first : take two before ≡ length_octets n =
    ap (λ m. take m before) is_two ∙ ap (take 2) says in
    let few : length (take part.0 octets) < n = omega (arith, length-take-le part.0 octets) in
    let F : List ℕ → Type 0 = λ x. Consumes old mid x in (
      length_octets n ++ take part.0 octets,
      Consumes-trans old mid new _ _ (subst F first length_taken) part.2,
      inr (shows_cut_frame n (take part.0 octets) fits few),
    )

-- a fault of the source, or S5, is passed on
pub passes_part : (old new : Option (List ℕ)) (result : Result ℕ PortFault) (fault : PortFault)
    (buffer : List ℕ) → IsErrAnd result (λ e. e ≡ fault) → (fault ≡ Device) ⊎ (fault ≡ TooManyTurns)
    → TakesPart old new → ReadsNext old new result buffer
passes_part old new (Ok count) fault buffer is which part = absurd is
passes_part old new (Err End) fault buffer is (inl d) part =
    let e : End ≡ Device = is ∙ d in absurd cc
passes_part old new (Err End) fault buffer is (inr t) part =
    let e : End ≡ TooManyTurns = is ∙ t in absurd cc
passes_part old new (Err BadLength) fault buffer is (inl d) part =
    let e : BadLength ≡ Device = is ∙ d in absurd cc
passes_part old new (Err BadLength) fault buffer is (inr t) part =
    let e : BadLength ≡ TooManyTurns = is ∙ t in absurd cc
passes_part old new (Err Cut) fault buffer is (inl d) part =
    let e : Cut ≡ Device = is ∙ d in absurd cc
passes_part old new (Err Cut) fault buffer is (inr t) part =
    let e : Cut ≡ TooManyTurns = is ∙ t in absurd cc
passes_part old new (Err Device) fault buffer is which part = part
passes_part old new (Err TooManyTurns) fault buffer is which part = part
passes_part old new (Err Failed) fault buffer is which part = tt
