-- The text of a frame, and the next frame of an input that begins with it.
use Rattle.std.proofs.Common.{◌≡◌, ℕ, ◌≤◌, nat_le, nat_lt, true, false, List, [], ◌∷◌, ◌++◌, append-nil, append_assoc, length, take, take_all, Option, Some, None, Result, Ok, Err, OnOk, sym, ap, subst, ◌∙◌, arith, length-append}
use Rattle.std.specs.Prelude.{⊤}
use Rattle.std.proofs.lemmas.Bool.{le-leb, le-ltb}
use Rattle.std.proofs.lemmas.Nat.{div-add-mod'}
use Rattle.std.proofs.lemmas.List.{append_cancel_left}
use Rattle.std.proofs.Math.Seq.{take-append_seam}
use Rattle.std.specs.Io.KnownBytes.{Appends, Consumes}
use Rattle.std.proofs.KnownBytes.{Consumes-trans}
use Rattle.lapd_port.specs.declared.port_fault.PortFault.{PortFault}
use Rattle.lapd_port.specs.declared.port_fault.PortFault.TheVariants.{End, BadLength, Cut, Device, TooManyTurns, Failed}
use Rattle.lapd_port.specs.SocketText.{IsFrameLength, frame_of_length, frame_text, length_octets, next_frame, socket_text}
use Rattle.lapd_port.specs.Port.{ReadsNext, ReadsFirst, Shows, WritesText}

-- the frame follows its length
frame_of_length-frame : (frame more : List ℕ) → IsFrameLength (length frame)
    → frame_of_length (length frame) (frame ++ more) ≡ Ok frame
frame_of_length-frame frame more fits =
    let least : nat_le 3 (length frame) ≡ true = le-leb _ _ fits.0 in
    let most : nat_le (length frame) 264 ≡ true = le-leb _ _ fits.1 in
    let there : nat_lt (length (frame ++ more)) (length frame) ≡ false =
    le-ltb _ _ (omega (arith, length-append frame more)) in
    rw (least, most, there) (ap Ok (take-append_seam frame more))

-- the next frame of an input that begins with the text of a frame is this frame
pub next_frame-text : (frame more : List ℕ) → IsFrameLength (length frame)
    → next_frame (frame_text frame ++ more) ≡ Ok frame
next_frame-text frame more fits =
    ap (λ n. frame_of_length n (frame ++ more)) (div-add-mod' (length frame) 256)
    ∙ frame_of_length-frame frame more fits

-- if a known input loses the text of a frame, this frame was next
shows_frame : (old new : Option (List ℕ)) (frame : List ℕ) → IsFrameLength (length frame)
    → Consumes old new (frame_text frame) → Shows old (Ok frame)
shows_frame None new frame fits taken = tt
shows_frame (Some octets) None frame fits taken = absurd taken
shows_frame (Some octets) (Some rest) frame fits taken =
    ap next_frame taken ∙ next_frame-text frame rest fits

-- a length is read, and then as many octets
pub frame_read : (old mid new : Option (List ℕ)) (before octets after : List ℕ) (two got n : ℕ)
    → IsFrameLength n → before ≡ length_octets n → Consumes old mid (take two before) → two ≡ 2
    → Consumes mid new (take got octets) → n ≤ got → got ≤ length octets → length octets ≤ n
    → ReadsNext old new (Ok n) (octets ++ after)
frame_read old mid new before octets after two got n fits says length_taken is_two taken enough
    within most =
    let exact : n ≡ length octets = omega arith in
    let whole : octets ≡ take n (octets ++ after) =
    sym (ap (λ m. take m (octets ++ after)) exact ∙ take-append_seam octets after) in
    let all : take got octets ≡ octets = take_all got octets (omega arith) in
    let first : take two before ≡ length_octets (length octets) =
    ap (λ m. take m before) is_two ∙ ap (take 2) says ∙ ap length_octets exact in
    let F : List ℕ → Type 0 = λ x. Consumes old mid x in
    let G : List ℕ → Type 0 = λ x. Consumes mid new x in
    let text : Consumes old new (frame_text octets) =
    Consumes-trans old mid new _ _ (subst F first length_taken) (subst G all taken) in
    let H : ℕ → Type 0 = λ m. IsFrameLength m in
    let K : List ℕ → Type 0 = λ x. Shows old (Ok x) × Consumes old new (frame_text x) in
    subst K whole (shows_frame old new octets (subst H exact fits) text, text)

-- ---- Lists of frames.

-- appending a frame to a list appends its text
pub socket_text-append : (frames : List (List ℕ)) (frame : List ℕ)
    → socket_text (frames ++ frame ∷ []) ≡ socket_text frames ++ frame_text frame
socket_text-append [] frame = append-nil (frame_text frame)
socket_text-append (first ∷ frames) frame =
    ap (λ text. frame_text first ++ text) (socket_text-append frames frame)
    ∙ sym (append_assoc (frame_text first) (socket_text frames) (frame_text frame))

-- a frame is appended to others
pub writes_list : (old new : Option (List ℕ)) (result : Result ⊤ PortFault) (frames : List (List ℕ))
    (frame : List ℕ) → old ≡ Some (socket_text frames)
    → WritesText old new result (frame_text frame)
    → OnOk result (new ≡ Some (socket_text (frames ++ frame ∷ [])))
writes_list old new (Err fault) frames frame is written = tt
writes_list old new (Ok done) frames frame is written =
    let F : Option (List ℕ) → Type 0 = λ known. Appends known new (frame_text frame) in
    appended new (subst F is written)
  where
    appended : (after : Option (List ℕ))
        → Appends (Some (socket_text frames)) after (frame_text frame)
        → after ≡ Some (socket_text (frames ++ frame ∷ []))
    appended None grew = absurd grew
    appended (Some octets) grew = ap Some (grew ∙ sym (socket_text-append frames frame))

-- if a frame is next in a source, no other frame and no fault is next
shows_same : (old : Option (List ℕ)) (octets : List ℕ) (one other : Result (List ℕ) PortFault)
    → old ≡ Some octets → next_frame octets ≡ one → Shows old other → one ≡ other
shows_same old octets one other is shown shows =
    let F : Option (List ℕ) → Type 0 = λ known. Shows known other in
    let h : next_frame octets ≡ other = subst F is shows in
    sym shown ∙ h

-- the text of the first frame is consumed, and the text of the others is left
left_of_first : (frame : List ℕ) (frames : List (List ℕ)) (old new : Option (List ℕ))
    → old ≡ Some (socket_text (frame ∷ frames)) → Consumes old new (frame_text frame)
    → new ≡ Some (socket_text frames)
left_of_first frame frames old new is taken =
    let F : Option (List ℕ) → Type 0 = λ known. Consumes known new (frame_text frame) in
    same_left new (subst F is taken)
  where
    same_left : (after : Option (List ℕ))
        → Consumes (Some (socket_text (frame ∷ frames))) after (frame_text frame)
        → after ≡ Some (socket_text frames)
    same_left None lost = absurd lost
    same_left (Some octets) lost =
        ap Some (sym (append_cancel_left (frame_text frame) (socket_text frames) octets lost))

-- a source with the text of frames returns the first of them
pub reads_first : (old new : Option (List ℕ)) (result : Result ℕ PortFault) (buffer frame : List ℕ)
    (frames : List (List ℕ)) → IsFrameLength (length frame)
    → old ≡ Some (socket_text (frame ∷ frames))
    → ReadsNext old new result buffer → ReadsFirst frame frames new result buffer
reads_first old new (Ok count) buffer frame frames fits is reads =
    let shown = next_frame-text frame (socket_text frames) fits in
    let same = shows_same old _ _ (Ok (take count buffer)) is shown reads.0 in
    let e : take count buffer ≡ frame = cc in
    let F : List ℕ → Type 0 = λ x. Consumes old new (frame_text x) in
    (e, left_of_first frame frames old new is (subst F e reads.1))
reads_first old new (Err End) buffer frame frames fits is reads =
    let same =
    shows_same old _ _ (Err End) is (next_frame-text frame (socket_text frames) fits)
    reads.0 in
    cc
reads_first old new (Err BadLength) buffer frame frames fits is reads =
    let same =
    shows_same old _ _ (Err BadLength) is (next_frame-text frame (socket_text frames) fits)
    reads.0 in
    cc
reads_first old new (Err Cut) buffer frame frames fits is reads =
    let same =
    shows_same old _ _ (Err Cut) is (next_frame-text frame (socket_text frames) fits)
    reads.0 in
    cc
reads_first old new (Err Device) buffer frame frames fits is reads = tt
reads_first old new (Err TooManyTurns) buffer frame frames fits is reads = tt
reads_first old new (Err Failed) buffer frame frames fits is reads = tt
