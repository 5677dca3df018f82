-- The text printed up to a place, followed by the text of the next step.
use Rattle.std.proofs.Common.{◌≡◌, inl, inr, ℕ, Bool, Result, List, [], ◌++◌, suc, Option, None, Some, Ok, Err, true, false, IsErrAnd, refl, sym, ap, ◌∙◌, subst, append-nil}
use Rattle.std.specs.Prelude.{⊤}
use Rattle.std.proofs.KnownBytes.{Appends-trans, Appends-nil}
use Rattle.std.specs.Io.KnownBytes.{Appends, Keeps}
use Rattle.lapd_capture.specs.declared.CaptureItem.{CaptureItem}
use Rattle.lapd_capture.specs.declared.CaptureItem.TheVariants.{Frame, Unreadable}
use Rattle.lapd_capture.specs.declared.CaptureFault.{CaptureFault}
use Rattle.lapd_capture.specs.declared.PacketFault.{PacketFault}
use Rattle.lapd_capture.specs.declared.ReadFault.TheVariants.{Capture as ReadCapture}
use Rattle.lapd_capture.specs.declared.Span.{Span}
use Rattle.lapd_capture.specs.Reader.{MakesStep, reading_of}
use Rattle.lapd_capture.specs.Reading.{Reading, next_step}
use Rattle.lapd_capture.specs.declared.CaptureReader.{CaptureReader}
use Rattle.lapd_cli_decode.specs.declared.capture_lines.CaptureStyle.{CaptureStyle}
use Rattle.lapd_cli_decode.specs.declared.capture_lines.CaptureStop.{CaptureStop}
use Rattle.lapd_cli_decode.specs.declared.capture_lines.CaptureStop.TheVariants.{Capture, Packet, Input, Device, Memory}
use Rattle.lapd_cli_decode.specs.Captured.{ItemsEnd, Place, PrintsTo, StepsFrom, TakesStep, after_found, after_item, found_text, item_text, packet_fault, place_of}
use Rattle.lapd_cli_frames.specs.Frames.{Printing, after_missing, is_complete, missing_text}

-- bytes that are kept and then grow
pub Appends-after : (a b c : Option (List ℕ)) (bs : List ℕ) → Keeps a b → Appends b c bs
    → Appends a c bs
Appends-after None b c bs p q = tt
Appends-after (Some x) None c bs p q = absurd p
Appends-after (Some x) (Some y) None bs p q = absurd q
Appends-after (Some x) (Some y) (Some z) bs p q = q ∙ ap (λ l. l ++ bs) p

-- a step whose writer was flushed before
pub StepsFrom-flushed : {R : Type 0} (remaining : R → Option (List ℕ)) (how : CaptureStyle)
    (result : Result Bool CaptureStop) (old : Place) (reader : CaptureReader R)
    (printing : Printing) (a b c : Option (List ℕ))
    → Keeps a b → StepsFrom remaining how result old reader printing b c
    → StepsFrom remaining how result old reader printing a c
StepsFrom-flushed remaining how (Ok false) old reader printing a b c k s =
    (s.0, s.1, (s.2.0, s.2.1, s.2.2, s.2.3, Appends-after a b c _ k s.2.4))
StepsFrom-flushed remaining how (Ok true) old reader printing a b c k s =
    (s.0, s.1, (s.2.0, s.2.1, Appends-after a b c _ k s.2.2))
StepsFrom-flushed remaining how (Err (Capture fault at)) old reader printing a b c k s =
    (s.0, (s.1.0, s.1.1, Appends-after a b c _ k s.1.2))
StepsFrom-flushed remaining how (Err (Packet fault at)) old reader printing a b c k s =
    (s.0, (s.1.0, s.1.1, Appends-after a b c _ k s.1.2))
StepsFrom-flushed remaining how (Err (Input kind)) old reader printing a b c k s = tt
StepsFrom-flushed remaining how (Err Device) old reader printing a b c k s = tt
StepsFrom-flushed remaining how (Err Memory) old reader printing a b c k s = tt

pub PrintsTo-more : (how : CaptureStyle) (start mid new : Place) (item : CaptureItem)
    (a b d : Option (List ℕ))
    → PrintsTo how start a b mid
    → next_step mid.reading ≡ Ok (record { item = item; reading = new.reading })
    → is_complete mid.printing ≡ false → packet_fault how.keeps_going item ≡ None
    → new.printing ≡ after_item how new.reading item mid.printing
    → Appends b d (item_text how new.reading item mid.printing) → PrintsTo how start a d new
PrintsTo-more how start mid new item a b d p step goes_on preserved printing grew = (
  suc p.0,
  p.1 ++ item_text how new.reading item mid.printing,
  (mid, item, p.1, p.2, goes_on, step, preserved, printing, refl),
  Appends-trans a b d p.1 (item_text how new.reading item mid.printing) p.3 grew,
)

-- nothing more is printed
pub PrintsTo-preserved : (how : CaptureStyle) (start mid : Place) (a b d : Option (List ℕ))
    → PrintsTo how start a b mid → Appends b d [] → PrintsTo how start a d mid
PrintsTo-preserved how start mid a b d p grew =
    (p.0, p.1, p.2, subst (Appends a d) (append-nil p.1) (Appends-trans a b d p.1 [] p.3 grew))

-- one more step, after the text printed so far
pub PrintsTo-step : (how : CaptureStyle) (start mid new : Place) (a b d : Option (List ℕ))
    → PrintsTo how start a b mid → is_complete mid.printing ≡ false
    → TakesStep how (Ok false) mid new b d → PrintsTo how start a d new
PrintsTo-step how start mid new a b d p goes_on s =
    PrintsTo-more how start mid new s.0 a b d p s.1 goes_on s.2 s.3 s.4

-- the end of the capture, after the text printed so far
pub ItemsEnd-done : (how : CaptureStyle) (start mid new : Place) (a b d : Option (List ℕ))
    → PrintsTo how start a b mid → TakesStep how (Ok true) mid new b d
    → ItemsEnd how start (Ok tt) new.printing a d
ItemsEnd-done how start mid new a b d p s =
    (mid, PrintsTo-preserved how start mid a b d p s.2, s.1, inr (new.reading, s.0))

-- all requested frames are printed
pub ItemsEnd-complete : (how : CaptureStyle) (start mid : Place) (a b : Option (List ℕ))
    → PrintsTo how start a b mid → is_complete mid.printing ≡ true
    → ItemsEnd how start (Ok tt) mid.printing a b
ItemsEnd-complete how start mid a b p complete = (mid, p, refl, inl complete)

-- a stop, after the text printed so far
pub ItemsEnd-stop : (how : CaptureStyle) (start mid new : Place) (printing : Printing)
    (a b d : Option (List ℕ)) (stop : CaptureStop)
    → PrintsTo how start a b mid → is_complete mid.printing ≡ false
    → TakesStep how (Err stop) mid new b d → ItemsEnd how start (Err stop) printing a d
ItemsEnd-stop how start mid new printing a b d (Capture fault at) p goes_on s =
    (mid, PrintsTo-preserved how start mid a b d p s.2, goes_on, s.0, s.1)
ItemsEnd-stop how start mid new printing a b d (Packet fault at) p goes_on s =
    (mid, new.reading, PrintsTo-preserved how start mid a b d p s.2, goes_on, s.0, s.1)
ItemsEnd-stop how start mid new printing a b d (Input kind) p goes_on s = tt
ItemsEnd-stop how start mid new printing a b d Device p goes_on s = tt
ItemsEnd-stop how start mid new printing a b d Memory p goes_on s = tt

pub ItemsEnd-from : {R : Type 0} (remaining : R → Option (List ℕ)) (how : CaptureStyle)
    (start mid : Place) (reader : CaptureReader R) (printing : Printing) (a b d : Option (List ℕ))
    (stop : CaptureStop)
    → PrintsTo how start a b mid → is_complete mid.printing ≡ false
    → StepsFrom remaining how (Err stop) mid reader printing b d
    → ItemsEnd how start (Err stop) printing a d
ItemsEnd-from remaining how start mid reader printing a b d (Capture fault at) p goes_on s =
    ItemsEnd-stop how start mid s.0 printing a b d (Capture fault at) p goes_on s.1
ItemsEnd-from remaining how start mid reader printing a b d (Packet fault at) p goes_on s =
    ItemsEnd-stop how start mid s.0 printing a b d (Packet fault at) p goes_on s.1
ItemsEnd-from remaining how start mid reader printing a b d (Input kind) p goes_on s = tt
ItemsEnd-from remaining how start mid reader printing a b d Device p goes_on s = tt
ItemsEnd-from remaining how start mid reader printing a b d Memory p goes_on s = tt

-- a stop is passed on
pub ItemsEnd-passed : (how : CaptureStyle) (start : Place) (result : Result ⊤ CaptureStop)
    (stop : CaptureStop) (printing : Printing) (a d : Option (List ℕ))
    → IsErrAnd result (λ e. e ≡ stop) → ItemsEnd how start (Err stop) printing a d
    → ItemsEnd how start result printing a d
ItemsEnd-passed how start (Ok done) stop printing a d is h = absurd is
ItemsEnd-passed how start (Err e) stop printing a d is h =
    subst (λ s. ItemsEnd how start (Err s) printing a d) (sym is) h

-- ---- a frame behind missing ones

pub text_behind_missing : (how : CaptureStyle) (behind : Reading) (span : Span) (total : ℕ)
    (old mid : Printing) (a b c : Option (List ℕ))
    → total ≡ behind.missing → mid ≡ after_missing total old
    → Appends a b (missing_text total old) → Appends b c (found_text how behind span mid)
    → Appends a c (item_text how behind (Frame span) old)
text_behind_missing how behind span total old mid a b c is_total is_mid told found =
    let before : Appends a b (missing_text behind.missing old) =
    subst (λ n. Appends a b (missing_text n old)) is_total told in
    let is_state : mid ≡ after_missing behind.missing old =
    is_mid ∙ ap (λ n. after_missing n old) is_total in
    let after : Appends b c (found_text how behind span (after_missing behind.missing old)) =
    subst (λ s. Appends b c (found_text how behind span s)) is_state found in
    Appends-trans a b c (missing_text behind.missing old)
    (found_text how behind span (after_missing behind.missing old)) before after

pub state_behind_missing : (how : CaptureStyle) (behind : Reading) (span : Span) (total : ℕ)
    (old mid new : Printing)
    → total ≡ behind.missing → mid ≡ after_missing total old
    → new ≡ after_found how behind span mid → new ≡ after_item how behind (Frame span) old
state_behind_missing how behind span total old mid new is_total is_mid is_new =
    is_new ∙ ap (λ s. after_found how behind span s) is_mid
    ∙ ap (λ n. after_found how behind span (after_missing n old)) is_total

-- ---- one item of a reader

-- a frame
pub item_frame : {R : Type 0} (remaining : R → Option (List ℕ)) (how : CaptureStyle)
    (old new : CaptureReader R) (left : List ℕ) (before after : Printing) (span : Span)
    (a b : Option (List ℕ))
    → MakesStep remaining (next_step (reading_of old left)) (Ok (Frame span)) new
    → ((rest : List ℕ) → Appends a b (item_text how (reading_of new rest) (Frame span) before))
    → ((rest : List ℕ) → after ≡ after_item how (reading_of new rest) (Frame span) before)
    → StepsFrom remaining how (Ok false) (place_of old left before) new after a b
item_frame remaining how old new left before after span a b m grew next =
    (m.0, m.1, (Frame span, m.2, refl, next m.0, grew m.0))

-- a packet at which reading stops
pub item_stopped : {R : Type 0} (remaining : R → Option (List ℕ)) (how : CaptureStyle)
    (old new : CaptureReader R) (left : List ℕ) (before after : Printing) (fault : PacketFault)
    (place : ℕ) (a : Option (List ℕ))
    → MakesStep remaining (next_step (reading_of old left)) (Ok (Unreadable fault)) new
    → place ≡ old.place
    → StepsFrom remaining how (Err (Packet fault place)) (place_of old left before) new after a a
item_stopped remaining how old new left before after fault place a m at =
    (place_of new m.0 before, (m.2, at, Appends-nil a))

-- a fault of the capture
pub item_fault : {R : Type 0} (remaining : R → Option (List ℕ)) (how : CaptureStyle)
    (old new : CaptureReader R) (left : List ℕ) (before after : Printing) (fault : CaptureFault)
    (place : ℕ) (a : Option (List ℕ))
    → MakesStep remaining (next_step (reading_of old left)) (Err (ReadCapture fault)) new
    → place ≡ old.place
    → StepsFrom remaining how (Err (Capture fault place)) (place_of old left before) new after a a
item_fault remaining how old new left before after fault place a m at =
    (place_of old left before, (m, at, Appends-nil a))
