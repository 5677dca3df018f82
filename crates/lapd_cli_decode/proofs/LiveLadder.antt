-- A ladder that is drawn while the frames pass is that of their capture.
use Rattle.std.proofs.Common.{◌≡◌, inl, inr, ℕ, zero, suc, ◌+◌, ◌-◌, ◌*◌, ◌/◌, ◌%◌, ◌<◌, ◌||◌, min, Bool, true, false, List, [], ◌∷◌, ◌++◌, Option, None, Some, Result, Ok, Err, refl, sym, ap, ◌∙◌, subst, length, take, drop, take_all, append-nil, append_assoc, arith}
use Rattle.std.specs.Io.KnownBytes.{Appends}
use Rattle.std.proofs.lemmas.Bool.{true≢false}
use Rattle.std.proofs.Math.Nat.{div-add-mod', mod-eq_of_lt}
use Rattle.lapd_frame.specs.declared.Side.{Side}
use Rattle.lapd_follow.specs.Ends.{one_more}
use Rattle.lapd_follow.specs.Listening.{Listening, listening_after, new_listening}
use Rattle.lapd_capture.specs.declared.CaptureItem.{CaptureItem}
use Rattle.lapd_capture.specs.declared.CaptureItem.TheVariants.{Frame, Other, NotGsmtap, Unreadable, End}
use Rattle.lapd_capture.specs.declared.CaptureFault.{CaptureFault}
use Rattle.lapd_capture.specs.ReadBack.{LineFrame, line_packet, line_reading, line_span, read_moment, records_of}
use Rattle.lapd_capture.specs.Reading.{Reading, Step, next_step, opened}
use Rattle.lapd_capture.specs.Written.{file_octets}
use Rattle.lapd_capture.proofs.ReadBack.{head_is_read, record_is_read}
use Rattle.lapd_cli_render.specs.declared.Packet.{Packet}
use Rattle.lapd_cli_decode.specs.declared.capture_lines.CaptureStop.{CaptureStop}
use Rattle.lapd_cli_decode.specs.declared.capture_lines.CaptureStop.TheVariants.{Capture as AtFault, Packet as AtPacket, Input, Device, Memory}
use Rattle.lapd_cli_decode.specs.declared.capture_lines.Seen.{Seen}
use Rattle.lapd_cli_frames.specs.declared.frame_printer.Origin.TheVariants.{Capture}
use Rattle.lapd_cli_decode.specs.Captured.{CaptureEnds, IsFinished, Place, Prints, after_item, begins_at, is_user, item_text}
use Rattle.lapd_cli_frames.specs.Frames.{Printing, after_frame, closing_text, followed_packet, frame_text, is_complete}
use Rattle.lapd_cli_frames.specs.LiveLadder.{ladder_style, microseconds, new_ladder, rung_of, rungs_of}
use Rattle.lapd_cli_decode.specs.DecodedLadder.{AreCaptured, DecodesAs, PrintsOnly, captured_ladder}
use Rattle.lapd_cli_frames.specs.Time.{either}
use Rattle.lapd_zone.specs.Zone.{utc_table}

-- what is known of the frames so far; whether one is certainly the user side's is of no effect
abbrev drawing : ℕ → Bool → ℕ → Option ℕ → Option ℕ → Listening → Printing
drawing frames has_user printed first last listening = record {
  origin = Capture;
  how = ladder_style;
  zone = utc_table;
  frames = frames;
  has_user = has_user;
  printed = printed;
  first = first;
  last = last;
  missing = 0;
  listening = Some listening;
}

-- the moment that a capture has is the one that is drawn
moment_is_drawn : (moment : ℕ) → moment < 4294967296000 → read_moment moment ≡ microseconds moment
moment_is_drawn moment early =
    let seconds : moment / 1000 < 4294967296 = omega (arith, early) in
    let all : moment / 1000 % 4294967296 ≡ moment / 1000 = mod-eq_of_lt seconds in
    let parts : moment / 1000 * 1000 + moment % 1000 ≡ moment = div-add-mod' moment 1000 in
    let small : min (moment * 1000) 18446744073709551615 ≡ moment * 1000 = omega (arith, early) in
    ap (λ k. k * 1000000 + moment % 1000 * 1000) all ∙ omega (arith, parts) ∙ sym small

-- the packet of a capture
abbrev captured_packet : ℕ → ℕ → Packet
captured_packet number moment = record { number = number; moment = Some moment; is_cut = false }

packet_is_drawn : (moment k : ℕ) → k + 1 < 18446744073709551616 → moment < 4294967296000
    → captured_packet (k + 1) (read_moment moment)
    ≡ captured_packet (one_more k) (microseconds moment)
packet_is_drawn moment k few early =
    let number : k + 1 ≡ one_more k = omega (arith, few) in
    ap (λ n. captured_packet n (read_moment moment)) number
    ∙ ap (λ m. captured_packet (one_more k) m) (moment_is_drawn moment early)

-- the octets of the frame
octets_are_drawn : (own : Side) (frame : LineFrame)
    → take (16 + length frame.octets - 16) (drop 16 (line_packet own frame)) ≡ frame.octets
octets_are_drawn own frame =
    let count : 16 + length frame.octets - 16 ≡ length frame.octets = omega arith in
    ap (λ n. take n frame.octets) count ∙ take_all (length frame.octets) frame.octets (omega arith)

-- the reading behind the record of a frame
abbrev behind_frame : Side → LineFrame → ℕ → ℕ → List ℕ → Reading
behind_frame own frame place k left =
    line_reading place (k + 1) (Some (read_moment frame.moment)) (line_packet own frame) left

-- what is known after a frame
abbrev after_drawn : LineFrame → ℕ → Bool → ℕ → Option ℕ → Option ℕ → Listening → Printing
after_drawn frame k has_user printed first last listening =
    drawing (one_more k) has_user (one_more printed)
    (either first (Some (microseconds frame.moment)))
    (either (Some (microseconds frame.moment)) last)
    (listening_after (followed_packet (captured_packet (one_more k) (microseconds frame.moment)))
    frame.from frame.octets listening)

-- a frame of the capture has the text that is drawn
text_is_drawn : (sender : Option Side) (keeps_going : Bool) (own : Side) (frame : LineFrame)
    (place k : ℕ) (left : List ℕ) (a b : Bool) (printed : ℕ) (first last : Option ℕ)
    (listening : Listening)
    → k + 1 < 18446744073709551616 → frame.moment < 4294967296000
    → item_text (captured_ladder sender keeps_going) (behind_frame own frame place k left)
    (Frame (line_span frame)) (drawing k a printed first last listening)
    ≡ rung_of frame (drawing k b printed first last listening)
text_is_drawn sender keeps_going own frame place k left a b printed first last listening few early =
    ap (λ octets. frame_text (captured_packet (k + 1) (read_moment frame.moment)) (Some frame.from)
    octets (drawing k a printed first last listening)) (octets_are_drawn own frame)
    ∙ ap (λ packet. frame_text packet (Some frame.from) frame.octets
    (drawing k a printed first last listening)) (packet_is_drawn frame.moment k few early)

state_is_drawn : (sender : Option Side) (keeps_going : Bool) (own : Side) (frame : LineFrame)
    (place k : ℕ) (left : List ℕ) (a : Bool) (printed : ℕ) (first last : Option ℕ)
    (listening : Listening)
    → k + 1 < 18446744073709551616 → frame.moment < 4294967296000
    → after_item (captured_ladder sender keeps_going) (behind_frame own frame place k left)
    (Frame (line_span frame)) (drawing k a printed first last listening)
    ≡ after_drawn frame k (a || is_user (Some frame.from)) printed first last listening
state_is_drawn sender keeps_going own frame place k left a printed first last listening few early =
    ap (λ octets. after_frame (captured_packet (k + 1) (read_moment frame.moment)) (Some frame.from)
    octets (drawing k (a || is_user (Some frame.from)) printed first last listening))
    (octets_are_drawn own frame)
    ∙ ap (λ packet. after_frame packet (Some frame.from) frame.octets
    (drawing k (a || is_user (Some frame.from)) printed first last listening))
    (packet_is_drawn frame.moment k few early)

-- ---- A place that `decode` reaches.

-- these frames are left there, and this text is printed before it
record IsAt (own : Side) (whole text : List ℕ) (p : Place) : Type 0 where
  rest : List LineFrame
  place : ℕ
  k : ℕ
  moment : Option ℕ
  body : List ℕ
  has_user : Bool
  draws_user : Bool
  printed : ℕ
  first : Option ℕ
  last : Option ℕ
  heard : Listening
  is_place : p
      ≡ record {
        reading = line_reading place k moment body (records_of own rest);
        printing = drawing k has_user printed first last heard;
      }
  fits : AreCaptured rest
  few : k + length rest < 18446744073709551616
  is_whole : text ++ rungs_of rest (drawing k draws_user printed first last heard) ≡ whole

-- the item of a step, and the reading behind it
abbrev item_in : Result Step CaptureFault → CaptureItem
item_in (Ok step) = step.item
item_in (Err fault) = End

abbrev reading_in : Reading → Result Step CaptureFault → Reading
reading_in r (Ok step) = step.reading
reading_in r (Err fault) = r

-- a place by its parts
place_of_parts : (p : Place) (reading : Reading) (printing : Printing) → p.reading ≡ reading
    → p.printing ≡ printing → p ≡ record { reading = reading; printing = printing }
place_of_parts p reading printing a b = rw (sym a, sym b) refl

-- ---- A step from such a place.

-- no frame is left
no_more : (sender : Option Side) (keeps_going : Bool) (own : Side) (whole text : List ℕ)
    (new : Place) (item : CaptureItem)
    (place k : ℕ) (moment : Option ℕ) (body : List ℕ) (a b : Bool) (printed : ℕ)
    (first last : Option ℕ) (listening : Listening)
    → k + 0 < 18446744073709551616 → text ++ [] ≡ whole
    → next_step (line_reading place k moment body [])
    ≡ Ok (record { item = item; reading = new.reading })
    → new.printing
    ≡ after_item (captured_ladder sender keeps_going) new.reading item
    (drawing k a printed first last listening)
    → IsAt own whole (text
    ++ item_text (captured_ladder sender keeps_going) new.reading item
    (drawing k a printed first last listening)) new
no_more sender keeps_going own whole text new item place k moment body a b printed first last
    listening few is_whole step state =
    let how = captured_ladder sender keeps_going in
    let r : Reading = line_reading place k moment body [] in
    let s : Printing = drawing k a printed first last listening in
    let is_end : item ≡ End = ap item_in (sym step) in
    let is_reading : new.reading ≡ r = ap (λ q. reading_in r q) (sym step) in
    let is_printing : new.printing ≡ s = state ∙ ap (λ i. after_item how new.reading i s) is_end in
    let is_text : text ++ item_text how new.reading item s ≡ text =
    ap (λ i. text ++ item_text how new.reading i s) is_end ∙ append-nil text in
    record {
      rest = [];
      place = place;
      k = k;
      moment = moment;
      body = body;
      has_user = a;
      draws_user = b;
      printed = printed;
      first = first;
      last = last;
      heard = listening;
      is_place = place_of_parts new r s is_reading is_printing;
      fits = tt;
      few = few;
      is_whole = ap (λ l. l ++ []) is_text ∙ is_whole;
    }

-- a frame is next
one_more_frame : (sender : Option Side) (keeps_going : Bool) (own : Side) (whole text : List ℕ)
    (new : Place) (item : CaptureItem) (frame : LineFrame) (rest : List LineFrame)
    (place k : ℕ) (moment : Option ℕ) (body : List ℕ) (a b : Bool) (printed : ℕ)
    (first last : Option ℕ) (listening : Listening)
    → AreCaptured (frame ∷ rest) → k + length (frame ∷ rest) < 18446744073709551616
    → text ++ rungs_of (frame ∷ rest) (drawing k b printed first last listening) ≡ whole
    → next_step (line_reading place k moment body (records_of own (frame ∷ rest)))
    ≡ Ok (record { item = item; reading = new.reading })
    → new.printing
    ≡ after_item (captured_ladder sender keeps_going) new.reading item
    (drawing k a printed first last listening)
    → IsAt own whole (text
    ++ item_text (captured_ladder sender keeps_going) new.reading item
    (drawing k a printed first last listening)) new
one_more_frame sender keeps_going own whole text new item frame rest place k moment body a b printed
    first last listening fits few is_whole step state =
    let how = captured_ladder sender keeps_going in
    let s : Printing = drawing k a printed first last listening in
    let t : Printing = drawing k b printed first last listening in
    let c : Bool = a || is_user (Some frame.from) in
    let next : ℕ = place + (32 + length frame.octets) in
    let behind : Reading = behind_frame own frame next k (records_of own rest) in
    let read = record_is_read own frame place k moment body (records_of own rest) fits.0 in
    let is_frame : item ≡ Frame (line_span frame) = ap item_in (sym step ∙ read) in
    let is_reading : new.reading ≡ behind = ap (λ q. reading_in behind q) (sym step ∙ read) in
    let room : k + 1 < 18446744073709551616 = omega (arith, few) in
    let number : one_more k ≡ k + 1 = omega (arith, room) in
    let drawn : Option ℕ = Some (microseconds frame.moment) in
    let heard : Listening =
    listening_after
    (followed_packet (captured_packet (one_more k) (microseconds frame.moment))) frame.from
    frame.octets listening in
    let after : ℕ → Bool → Printing =
    λ j d. drawing j d (one_more printed) (either first drawn) (either drawn last) heard in
    let is_printing : new.printing ≡ after (k + 1) c =
    state ∙ ap (λ i. after_item how new.reading i s) is_frame
    ∙ ap (λ r. after_item how r (Frame (line_span frame)) s) is_reading
    ∙ state_is_drawn sender keeps_going own frame next k (records_of own rest) a printed first last
    listening room fits.1
    ∙ ap (λ j. after j c) number in
    let is_text : item_text how new.reading item s ≡ rung_of frame t =
    ap (λ i. item_text how new.reading i s) is_frame
    ∙ ap (λ r. item_text how r (Frame (line_span frame)) s) is_reading
    ∙ text_is_drawn sender keeps_going own frame next k (records_of own rest) a b printed first last
    listening room fits.1 in
    let joined : text ++ rung_of frame t ++ rungs_of rest (after (one_more k) b) ≡ whole =
    append_assoc text (rung_of frame t) (rungs_of rest (after (one_more k) b)) ∙ is_whole in
    record {
      rest = rest;
      place = next;
      k = k + 1;
      moment = Some (read_moment frame.moment);
      body = line_packet own frame;
      has_user = c;
      draws_user = b;
      printed = one_more printed;
      first = either first drawn;
      last = either drawn last;
      heard = heard;
      is_place = place_of_parts new behind (after (k + 1) c) is_reading is_printing;
      fits = fits.2;
      few = omega (arith, few);
      is_whole =
          ap (λ l. text ++ l ++ rungs_of rest (after (k + 1) b)) is_text
          ∙ ap (λ j. text ++ rung_of frame t ++ rungs_of rest (after j b)) (sym number) ∙ joined;
    }

from_rest : (sender : Option Side) (keeps_going : Bool) (own : Side) (whole text : List ℕ)
    (new : Place) (item : CaptureItem) (rest : List LineFrame)
    (place k : ℕ) (moment : Option ℕ) (body : List ℕ) (a b : Bool) (printed : ℕ)
    (first last : Option ℕ) (listening : Listening)
    → AreCaptured rest → k + length rest < 18446744073709551616
    → text ++ rungs_of rest (drawing k b printed first last listening) ≡ whole
    → next_step (line_reading place k moment body (records_of own rest))
    ≡ Ok (record { item = item; reading = new.reading })
    → new.printing
    ≡ after_item (captured_ladder sender keeps_going) new.reading item
    (drawing k a printed first last listening)
    → IsAt own whole (text
    ++ item_text (captured_ladder sender keeps_going) new.reading item
    (drawing k a printed first last listening)) new
from_rest sender keeps_going own whole text new item [] place k moment body a b printed first last
    listening fits few is_whole step state =
    no_more sender keeps_going own whole text new item place k moment body a b printed first last
    listening few is_whole step state
from_rest sender keeps_going own whole text new item (frame ∷ rest) place k moment body a b printed
    first last listening fits few is_whole step state =
    one_more_frame sender keeps_going own whole text new item frame rest place k moment body a b
    printed first last listening fits few is_whole step state

one_step : (sender : Option Side) (keeps_going : Bool) (own : Side) (whole text : List ℕ)
    (mid new : Place) (item : CaptureItem)
    → IsAt own whole text mid
    → next_step mid.reading ≡ Ok (record { item = item; reading = new.reading })
    → new.printing ≡ after_item (captured_ladder sender keeps_going) new.reading item mid.printing
    → IsAt own whole
    (text ++ item_text (captured_ladder sender keeps_going) new.reading item mid.printing) new
one_step sender keeps_going own whole text mid new item h step state =
    let how = captured_ladder sender keeps_going in
    let step_here = ap (λ (p : Place). next_step p.reading) (sym h.is_place) ∙ step in
    let state_here =
    state ∙ ap (λ (p : Place). after_item how new.reading item p.printing) h.is_place in
    subst (λ (p : Place). IsAt own whole (text ++ item_text how new.reading item p.printing) new)
    (sym h.is_place)
    (from_rest sender keeps_going own whole text new item h.rest h.place h.k h.moment h.body
    h.has_user h.draws_user h.printed h.first h.last h.heard
    h.fits h.few h.is_whole step_here state_here)

-- each place that `decode` reaches
along : (sender : Option Side) (keeps_going : Bool) (own : Side) (whole : List ℕ) (start : Place)
    (n : ℕ) (text : List ℕ) (p : Place)
    → IsAt own whole [] start → Prints (captured_ladder sender keeps_going) n start text p
    → IsAt own whole text p
along sender keeps_going own whole start zero text p h prints =
    subst (λ l. IsAt own whole l p) (sym prints.0)
    (subst (λ q. IsAt own whole [] q) (sym prints.1) h)
along sender keeps_going own whole start (suc n) text p h prints =
    subst (λ l. IsAt own whole l p) (sym prints.8)
    (one_step sender keeps_going own whole prints.2 prints.0 p prints.1
    (along sender keeps_going own whole start n prints.2 prints.0 h prints.3) prints.5
    prints.7)

-- ---- The end.

abbrev is_end : CaptureItem → Bool
is_end End = true
is_end (Frame span) = false
is_end Other = false
is_end NotGsmtap = false
is_end (Unreadable fault) = false

-- no fault, and no packet that can't be read
abbrev is_readable : CaptureItem → Bool
is_readable End = true
is_readable (Frame span) = true
is_readable Other = true
is_readable NotGsmtap = true
is_readable (Unreadable fault) = false

abbrev is_sound : Result Step CaptureFault → Bool
is_sound (Err fault) = false
is_sound (Ok step) = is_readable step.item

sound_here : (own : Side) (rest : List LineFrame) (place k : ℕ) (moment : Option ℕ) (body : List ℕ)
    → AreCaptured rest
    → is_sound (next_step (line_reading place k moment body (records_of own rest))) ≡ true
sound_here own [] place k moment body fits = refl
sound_here own (frame ∷ rest) place k moment body fits =
    ap is_sound (record_is_read own frame place k moment body (records_of own rest) fits.0)

sound_at : (own : Side) (whole text : List ℕ) (p : Place) → IsAt own whole text p
    → is_sound (next_step p.reading) ≡ true
sound_at own whole text p h =
    ap (λ (q : Place). is_sound (next_step q.reading)) h.is_place
    ∙ sound_here own h.rest h.place h.k h.moment h.body h.fits

ends_here : (own : Side) (whole text : List ℕ) (rest : List LineFrame) (place k : ℕ)
    (moment : Option ℕ) (body : List ℕ) (d : Printing) (behind : Reading)
    → AreCaptured rest → text ++ rungs_of rest d ≡ whole
    → next_step (line_reading place k moment body (records_of own rest))
    ≡ Ok (record { item = End; reading = behind })
    → text ≡ whole
ends_here own whole text [] place k moment body d behind fits is_whole step =
    sym (append-nil text) ∙ is_whole
ends_here own whole text (frame ∷ rest) place k moment body d behind fits is_whole step =
    absurd (true≢false (ap (λ s. is_end (item_in s))
    (sym step
    ∙ record_is_read own frame place k moment body (records_of own rest) fits.0)))

finished : (own : Side) (whole text : List ℕ) (p : Place) → IsAt own whole text p → IsFinished p
    → text ≡ whole
finished own whole text p h (inl complete) =
    absurd (true≢false (sym complete ∙ ap (λ (q : Place). is_complete q.printing) h.is_place))
finished own whole text p h (inr end) =
    ends_here own whole text h.rest h.place h.k h.moment h.body
    (drawing h.k h.draws_user h.printed h.first h.last h.heard) end.0
    h.fits h.is_whole (ap (λ (q : Place). next_step q.reading) (sym h.is_place) ∙ end.1)

decoded : (sender : Option Side) (keeps_going : Bool) (own : Side) (whole : List ℕ) (start : Place)
    (result : Result Seen CaptureStop) (old new : Option (List ℕ))
    → IsAt own whole [] start
    → CaptureEnds (captured_ladder sender keeps_going) start result old new
    → PrintsOnly whole result old new
decoded sender keeps_going own whole start (Ok seen) old new h ends =
    let there = along sender keeps_going own whole start ends.1 ends.2 ends.0 h ends.3 in
    let no_tables : closing_text (ends.0).printing ≡ [] =
    ap (λ (p : Place). closing_text p.printing) there.is_place in
    let is_text : ends.2 ++ closing_text (ends.0).printing ≡ whole =
    ap (λ l. ends.2 ++ l) no_tables ∙ append-nil (ends.2)
    ∙ finished own whole (ends.2) (ends.0) there ends.7 in
    subst (λ l. Appends old new l) is_text ends.4
decoded sender keeps_going own whole start (Err (AtFault fault place)) old new h ends =
    let there =
    along sender keeps_going own whole start (ends.1).0 (ends.1).1 ends.0 h (ends.1).2 in
    absurd (true≢false (sym (sound_at own whole (ends.1).1 ends.0 there) ∙ ap is_sound ends.3))
decoded sender keeps_going own whole start (Err (AtPacket fault place)) old new h ends =
    let there =
    along sender keeps_going own whole start (ends.2).0 (ends.2).1 ends.0 h (ends.2).2 in
    absurd (true≢false (sym (sound_at own whole (ends.2).1 ends.0 there) ∙ ap is_sound ends.4))
decoded sender keeps_going own whole start (Err (Input kind)) old new h ends = tt
decoded sender keeps_going own whole start (Err Device) old new h ends = tt
decoded sender keeps_going own whole start (Err Memory) old new h ends = tt

-- the reading of an opened capture
abbrev opened_in : Reading → Result Reading CaptureFault → Reading
opened_in r (Ok reading) = reading
opened_in r (Err fault) = r

-- the whole capture
pub capture_is_drawn : (sender : Option Side) (keeps_going : Bool) (own : Side)
    (frames : List LineFrame) (start : Reading)
    → AreCaptured frames → length frames < 18446744073709551616
    → opened (file_octets ++ records_of own frames) ≡ Ok start
    → DecodesAs (captured_ladder sender keeps_going) start (rungs_of frames new_ladder)
capture_is_drawn sender keeps_going own frames start fits few is_opened result old new ends =
    let how = captured_ladder sender keeps_going in
    let whole : List ℕ = rungs_of frames new_ladder in
    let first : Reading = line_reading 24 0 None [] (records_of own frames) in
    let is_first : start ≡ first =
    ap (λ r. opened_in start r) (sym is_opened ∙ head_is_read (records_of own frames)) in
    let begun : IsAt own whole [] (begins_at how (Some (record { k = None })) start) = record {
      rest = frames;
      place = 24;
      k = 0;
      moment = None;
      body = [];
      has_user = false;
      draws_user = false;
      printed = 0;
      first = None;
      last = None;
      heard = new_listening None;
      is_place = ap (λ r. begins_at how (Some (record { k = None })) r) is_first;
      fits = fits;
      few = omega (arith, few);
      is_whole = refl;
    } in
    decoded sender keeps_going own whole (begins_at how (Some (record { k = None })) start) result
    old new begun ends
