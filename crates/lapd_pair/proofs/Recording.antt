-- The state of a side while the outputs of a step are executed.
use Rattle.std.proofs.Common.{◌≡◌, ◌≤◌, ◌<◌, ◌+◌, ◌-◌, ℕ, false, List, [], ◌∷◌, length, length-drop, drop, get_or, slice_get, Option, Some, None, option_map, IfSome, Vec, refl, sym, ap, ◌∙◌, subst, arith}
use Rattle.std.proofs.lemmas.List.{get_or-drop}
use Rattle.std.proofs.lemmas.Option.{slice_get-get_or}
use Rattle.std.specs.declared.alloc.Global.{Global}
use Rattle.lapd_frame.specs.declared.Side.{Side}
use Rattle.lapd_frame.specs.declared.Role.{Role}
use Rattle.lapd_frame.specs.declared.Role.TheVariants.{Command}
use Rattle.lapd_frame.specs.declared.Control.{Control}
use Rattle.lapd_frame.specs.declared.Control.TheVariants.{Ui}
use Rattle.lapd_frame.specs.Frame.{Fields, n201, content_fault}
use Rattle.lapd_link.specs.Link.{Setup, setup_of}
use Rattle.lapd_link.specs.SentFrame.{link_frame, message_frame, made_frame}
use Rattle.lapd_link_definition.specs.declared.out.Out.{Out}
use Rattle.lapd_link_definition.specs.declared.out.Out.TheVariants.{Send, SendMessage, SendUnit, Up, UnitUp, Acknowledged, Dropped}
use Rattle.lapd_link_definition.specs.Counts.{leaving, ups, unit_ups}
use Rattle.lapd_link_definition.specs.End.{End}
use Rattle.lapd_link_definition.specs.SentFrames.{AreShort}
use Rattle.lapd_pair_laws.specs.Histories as world
use Rattle.lapd_pair_laws.specs.Histories.{Occasion, Story, after_output, after_outputs, with_sending, with_receipt, with_acked, with_dropped}
use Rattle.lapd_pair_laws.specs.Consistent.{AreSettled, AreInOrder}
use Rattle.lapd_pair_laws.specs.Line.{Flight}
use Rattle.lapd_pair_laws.proofs.Recording.{message_is_short, unit_is_proper, in_order_then, settled_then, begun_then}
use Rattle.lapd_pair.specs.declared.log.Log.{Log}
use Rattle.lapd_pair.specs.declared.line.Line.{Line}
use Rattle.lapd_pair.specs.declared.recorded_link.RecordedLink.{RecordedLink}
use Rattle.lapd_pair.specs.Histories.{IsHistory, HasHistoryRoom, data_room}
use Rattle.lapd_pair.specs.Line.{fields_of, link_address, IsOn, HasRoomFor}
use Rattle.lapd_pair.specs.Setup.{setup_for}
use Rattle.lapd_pair.specs.Recording.{flight_of, with_sent, history_after, IsCopy, IsBetweenOutputs}

-- ---- The frame of an output.

-- parts that the control table allows form a frame
frame_is : (side : Side) (setup : Setup) (role : Role) (control : Control) (info : List ℕ)
    → setup ≡ setup_for side → content_fault role control (length info) ≡ None
    → link_frame setup role control info
    ≡ Some (record { address = link_address role; control = control; info = info })
frame_is side setup role control info same proper = rw (same, proper) refl

message_at : (messages : List (List ℕ)) (first n : ℕ) → n < length messages - first
    → slice_get (drop first messages) n ≡ Some (get_or messages (first + n) [])
message_at messages first n h =
    slice_get-get_or (drop first messages) n [] (omega (arith, length-drop first messages, h))
    ∙ ap (λ (m : List ℕ). Some m) (get_or-drop first messages n [])

abbrev FrameOf : Option Flight → Option Fields
FrameOf flight = option_map fields_of flight

message_is : (side : Side) (setup : Setup) (control : Control) (found : Option (List ℕ))
    (message : List ℕ) (place : ℕ) → setup ≡ setup_for side → found ≡ Some message
    → content_fault Command control (length message) ≡ None
    → message_frame setup control found
    ≡ FrameOf
    (Some (record { role = Command; control = control; info = message; place = place }))
message_is side setup control found message place same is proper =
    rw is (frame_is side setup Command control message same proper)

-- the frame that a link makes of an output is the one that the definition sends
pub sent_is_recorded : (side : Side) (e : End) (o : Occasion) (passed : ℕ) (out : Out)
    (rest : List Out) (setup : Setup) → setup ≡ setup_for side → AreInOrder e passed (out ∷ rest)
    → o.given ≡ e.given → AreShort e.given → length o.octets ≤ n201
    → made_frame setup (drop e.first e.given) o.octets out ≡ FrameOf (flight_of o passed out)
sent_is_recorded side e o passed (Send role control) rest setup same order given short fits =
    frame_is side setup role control [] same order.spoken.0
sent_is_recorded side e o passed (SendMessage n control) rest setup same order given short fits =
    let at : passed ≡ e.first = omega (arith, order.first, order.counted.0) in
    let found : slice_get (drop e.first e.given) n ≡ Some (get_or o.given (passed + n) []) =
    rw (given, at) (message_at e.given e.first n order.placed.0) in
    message_is side setup control _ (get_or o.given (passed + n) []) (passed + n) same found
    (order.spoken.0 (length (get_or o.given (passed + n) []))
    (rw given (message_is_short e.given (passed + n) short)))
sent_is_recorded side e o passed SendUnit rest setup same order given short fits =
    frame_is side setup Command (Ui false) o.octets same (unit_is_proper (length o.octets) fits)
sent_is_recorded side e o passed out rest setup same order given short fits = refl

-- ---- One output is executed.

after_frame : (from : Side) (before after : Line) (line : List Flight) (flight : Option Flight)
    (f : Fields) → FrameOf flight ≡ Some f
    → ((sent : Flight) → fields_of sent ≡ f → IsOn from after (with_sent (Some sent) line))
    → IsOn from after (with_sent flight line)
after_frame from before after line (Some flight) f is shows =
    shows flight (let same : Some (fields_of flight) ≡ Some f = is in cc)
after_frame from before after line None f is shows = cc

after_no_frame : (from : Side) (before : Line) (line : List Flight) (flight : Option Flight)
    → FrameOf flight ≡ None → IsOn from before line → IsOn from before (with_sent flight line)
after_no_frame from before line None is on = on
after_no_frame from before line (Some flight) is on = cc

-- executing an output means sending its frame and recording it
pub after_output_apart : (o : Occasion) (out : Out) (t : Story)
    → after_output o out t
    ≡ record {
      line = with_sent (flight_of o t.history.passed out) t.line;
      history = history_after o out t.history;
    }
after_output_apart o (Send role control) t = refl
after_output_apart o (SendMessage n control) t = refl
after_output_apart o SendUnit t = refl
after_output_apart o Up t = refl
after_output_apart o UnitUp t = refl
after_output_apart o (Acknowledged n) t = refl
after_output_apart o (Dropped n) t = refl
after_output_apart o out t = refl

pub sent_on : (side from : Side) (e : End) (o : Occasion) (out : Out) (rest : List Out)
    (s : RecordedLink) (before after : Line) (copy : Option (Vec ℕ Global)) (t : Story)
    (octets : List ℕ) (f : Fields)
    → from ≡ s.link.side → made_frame (setup_of s.link) (drop e.first e.given) octets out ≡ Some f
    → ((line : List Flight) (sent : Flight) → IsOn from before line → fields_of sent ≡ f
    → IsOn from after (with_sent (Some sent) line))
    → octets ≡ o.octets → IsBetweenOutputs side e o (out ∷ rest) s before copy t
    → IsOn side after (with_sent (flight_of o t.history.passed out) t.line)
sent_on side from e o out rest s before after copy t octets f own is shows same h =
    let frame =
    sent_is_recorded side e o t.history.passed out rest (setup_of s.link) h.setup h.order
    h.given h.short h.fits in
    let sends : from ≡ side = own ∙ ap (λ (setup : Setup). setup.side) h.setup in
    let Shows : Side → Type 0 =
    λ x. (line : List Flight) (sent : Flight) → IsOn x before line → fields_of sent ≡ f →
    IsOn x after (with_sent (Some sent) line) in
    after_frame side before after t.line (flight_of o t.history.passed out) f
    (sym frame ∙ ap (λ x. made_frame (setup_of s.link) (drop e.first e.given) x out) (sym same)
    ∙ is) (λ sent are. subst Shows sends shows t.line sent h.line are)

pub sent_nothing : (side : Side) (e : End) (o : Occasion) (out : Out) (rest : List Out)
    (s : RecordedLink) (before : Line) (copy : Option (Vec ℕ Global)) (t : Story) (octets : List ℕ)
    → made_frame (setup_of s.link) (drop e.first e.given) octets out ≡ None
    → octets ≡ o.octets → IsBetweenOutputs side e o (out ∷ rest) s before copy t
    → IsOn side before (with_sent (flight_of o t.history.passed out) t.line)
sent_nothing side e o out rest s before copy t octets is same h =
    let frame =
    sent_is_recorded side e o t.history.passed out rest (setup_of s.link) h.setup h.order
    h.given h.short h.fits in
    after_no_frame side before t.line (flight_of o t.history.passed out)
    (sym frame ∙ ap (λ x. made_frame (setup_of s.link) (drop e.first e.given) x out) (sym same)
    ∙ is) h.line

-- the messages that an output acknowledges or drops were submitted
leaving_within : (e : End) (passed : ℕ) (out : Out) (rest : List Out) → e.first ≤ length e.given
    → AreInOrder e passed (out ∷ rest) → passed + leaving (out ∷ []) ≤ length e.given
leaving_within e passed (Acknowledged n) rest within order = omega (arith, order.first, within)
leaving_within e passed (Dropped n) rest within order = omega (arith, order.first, within)
leaving_within e passed out rest within order = omega (arith, order.first, within)

copied_octets : (octets : List ℕ) (n : ℕ) (copy : Option (Vec ℕ Global)) (held : Vec ℕ Global)
    → copy ≡ Some held → IsCopy octets n copy → held.items ≡ octets
copied_octets octets n copy held is h =
    let there : IsCopy octets n (Some held) = rw is at h in there.1

-- the history after each output that changes it
pub written_message : (side : Side) (e : End) (o : Occasion) (out : Out) (rest : List Out)
    (s : RecordedLink) (line : Line) (copy : Option (Vec ℕ Global)) (t : Story) (after : Log)
    (n : ℕ) (control : Control)
    → out ≡ SendMessage n control
    → ((messages : List (List ℕ)) (h : world.History) (establishment : ℕ)
    → length h.begun ≡ establishment → AreSettled h → IsHistory s.history messages h
    → IsHistory after messages (with_sending (h.passed + n) establishment h))
    → IsBetweenOutputs side e o (out ∷ rest) s line copy t
    → IsHistory after e.given (history_after o out t.history)
written_message side e o out rest s line copy t after n control is does h =
    rw is (does e.given t.history o.establishment h.begun h.settled h.history)

pub written_acknowledged : (side : Side) (e : End) (o : Occasion) (out : Out) (rest : List Out)
    (s : RecordedLink) (line : Line) (copy : Option (Vec ℕ Global)) (t : Story) (after : Log)
    (n : ℕ)
    → out ≡ Acknowledged n
    → ((messages : List (List ℕ)) (h : world.History) → AreSettled h → h.passed + n
    ≤ length messages → IsHistory s.history messages h
    → IsHistory after messages (with_acked n h))
    → IsBetweenOutputs side e o (out ∷ rest) s line copy t
    → IsHistory after e.given (history_after o out t.history)
written_acknowledged side e o out rest s line copy t after n is does h =
    let there = leaving_within e t.history.passed out rest h.within h.order in
    let after_outputs : t.history.passed + leaving (Acknowledged n ∷ []) ≤ length e.given =
    rw is at there in
    let few : t.history.passed + n ≤ length e.given = omega (arith, after_outputs) in
    rw is (does e.given t.history h.settled few h.history)

pub written_dropped : (side : Side) (e : End) (o : Occasion) (out : Out) (rest : List Out)
    (s : RecordedLink) (line : Line) (copy : Option (Vec ℕ Global)) (t : Story) (after : Log)
    (n : ℕ)
    → out ≡ Dropped n
    → ((messages : List (List ℕ)) (h : world.History) → AreSettled h → h.passed + n
    ≤ length messages → IsHistory s.history messages h
    → IsHistory after messages (with_dropped n h))
    → IsBetweenOutputs side e o (out ∷ rest) s line copy t
    → IsHistory after e.given (history_after o out t.history)
written_dropped side e o out rest s line copy t after n is does h =
    let there = leaving_within e t.history.passed out rest h.within h.order in
    let after_outputs : t.history.passed + leaving (Dropped n ∷ []) ≤ length e.given =
    rw is at there in
    let few : t.history.passed + n ≤ length e.given = omega (arith, after_outputs) in
    rw is (does e.given t.history h.settled few h.history)

pub written_receipt : (side : Side) (e : End) (o : Occasion) (out : Out) (rest : List Out)
    (s : RecordedLink) (line : Line) (copy : Option (Vec ℕ Global)) (t : Story) (after : Log)
    (octets : Vec ℕ Global)
    → out ≡ Up → copy ≡ Some octets
    → ((messages : List (List ℕ)) (h : world.History) (establishment place : ℕ)
    → length h.begun ≡ establishment → IsHistory s.history messages h
    → IsHistory after messages (with_receipt
    (record { octets = octets.items; establishment = establishment; place = place }) h))
    → IsBetweenOutputs side e o (out ∷ rest) s line copy t
    → IsHistory after e.given (history_after o out t.history)
written_receipt side e o out rest s line copy t after octets is held does h =
    let same : octets.items ≡ o.octets = copied_octets o.octets _ copy octets held h.copied in
    rw (is, ← same) (does e.given t.history o.establishment o.place h.begun h.history)

-- ---- All outputs are executed.

-- the state while `rest` is pending represents the result of the other outputs, from the state
-- before the first
pub record AreRecordedUpTo (all : List Out) (octets : List ℕ) (before : RecordedLink)
    (line_before : Line) (copy_before : Option (Vec ℕ Global)) (rest : List Out)
    (now : RecordedLink) (line_now : Line) (copy_now : Option (Vec ℕ Global)) : Type 0 where
  pub shows : (side : Side) (e : End) (o : Occasion) (t : Story) → octets ≡ o.octets
      → IsBetweenOutputs side e o all before line_before copy_before t
      → (u : Story) × IsBetweenOutputs side e o rest now line_now copy_now u
      × (after_outputs o rest u ≡ after_outputs o all t)
  pub link : now.link ≡ before.link
  pub line_room : HasRoomFor (length rest) line_now
  pub history_room : IfSome copy_now (λ _. HasHistoryRoom data_room now.history)

-- one more output is executed
then_recorded : (side : Side) (e : End) (o : Occasion) (out : Out) (rest : List Out)
    (s after : RecordedLink) (line line_after : Line) (copy copy_after : Option (Vec ℕ Global))
    (t : Story)
    → after.link ≡ s.link
    → IsOn side line_after (with_sent (flight_of o t.history.passed out) t.line)
    → IsHistory after.history e.given (history_after o out t.history)
    → IsCopy o.octets (ups rest + unit_ups rest) copy_after
    → IsBetweenOutputs side e o (out ∷ rest) s line copy t
    → IsBetweenOutputs side e o rest after line_after copy_after (after_output o out t)
then_recorded side e o out rest s after line line_after copy copy_after t same on written copied h =
    record {
      link = rw same h.link;
      setup = ap setup_of same ∙ h.setup;
      history = rw (after_output_apart o out t) written;
      line = rw (after_output_apart o out t) on;
      order = in_order_then e o out rest t h.order;
      within = h.within;
      settled = settled_then o out t h.settled;
      begun = ap (λ (begun : List ℕ). length begun) (begun_then o out t) ∙ h.begun;
      given = h.given;
      short = h.short;
      fits = h.fits;
      copied = copied;
    }

pub one_recorded : (all : List Out) (octets : List ℕ) (before : RecordedLink) (line_before : Line)
    (copy_before : Option (Vec ℕ Global)) (out : Out) (rest : List Out) (s after : RecordedLink)
    (line line_after : Line) (copy copy_after : Option (Vec ℕ Global))
    → ((side : Side) (e : End) (o : Occasion) (rest : List Out) (copy : Option (Vec ℕ Global))
    (t : Story) → octets ≡ o.octets → IsBetweenOutputs side e
    o (out ∷ rest) s line copy t
    → IsOn side line_after (with_sent (flight_of o t.history.passed out) t.line))
    → ((side : Side) (e : End) (o : Occasion) (rest : List Out) (line : Line) (t : Story)
    → IsBetweenOutputs side e
    o (out ∷ rest) s line copy t
    → IsHistory after.history e.given (history_after o out t.history))
    → ((octets : List ℕ) (rest : List Out)
    → IsCopy octets (ups (out ∷ rest) + unit_ups (out ∷ rest)) copy
    → IsCopy octets (ups rest + unit_ups rest) copy_after)
    → after.link ≡ s.link → HasRoomFor (length rest) line_after
    → IfSome copy_after (λ _. HasHistoryRoom data_room after.history)
    → AreRecordedUpTo all octets before line_before copy_before (out ∷ rest) s line copy
    → AreRecordedUpTo all octets before line_before copy_before rest after line_after copy_after
one_recorded all octets before line_before copy_before out rest s after line line_after copy
    copy_after sends writes copies same line_room history_room far = record {
      shows = λ side e o t is h.
          let there = far.shows side e o t is h in
          let now = there.1 in (
            after_output o out there.0,
            then_recorded side e
                o out rest s after line line_after copy copy_after there.0 same
                (sends side e o rest copy there.0 is now) (writes side e o rest line there.0 now)
                (copies o.octets rest now.copied) now,
            there.2,
          );
      link = same ∙ far.link;
      line_room = line_room;
      history_room = history_room;
    }
