-- The output of `decode` for a capture.
use Rattle.std.specs.Prelude.{◌≡◌, ◌⊎◌, ℕ, ◌-◌, ◌||◌, nat_lt, if◌then◌else◌, zero, suc, List, [], ◌++◌, take, drop, Option, Some, None, Bool, true, false, Result, Ok, Err, ⊤}
use Rattle.std.specs.Io.KnownBytes.{Appends}
use Rattle.lapd_frame.specs.declared.Side.{Side}
use Rattle.lapd_frame.specs.declared.Side.TheVariants.{Network, User}
use Rattle.lapd_capture.specs.declared.CaptureItem.{CaptureItem}
use Rattle.lapd_capture.specs.declared.CaptureItem.TheVariants.{Frame, Other, NotGsmtap, Unreadable, End}
use Rattle.lapd_capture.specs.declared.PacketFault.{PacketFault}
use Rattle.lapd_capture.specs.declared.Span.{Span}
use Rattle.lapd_capture.specs.Reader.{reading_of, unread}
use Rattle.lapd_capture.specs.Reading.{Reading, next_step}
use Rattle.lapd_capture.specs.declared.CaptureReader.{CaptureReader}
use Rattle.lapd_cli_decode.specs.declared.capture_lines.CaptureStop.{CaptureStop}
use Rattle.lapd_cli_decode.specs.declared.capture_lines.CaptureStop.TheVariants.{Capture, Packet, Input, Device, Memory}
use Rattle.lapd_cli_decode.specs.declared.capture_lines.CaptureStyle.{CaptureStyle}
use Rattle.lapd_cli_decode.specs.declared.capture_lines.Seen.{Seen}
use Rattle.lapd_cli_frames.specs.declared.frame_printer.Follow.{Follow}
use Rattle.lapd_cli_frames.specs.declared.frame_printer.Origin.TheVariants.{Capture as FromCapture}
use Rattle.lapd_cli_render.specs.declared.Packet.{Packet as JsonPacket}
use Rattle.lapd_cli_frames.specs.Frames.{Printing, after_frame, after_missing, closing_text, frame_text, in_zone, is_complete, is_violated_by, missing_text, new_printing}
use Rattle.lapd_cli_frames.specs.Senders.{named_or_by_kind}
use Rattle.lapd_zone.specs.Zone.{ZoneTable}

-- ---- A frame that was found; `behind` is the capture after it.

-- the packet read last, which holds it
abbrev pub last_packet : Reading → Span → JsonPacket
last_packet behind span = record {
  number = behind.packets;
  moment = behind.moment;
  is_cut = span.is_cut;
}

-- the sender that the capture names. A GSMTAP packet without the uplink bit names the network only
-- if the user side's frames have this bit, of which one was seen.
abbrev pub sender_in : Bool → Span → Option Side
sender_in has_user span = if span.is_sure || has_user then span.from else None

-- or else the chosen one
abbrev pub named_sender : Option Side → Option Side → Option Side
named_sender None chosen = chosen
named_sender (Some from) chosen = Some from

-- whether a frame so far is certainly the user side's
abbrev pub is_user : Option Side → Bool
is_user None = false
is_user (Some User) = true
is_user (Some Network) = false

abbrev pub with_sender : Span → Printing → Printing
with_sender span s = record s { has_user = s.has_user || is_user span.from }

-- who sent it: the named side, or the one that its kind and C/R bit say
abbrev pub sender_of : CaptureStyle → Bool → Span → List ℕ → Option Side
sender_of how has_user span octets =
    named_or_by_kind (named_sender (sender_in has_user span) how.sender) octets

abbrev pub octets_of : Reading → Span → List ℕ
octets_of behind span = take (span.end - span.start) (drop span.start behind.body)

-- ---- Each item.

-- the text printed for a frame that was found
abbrev pub found_text : CaptureStyle → Reading → Span → Printing → List ℕ
found_text how behind span s = frame_text (last_packet behind span)
    (sender_of how (with_sender span s).has_user span (octets_of behind span))
    (octets_of behind span) (with_sender span s)

-- the text printed for an item: before a frame, how many are missing there
abbrev pub item_text : CaptureStyle → Reading → CaptureItem → Printing → List ℕ
item_text how behind (Frame span) s = missing_text behind.missing s
    ++ found_text how behind span (after_missing behind.missing s)
item_text how behind (Unreadable fault) s = []
item_text how behind Other s = []
item_text how behind NotGsmtap s = []
item_text how behind End s = []

-- what is known of the frames after one that was found
abbrev pub after_found : CaptureStyle → Reading → Span → Printing → Printing
after_found how behind span s = after_frame (last_packet behind span)
    (sender_of how (with_sender span s).has_user span (octets_of behind span))
    (octets_of behind span) (with_sender span s)

-- what is known of the frames after an item
abbrev pub after_item : CaptureStyle → Reading → CaptureItem → Printing → Printing
after_item how behind (Frame span) s =
    after_found how behind span (after_missing behind.missing s)
after_item how behind (Unreadable fault) s = s
after_item how behind Other s = s
after_item how behind NotGsmtap s = s
after_item how behind End s = s

-- the fault of an unreadable packet, at which reading stops unless such packets are skipped
abbrev pub packet_fault : Bool → CaptureItem → Option PacketFault
packet_fault keeps_going (Frame span) = None
packet_fault true (Unreadable fault) = None
packet_fault false (Unreadable fault) = Some fault
packet_fault keeps_going Other = None
packet_fault keeps_going NotGsmtap = None
packet_fault keeps_going End = None

-- ---- Places.

-- a place in a capture, and what is known of the frames before it
pub record Place : Type 0 where
  pub reading : Reading
  pub printing : Printing

-- the beginning of a capture
abbrev pub begins_at : CaptureStyle → Option Follow → Reading → Place
begins_at how follow reading = record {
  reading = reading;
  printing = new_printing FromCapture how.frames follow;
}

-- the same with dates in this zone
abbrev pub begins_in : ZoneTable → CaptureStyle → Option Follow → Reading → Place
begins_in zone how follow reading = record {
  reading = reading;
  printing = in_zone zone (new_printing FromCapture how.frames follow);
}

-- this many steps lead from one place to another, and this text is printed for them
abbrev pub Prints : CaptureStyle → ℕ → Place → List ℕ → Place → Type 0
Prints how zero old text new = (text ≡ []) × (new ≡ old)
Prints how (suc n) old text new = (mid : Place) × (item : CaptureItem)
    × (before : List ℕ) × Prints how n old before mid
    × (is_complete mid.printing ≡ false)
    × (next_step mid.reading ≡ Ok (record { item = item; reading = new.reading }))
    × (packet_fault how.keeps_going item ≡ None)
    × (new.printing ≡ after_item how new.reading item mid.printing)
    × (text ≡ before ++ item_text how new.reading item mid.printing)

-- this is the text printed up to a place
abbrev pub PrintsTo : CaptureStyle → Place → Option (List ℕ) → Option (List ℕ) → Place → Type 0
PrintsTo how start old new place = (n : ℕ) × (text : List ℕ)
    × Prints how n start text place × Appends old new text

-- all requested frames are printed, or the capture is at its end
abbrev pub IsFinished : Place → Type 0
IsFinished place = (is_complete place.printing ≡ true) ⊎ ((behind : Reading)
    × (next_step place.reading ≡ Ok (record { item = End; reading = behind })))

-- how reading a capture from a place ends, up to the tables
abbrev pub ItemsEnd : CaptureStyle → Place → Result ⊤ CaptureStop → Printing
    → Option (List ℕ) → Option (List ℕ) → Type 0
ItemsEnd how start (Ok done) s old new = (place : Place)
    × PrintsTo how start old new place × (s ≡ place.printing) × IsFinished place
ItemsEnd how start (Err (Capture fault at)) s old new = (place : Place)
    × PrintsTo how start old new place × (is_complete place.printing ≡ false)
    × (next_step place.reading ≡ Err fault) × (at ≡ place.reading.place)
ItemsEnd how start (Err (Packet fault at)) s old new = (place : Place)
    × (behind : Reading) × PrintsTo how start old new place
    × (is_complete place.printing ≡ false)
    × (next_step place.reading ≡ Ok (record { item = Unreadable fault; reading = behind }))
    × (at ≡ place.reading.place)
ItemsEnd how start (Err (Input kind)) s old new = ⊤
ItemsEnd how start (Err Device) s old new = ⊤
ItemsEnd how start (Err Memory) s old new = ⊤

-- how printing the tables of the links ends
abbrev pub CaptureCloses : Printing → Result Seen CaptureStop → Option (List ℕ)
    → Option (List ℕ) → Type 0
CaptureCloses s (Ok seen) old new = Appends old new (closing_text s)
    × (seen.any ≡ nat_lt 0 s.frames) × (seen.is_violated ≡ is_violated_by s.listening)
CaptureCloses s (Err (Capture fault at)) old new = ⊥
CaptureCloses s (Err (Packet fault at)) old new = ⊥
CaptureCloses s (Err (Input kind)) old new = ⊤
CaptureCloses s (Err Device) old new = ⊤
CaptureCloses s (Err Memory) old new = ⊤

-- how reading a capture from a place ends, and the writer's contents then: all requested frames are
-- printed, and the tables of the links if these are followed; or those before the fault
abbrev pub CaptureEnds : CaptureStyle → Place → Result Seen CaptureStop → Option (List ℕ)
    → Option (List ℕ) → Type 0
CaptureEnds how start (Ok seen) old new = (place : Place) × (n : ℕ) × (text : List ℕ)
    × Prints how n start text place
    × Appends old new (text ++ closing_text place.printing)
    × (seen.any ≡ nat_lt 0 place.printing.frames)
    × (seen.is_violated ≡ is_violated_by place.printing.listening) × IsFinished place
CaptureEnds how start (Err (Capture fault at)) old new = (place : Place)
    × PrintsTo how start old new place × (is_complete place.printing ≡ false)
    × (next_step place.reading ≡ Err fault) × (at ≡ place.reading.place)
CaptureEnds how start (Err (Packet fault at)) old new = (place : Place)
    × (behind : Reading) × PrintsTo how start old new place
    × (is_complete place.printing ≡ false)
    × (next_step place.reading ≡ Ok (record { item = Unreadable fault; reading = behind }))
    × (at ≡ place.reading.place)
CaptureEnds how start (Err (Input kind)) old new = ⊤
CaptureEnds how start (Err Device) old new = ⊤
CaptureEnds how start (Err Memory) old new = ⊤

-- success, or a failure of the writer or of an allocation
abbrev pub IsOtherStop : Result ⊤ CaptureStop → Type 0
IsOtherStop (Ok done) = ⊤
IsOtherStop (Err (Capture fault at)) = ⊥
IsOtherStop (Err (Packet fault at)) = ⊥
IsOtherStop (Err (Input kind)) = ⊤
IsOtherStop (Err Device) = ⊤
IsOtherStop (Err Memory) = ⊤

-- one step: it prints what it finds, or reaches the end, or stops
abbrev pub TakesStep : CaptureStyle → Result Bool CaptureStop → Place → Place
    → Option (List ℕ) → Option (List ℕ) → Type 0
TakesStep how (Ok false) old new a b = (item : CaptureItem)
    × (next_step old.reading ≡ Ok (record { item = item; reading = new.reading }))
    × (packet_fault how.keeps_going item ≡ None)
    × (new.printing ≡ after_item how new.reading item old.printing)
    × Appends a b (item_text how new.reading item old.printing)
TakesStep how (Ok true) old new a b =
    (next_step old.reading ≡ Ok (record { item = End; reading = new.reading }))
    × (new.printing ≡ old.printing) × Appends a b []
TakesStep how (Err (Capture fault at)) old new a b = (next_step old.reading ≡ Err fault)
    × (at ≡ old.reading.place) × Appends a b []
TakesStep how (Err (Packet fault at)) old new a b =
    (next_step old.reading ≡ Ok (record { item = Unreadable fault; reading = new.reading }))
    × (at ≡ old.reading.place) × Appends a b []
TakesStep how (Err (Input kind)) old new a b = ⊤
TakesStep how (Err Device) old new a b = ⊤
TakesStep how (Err Memory) old new a b = ⊤

-- a reader at a place
abbrev pub place_of : {R : Type 0} → CaptureReader R → List ℕ → Printing → Place
place_of reader left s = record { reading = reading_of reader left; printing = s }

-- the same step of a reader of which these octets are left
abbrev pub StepsFrom : {R : Type 0} → (R → Option (List ℕ)) → CaptureStyle
    → Result Bool CaptureStop → Place → CaptureReader R → Printing → Option (List ℕ)
    → Option (List ℕ) → Type 0
StepsFrom remaining how (Ok ended) old reader s a b = (left : List ℕ)
    × (unread remaining reader ≡ Some left)
    × TakesStep how (Ok ended) old (place_of reader left s) a b
StepsFrom remaining how (Err (Capture fault at)) old reader s a b = (new : Place)
    × TakesStep how (Err (Capture fault at)) old new a b
StepsFrom remaining how (Err (Packet fault at)) old reader s a b = (new : Place)
    × TakesStep how (Err (Packet fault at)) old new a b
StepsFrom remaining how (Err (Input kind)) old reader s a b = ⊤
StepsFrom remaining how (Err Device) old reader s a b = ⊤
StepsFrom remaining how (Err Memory) old reader s a b = ⊤
