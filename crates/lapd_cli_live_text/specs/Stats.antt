-- Statistics of a side: how each frame and each primitive changes the counts, and the lines that
-- print them.
use Rattle.std.specs.Prelude.{ℕ, ◌==◌, ◌+◌, ◌-◌, ◌%◌, ◌^◌, min, if◌then◌else◌, List, [], ◌∷◌, ◌++◌, length, replicate, slice_index, slice_set, sum, flat_map, codes, Result, Ok, Err}
use Rattle.lapd_frame.specs.declared.Side.{Side}
use Rattle.lapd_frame.specs.declared.Sapi.{Sapi}
use Rattle.lapd_frame.specs.declared.Sapi.TheVariants.{Call, Packet, Management}
use Rattle.lapd_frame.specs.declared.Address.{Address}
use Rattle.lapd_frame.specs.declared.Control.{Control}
use Rattle.lapd_frame.specs.declared.Control.TheVariants as control
use Rattle.lapd_frame.specs.declared.FrameFault.{FrameFault}
use Rattle.lapd_frame.specs.Frame.{Fields}
use Rattle.lapd_frame.specs.Reading.{frame_at}
use Rattle.lapd_link_definition.specs.declared.out.Letter.{Letter}
use Rattle.lapd_link_definition.specs.declared.out.Letter.TheVariants as letter
use Rattle.lapd_link.specs.Out.{letter_code}
use Rattle.lapd_sides_links.specs.declared.primitive.Primitive.{Primitive}
use Rattle.lapd_sides_links.specs.declared.primitive.Primitive.TheVariants.{Of}
use Rattle.lapd_sides_links.specs.declared.primitive.What.TheVariants as what
use Rattle.lapd_cli_live_text.specs.declared.frame_kind.FrameKind.{FrameKind}
use Rattle.lapd_cli_live_text.specs.declared.stats.Stats.{Stats}
use Rattle.lapd_cli_live_text.specs.declared.traffic.Traffic.{Traffic}
use Rattle.lapd_cli_live_text.specs.FrameKinds.{kind_name, kind_of, kind_place, kinds}
use Rattle.lapd_cli_live_text.specs.LinkText.{number_text}

-- ---- Counts.

-- a count that reaches 2^64 - 1 stays there
abbrev pub up_to_most : ℕ → ℕ
up_to_most n = min n (2 ^ 64 - 1)

-- the count with this index is one greater
abbrev pub one_more_at : ℕ → List ℕ → List ℕ
one_more_at place counts = slice_set counts place (up_to_most (slice_index counts place + 1))

-- ---- Frames and octets that were sent, or that were received.

unfoldable pub no_traffic : Traffic
no_traffic = record { frames = replicate 12 0; octets = 0 }

-- a frame of this kind, which has so many octets
abbrev pub counted : FrameKind → ℕ → Traffic → Traffic
counted kind octets traffic = record {
  frames = one_more_at (kind_place kind) traffic.frames;
  octets = up_to_most (traffic.octets + octets);
}

-- ---- The N(S) of the next new I frame of each link.

abbrev pub sapi_place : Sapi → ℕ
sapi_place Call = 0
sapi_place Packet = 128
sapi_place Management = 256

-- the index of the link with this address: 128 TEIs of each SAPI
abbrev pub link_place : Address → ℕ
link_place address = sapi_place address.sapi + address.tei

-- a link is being established by this side's SABME, or is by its UA: its numbers restart at 0
-- (Q.921 5.5.1.2). A UA that this side receives changes nothing: it may arrive a second time.
abbrev pub restarted : ℕ → Stats → Stats
restarted place stats = record stats { next = slice_set stats.next place 0 }

-- An I frame with this N(S) is sent. If the N(S) is the next new one of its link, the next one is
-- one greater, modulo 128 (Q.921 3.5.2.1). Any other I frame is sent again.
abbrev pub numbered : ℕ → ℕ → Stats → Stats
numbered place ns stats = if slice_index stats.next place == ns
    then record stats { next = slice_set stats.next place ((ns + 1) % 128) }
    else record stats { again = up_to_most (stats.again + 1) }

-- ---- Frames and primitives.

-- how a frame that this side sends changes the numbers of its link
abbrev pub after_sent_control : Control → ℕ → Stats → Stats
after_sent_control (control.I ns nr p) place stats = numbered place ns stats
after_sent_control (control.Sabme p) place stats = restarted place stats
after_sent_control (control.Ua f) place stats = restarted place stats
after_sent_control other place stats = stats

abbrev pub after_sent : Result Fields FrameFault → Stats → Stats
after_sent (Ok frame) stats = after_sent_control frame.control (link_place frame.address) stats
after_sent (Err fault) stats = stats

-- this side, `from`, sends these octets
unfoldable pub sent_counted : Stats → Side → List ℕ → Stats
sent_counted stats from octets = after_sent (frame_at from octets) (record stats {
  sent = counted (kind_of (frame_at from octets)) (length octets) stats.sent;
})

-- this side receives these octets from the other side, `from`
unfoldable pub received_counted : Stats → Side → List ℕ → Stats
received_counted stats from octets = record stats {
  received = counted (kind_of (frame_at from octets)) (length octets) stats.received;
}

-- the index of the count of reports with this letter
abbrev pub letter_place : Letter → ℕ
letter_place letter = letter_code letter - 65

-- a report is counted by its letter (Q.921 Appendix II); no other primitive is counted
unfoldable pub primitive_counted : Stats → Primitive → Stats
primitive_counted stats (Of id (what.Report letter)) =
    record stats { reports = one_more_at (letter_place letter) stats.reports }
primitive_counted stats primitive = stats

-- all counts and numbers are 0
unfoldable pub nothing_counted : Stats
nothing_counted = record {
  sent = no_traffic;
  received = no_traffic;
  again = 0;
  reports = replicate 15 0;
  next = replicate 384 0;
}

-- ---- The lines.

-- a count with its name, or nothing for a count of 0
abbrev pub count_text : List ℕ → ℕ → List ℕ
count_text name count = if count == 0 then [] else number_text name count

abbrev pub kind_text : List ℕ → FrameKind → List ℕ
kind_text counts kind = count_text (kind_name kind) (slice_index counts (kind_place kind))

-- each kind with a count above 0
unfoldable pub kinds_text : List ℕ → List ℕ
kinds_text counts = flat_map (kind_text counts) kinds

-- the numbers of frames and octets, and of frames of each kind
abbrev pub traffic_text : Traffic → List ℕ
traffic_text traffic = number_text (codes "frames") (up_to_most (sum traffic.frames))
    ++ (number_text (codes "octets") traffic.octets ++ kinds_text traffic.frames)

abbrev pub letters : List Letter
letters = letter.A ∷ letter.B ∷ letter.C ∷ letter.D ∷ letter.E ∷ letter.F ∷ letter.G ∷ letter.H
    ∷ letter.I ∷ letter.J ∷ letter.K ∷ letter.L ∷ letter.M ∷ letter.N ∷ letter.O ∷ []

abbrev pub letter_text : List ℕ → Letter → List ℕ
letter_text counts letter =
    count_text (letter_code letter ∷ []) (slice_index counts (letter_place letter))

-- each letter with a count above 0
unfoldable pub letters_text : List ℕ → List ℕ
letters_text counts = flat_map (letter_text counts) letters

unfoldable pub sent_words : Stats → List ℕ
sent_words stats = codes "sent"
    ++ (traffic_text stats.sent ++ number_text (codes "again") stats.again)

-- `discarded` of the frames were discarded
unfoldable pub received_words : Stats → ℕ → List ℕ
received_words stats discarded = codes "received"
    ++ (traffic_text stats.received ++ number_text (codes "discarded") discarded)

unfoldable pub reports_words : Stats → List ℕ
reports_words stats = codes "reports" ++ letters_text stats.reports
