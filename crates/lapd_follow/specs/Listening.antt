-- A listener on the line: it follows both ends of each link, and counts the frames that they sent.
use Rattle.std.specs.Prelude.{ℕ, ◌||◌, if◌then◌else◌, Bool, true, false, List, set, replicate, slice_get, Option, Some, None, Result, Ok, Err}
use Rattle.lapd_frame.specs.declared.Side.{Side}
use Rattle.lapd_frame.specs.declared.Side.TheVariants.{Network, User}
use Rattle.lapd_frame.specs.declared.Address.{Address}
use Rattle.lapd_frame.specs.declared.FrameFault.{FrameFault}
use Rattle.lapd_frame.specs.Frame.{Fields}
use Rattle.lapd_frame.specs.Reading.{frame_at}
use Rattle.lapd_follow.specs.declared.packet.Packet.{Packet}
use Rattle.lapd_follow.specs.declared.remark.Remark.{Remark}
use Rattle.lapd_follow.specs.declared.remark.Remark.TheVariants.{Begins, NumbersKnown, OtherSidesBit}
use Rattle.lapd_follow.specs.declared.remarks.Remarks.{Remarks}
use Rattle.lapd_follow.specs.declared.link_tally.LinkTally.{LinkTally}
use Rattle.lapd_follow.specs.Ends.{one_more}
use Rattle.lapd_follow.specs.Follower.{LineKnown, is_followed_on, line_after, line_anew, new_line, place_of, said_on_line}
use Rattle.lapd_follow.specs.Link.{Sighting, sighting}
use Rattle.lapd_follow.specs.Remarks.{has_violation}
use Rattle.lapd_follow.specs.Senders.{is_of_other_side}
use Rattle.lapd_follow.specs.Tallies.{no_tally, tallied}

-- ---- The frames of one link.

-- no frame was seen of the link with this address
abbrev pub new_tally : Address → LinkTally
new_tally a = record {
  sapi = a.sapi;
  tei = a.tei;
  establishments = 0;
  followed = None;
  user = no_tally;
  network = no_tally;
}

-- how many establishments began, after a frame with this remark on establishment
abbrev pub establishments_after : Option Remark → ℕ → ℕ
establishments_after (Some (Begins number)) before = one_more before
establishments_after remark before = before

-- the packet from which a link was followed whose establishment was not seen
abbrev pub followed_after : Packet → Option Remark → Option ℕ → Option ℕ
followed_after packet (Some NumbersKnown) None = Some packet.number
followed_after packet remark before = before

-- one more frame of this sender, with the remarks on it; its link is followed or not
abbrev pub link_tallied : Side → Packet → Fields → Remarks → Bool → LinkTally → LinkTally
link_tallied User packet f said is_followed t = record t {
  establishments = establishments_after said.establishment t.establishments;
  followed = followed_after packet said.establishment t.followed;
  user = tallied packet f said is_followed t.user;
}
link_tallied Network packet f said is_followed t = record t {
  establishments = establishments_after said.establishment t.establishments;
  followed = followed_after packet said.establishment t.followed;
  network = tallied packet f said is_followed t.network;
}

-- ---- All links, each at its place.

-- a link of which no frame was seen is new
abbrev pub tally_or_new : Address → Option (Option LinkTally) → LinkTally
tally_or_new a (Some (Some t)) = t
tally_or_new a (Some None) = new_tally a
tally_or_new a None = new_tally a

-- one more frame; no other link changes
abbrev pub tallied_on_line : Sighting → Remarks → Bool → List (Option LinkTally)
    → List (Option LinkTally)
tallied_on_line s said is_followed all = set all (place_of s.frame.address)
    (Some (link_tallied s.sender s.packet s.frame said is_followed
    (tally_or_new s.frame.address (slice_get all (place_of s.frame.address)))))

-- the line, the frames of each link, and whether a remark was a violation
pub record Listening : Type 0 where
  pub line : LineKnown
  pub tallies : List (Option LinkTally)
  pub is_violated : Bool

-- nothing was seen
abbrev pub new_listening : Option ℕ → Listening
new_listening k = record {
  line = new_line k;
  tallies = replicate 384 None;
  is_violated = false;
}

-- one more frame
abbrev pub with_frame : Sighting → Listening → Listening
with_frame s l = record {
  line = line_after s l.line;
  tallies = tallied_on_line s (said_on_line s l.line)
      (is_followed_on s.frame.address l.line) l.tallies;
  is_violated = l.is_violated || has_violation (said_on_line s l.line);
}

-- Frames that were not seen. The line is followed anew; the frames and violations so far stay
-- counted.
abbrev pub listening_anew : Listening → Listening
listening_anew l = record l { line = line_anew l.line }

-- ---- Octets. If they do not form a valid frame of their sender, they are not followed.

abbrev pub no_remarks : Remarks
no_remarks = record {
  establishment = None;
  ns = None;
  window = None;
  busy = None;
  nr = None;
  bit = None;
  answer = None;
  identity = None;
  conflict = None;
}

-- octets with the C/R bit of the other side (Q.921 3.3.2)
abbrev pub other_sides_remarks : Remarks
other_sides_remarks = record no_remarks { bit = Some OtherSidesBit }

abbrev pub said_of_fault : Side → List ℕ → Remarks
said_of_fault sender octets = if is_of_other_side sender octets
    then other_sides_remarks else no_remarks

abbrev pub after_fault : Side → List ℕ → Listening → Listening
after_fault sender octets l = if is_of_other_side sender octets
    then record l { is_violated = true } else l

abbrev pub said_of_reading : Packet → Side → List ℕ → Result Fields FrameFault → Listening
    → Remarks
said_of_reading packet sender octets (Ok f) l =
    said_on_line (sighting packet sender f) l.line
said_of_reading packet sender octets (Err fault) l = said_of_fault sender octets

abbrev pub after_reading : Packet → Side → List ℕ → Result Fields FrameFault → Listening
    → Listening
after_reading packet sender octets (Ok f) l =
    with_frame (sighting packet sender f) l
after_reading packet sender octets (Err fault) l = after_fault sender octets l

-- the remarks on the octets that a side sent next
abbrev pub said_of_octets : Packet → Side → List ℕ → Listening → Remarks
said_of_octets packet sender octets l =
    said_of_reading packet sender octets (frame_at sender octets) l

-- the listener after them
abbrev pub listening_after : Packet → Side → List ℕ → Listening → Listening
listening_after packet sender octets l =
    after_reading packet sender octets (frame_at sender octets) l
