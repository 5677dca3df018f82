-- The counters of links: what each frame, sent or received, and each report adds to those of its
-- link.
use Rattle.std.specs.Prelude.{ℕ, ◌+◌, ◌-◌, ◌==◌, ◌%◌, ◌^◌, min, if◌then◌else◌, Bool, true, List, replicate, slice_index_or, set, fold, Option, Some, None, Result, Ok, Err}
use Rattle.lapd_frame.specs.declared.Control.{Control}
use Rattle.lapd_frame.specs.declared.Control.TheVariants as control
use Rattle.lapd_frame.specs.declared.FrameFault.{FrameFault}
use Rattle.lapd_frame.specs.declared.Sapi.{Sapi}
use Rattle.lapd_frame.specs.declared.Sapi.TheVariants.{Call, Packet, Management}
use Rattle.lapd_frame.specs.declared.Side.{Side}
use Rattle.lapd_frame.specs.Address.{other_side}
use Rattle.lapd_frame.specs.Frame.{Fields}
use Rattle.lapd_frame.specs.Reading.{frame_at}
use Rattle.lapd_table.specs.declared.link_id.LinkId.{LinkId}
use Rattle.lapd_sides_links.specs.declared.primitive.Primitive.{Primitive}
use Rattle.lapd_sides_links.specs.declared.primitive.Primitive.TheVariants.{Of}
use Rattle.lapd_sides_links.specs.declared.primitive.What.TheVariants as what
use Rattle.lapd_sides_links.specs.Effects.{Effects}
use Rattle.lapd_c.specs.declared.link_counters.FlatCounters.{FlatCounters}
use Rattle.lapd_c.specs.declared.link_counters.LinkCounters.{LinkCounters}
use Rattle.lapd_c.specs.declared.link_counters.LinkCount.{LinkCount}

-- ---- One link.

-- a counter that reaches 2^64 - 1 stays there
abbrev pub one_more : ℕ → ℕ
one_more n = min (n + 1) (2 ^ 64 - 1)

-- all counters are 0
abbrev pub no_counters : LinkCounters
no_counters = record {
  sent = 0;
  again = 0;
  received = 0;
  rej_sent = 0;
  rej_received = 0;
  rnr_sent = 0;
  rnr_received = 0;
  reports = 0;
}

-- the counters in the form that C reads: behind them is room for those of later versions
abbrev pub flat_counters : LinkCounters → FlatCounters
flat_counters counters = record { counters = counters; reserved = replicate 8 0 }

-- nothing is counted, and no N(S) is the highest
abbrev pub no_count : LinkCount
no_count = record { counters = no_counters; highest = None }

-- the counters change, and the highest N(S) does not
abbrev pub with_counters : LinkCounters → LinkCount → LinkCount
with_counters counters l = record { counters = counters; highest = l.highest }

-- An I frame is sent for the first time if its N(S) is one greater, modulo 128, than the highest
-- N(S) sent in the present establishment (Q.921 3.5.2.1), or if it is the first one of it. Any
-- other I frame is sent again.
abbrev pub is_new : Option ℕ → ℕ → Bool
is_new None ns = true
is_new (Some highest) ns = ns == (highest + 1) % 128

abbrev pub i_frame_sent : ℕ → LinkCount → LinkCount
i_frame_sent ns l = if is_new l.highest ns then record {
  counters = record (l.counters) { sent = one_more l.counters.sent };
  highest = Some ns;
}
    else with_counters (record (l.counters) { again = one_more l.counters.again }) l

-- with SABME or UA, this side begins an establishment, or ends one (Q.921 5.5.1.2, 5.5.3)
abbrev pub renumbered : LinkCount → LinkCount
renumbered l = record { counters = l.counters; highest = None }

-- what a frame that this side sends adds
abbrev pub after_sent : Control → LinkCount → LinkCount
after_sent (control.I ns nr p) l = i_frame_sent ns l
after_sent (control.Rej nr pf) l =
    with_counters (record (l.counters) { rej_sent = one_more l.counters.rej_sent }) l
after_sent (control.Rnr nr pf) l =
    with_counters (record (l.counters) { rnr_sent = one_more l.counters.rnr_sent }) l
after_sent (control.Sabme p) l = renumbered l
after_sent (control.Ua f) l = renumbered l
after_sent other l = l

-- what a frame that this side receives adds
abbrev pub after_received : Control → LinkCount → LinkCount
after_received (control.I ns nr p) l =
    with_counters (record (l.counters) { received = one_more l.counters.received }) l
after_received (control.Rej nr pf) l =
    with_counters (record (l.counters) { rej_received = one_more l.counters.rej_received }) l
after_received (control.Rnr nr pf) l =
    with_counters (record (l.counters) { rnr_received = one_more l.counters.rnr_received }) l
after_received other l = l

-- what a report (MDL-ERROR indication) adds
abbrev pub after_report : LinkCount → LinkCount
after_report l = with_counters (record (l.counters) { reports = one_more l.counters.reports }) l

-- ---- All links, whether they exist or not: 128 TEIs of each SAPI.

abbrev pub sapi_place : Sapi → ℕ
sapi_place Call = 0
sapi_place Packet = 128
sapi_place Management = 256

abbrev pub place_of : Sapi → ℕ → ℕ
place_of sapi tei = sapi_place sapi + tei

abbrev pub count_at : ℕ → List LinkCount → LinkCount
count_at place counts = slice_index_or counts place no_count

-- the counters of the link with this id
abbrev pub counters_of : LinkId → List LinkCount → LinkCounters
counters_of id counts = (count_at (place_of id.sapi id.tei) counts).counters

-- changes what is counted at a place
abbrev pub changed_at : ℕ → (LinkCount → LinkCount) → List LinkCount → List LinkCount
changed_at place after counts = set counts place (after (count_at place counts))

unfoldable pub nothing_counted : List LinkCount
nothing_counted = replicate 384 no_count

-- A frame counts for the SAPI and TEI in its address. Octets that do not form a valid frame add
-- nothing.
abbrev pub frame_counted : (Control → LinkCount → LinkCount) → Result Fields FrameFault
    → List LinkCount → List LinkCount
frame_counted after (Ok frame) counts =
    changed_at (place_of frame.address.sapi frame.address.tei) (after frame.control) counts
frame_counted after (Err fault) counts = counts

-- this side sends these octets
unfoldable pub sent_counted : Side → List LinkCount → List ℕ → List LinkCount
sent_counted own counts octets = frame_counted after_sent (frame_at own octets) counts

-- this side receives these octets
unfoldable pub received_counted : Side → List LinkCount → List ℕ → List LinkCount
received_counted own counts octets =
    frame_counted after_received (frame_at (other_side own) octets) counts

-- a report counts for its link; no other primitive is counted
unfoldable pub primitive_counted : List LinkCount → Primitive → List LinkCount
primitive_counted counts (Of id (what.Report letter)) =
    changed_at (place_of id.sapi id.tei) after_report counts
primitive_counted counts primitive = counts

-- A call: the octets that this side receives by it, none by a request or a tick, then the frames
-- that it sends, and the primitives.
unfoldable pub call_counted : Side → List ℕ → Effects → List LinkCount → List LinkCount
call_counted own octets given counts = fold primitive_counted
    (fold (sent_counted own) (received_counted own counts octets) given.frames) given.primitives
