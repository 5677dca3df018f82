-- Worked lines and a worked history, by which the definitions are tried.
use Rattle.std.specs.Prelude.{true, false, List, [], ◌∷◌, Some, None}
use Rattle.lapd_frame.specs.declared.Side.TheVariants.{User}
use Rattle.lapd_frame.specs.declared.Sapi.TheVariants.{Call}
use Rattle.lapd_timers.specs.Due.{Timers}
use Rattle.lapd_timers.specs.Durations.{standard_lengths}
use Rattle.lapd_link_definition.specs.End.{End, new_end}
use Rattle.lapd_link_definition.specs.Parameters.{Parameters}
use Rattle.lapd_link_definition.specs.declared.out.Letter.TheVariants.{C, J}
use Rattle.lapd_link_definition.specs.declared.state.State.TheVariants.{MultipleFrameEstablished}
use Rattle.lapd_table.specs.declared.link_id.LinkId.{LinkId}
use Rattle.lapd_sides_links.specs.Links.{of_sapi}
use Rattle.lapd_sides_links.specs.declared.primitive.Primitive.TheVariants.{Of}
use Rattle.lapd_sides_links.specs.declared.primitive.What.TheVariants.{Report, Confirmed}
use Rattle.lapd_cli_live_text.specs.declared.stats.Stats.{Stats}
use Rattle.lapd_cli_live_text.specs.Histories.{StatsEvent, Sent, Received, Delivered, stats_after}
use Rattle.lapd_cli_live_text.specs.Stats.{nothing_counted}

-- ---- Lines.

abbrev pub worked_link : LinkId
worked_link = of_sapi Call 64

-- an established end that is busy, and whose peer is; one message was acknowledged
abbrev pub busy_end : Parameters → End
busy_end parameters = record (new_end parameters) {
  state = MultipleFrameEstablished;
  window = record {
    vs = 1;
    va = 1;
    vr = 0;
    peer_busy = true;
    own_busy = true;
    rejecting = false;
    ack_pending = false;
  };
}

-- T203 ends at 10,000
abbrev pub enquiry_timers : Timers
enquiry_timers = record {
  durations = standard_lengths;
  t200 = None;
  t201 = None;
  t202 = None;
  t203 = Some 10000;
}

-- T202 ends at 2,000
abbrev pub request_timers : Timers
request_timers = record {
  durations = standard_lengths;
  t200 = None;
  t201 = None;
  t202 = Some 2000;
  t203 = None;
}

-- ---- A history of a user side.

-- The link of TEI 64 is established. The first message is rejected once and sent again. A second UA
-- is received and reported, and a second message is sent. Two octets are received that do not form
-- a valid frame, and an invalid N(R) is reported.
abbrev pub rejected_message : List StatsEvent
rejected_message = Sent (0x00 ∷ 0x81 ∷ 0x7F ∷ [])
    ∷ Received (0x00 ∷ 0x81 ∷ 0x73 ∷ [])
    ∷ Delivered (Of worked_link Confirmed)
    ∷ Sent (0x00 ∷ 0x81 ∷ 0x00 ∷ 0x00 ∷ 0x08 ∷ 0x01 ∷ [])
    ∷ Received (0x02 ∷ 0x81 ∷ 0x09 ∷ 0x00 ∷ [])
    ∷ Sent (0x00 ∷ 0x81 ∷ 0x00 ∷ 0x00 ∷ 0x08 ∷ 0x01 ∷ [])
    ∷ Received (0x00 ∷ 0x81 ∷ 0x73 ∷ [])
    ∷ Delivered (Of worked_link (Report C))
    ∷ Sent (0x00 ∷ 0x81 ∷ 0x02 ∷ 0x00 ∷ 0x08 ∷ 0x02 ∷ [])
    ∷ Received (0x00 ∷ 0x81 ∷ [])
    ∷ Delivered (Of worked_link (Report J)) ∷ []

abbrev pub worked_stats : Stats
worked_stats = stats_after User rejected_message nothing_counted
