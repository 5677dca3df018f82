-- How the outputs of a step are executed one after another: the frame that each one sends, what it
-- records, and what a side represents while some outputs are pending.
use Rattle.std.specs.Prelude.{◌≡◌, ◌≤◌, ◌+◌, ℕ, List, Option, Some, None, length, Vec}
use Rattle.std.specs.declared.alloc.Global.{Global}
use Rattle.lapd_frame.specs.declared.Side.{Side}
use Rattle.lapd_frame.specs.Frame.{n201}
use Rattle.lapd_link.specs.Link.{LinkRepresents, setup_of}
use Rattle.lapd_link_definition.specs.declared.out.Out.{Out}
use Rattle.lapd_link_definition.specs.declared.out.Out.TheVariants.{Send, SendMessage, SendUnit, Up, UnitUp, Acknowledged, Dropped}
use Rattle.lapd_link_definition.specs.Counts.{ups, unit_ups}
use Rattle.lapd_link_definition.specs.End.{End}
use Rattle.lapd_link_definition.specs.SentFrames.{AreShort}
use Rattle.lapd_pair_laws.specs.Histories.{History, Occasion, Story, message_frame, unit_frame, with_sending, with_receipt, with_unit, with_acked, with_dropped}
use Rattle.lapd_pair_laws.specs.Consistent.{AreSettled, AreInOrder}
use Rattle.lapd_pair_laws.specs.Line.{Flight, without_info, sent_behind}
use Rattle.lapd_pair.specs.Histories.{IsHistory}
use Rattle.lapd_pair.specs.Line.{IsOn}
use Rattle.lapd_pair.specs.Setup.{setup_for}
use Rattle.lapd_pair.specs.declared.line.Line.{Line}
use Rattle.lapd_pair.specs.declared.recorded_link.RecordedLink.{RecordedLink}

-- the frame that an output sends, if any; `passed` is the place of the first waiting message
abbrev pub flight_of : Occasion → ℕ → Out → Option Flight
flight_of o passed (Send role control) = Some (without_info role control)
flight_of o passed (SendMessage n control) = Some (message_frame o control (passed + n))
flight_of o passed SendUnit = Some (unit_frame o.octets)
flight_of o passed out = None

-- the line with this frame, if any, appended
abbrev pub with_sent : Option Flight → List Flight → List Flight
with_sent None line = line
with_sent (Some flight) line = sent_behind line flight

-- the history after the output is recorded
abbrev pub history_after : Occasion → Out → History → History
history_after o (SendMessage n control) h = with_sending (h.passed + n) o.establishment h
history_after o Up h = with_receipt (record {
  octets = o.octets;
  establishment = o.establishment;
  place = o.place;
}) h
history_after o UnitUp h = with_unit o.octets h
history_after o (Acknowledged n) h = with_acked n h
history_after o (Dropped n) h = with_dropped n h
history_after o out h = h

-- the copy of the octets just received; n outputs, at most one, have yet to deliver it
abbrev pub IsCopy : List ℕ → ℕ → Option (Vec ℕ Global) → Type 0
IsCopy octets n None = n ≡ 0
IsCopy octets n (Some copy) = (n ≤ 1) × (copy.items ≡ octets)

-- The side and its outgoing line while the outputs `rest` are pending. `e` is the end after the
-- step, `t` the result of the outputs executed so far, and `copy` is kept for the delivery to layer
-- 3.
pub record IsBetweenOutputs (side : Side) (e : End) (o : Occasion) (rest : List Out)
    (s : RecordedLink)
    (outward : Line) (copy : Option (Vec ℕ Global)) (t : Story) : Type 0 where
  pub link : LinkRepresents s.link e
  pub setup : setup_of s.link ≡ setup_for side
  pub history : IsHistory s.history e.given t.history
  pub line : IsOn side outward t.line
  pub order : AreInOrder e t.history.passed rest
  pub within : e.first ≤ length e.given
  pub settled : AreSettled t.history
  pub begun : length t.history.begun ≡ o.establishment
  pub given : o.given ≡ e.given
  pub short : AreShort e.given
  pub fits : length o.octets ≤ n201
  pub copied : IsCopy o.octets (ups rest + unit_ups rest) copy
