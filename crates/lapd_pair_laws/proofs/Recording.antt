-- The facts that remain after recording each output.
use Rattle.std.proofs.Common.{◌≡◌, ℕ, zero, suc, ◌+◌, ◌<◌, ◌≤◌, ◌==◌, nat_lt, if◌then◌else◌, false, List, [], ◌∷◌, length, get_or, Option, Some, None, refl, arith}
use Rattle.std.proofs.lemmas.Bool.Decides.{nat_tests}
use Rattle.lapd_frame.specs.declared.Control.{Control}
use Rattle.lapd_frame.specs.declared.Control.TheVariants.{Ui}
use Rattle.lapd_frame.specs.Frame.{n201, content_fault, at_most_n201}
use Rattle.lapd_mod128.specs.Counting.{Reading, Whole, Tagged}
use Rattle.lapd_link_definition.specs.declared.out.Out.{Out}
use Rattle.lapd_link_definition.specs.declared.out.Out.TheVariants.{Send, SendMessage, SendUnit, Up, UnitUp, Acknowledged, Dropped}
use Rattle.lapd_link_definition.specs.End.{End}
use Rattle.lapd_link_definition.specs.Numbers.{HasNumbers, AreNumbered}
use Rattle.lapd_link_definition.specs.SentFrames.{AreShort}
use Rattle.lapd_pair_laws.specs.Histories.{History, Occasion, Story, after_output, after_outputs, message_frame, unit_frame}
use Rattle.lapd_pair_laws.specs.Consistent.{AreSettled, AreProper, CarryNumbers, AreInOrder}
use Rattle.lapd_pair_laws.specs.Line.{Flight, without_info, sent_behind}
use Rattle.lapd_pair_laws.proofs.Settling.{acked_settled, dropped_settled}

-- ---- Acknowledged and dropped.

pub settled_alike : (h now : History) → now.passed ≡ h.passed → now.acked ≡ h.acked
    → now.dropped ≡ h.dropped → AreSettled h → AreSettled now
settled_alike h now passed acked dropped preserved = record {
  counted = rw (passed, acked, dropped) preserved.counted;
  settled = λ place. rw (passed, acked, dropped) (preserved.settled place);
}

pub settled_then : (o : Occasion) (out : Out) (t : Story) → AreSettled t.history
    → AreSettled (after_output o out t).history
settled_then o (Acknowledged n) t preserved = acked_settled n t.history preserved
settled_then o (Dropped n) t preserved = dropped_settled n t.history preserved
settled_then o (SendMessage n control) t preserved =
    settled_alike t.history (after_output o (SendMessage n control) t).history refl refl refl
    preserved
settled_then o Up t preserved =
    settled_alike t.history (after_output o Up t).history refl refl refl preserved
settled_then o UnitUp t preserved =
    settled_alike t.history (after_output o UnitUp t).history refl refl refl preserved
settled_then o out t preserved = preserved

-- ---- Establishments.

pub begun_then : (o : Occasion) (out : Out) (t : Story)
    → (after_output o out t).history.begun ≡ t.history.begun
begun_then o (Acknowledged n) t = refl
begun_then o (Dropped n) t = refl
begun_then o (SendMessage n control) t = refl
begun_then o Up t = refl
begun_then o UnitUp t = refl
begun_then o out t = refl

-- ---- The remaining outputs.

pub in_order_then : (e : End) (o : Occasion) (out : Out) (outs : List Out) (t : Story)
    → AreInOrder e t.history.passed (out ∷ outs)
    → AreInOrder e (after_output o out t).history.passed outs
in_order_then e o (Acknowledged n) outs t order = record {
  first = omega (arith, order.first);
  counted = order.counted;
  spoken = order.spoken.1;
  placed = order.placed.1;
}
in_order_then e o (Dropped n) outs t order = record {
  first = omega (arith, order.first);
  counted = order.counted;
  spoken = order.spoken.1;
  placed = order.placed.1;
}
in_order_then e o (SendMessage n control) outs t order = record {
  first = order.first;
  counted = order.counted.1;
  spoken = order.spoken.1;
  placed = order.placed.1;
}
in_order_then e o out outs t order = record {
  first = order.first;
  counted = order.counted;
  spoken = order.spoken.1;
  placed = order.placed.1;
}

-- a message that is sent is one of those submitted
pub message_is_given : (e : End) (passed n : ℕ) (control : Control) (outs : List Out)
    → AreInOrder e passed (SendMessage n control ∷ outs) → passed + n < length e.given
message_is_given e passed n control outs order =
    omega (arith, order.first, order.counted.0, order.placed.0)

-- ---- No message was sent that was not submitted.

abbrev pub AreUnsentFrom : ℕ → (ℕ → Option ℕ) → Type 0
AreUnsentFrom given sent_in = (place : ℕ) → given ≤ place → sent_in place ≡ None

other_sent : (at establishment given : ℕ) (sent_in : ℕ → Option ℕ) → at < given
    → AreUnsentFrom given sent_in
    → AreUnsentFrom given (λ place. if place == at then Some establishment else sent_in place)
other_sent at establishment given sent_in within unsent place beyond =
    let other : (place == at) ≡ false = grind (arith, nat_tests) in
    rw other (unsent place beyond)

pub unsent_then : (e : End) (o : Occasion) (out : Out) (outs : List Out) (t : Story)
    → AreInOrder e t.history.passed (out ∷ outs)
    → AreUnsentFrom (length e.given) t.history.sent_in
    → AreUnsentFrom (length e.given) (after_output o out t).history.sent_in
unsent_then e o (SendMessage n control) outs t order unsent =
    other_sent (t.history.passed + n) o.establishment (length e.given) t.history.sent_in
    (message_is_given e t.history.passed n control outs order) unsent
unsent_then e o out outs t order unsent = unsent

-- ---- The line.

proper_behind : (frames : List Flight) (frame : Flight) → AreProper frames
    → content_fault frame.role frame.control (length frame.info) ≡ None
    → AreProper (sent_behind frames frame)
proper_behind [] frame proper is = (is, tt)
proper_behind (first ∷ frames) frame proper is = (proper.0, proper_behind frames frame proper.1 is)

carried_behind : (r : Reading) (frames : List Flight) (frame : Flight) → CarryNumbers r frames
    → HasNumbers r frame.control → CarryNumbers r (sent_behind frames frame)
carried_behind r [] frame carried has = (has, tt)
carried_behind r (first ∷ frames) frame carried has =
    (carried.0, carried_behind r frames frame carried.1 has)

pub message_is_short : (messages : List (List ℕ)) (at : ℕ) → AreShort messages
    → length (get_or messages at []) ≤ n201
message_is_short [] at short = omega arith
message_is_short (message ∷ messages) zero short = short.0
message_is_short (message ∷ messages) (suc at) short = message_is_short messages at short.1

pub unit_is_proper : (len : ℕ) → len ≤ n201 → at_most_n201 len ≡ None
unit_is_proper len short = let no : nat_lt 260 len ≡ false = grind (arith, nat_tests) in rw no refl

pub proper_then : (e : End) (o : Occasion) (out : Out) (outs : List Out) (t : Story)
    → AreInOrder e t.history.passed (out ∷ outs) → AreShort o.given → length o.octets ≤ n201
    → AreProper t.line → AreProper (after_output o out t).line
proper_then e o (Send role control) outs t order short few proper =
    proper_behind t.line (without_info role control) proper order.spoken.0
proper_then e o (SendMessage n control) outs t order short few proper =
    proper_behind t.line (message_frame o control (t.history.passed + n)) proper
    (order.spoken.0 (length (get_or o.given (t.history.passed + n) []))
    (message_is_short o.given (t.history.passed + n) short))
proper_then e o SendUnit outs t order short few proper =
    proper_behind t.line (unit_frame o.octets) proper (unit_is_proper (length o.octets) few)
proper_then e o out outs t order short few proper = proper

ui_has_none : (r : Reading) → HasNumbers r (Ui false)
ui_has_none Whole = tt
ui_has_none Tagged = tt

pub carried_then : (r : Reading) (o : Occasion) (out : Out) (outs : List Out) (t : Story)
    → AreNumbered r (out ∷ outs) → CarryNumbers r t.line
    → CarryNumbers r (after_output o out t).line
carried_then r o (Send role control) outs t numbered carried =
    carried_behind r t.line (without_info role control) carried numbered.0
carried_then r o (SendMessage n control) outs t numbered carried =
    carried_behind r t.line (message_frame o control (t.history.passed + n)) carried numbered.0
carried_then r o SendUnit outs t numbered carried =
    carried_behind r t.line (unit_frame o.octets) carried (ui_has_none r)
carried_then r o out outs t numbered carried = carried

-- ---- All of them.

-- the facts that hold while outputs are recorded
pub record IsBetweenOutputs (r : Reading) (e : End) (begun : List ℕ) (t : Story) : Type 0 where
  pub settled : AreSettled t.history
  pub begins : t.history.begun ≡ begun
  pub unsent : AreUnsentFrom (length e.given) t.history.sent_in
  pub proper : AreProper t.line
  pub carried : CarryNumbers r t.line

between_outputs_then : (r : Reading) (e : End) (o : Occasion) (begun : List ℕ) (out : Out)
    (outs : List Out) (t : Story) → AreInOrder e t.history.passed (out ∷ outs)
    → AreNumbered r (out ∷ outs)
    → AreShort o.given → length o.octets ≤ n201 → IsBetweenOutputs r e begun t
    → IsBetweenOutputs r e begun (after_output o out t)
between_outputs_then r e o begun out outs t order numbered short few h = record {
  settled = settled_then o out t h.settled;
  begins = rw (begun_then o out t) h.begins;
  unsent = unsent_then e o out outs t order h.unsent;
  proper = proper_then e o out outs t order short few h.proper;
  carried = carried_then r o out outs t numbered h.carried;
}

pub after_outputs_then : (r : Reading) (e : End) (o : Occasion) (begun : List ℕ) (outs : List Out)
    (t : Story) → AreInOrder e t.history.passed outs → AreNumbered r outs
    → AreShort o.given → length o.octets ≤ n201 → IsBetweenOutputs r e begun t
    → IsBetweenOutputs r e begun (after_outputs o outs t)
    × ((after_outputs o outs t).history.passed ≡ e.first)
after_outputs_then r e o begun [] t order numbered short few h = (h, omega (arith, order.first))
after_outputs_then r e o begun (out ∷ outs) t order numbered short few h =
    after_outputs_then r e o begun outs (after_output o out t) (in_order_then e o out outs t order)
    numbered.1 short few
    (between_outputs_then r e o begun out outs t order numbered short few h)
