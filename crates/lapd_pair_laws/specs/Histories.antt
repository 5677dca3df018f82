-- The history of a side: which messages it received, which of its own were acknowledged or dropped,
-- in which establishment each was sent, and when its establishments began. The outputs of the moves
-- and the number of establishments alone determine it; it reads no state, timer or counter of the
-- link.
use Rattle.std.specs.Prelude.{ℕ, ◌+◌, ◌-◌, ◌==◌, if◌then◌else◌, false, List, [], ◌∷◌, ◌++◌, length, get_or, Option, Some, None}
use Rattle.std.specs.List.{range_with_len}
use Rattle.lapd_frame.specs.declared.Role.TheVariants.{Command}
use Rattle.lapd_frame.specs.declared.Control.{Control}
use Rattle.lapd_frame.specs.declared.Control.TheVariants.{Ui}
use Rattle.lapd_link_definition.specs.declared.out.Out.{Out}
use Rattle.lapd_link_definition.specs.declared.out.Out.TheVariants.{Send, SendMessage, SendUnit, Up, UnitUp, Acknowledged, Dropped}
use Rattle.lapd_pair_laws.specs.Line.{Flight, without_info, sent_behind}

-- A message as layer 3 received it: its octets, and the receiver's establishment in which it
-- arrived, counted from 1. For the proofs it also records the message's place among the messages
-- submitted at the other side.
pub record Receipt : Type 0 where
  pub octets : List ℕ
  pub establishment : ℕ
  pub place : ℕ

-- The history of a side. Its end stores the messages submitted to it; a place is the index of one
-- of them, from 0. `sent_in`: the establishment in which each was last sent, `None` if it never
-- was. `acked`, `dropped`: the places acknowledged and dropped; `passed` counts both, so the first
-- waiting message is at place `passed`. `received`, `units`: messages and unit data received from
-- the other side. `begun`: for each establishment, how many messages had been received before it.
pub record History : Type 0 where
  pub sent_in : ℕ → Option ℕ
  pub acked : List ℕ
  pub dropped : List ℕ
  pub passed : ℕ
  pub received : List Receipt
  pub units : List (List ℕ)
  pub begun : List ℕ

abbrev pub new_history : History
new_history = record {
  sent_in = λ place. None;
  acked = [];
  dropped = [];
  passed = 0;
  received = [];
  units = [];
  begun = [];
}

-- ---- Entries of a history.

-- the message at this place is sent in this establishment
abbrev pub with_sending : ℕ → ℕ → History → History
with_sending at establishment h = record h {
  sent_in = λ place.
      if place == at then Some establishment else h.sent_in place;
}

-- the next n places are acknowledged
abbrev pub with_acked : ℕ → History → History
with_acked n h = record h { acked = h.acked ++ range_with_len h.passed n; passed = h.passed + n }

-- the next n places are dropped
abbrev pub with_dropped : ℕ → History → History
with_dropped n h = record h {
  dropped = h.dropped ++ range_with_len h.passed n;
  passed = h.passed + n;
}

-- of so many messages submitted, all that were neither acknowledged nor dropped are dropped
abbrev pub with_others_dropped : ℕ → History → History
with_others_dropped given h = with_dropped (given - h.passed) h

-- a message is received
abbrev pub with_receipt : Receipt → History → History
with_receipt message h = record h { received = h.received ++ message ∷ [] }

-- unit data is received
abbrev pub with_unit : List ℕ → History → History
with_unit octets h = record h { units = h.units ++ octets ∷ [] }

-- if the number of establishments changed, an establishment begins
abbrev pub with_beginning : ℕ → ℕ → History → History
with_beginning before now h = record h {
  begun = if before == now then h.begun
      else h.begun ++ length h.received ∷ [];
}

-- ---- Recording the outputs of a step, one after another.

-- The context of a step's outputs. `given`: all messages ever submitted at the side, and
-- `establishment`: the number of its establishments, both after the step. `octets`, `place`: the
-- information and the place of the frame just delivered. If unit data is to be sent, `octets` are
-- that data.
pub record Occasion : Type 0 where
  pub given : List (List ℕ)
  pub establishment : ℕ
  pub octets : List ℕ
  pub place : ℕ

-- what the outputs change: the frames in transit to the other side, and this side's history
pub record Story : Type 0 where
  pub line : List Flight
  pub history : History

-- the I frame with the message at this place
abbrev pub message_frame : Occasion → Control → ℕ → Flight
message_frame o control at = record {
  role = Command;
  control = control;
  info = get_or o.given at [];
  place = at;
}

-- the UI frame with this unit data
abbrev pub unit_frame : List ℕ → Flight
unit_frame octets = record { role = Command; control = Ui false; info = octets; place = 0 }

-- Records one output. It may send a frame, whose message is counted from the first waiting one;
-- deliver a message or unit data to layer 3; or acknowledge or drop messages. No other output is
-- recorded.
abbrev pub after_output : Occasion → Out → Story → Story
after_output o
    (Send role control) t = record t { line = sent_behind t.line (without_info role control) }
after_output o (SendMessage n control) t = record {
  line = sent_behind t.line
      (message_frame o control (t.history.passed + n));
  history = with_sending (t.history.passed + n) o.establishment t.history;
}
after_output o SendUnit t = record t { line = sent_behind t.line (unit_frame o.octets) }
after_output o Up t = record t {
  history = with_receipt
      (record { octets = o.octets; establishment = o.establishment; place = o.place }) t.history;
}
after_output o UnitUp t = record t { history = with_unit o.octets t.history }
after_output o (Acknowledged n) t = record t { history = with_acked n t.history }
after_output o (Dropped n) t = record t { history = with_dropped n t.history }
after_output o out t = t

-- records all outputs, in order
abbrev pub after_outputs : Occasion → List Out → Story → Story
after_outputs o [] t = t
after_outputs o (out ∷ outs) t = after_outputs o outs (after_output o out t)
