-- How many frames of each kind one end of a link sent, how soon it answered polls, and how long it
-- was busy.
use Rattle.std.specs.Prelude.{ℕ, min, max, Bool, true, false, if◌then◌else◌, List, [], ◌∷◌, length, not, replicate, Option, Some, None}
use Rattle.lapd_frame.specs.declared.Role.{Role}
use Rattle.lapd_frame.specs.declared.Role.TheVariants.{Command, Answer}
use Rattle.lapd_frame.specs.declared.Control.{Control}
use Rattle.lapd_frame.specs.declared.Control.TheVariants.{I, Rr, Rnr, Rej, Sabme, Dm, Ui, Disc, Ua, Frmr, Xid}
use Rattle.lapd_frame.specs.Frame.{Fields}
use Rattle.lapd_follow.specs.declared.remark.Remark.{Remark}
use Rattle.lapd_follow.specs.declared.remark.Remark.TheVariants.{Repeated, RepeatedOtherwise, Answers}
use Rattle.lapd_follow.specs.declared.remarks.Remarks.{Remarks}
use Rattle.lapd_follow.specs.declared.tally.Kinds.{Kinds}
use Rattle.lapd_follow.specs.declared.tally.Times.{Times}
use Rattle.lapd_follow.specs.declared.tally.Tally.{Tally}
use Rattle.lapd_follow.specs.declared.packet.Packet.{Packet}
use Rattle.lapd_follow.specs.declared.classes.Middle.{Middle}
use Rattle.lapd_follow.specs.BusyTimes.{busy_after, no_busy_time, sum_of}
use Rattle.lapd_follow.specs.Classes.{class_of, counted_in, middle_class, middle_within}
use Rattle.lapd_follow.specs.Ends.{one_more}

-- nothing was counted
abbrev pub no_kinds : Kinds
no_kinds = record {
  i = 0;
  rr = 0;
  rnr = 0;
  rej = 0;
  sabme = 0;
  dm = 0;
  ui = 0;
  disc = 0;
  ua = 0;
  frmr = 0;
  xid = 0;
}

abbrev pub no_times : Times
no_times = record {
  count = 0;
  least = None;
  greatest = None;
  total = 0;
  classes = replicate 17 0;
}

abbrev pub no_tally : Tally
no_tally = record {
  kinds = no_kinds;
  octets = 0;
  repeated = 0;
  unfollowed = 0;
  polls = 0;
  times = no_times;
  busy = no_busy_time;
}

-- one more frame of this kind
abbrev pub counted : Control → Kinds → Kinds
counted (I ns nr p) k = record k { i = one_more k.i }
counted (Rr nr pf) k = record k { rr = one_more k.rr }
counted (Rnr nr pf) k = record k { rnr = one_more k.rnr }
counted (Rej nr pf) k = record k { rej = one_more k.rej }
counted (Sabme p) k = record k { sabme = one_more k.sabme }
counted (Dm f) k = record k { dm = one_more k.dm }
counted (Ui p) k = record k { ui = one_more k.ui }
counted (Disc p) k = record k { disc = one_more k.disc }
counted (Ua f) k = record k { ua = one_more k.ua }
counted (Frmr f) k = record k { frmr = one_more k.frmr }
counted (Xid pf) k = record k { xid = one_more k.xid }

-- whether an I frame is sent again
abbrev pub is_repeat : Option Remark → Bool
is_repeat (Some Repeated) = true
is_repeat (Some RepeatedOtherwise) = true
is_repeat remark = false

-- the time after which the frame answers a poll, if it does and the time is known
abbrev pub answer_time : Option Remark → Option ℕ
answer_time (Some (Answers packet after)) = after
answer_time remark = None

-- the least and the greatest of some times, with one more
abbrev pub least_with : ℕ → Option ℕ → ℕ
least_with n None = n
least_with n (Some m) = min m n

abbrev pub greatest_with : ℕ → Option ℕ → ℕ
greatest_with n None = n
greatest_with n (Some m) = max m n

-- the times with one more, if there is one
abbrev pub with_time : Option ℕ → Times → Times
with_time None t = t
with_time (Some n) t = record {
  count = one_more t.count;
  least = Some (least_with n t.least);
  greatest = Some (greatest_with n t.greatest);
  total = sum_of t.total n;
  classes = counted_in (class_of n) t.classes;
}

-- all of these times
abbrev pub with_times : List ℕ → Times → Times
with_times [] t = t
with_times (n ∷ rest) t = with_times rest (with_time (Some n) t)

-- between which times the middle one lies, if there is one
abbrev pub middle_of : Times → Option Middle
middle_of t = middle_within (middle_class t.classes) t.least t.greatest

-- an I frame of which is not known whether it is sent again
abbrev pub is_unfollowed : Bool → Control → Bool
is_unfollowed is_followed (I ns nr p) = not is_followed
is_unfollowed is_followed control = false

-- the P bit of a command that polls, or the bit in its place (Q.921 3.5.1)
abbrev pub poll_bit : Control → Bool
poll_bit (I ns nr p) = p
poll_bit (Rr nr pf) = pf
poll_bit (Rnr nr pf) = pf
poll_bit (Rej nr pf) = pf
poll_bit (Sabme p) = p
poll_bit (Disc p) = p
poll_bit control = false

-- a command with P=1
abbrev pub is_poll : Role → Control → Bool
is_poll Command control = poll_bit control
is_poll Answer control = false

-- one more frame, in this packet, with the remarks on it; its link is followed or not
abbrev pub tallied : Packet → Fields → Remarks → Bool → Tally → Tally
tallied packet f said is_followed t = record {
  kinds = counted f.control t.kinds;
  octets = sum_of t.octets (length f.info);
  repeated = if is_repeat said.ns then one_more t.repeated else t.repeated;
  unfollowed = if is_unfollowed is_followed f.control then one_more t.unfollowed
      else t.unfollowed;
  polls = if is_poll f.address.role f.control then one_more t.polls else t.polls;
  times = with_time (answer_time said.answer) t.times;
  busy = busy_after f.control packet.moment t.busy;
}
