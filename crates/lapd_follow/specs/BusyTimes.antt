-- How long an end was busy: from an RNR to its next frame that ends the condition (Q.921 5.6.5).
use Rattle.std.specs.Prelude.{ℕ, ◌+◌, ◌-◌, ◌^◌, min, Option, Some, None}
use Rattle.lapd_frame.specs.declared.Control.{Control}
use Rattle.lapd_frame.specs.declared.Control.TheVariants.{I, Rr, Rnr, Rej, Sabme, Dm, Ui, Disc, Ua, Frmr, Xid}
use Rattle.lapd_follow.specs.declared.busy_time.BusyTime.{BusyTime}
use Rattle.lapd_follow.specs.Remarks.{time_from}

-- a sum, up to the greatest number of 64 bits
abbrev pub sum_of : ℕ → ℕ → ℕ
sum_of n m = min (n + m) (2 ^ 64 - 1)

-- it was not busy
abbrev pub no_busy_time : BusyTime
no_busy_time = record { since = None; total = None }

abbrev pub or_since : Option ℕ → Option ℕ → Option ℕ
or_since moment (Some since) = Some since
or_since moment None = moment

-- it reports at this moment that it is busy; if it did so before, nothing changes
abbrev pub busy_begins : Option ℕ → BusyTime → BusyTime
busy_begins moment b = record b { since = or_since moment b.since }

-- the sum with one more time, if that time is known
abbrev pub with_lasted : Option ℕ → Option ℕ → Option ℕ
with_lasted None total = total
with_lasted (Some n) None = Some n
with_lasted (Some n) (Some total) = Some (sum_of total n)

-- it reports at this moment that it is no longer busy, or begins anew
abbrev pub busy_ends : Option ℕ → BusyTime → BusyTime
busy_ends moment b = record {
  since = None;
  total = with_lasted (time_from b.since moment) b.total;
}

-- The times after a frame of this kind that it sends at this moment. RR and REJ clear the busy
-- condition; after SABME, DISC, UA and DM no exception condition is set (5.5.1.2).
abbrev pub busy_after : Control → Option ℕ → BusyTime → BusyTime
busy_after (I ns nr p) moment b = b
busy_after (Rr nr pf) moment b = busy_ends moment b
busy_after (Rnr nr pf) moment b = busy_begins moment b
busy_after (Rej nr pf) moment b = busy_ends moment b
busy_after (Sabme p) moment b = busy_ends moment b
busy_after (Dm f) moment b = busy_ends moment b
busy_after (Ui p) moment b = b
busy_after (Disc p) moment b = busy_ends moment b
busy_after (Ua f) moment b = busy_ends moment b
busy_after (Frmr f) moment b = b
busy_after (Xid pf) moment b = b
