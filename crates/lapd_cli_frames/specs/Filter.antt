-- Which frames are printed, and how many.
use Rattle.std.specs.Prelude.{ℕ, ◌+◌, ◌-◌, ◌%◌, ◌&&◌, ◌||◌, nat_le, nat_lt, not, if◌then◌else◌, Bool, true, false, List, Option, None, Some}
use Rattle.lapd_filter.specs.declared.Filter.{Filter}
use Rattle.lapd_filter.specs.Filter.{is_requested, takes}
use Rattle.lapd_follow.specs.declared.remark.Remark.{Remark}
use Rattle.lapd_follow.specs.declared.remark.Remark.TheVariants.{Repeated, NsExpected}
use Rattle.lapd_follow.specs.declared.remarks.Remarks.{Remarks}
use Rattle.lapd_cli_frames.specs.CallFilter.{call_in}
use Rattle.lapd_cli_frames.specs.Color.{is_violation}

-- a frame of these octets, with these remarks if links are followed, passes a filter: one of a call
-- takes only messages of this call reference, and one of violations only these
abbrev pub takes_said : Filter → Option Remarks → List ℕ → Bool
takes_said filter said octets = takes filter octets
    && (is_requested filter.call (call_in octets)
    && (not filter.only_violations || is_violation said))

-- without a filter all do
abbrev pub takes_filtered : Option Filter → Option Remarks → List ℕ → Bool
takes_filtered None said octets = true
takes_filtered (Some filter) said octets = takes_said filter said octets

-- the remark on the N(S) of an I frame that is sent again: it is not acknowledged, or less than 64
-- before the next one (Q.921 5.6.4)
abbrev pub is_again : Option Remark → Bool
is_again (Some Repeated) = true
is_again (Some (NsExpected ns expected)) = nat_lt ((expected + 128 - ns) % 128) 64
is_again ns = false

abbrev pub is_sent_again : Option Remarks → Bool
is_sent_again None = false
is_sent_again (Some said) = is_again said.ns

-- `once` leaves out I frames that are sent again
abbrev pub takes_by : Bool → Option Filter → Option Remarks → List ℕ → Bool
takes_by once filter said octets = if once && is_sent_again said then false
    else takes_filtered filter said octets

-- so many frames are printed as were requested
abbrev pub reaches : Option ℕ → ℕ → Bool
reaches None printed = false
reaches (Some count) printed = nat_le count printed
