-- Layer 3's requests to establish and to release a link, their answers, and an end after any list
-- of inputs (Q.921 4.1, 5.5.1, 5.5.3).
use Rattle.std.specs.Prelude.{ℕ, ◌+◌, ◌*◌, Bool, true, false, List, [], ◌∷◌, ◌++◌, Result, Ok, Err}
use Rattle.std.specs.List.{list_any, count_by}
use Rattle.lapd_timers.specs.declared.timer.Timer.TheVariants.{T200}
use Rattle.lapd_mod128.specs.Counting.{Reading}
use Rattle.lapd_link_definition.specs.declared.event.LinkFault.{LinkFault}
use Rattle.lapd_link_definition.specs.declared.out.Out.{Out}
use Rattle.lapd_link_definition.specs.declared.out.Out.TheVariants.{Confirmed, Released, ReleaseConfirm}
use Rattle.lapd_link_definition.specs.End.{End, StepState, begin}
use Rattle.lapd_link_definition.specs.Input.{Input, Expiry, Establish, Release}
use Rattle.lapd_link_definition.specs.Table.{step}

-- ---- Requests and answers.

-- Layer 3 requested the link to be established, and not to be released since; or to be established,
-- and may have requested the release since; or to be released.
pub data Asked : Type 0 where
  Establishment : Asked
  Withdrawal : Asked
  Clearing : Asked

-- the first request
abbrev pub request_of : Asked → Input
request_of Establishment = Establish
request_of Withdrawal = Establish
request_of Clearing = Release

abbrev pub may_release : Asked → Bool
may_release Establishment = false
may_release asked = true

-- DL-ESTABLISH request is answered by DL-ESTABLISH confirm or by DL-RELEASE indication, DL-RELEASE
-- request by DL-RELEASE confirm.
abbrev pub is_answer : Asked → Out → Bool
is_answer Establishment Confirmed = true
is_answer Establishment Released = true
is_answer Withdrawal Confirmed = true
is_answer Withdrawal Released = true
is_answer Withdrawal ReleaseConfirm = true
is_answer Clearing ReleaseConfirm = true
is_answer asked out = false

abbrev pub is_answered : Asked → List Out → Bool
is_answered asked outs = list_any (is_answer asked) outs

-- The most expiries of T200 until the answer. The SABME is sent N200 + 1 times. If it is answered
-- while a release is pending, after at most N200 expiries, the DISC is sent N200 + 1 times.
abbrev pub most_expiries : Asked → ℕ → ℕ
most_expiries Establishment n200 = n200 + 1
most_expiries asked n200 = 2 * n200 + 1

-- ---- Any list of inputs.

abbrev pub is_t200_expiry : Input → Bool
is_t200_expiry (Expiry T200) = true
is_t200_expiry input = false

abbrev pub is_release : Input → Bool
is_release Release = true
is_release input = false

-- how often T200 expires
abbrev pub t200_expiries : List Input → ℕ
t200_expiries inputs = count_by is_t200_expiry inputs

-- a refused input changes nothing and has no output
abbrev pub or_refused : End → Result StepState LinkFault → StepState
or_refused e (Ok s) = s
or_refused e (Err fault) = begin e

abbrev pub takes : Reading → Input → End → StepState
takes r input e = or_refused e (step r input e)

-- the outputs of all inputs, in order
abbrev pub outs_of : Reading → List Input → End → List Out
outs_of r [] e = []
outs_of r (input ∷ inputs) e = (takes r input e).outs ++ outs_of r inputs (takes r input e).end
