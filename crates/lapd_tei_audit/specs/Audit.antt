-- The audit of the TEIs of a bus (Q.921 5.3.3): what the network side does next. Moments and
-- durations are milliseconds.
use Rattle.std.specs.Prelude.{ℕ, zero, suc, ◌+◌, ◌^◌, ◌-◌, ◌&&◌, ◌||◌, not, nat_lt, nat_le, min, if◌then◌else◌, Bool, true, false, List, get_or, set, replicate, is_some, Option, Some, None}
use Rattle.lapd_tei.specs.Assigner.{AssignerState, is_held}
use Rattle.lapd_tei.specs.Message.{group_tei}
use Rattle.lapd_tei_audit.specs.declared.audit_step.AuditStep.{AuditStep}
use Rattle.lapd_tei_audit.specs.declared.audit_step.AuditStep.TheVariants.{Remove, Check, CheckAll}
use Rattle.lapd_tei_audit.specs.declared.tei_audit.Answers.{Answers}
use Rattle.lapd_tei_audit.specs.declared.tei_audit.Answers.TheVariants.{Nobody, One, Several, Settled}

-- T201 and the interval; whether all terminals are to be asked as soon as possible, and the moment
-- at which they are asked at the latest; the moment by which the answers have arrived, until they
-- are judged; and for each TEI of 0 to 126 whether a frame of its links was discarded, and the
-- answers
pub record AuditState : Type 0 where
  pub t201 : ℕ
  pub interval : ℕ
  pub is_requested : Bool
  pub next_at : ℕ
  pub answered_by : Option ℕ
  pub discarded : List Bool
  pub answers : List Answers

abbrev pub new_audit : ℕ → ℕ → AuditState
new_audit t201 interval = record {
  t201 = t201;
  interval = interval;
  is_requested = false;
  next_at = interval;
  answered_by = None;
  discarded = replicate 127 false;
  answers = replicate 127 Settled;
}

-- ---- What is recorded.

abbrev pub sees : ℕ → AuditState → AuditState
sees tei a = if nat_lt tei group_tei then record a { discarded = set a.discarded tei true } else a

abbrev pub one_more : Answers → Answers
one_more Nobody = One
one_more One = Several
one_more Several = Several
one_more Settled = Settled

abbrev pub counts_answer : ℕ → AuditState → AuditState
counts_answer tei a =
    if nat_lt tei group_tei
    then record a { answers = set a.answers tei (one_more (get_or a.answers tei Nobody)) }
    else a

-- the side removes or checks the TEI
abbrev pub settled : ℕ → AuditState → AuditState
settled tei a = record a {
  discarded = set a.discarded tei false;
  answers = set a.answers tei Settled;
}

-- this many milliseconds later
abbrev pub later : ℕ → ℕ → ℕ
later now duration = min (now + duration) (2 ^ 64 - 1)

-- all terminals are asked
abbrev pub all_asked : ℕ → AuditState → AuditState
all_asked now a = record a {
  is_requested = false;
  next_at = later now a.interval;
  answered_by = Some (later now a.t201);
  answers = replicate 127 Nobody;
}

-- ---- What is found.

-- the first TEI of n, from this one on, with this property
abbrev pub first_of : ℕ → ℕ → (ℕ → Bool) → Option ℕ
first_of zero tei test = None
first_of (suc n) tei test = if test tei then Some tei else first_of n (tei + 1) test

-- the lowest TEI of 64 to 126, which a network side assigns (5.3.1)
unfoldable pub first_automatic : (ℕ → Bool) → Option ℕ
first_automatic test = first_of 63 64 test

abbrev pub is_answered : Answers → Bool
is_answered Nobody = false
is_answered One = true
is_answered Several = true
is_answered Settled = false

-- a terminal uses the TEI, and the side does not hold it
abbrev pub is_unknown : List Bool → AuditState → ℕ → Bool
is_unknown held a tei = not (is_held held tei)
    && (get_or a.discarded tei false || is_answered (get_or a.answers tei Nobody))

abbrev pub first_unknown : List Bool → AuditState → Option ℕ
first_unknown held a = first_automatic (is_unknown held a)

-- two terminals answered for the TEI, or nobody did while no link of it is established
abbrev pub is_bad : Answers → Bool → Bool
is_bad Nobody up = not up
is_bad One up = false
is_bad Several up = true
is_bad Settled up = false

abbrev pub is_suspect : List Bool → List Bool → AuditState → ℕ → Bool
is_suspect held up a tei = is_held held tei
    && is_bad (get_or a.answers tei Nobody) (get_or up tei false)

abbrev pub suspect_after : Option ℕ → List Bool → List Bool → AuditState → Option ℕ
suspect_after None held up a = None
suspect_after (Some moment) held up a = first_automatic (is_suspect held up a)

abbrev pub first_suspect : List Bool → List Bool → AuditState → Option ℕ
first_suspect held up a = suspect_after a.answered_by held up a

-- answers may still arrive: a check would count them too
abbrev pub is_awaiting : Option ℕ → ℕ → Bool
is_awaiting None now = false
is_awaiting (Some moment) now = nat_lt now moment

-- ---- What is done next.

pub record Next : Type 0 where
  pub step : Option AuditStep
  pub after : AuditState

-- all terminals are asked if one has joined, or after the interval
abbrev pub asks : ℕ → AuditState → Next
asks now a =
    if a.is_requested || nat_le a.next_at now
    then record { step = Some CheckAll; after = all_asked now a }
    else record { step = None; after = a }

-- a suspect is checked; if there is none, the answers are judged
abbrev pub checks : Option ℕ → ℕ → AuditState → Next
checks (Some tei) now a = record { step = Some (Check tei); after = settled tei a }
checks None now a = asks now (record a { answered_by = None })

-- an unknown TEI is removed at once, and all else waits for the end of a check, and for answers
abbrev pub removes : Option ℕ → AssignerState → List Bool → ℕ → AuditState → Next
removes (Some tei) s up now a = record { step = Some (Remove tei); after = settled tei a }
removes None s up now a =
    if is_some s.check || is_awaiting a.answered_by now
    then record { step = None; after = a }
    else checks (first_suspect s.held up a) now a

abbrev pub next_step : AssignerState → List Bool → ℕ → AuditState → Next
next_step s up now a = removes (first_unknown s.held a) s up now a

abbrev pub moment_or : Option ℕ → ℕ → ℕ
moment_or None next = next
moment_or (Some moment) next = moment

abbrev pub next_moment : AuditState → Option ℕ
next_moment a = Some (moment_or a.answered_by a.next_at)
