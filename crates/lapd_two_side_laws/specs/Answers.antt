-- Layer 3's requests to a side, their answers among the primitives of a link, and how often T200 of
-- the link expires.
use Rattle.std.specs.Prelude.{◌≡◌, ℕ, ◌+◌, ◌-◌, ◌*◌, ◌≤◌, ◌==◌, ◌&&◌, Bool, true, false, List, [], ◌∷◌, ◌++◌, Some, None}
use Rattle.std.specs.List.{list_any, count_by}
use Rattle.lapd_timers.specs.declared.timer.Timer.TheVariants.{T200, T202}
use Rattle.lapd_frame.specs.declared.Sapi.{Sapi}
use Rattle.lapd_frame.specs.declared.Side.{Side}
use Rattle.lapd_frame.specs.declared.Side.TheVariants as side
use Rattle.lapd_frame.specs.Address.{sapi_value}
use Rattle.lapd_table.specs.declared.link_id.LinkId.{LinkId}
use Rattle.lapd_table.specs.LinkId.{id_eq}
use Rattle.lapd_sides_links.specs.declared.primitive.Primitive.{Primitive}
use Rattle.lapd_sides_links.specs.declared.primitive.Primitive.TheVariants.{Of, Management}
use Rattle.lapd_sides_links.specs.declared.primitive.What.{What}
use Rattle.lapd_sides_links.specs.declared.primitive.What.TheVariants as what
use Rattle.lapd_sides_links.specs.Expiries.{IsQuietBefore}
use Rattle.lapd_sides_links.specs.Links.{Reaction, Served}
use Rattle.lapd_sides.specs.declared.request.Request.{Request}
use Rattle.lapd_sides.specs.declared.request.Request.TheVariants as request
use Rattle.lapd_two_side_laws.specs.EndAnswers.{Asked, Establishment, Withdrawal, Clearing, may_release}
use Rattle.lapd_two_side_laws.specs.ExactTimers.{SideStep, stepped, stepped_by_all, new_view}
use Rattle.lapd_two_side_laws.specs.Primitives.{link_primitives}
use Rattle.lapd_side_events.specs.SideView.{Behaviour, SideView, SideEvent, Take, Lose, Expire, Ask, Overhear}

-- the first request
abbrev pub asks : Asked → LinkId → Request
asks Establishment id = request.Establish id
asks Withdrawal id = request.Establish id
asks Clearing id = request.Release id

-- the primitives that answer (`is_answer` of the outputs of an end)
abbrev pub answers : Asked → What → Bool
answers Establishment what.Confirmed = true
answers Establishment what.Released = true
answers Withdrawal what.Confirmed = true
answers Withdrawal what.Released = true
answers Withdrawal what.ReleaseConfirm = true
answers Clearing what.ReleaseConfirm = true
answers asked other = false

abbrev pub HasAnswer : Asked → LinkId → List Primitive → Type 0
HasAnswer asked id primitives = list_any (answers asked) (link_primitives id primitives) ≡ true

-- the primitives of a SAPI that answer, with any TEI: without a TEI they name the group TEI
abbrev pub answers_for : Asked → Sapi → Primitive → Bool
answers_for asked sapi (Of id w) = (sapi_value sapi == sapi_value id.sapi) && answers asked w
answers_for asked sapi (Management outcome) = false

abbrev pub HasAnswerFor : Asked → Sapi → List Primitive → Type 0
HasAnswerFor asked sapi primitives = list_any (answers_for asked sapi) primitives ≡ true

-- ---- Events after the request.

abbrev pub is_t200_of : LinkId → SideEvent → Bool
is_t200_of id (Expire T200 (Some other) now) = id_eq id other
is_t200_of id event = false

-- how often T200 of the link expires
abbrev pub expiries_of : LinkId → List SideStep → ℕ
expiries_of id side_steps = count_by (λ side_step. is_t200_of id side_step.event) side_steps

-- how often T202 of TEI management expires
abbrev pub is_t202 : SideEvent → Bool
is_t202 (Expire T202 None now) = true
is_t202 event = false

abbrev pub t202_expiries : List SideStep → ℕ
t202_expiries side_steps = count_by (λ side_step. is_t202 side_step.event) side_steps

-- A request of the network side names its link. On a user side only the SAPI counts, since a
-- terminal has one TEI.
abbrev pub concerns : Side → LinkId → LinkId → Bool
concerns side.Network id other = id_eq id other
concerns side.User id other = sapi_value id.sapi == sapi_value other.sapi

abbrev pub requests_release : Side → LinkId → SideEvent → Bool
requests_release side id (Ask (request.Release other) now) = concerns side id other
requests_release side id event = false

-- layer 3 requests no release of the link, unless it may
abbrev pub KeepsRequest : Asked → Side → LinkId → List SideStep → Type 0
KeepsRequest asked side id side_steps = may_release asked ≡ false
    → list_any (λ side_step. requests_release side id side_step.event) side_steps ≡ false

-- ---- In time.

-- each event of a run has this property, with the side before it
abbrev pub Throughout : {S : Type 0} → Behaviour S → (SideEvent → S → Type 0) → List SideStep
    → SideView S → Type 0
Throughout w P [] v = Unit {0}
Throughout w P (side_step ∷ side_steps) v = P side_step.event v.now
    × Throughout w P side_steps (stepped w side_step v)

-- at this moment or before
abbrev pub IsBy : ℕ → SideEvent → Type 0
IsBy moment (Take now) = now ≤ moment
IsBy moment (Lose at) = Unit {0}
IsBy moment (Expire timer of now) = now ≤ moment
IsBy moment (Ask request now) = now ≤ moment
IsBy moment (Overhear octets now) = now ≤ moment

-- At this moment no timer of the side has been due for more than `late` milliseconds.
abbrev pub IsAtMostLate : ℕ → Served → ℕ → Type 0
IsAtMostLate late s now = IsQuietBefore s (now - late)

-- the same at the moment of the event
abbrev pub IsPunctual : {S : Type 0} → ℕ → Behaviour S → SideEvent → S → Type 0
IsPunctual late w (Take now) s = IsAtMostLate late (w.served s) now
IsPunctual late w (Lose at) s = Unit {0}
IsPunctual late w (Expire timer of now) s = IsAtMostLate late (w.served s) now
IsPunctual late w (Ask request now) s = IsAtMostLate late (w.served s) now
IsPunctual late w (Overhear octets now) s = IsAtMostLate late (w.served s) now

-- The most periods of T200 until the answer: one for each SABME and each DISC. T200 is started anew
-- if the DISC is sent. Each period may end late.
abbrev pub most_periods : Asked → ℕ → ℕ
most_periods Establishment n200 = n200 + 1
most_periods asked n200 = 2 * (n200 + 1)

-- the side after an accepted request and these events
abbrev pub after_request : {S : Type 0} → Behaviour S → Reaction S → List SideStep → SideView S
after_request w a side_steps = stepped_by_all w side_steps (new_view a.after)

-- an answer is among the primitives of the request, or of the events after it
abbrev pub IsAnswered : {S : Type 0} → Asked → LinkId → Behaviour S → Reaction S → List SideStep
    → Type 0
IsAnswered asked id w a side_steps = HasAnswer asked id
    (a.effects.primitives ++ (after_request w a side_steps).delivered)

-- the same with any TEI
abbrev pub IsAnsweredFor : {S : Type 0} → Asked → Sapi → Behaviour S → Reaction S → List SideStep
    → Type 0
IsAnsweredFor asked sapi w a side_steps = HasAnswerFor asked sapi
    (a.effects.primitives ++ (after_request w a side_steps).delivered)

-- Every timer of the side is expired at most `late` milliseconds after it is due, up to this
-- moment. If `late` is 0, it is expired when it is due.
pub record AreExpiredInTime {S : Type 0} (late : ℕ) (w : Behaviour S) (a : Reaction S)
    (side_steps : List SideStep) (moment : ℕ) : Type 0 where
  pub at_each : Throughout w (IsPunctual late w) side_steps (new_view a.after)
  pub at_last : IsAtMostLate late (w.served (after_request w a side_steps).now) moment
