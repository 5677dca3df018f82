-- A side as a program sees it, and its events: it takes the first octets in transit to it, some of
-- these are lost, a timer expires, it executes a request, or it takes octets of someone else.
use Rattle.std.specs.Prelude.{ℕ, Bool, false, if◌then◌else◌, List, [], ◌∷◌, ◌++◌, drop, Option, Some, None, is_some, Result, Ok, Err}
use Rattle.std.specs.List.{remove}
use Rattle.lapd_timers.specs.declared.timer.Timer.{Timer}
use Rattle.lapd_timers.specs.declared.timer.Timer.TheVariants.{T200, T201, T202, T203}
use Rattle.lapd_timers.specs.Due.{deadline_of}
use Rattle.lapd_table.specs.declared.link_id.LinkId.{LinkId}
use Rattle.lapd_sides_links.specs.declared.primitive.Primitive.{Primitive}
use Rattle.lapd_sides_links.specs.declared.side_fault.SideKind.{SideKind}
use Rattle.lapd_sides_links.specs.Effects.{no_effects}
use Rattle.lapd_sides_links.specs.Links.{Linked, Served, Reaction}
use Rattle.lapd_sides.specs.declared.request.Request.{Request}
use Rattle.lapd_sides.specs.declared.request.Request.TheVariants as request

-- How a side of either kind behaves: how it takes octets, expires a timer and executes a request;
-- the link that a request refers to; its links and timers; and a link as it joins.
pub record Behaviour (S : Type 0) : Type 0 where
  pub takes : List ℕ → ℕ → S → Reaction S
  pub expires : ℕ → Timer → Option LinkId → S → Reaction S
  pub requested : Request → ℕ → S → Result (Reaction S) SideKind
  pub means : S → LinkId → LinkId
  pub served : S → Served
  pub fresh : LinkId → Linked

-- A side, all primitives that it delivered, the messages that it accepted, each with its link, and
-- the octets in transit to it and from it.
pub record SideView (S : Type 0) : Type 0 where
  pub now : S
  pub delivered : List Primitive
  pub given : List (LinkId × List ℕ)
  pub incoming : List (List ℕ)
  pub outgoing : List (List ℕ)

-- `now` is in milliseconds; octets are lost by their position, counted from 0. A side overhears
-- octets that are not in transit to it here: on a bus those of another terminal.
pub data SideEvent : Type 0 where
  Take : (now : ℕ) → SideEvent
  Lose : (at : ℕ) → SideEvent
  Expire : (timer : Timer) → (of : Option LinkId) → (now : ℕ) → SideEvent
  Ask : (request : Request) → (now : ℕ) → SideEvent
  Overhear : (octets : List ℕ) → (now : ℕ) → SideEvent

-- ---- How the side reacts.

abbrev pub unmoved : {S : Type 0} → S → Reaction S
unmoved s = record { after = s; effects = no_effects }

abbrev pub takes_first : {S : Type 0} → Behaviour S → ℕ → List (List ℕ) → S → Reaction S
takes_first w now [] s = unmoved s
takes_first w now (octets ∷ rest) s = w.takes octets now s

-- A timer expires only if it runs, due or not: T200 and T203 of a link, and any timer of TEI
-- management.
abbrev pub runs_on : Timer → Option Linked → Bool
runs_on timer None = false
runs_on timer (Some l) = is_some (deadline_of timer l.timers)

abbrev pub may_expire : Timer → Option LinkId → Served → Bool
may_expire timer None s = is_some (deadline_of timer s.timers)
may_expire T200 (Some id) s = runs_on T200 (s.links id)
may_expire T203 (Some id) s = runs_on T203 (s.links id)
may_expire T201 (Some id) s = false
may_expire T202 (Some id) s = false

-- a refusal changes nothing
abbrev pub or_unmoved : {S : Type 0} → S → Result (Reaction S) SideKind → Reaction S
or_unmoved s (Ok a) = a
or_unmoved s (Err kind) = unmoved s

abbrev pub reaction : {S : Type 0} → Behaviour S → SideEvent → SideView S → Reaction S
reaction w (Take now) v = takes_first w now v.incoming v.now
reaction w (Lose at) v = unmoved v.now
reaction w (Overhear octets now) v = w.takes octets now v.now
reaction w (Expire timer of now) v =
    if may_expire timer of (w.served v.now) then w.expires now timer of v.now else unmoved v.now
reaction w (Ask request now) v = or_unmoved v.now (w.requested request now v.now)

-- ---- The rest of an event.

-- the octets that stay in transit to the side
abbrev pub left : SideEvent → List (List ℕ) → List (List ℕ)
left (Take now) line = drop 1 line
left (Lose at) line = remove line at
left other line = line

-- the message, if the side accepted it
abbrev pub if_granted : {S : Type 0} → LinkId → List ℕ → Result (Reaction S) SideKind
    → List (LinkId × List ℕ)
if_granted id message (Ok a) = (id, message) ∷ []
if_granted id message (Err kind) = []

abbrev pub accepted_by : {S : Type 0} → Behaviour S → Request → ℕ → S → List (LinkId × List ℕ)
accepted_by w (request.Give id message) now s =
    if_granted (w.means s id) message.items (w.requested (request.Give id message) now s)
accepted_by w other now s = []

abbrev pub accepted : {S : Type 0} → Behaviour S → SideEvent → SideView S → List (LinkId × List ℕ)
accepted w (Ask request now) v = accepted_by w request now v.now
accepted w other v = []

unfoldable pub does : {S : Type 0} → Behaviour S → SideEvent → SideView S → SideView S
does w event v = record {
  now = (reaction w event v).after;
  delivered = v.delivered ++ (reaction w event v).effects.primitives;
  given = v.given ++ accepted w event v;
  incoming = left event v.incoming;
  outgoing = v.outgoing ++ (reaction w event v).effects.frames;
}
