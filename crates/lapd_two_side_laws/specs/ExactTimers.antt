-- On every link of a side, each timer runs exactly when the link's end requires it. A link that
-- lacked its timer would hang forever.
use Rattle.std.specs.Prelude.{◌≡◌, ◌⊎◌, ℕ, ◌<◌, ◌≤◌, List, [], ◌∷◌, ◌++◌, Option, Some, is_some}
use Rattle.std.specs.List.{All}
use Rattle.lapd_timers.specs.declared.timer.Timer.{Timer}
use Rattle.lapd_timers.specs.declared.timer.Timer.TheVariants.{T200, T203}
use Rattle.lapd_timers.specs.Due.{deadline_of}
use Rattle.lapd_supervision.specs.StateVariables.{AreTags}
use Rattle.lapd_link_definition.specs.End.{runs}
use Rattle.lapd_link_definition.specs.RunningTimers.{AreTimersOf, HasTimersOfState}
use Rattle.lapd_table.specs.declared.link_id.LinkId.{LinkId}
use Rattle.lapd_sides_links.specs.Links.{Linked, Links}
use Rattle.lapd_side_events.specs.Interface.{Interface, Move}
use Rattle.lapd_side_events.specs.SideView.{Behaviour, SideView, SideEvent, Overhear, does}

-- A timer has a deadline exactly when it runs at the link's end: T200 and T203 by the state, T201
-- and T202 never. V(S), V(A) and V(R) are tags.
pub record HasExactTimers (l : Linked) : Type 0 where
  pub exact : (timer : Timer) → is_some (deadline_of timer l.timers) ≡ runs timer l.end
  pub of_state : HasTimersOfState l.end
  pub numbers : AreTags l.end.window

-- every link that exists has exact timers
abbrev pub HaveExactTimers : Links → Type 0
HaveExactTimers links = (id : LinkId) (linked : Linked) → links id ≡ Some linked
    → HasExactTimers linked

-- on both sides
abbrev pub BothHaveExactTimers : Interface → Type 0
BothHaveExactTimers i = HaveExactTimers i.user.served.links
    × HaveExactTimers i.network.served.links

-- ---- Consequences: timers by state, and deadlines in time.

-- Which timers run in each state. In states 5, 6 and 8 T200 has a deadline and T203 has none. In
-- state 7 exactly one of the two has, and T203 only if all is acknowledged; if all is, either may.
-- In state 4 neither has.
abbrev pub RunByState : Linked → Type 0
RunByState l = AreTimersOf l.end.state (is_some (deadline_of T200 l.timers))
    (is_some (deadline_of T203 l.timers)) (l.end.window.vs ≡ l.end.window.va)

-- a side has a next deadline, no later than this one
pub record IsNoLaterThan (deadline : ℕ) (next : Option ℕ) : Type 0 where
  pub moment : ℕ
  pub is_next : next ≡ Some moment
  pub no_later : moment ≤ deadline

-- T200 or T203 of the link has a deadline, and its side's next deadline is no later
pub record IsWoken (l : Linked) (next : Option ℕ) : Type 0 where
  pub deadline : ℕ
  pub its : (deadline_of T200 l.timers ≡ Some deadline)
      ⊎ (deadline_of T203 l.timers ≡ Some deadline)
  pub in_time : IsNoLaterThan deadline next

-- ---- One side, whatever octets arrive.

-- a value of eight bits
abbrev pub IsOctet : ℕ → Type 0
IsOctet octet = octet < 256

abbrev pub AreOctets : List ℕ → Type 0
AreOctets octets = All IsOctet octets

-- a side overhears nothing but octets; so do both, in these moves
abbrev pub OverhearsOctets : SideEvent → Type 0
OverhearsOctets (Overhear octets now) = AreOctets octets
OverhearsOctets event = Unit {0}

abbrev pub OverhearOctets : List Move → Type 0
OverhearOctets [] = Unit {0}
OverhearOctets (move ∷ moves) = OverhearsOctets move.event × OverhearOctets moves

-- octets arrive from anyone, behind those in transit to the side; then an event of the side follows
pub record SideStep : Type 0 where
  pub arrives : List (List ℕ)
  pub event : SideEvent

abbrev pub BringsOctets : SideStep → Type 0
BringsOctets side_step = All AreOctets side_step.arrives × OverhearsOctets side_step.event

abbrev pub stepped : {S : Type 0} → Behaviour S → SideStep → SideView S → SideView S
stepped w side_step v = does w side_step.event
    (record v { incoming = v.incoming ++ side_step.arrives })

-- a list of side steps, one after another
abbrev pub stepped_by_all : {S : Type 0} → Behaviour S → List SideStep → SideView S → SideView S
stepped_by_all w [] v = v
stepped_by_all w (side_step ∷ side_steps) v = stepped_by_all w side_steps (stepped w side_step v)

-- a newly created side, with nothing delivered, accepted or in transit
abbrev pub new_view : {S : Type 0} → S → SideView S
new_view s = record { now = s; delivered = []; given = []; incoming = []; outgoing = [] }
