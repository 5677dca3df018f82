-- A way to keep the premise on assignments: no TEI in use is freed, and the network knows those in
-- use.
use Rattle.std.specs.Prelude.{◌≡◌, ℕ, ◌≤◌, true, false, slice_get, Some}
use Rattle.std.specs.List.{list_any}
use Rattle.lapd_tei.specs.Assigner.{is_held, known_held}
use Rattle.lapd_sides.specs.User.{User}
use Rattle.lapd_side_events.specs.Interface.{Configs, network_behaviour}
use Rattle.lapd_two_side_laws.specs.Premises.{is_removal}
use Rattle.lapd_side_events.specs.SideView.{SideView, reaction}
use Rattle.lapd_bus_laws.specs.Assignments.{is_taken}
use Rattle.lapd_side_events.specs.Bus.{Bus, BusEvent, OfNetwork, Join, Restart, on_line_of}
use Rattle.lapd_bus_laws.specs.Holdings.{IsOfBus}

-- a terminal holds the TEI, or an assignment of it is in transit
abbrev pub IsInUse : ℕ → Bus → Type 0
IsInUse tei b = list_any (is_taken tei) b.terminals ≡ true

-- The network holds each TEI in use that it may assign, from 64 on (Q.921 3.3.4.2).
abbrev pub KnowsTeisInUse : Bus → Type 0
KnowsTeisInUse b = (tei : ℕ) → 64 ≤ tei → IsInUse tei b → is_held b.network.management.held tei ≡ true

-- A check or a removal frees a TEI only while it is not in use.
abbrev pub FreesUnused : Configs → BusEvent → Bus → Type 0
FreesUnused c (OfNetwork j event) b = (t : SideView User) → slice_get b.terminals j ≡ Some t
    → (tei : ℕ) → list_any (is_removal tei)
    (reaction (network_behaviour c.network) event (on_line_of t b)).effects.primitives ≡ true
    → list_any (is_taken tei) b.terminals ≡ false
FreesUnused c other b = Unit {0}

-- A network that restarts knows the TEIs in use.
abbrev pub RestartsKnowing : BusEvent → Bus → Type 0
RestartsKnowing (Restart known) b = (tei : ℕ) → 64 ≤ tei → IsInUse tei b
    → is_held (known_held known).held tei ≡ true
RestartsKnowing other b = Unit {0}

-- The network knows the fixed TEI of a terminal that joins, from 64 on.
abbrev pub JoinsKnown : BusEvent → Bus → Type 0
JoinsKnown (Join i new) b = (tei : ℕ) → new.fixed ≡ Some tei → 64 ≤ tei
    → is_held b.network.management.held tei ≡ true
JoinsKnown other b = Unit {0}

pub record LosesNone (c : Configs) (e : BusEvent) (b : Bus) : Type 0 where
  pub of_bus : IsOfBus e
  pub frees : FreesUnused c e b
  pub restarts : RestartsKnowing e b
  pub joins : JoinsKnown e b
