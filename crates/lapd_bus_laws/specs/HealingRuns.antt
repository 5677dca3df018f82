-- Worked runs of a check: it heals a TEI that two terminals hold, and each premise is needed.
use Rattle.std.specs.Prelude.{List, [], ◌∷◌, ◌++◌, None}
use Rattle.lapd_timers.specs.declared.timer.Timer.TheVariants.{T201}
use Rattle.lapd_sides.specs.declared.request.Request.TheVariants as request
use Rattle.lapd_sides.specs.Worked as sides
use Rattle.lapd_two_side_laws.specs.Schedule.{configs}
use Rattle.lapd_side_events.specs.SideView.{Take, Lose, Expire, Ask}
use Rattle.lapd_bus_laws.specs.Assignments.{IsHeldOnce}
use Rattle.lapd_side_events.specs.Bus.{Bus, BusEvent, OfTerminal, OfNetwork, Join, Restart, new_bus, after_events}
use Rattle.lapd_bus_laws.specs.Healing.{DeliversMessages, CarriesCheckOn, IsChecked, IsAtRest, ReferencesDiffer}
use Rattle.lapd_bus_laws.specs.Holdings.{JoinsWithFree, IsOfBus}
use Rattle.lapd_bus_laws.specs.Links.{Throughout}
use Rattle.lapd_bus_laws.specs.Runs.{waiting_terminal, other_random, with_fixed_tei, same_reference}

-- two terminals with TEI 64, which the network does not know
abbrev pub doubled : Bus
doubled = new_bus configs [] (with_fixed_tei 64 sides.random ∷ with_fixed_tei 64 other_random ∷ [])

-- a terminal with TEI 64, which the network does not know, and one without a TEI
abbrev pub unknown : Bus
unknown = new_bus configs [] (with_fixed_tei 64 sides.random ∷ waiting_terminal other_random ∷ [])

abbrev pub begins : BusEvent
begins = OfNetwork 0 (Ask (request.Check 64) 0)

abbrev pub times_out : BusEvent
times_out = OfNetwork 0 (Expire T201 None 1000)

abbrev pub both_take : List BusEvent
both_take = OfTerminal 0 (Take 0) ∷ OfTerminal 1 (Take 0) ∷ []

-- ---- A check heals the TEI.

-- Both respond. T201 expires, and both take the two Identity removes.
abbrev pub both_leave : List BusEvent
both_leave = both_take ++ OfNetwork 0 (Take 0) ∷ OfNetwork 1 (Take 0) ∷ times_out
    ∷ both_take ++ both_take

-- The first requests a TEI and obtains the same one. The second takes the assignment too.
abbrev pub one_obtains : List BusEvent
one_obtains = OfTerminal 0 (Ask request.AskTei 1000) ∷ OfNetwork 0 (Take 1000) ∷ both_take

abbrev pub healed : List BusEvent
healed = begins ∷ both_leave ++ one_obtains

-- Of one terminal that holds the TEI, a check takes nothing. The network assigns the TEI to the
-- other one, since it does not know it, and the first gives it up.
abbrev pub one_responds : List BusEvent
one_responds = both_take ++ OfNetwork 0 (Take 0) ∷ times_out ∷ []

abbrev pub other_obtains : List BusEvent
other_obtains = OfTerminal 1 (Ask request.AskTei 1000) ∷ OfNetwork 1 (Take 1000)
    ∷ OfTerminal 1 (Take 1000) ∷ []

abbrev pub assigned_anew : List BusEvent
assigned_anew = begins ∷ one_responds ++ other_obtains ++ OfTerminal 0 (Take 1000) ∷ []

-- ---- Each premise is needed.

-- two terminals hold the TEI, with all other premises of the end
pub record IsNotHealed (events : List BusEvent) (b : Bus) : Type 0 where
  pub checked : IsChecked configs 64 events b
  pub rest : IsAtRest 64 (after_events configs events b)
  pub references : ReferencesDiffer (after_events configs events b)
  pub twice : IsHeldOnce 64 (after_events configs events b) → ⊥

-- each event keeps all premises but one
abbrev pub HealsBut : (BusEvent → Bus → Type 0) → (BusEvent → Bus → Type 0) → List BusEvent → Bus
    → Type 0
HealsBut P Q events b = Throughout configs (λ e b. IsOfBus e) events b
    × Throughout configs P events b × Throughout configs Q events b

abbrev pub HealsButDelivery : List BusEvent → Bus → Type 0
HealsButDelivery events b = HealsBut (CarriesCheckOn 64) JoinsWithFree events b

abbrev pub HealsButCheck : List BusEvent → Bus → Type 0
HealsButCheck events b = HealsBut (DeliversMessages 64) JoinsWithFree events b

abbrev pub HealsButJoining : List BusEvent → Bus → Type 0
HealsButJoining events b = HealsBut (DeliversMessages 64) (CarriesCheckOn 64) events b

-- The second terminal's check request is lost, so one response counts.
abbrev pub request_lost : List BusEvent
request_lost = begins ∷ OfTerminal 0 (Take 0) ∷ OfTerminal 1 (Lose 0) ∷ OfNetwork 0 (Take 0)
    ∷ times_out ∷ []

-- T201 expires while the second response is in transit.
abbrev pub too_early : List BusEvent
too_early = begins ∷ both_take ++ OfNetwork 0 (Take 0) ∷ times_out ∷ []

-- The network restarts during the check.
abbrev pub given_up : List BusEvent
given_up = begins ∷ Restart [] ∷ both_take

-- Another terminal joins with the TEI after its predecessor took the check request.
abbrev pub joins_during : List BusEvent
joins_during = begins ∷ both_take ++ Join 1 (with_fixed_tei 64 other_random)
    ∷ OfNetwork 0 (Take 0) ∷ times_out ∷ []

-- No terminal holds the TEI, and nobody responds to either request. Then two terminals request by
-- the same reference, and both take the assignment.
abbrev pub nobody_responds : List BusEvent
nobody_responds = begins ∷ both_take ++ times_out ∷ both_take ++ times_out ∷ []

abbrev pub same_then : List BusEvent
same_then = nobody_responds ++ same_reference

-- The check has begun; or two have responded, and the removals are in transit; or the network
-- assigned the TEI, and the first terminal has yet to take the assignment.
abbrev pub begun : List BusEvent
begun = begins ∷ both_take

abbrev pub before_removals : List BusEvent
before_removals = begins ∷ both_take ++ OfNetwork 0 (Take 0) ∷ OfNetwork 1 (Take 0)
    ∷ times_out ∷ []

abbrev pub before_rest : List BusEvent
before_rest = begins ∷ one_responds ++ other_obtains
