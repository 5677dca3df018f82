-- Worked runs: a link whose frames take half of T200 exactly, and runs that keep all premises but
-- one.
use Rattle.std.specs.Prelude.{ℕ, List, [], ◌∷◌, ◌++◌, Some, Vec}
use Rattle.std.specs.declared.alloc.Global.{Global}
use Rattle.lapd_timers.specs.declared.timer.Timer.TheVariants.{T200, T203}
use Rattle.lapd_timers.specs.Due.{last_moment}
use Rattle.lapd_timers.specs.Durations.{standard_lengths}
use Rattle.lapd_sides.specs.declared.request.Request.TheVariants as request
use Rattle.lapd_sides.specs.Network.{new_network}
use Rattle.lapd_sides.specs.User.{new_user}
use Rattle.lapd_sides.specs.Worked as sides
use Rattle.lapd_sides_links.specs.declared.config.Config.{Config}
use Rattle.lapd_side_events.specs.Interface.{Configs, Interface, Move, new_interface}
use Rattle.lapd_side_events.specs.SideView.{Take, Lose, Expire, Ask}
use Rattle.lapd_two_side_laws.specs.Schedule.{by_user, by_network, call}
use Rattle.lapd_clock_laws.specs.InTime.{Premise, IsInOrder, IsInRange, IsPrompt, TakesFirst, IsWhenDue}

-- T200 is 1 s, and each frame takes 500 ms at most
abbrev pub half_of_t200 : ℕ
half_of_t200 = 500

-- ---- Frames take half of T200.

-- The first SABME is lost. T200 expires at 1 s, and the answer to the second arrives when T200 is
-- due again.
abbrev pub comes_up : List Move
comes_up = by_user (Ask (request.Establish call) 0) ∷ by_network (Lose 0)
    ∷ by_user (Expire T200 (Some call) 1000) ∷ by_network (Take 1500) ∷ by_user (Take 2000) ∷ []

-- A message is received, and its acknowledgement is lost. T200 expires, and the answer to the
-- enquiry arrives when T200 is due again.
abbrev pub recovers : Vec ℕ Global → List Move
recovers message = by_user (Ask (request.Give call message) 2000) ∷ by_network (Take 2500)
    ∷ by_user (Lose 0) ∷ by_user (Expire T200 (Some call) 3000) ∷ by_network (Take 3500)
    ∷ by_user (Take 4000) ∷ []

abbrev pub at_half : Vec ℕ Global → List Move
at_half message = comes_up ++ recovers message

-- ---- T200 expires while the answer to the SABME is in transit.

-- The network takes the SABME at `taken`, T200 of the user expires at `expired`, and the answer to
-- the SABME arrives at `arrived`. The second SABME starts another establishment at the network, and
-- the user takes the first establishment's message for the second's.
abbrev pub hasty_at : ℕ → ℕ → ℕ → Vec ℕ Global → Vec ℕ Global → List Move
hasty_at taken expired arrived first second = by_user (Ask (request.Establish call) 0)
    ∷ by_network (Take taken) ∷ by_network (Ask (request.Give call first) taken)
    ∷ by_user (Expire T200 (Some call) expired) ∷ by_network (Take expired)
    ∷ by_network (Ask (request.Give call second) expired)
    ∷ by_user (Take arrived) ∷ by_user (Take arrived) ∷ by_network (Take arrived) ∷ []

-- T200 is 999 ms, one less than twice the time of a frame
abbrev pub hurried : Config
hurried = record sides.both_sapis { durations = record standard_lengths { t200 = 999 } }

abbrev pub hurried_configs : Configs
hurried_configs = record { user = hurried; network = hurried }

abbrev pub hurried_at_first : Interface
hurried_at_first = new_interface (new_user hurried (Some 64) sides.random)
    (new_network hurried (64 ∷ []))

-- ---- All premises but one.

abbrev pub AllButPrompt : ℕ → Premise
AllButPrompt longest side event s k = IsInOrder event k × (IsInRange longest event k
    × (TakesFirst longest side call event k × IsWhenDue call event s))

abbrev pub AllButTakesFirst : ℕ → Premise
AllButTakesFirst longest side event s k = IsInOrder event k × (IsInRange longest event k
    × (IsPrompt longest side call event k × IsWhenDue call event s))

abbrev pub AllButWhenDue : ℕ → Premise
AllButWhenDue longest side event s k = IsInOrder event k × (IsInRange longest event k
    × (IsPrompt longest side call event k × TakesFirst longest side call event k))

abbrev pub AllButInOrder : ℕ → Premise
AllButInOrder longest side event s k = IsInRange longest event k
    × (IsPrompt longest side call event k × (TakesFirst longest side call event k
    × IsWhenDue call event s))

abbrev pub AllButInRange : ℕ → Premise
AllButInRange longest side event s k = IsInOrder event k
    × (IsPrompt longest side call event k × (TakesFirst longest side call event k
    × IsWhenDue call event s))

-- ---- The clock goes back, or ends.

-- T203 of the established link expires at 10 s, and the user polls. Then it establishes the link
-- anew at 0 s, the SABME is lost, and T200 expires at 1 s, while the poll of 10 s is in transit.
abbrev pub turned_back : List Move
turned_back = by_user (Ask (request.Establish call) 0) ∷ by_network (Take 0) ∷ by_user (Take 0)
    ∷ by_user (Expire T203 (Some call) 10000) ∷ by_user (Ask (request.Establish call) 0)
    ∷ by_network (Lose 1) ∷ by_user (Expire T200 (Some call) 1000) ∷ []

-- At the greatest moment T200 is due at once.
abbrev pub at_the_end : List Move
at_the_end = by_user (Ask (request.Establish call) last_moment)
    ∷ by_user (Expire T200 (Some call) last_moment) ∷ []
