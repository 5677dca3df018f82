-- Worked runs: a link that recovers in time, and runs that keep all premises but one.
use Rattle.std.specs.Prelude.{◌≡◌, ℕ, ◌+◌, ◌<◌, ◌≤◌, Bool, true, false, List, [], ◌∷◌, ◌++◌, Some}
use Rattle.lapd_timers.specs.declared.timer.Timer.TheVariants.{T200, T203}
use Rattle.lapd_timers.specs.Durations.{standard_lengths}
use Rattle.lapd_frame.specs.declared.Sapi.TheVariants.{Call}
use Rattle.lapd_frame.specs.declared.Side.TheVariants as side
use Rattle.lapd_link_definition.specs.Parameters.{basic_parameters}
use Rattle.lapd_recovery_laws.specs.InTime.{Waits}
use Rattle.lapd_sides.specs.declared.request.Request.TheVariants as request
use Rattle.lapd_sides.specs.Worked as sides
use Rattle.lapd_sides_links.specs.declared.config.Config.{Config}
use Rattle.lapd_side_events.specs.Interface.{Configs, Interface, Move, run, side_does}
use Rattle.lapd_side_events.specs.SideView.{SideEvent, Take, Lose, Expire, Ask}
use Rattle.lapd_two_side_laws.specs.Schedule.{by_network, by_user, call}
use Rattle.lapd_clock_laws.specs.Clock.{Clock, moment_of, new_clock}
use Rattle.lapd_clock_laws.specs.InTime.{AreSent}
use Rattle.lapd_side_recovery_laws.specs.Counts.{most_time_from, t203s_out_of_step}
use Rattle.lapd_side_recovery_laws.specs.Quiet.{ArePunctual, HaveLink, IsQuiet, IsServed, LeavesLinkThere, OfEvent, Throughout}
use Rattle.lapd_side_recovery_laws.specs.Reached.{MeetPremises, clock_of, created}

-- ---- A link whose frames take a millisecond.

-- T200 is 2 ms, T203 is 5 s, and N200 is one
abbrev pub quick : Config
quick = record sides.both_sapis {
  params0 = record (basic_parameters Call) { n200 = 1 };
  durations = record standard_lengths { t200 = 2; t203 = 5000 };
}

abbrev pub quick_configs : Configs
quick_configs = record { user = quick; network = quick }

abbrev pub quick_waits : Waits
quick_waits = record { frame = 1; t200 = 2; t203 = 5000 }

abbrev pub new_quick : Interface
new_quick = created quick_configs (Some 64) (64 ∷ []) sides.random

-- the user establishes the link, and its SABME is lost
abbrev pub sabme_lost : List Move
sabme_lost = by_user (Ask (request.Establish call) 0) ∷ by_network (Lose 0) ∷ []

abbrev pub lost : Interface
lost = run quick_configs sabme_lost new_quick

abbrev pub lost_clock : Clock
lost_clock = clock_of quick_configs sabme_lost new_quick (new_clock 0)

-- T200 expires, and the second SABME is answered. T203 expires at the network, and the poll is
-- answered.
abbrev pub polled_once : List Move
polled_once = by_user (Expire T200 (Some call) 2) ∷ by_network (Take 3) ∷ by_user (Take 4)
    ∷ by_network (Expire T203 (Some call) 5003) ∷ by_user (Take 5004) ∷ by_network (Take 5005)
    ∷ []

-- then T203 expires at the user, and its poll is answered
abbrev pub polled_twice : List Move
polled_twice = polled_once ++ by_user (Expire T203 (Some call) 10004) ∷ by_network (Take 10005)
    ∷ by_user (Take 10006) ∷ []

-- ---- Runs that keep all premises but one.

-- The answer to the second poll is lost, and then each frame of the user, until it gives up.
abbrev pub answer_lost : List Move
answer_lost = polled_once ++ by_user (Expire T203 (Some call) 10004) ∷ by_network (Take 10005)
    ∷ by_user (Lose 0) ∷ by_user (Expire T200 (Some call) 10006) ∷ by_network (Lose 0)
    ∷ by_user (Expire T200 (Some call) 10008) ∷ by_network (Lose 0)
    ∷ by_user (Expire T200 (Some call) 10010) ∷ by_network (Lose 0)
    ∷ by_user (Expire T200 (Some call) 10012) ∷ []

-- layer 3 of the user requests the release, and the DISC is still in transit
abbrev pub asks_release : List Move
asks_release = polled_twice ++ by_user (Ask (request.Release call) 12232) ∷ []

abbrev pub is_loss : SideEvent → Bool
is_loss (Lose at) = true
is_loss event = false

abbrev pub is_request : SideEvent → Bool
is_request (Ask request now) = true
is_request event = false

-- as `IsQuiet`, but events of this kind may do anything to the link
abbrev pub AllBut : (SideEvent → Bool) → OfEvent
AllBut excepted side event i k =
    (excepted event ≡ false → LeavesLinkThere quick_configs call side event i)
    × (HaveLink call (side_does quick_configs side event i)
    × ArePunctual 0 call (moment_of event k.now) i)

-- octets of the link may be lost
abbrev pub AllButLosses : OfEvent
AllButLosses side event i k = AllBut is_loss side event i k

-- layer 3 may request anything
abbrev pub AllButRequests : OfEvent
AllButRequests side event i k = AllBut is_request side event i k

abbrev pub Quiet : OfEvent
Quiet side event i k = IsQuiet 0 quick_configs call side event i k

-- at the last moment nothing is late, or timers may be
abbrev pub AtLast : Type 1
AtLast = ℕ → Interface → Clock → Type 0

abbrev pub Served : AtLast
Served now i k = IsServed 1 0 now call i k

abbrev pub AllButTimers : AtLast
AllButTimers now i k = AreSent side.Network call (λ at. now ≤ at + 1) k.to_user
    × AreSent side.User call (λ at. now ≤ at + 1) k.to_network

-- These moves, after the loss of the SABME, meet the premises of a safe link. Each event and the
-- last moment have these properties, and more time than suffices has passed.
pub record Meet (P : OfEvent) (Q : AtLast) (moves : List Move) (now : ℕ) : Type 0 where
  pub premises : MeetPremises 1 quick_configs call moves lost lost_clock
  pub each : Throughout quick_configs P moves lost lost_clock
  pub last : Q now (run quick_configs moves lost)
      (clock_of quick_configs moves lost lost_clock)
  pub enough : lost_clock.now + most_time_from quick_waits 1
      (t203s_out_of_step quick_configs call moves lost) call lost < now
