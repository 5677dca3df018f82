-- Worked runs of a user side in which nothing, or one frame, arrives. They reach the bounds of
-- every_request_is_answered.
use Rattle.std.specs.Prelude.{ℕ, List, [], ◌∷◌, ◌++◌, Option, Some, None}
use Rattle.rand_pcg.specs.Pcg.{pcg32}
use Rattle.lapd_timers.specs.declared.timer.Timer.TheVariants.{T200, T202}
use Rattle.lapd_frame.specs.declared.Sapi.TheVariants.{Call}
use Rattle.lapd_frame.specs.declared.Side.TheVariants as side
use Rattle.lapd_frame.specs.Frame.{spelling}
use Rattle.lapd_tei.specs.Message.{frame_of_message}
use Rattle.lapd_tei.specs.Out.{assigned}
use Rattle.lapd_sides_links.specs.declared.primitive.Primitive.{Primitive}
use Rattle.lapd_sides_links.specs.Links.{Reaction, of_sapi}
use Rattle.lapd_sides.specs.declared.request.Request.{Request}
use Rattle.lapd_sides.specs.declared.request.Request.TheVariants as request
use Rattle.lapd_sides.specs.User.{User, advanced, next_reference, user_requested}
use Rattle.lapd_sides.specs.Worked as sides
use Rattle.lapd_two_side_laws.specs.Answers.{after_request}
use Rattle.lapd_two_side_laws.specs.ExactTimers.{SideStep}
use Rattle.lapd_side_events.specs.Interface.{user_behaviour}
use Rattle.lapd_two_side_laws.specs.NewLinks.{user_after}
use Rattle.lapd_two_side_laws.specs.Schedule.{call}
use Rattle.lapd_side_events.specs.SideView.{SideEvent, Take, Expire, Ask, or_unmoved}

-- a step before which nothing arrives
abbrev pub alone : SideEvent → SideStep
alone event = record { arrives = []; event = event }

-- T200 of call control expires at these moments, and T202 of TEI management
abbrev pub t200_at : List ℕ → List SideStep
t200_at [] = []
t200_at (now ∷ moments) = alone (Expire T200 (Some call) now) ∷ t200_at moments

abbrev pub t202_at : List ℕ → List SideStep
t202_at [] = []
t202_at (now ∷ moments) = alone (Expire T202 None now) ∷ t202_at moments

-- these octets arrive and are received
abbrev pub arriving : List ℕ → ℕ → SideStep
arriving octets now = record { arrives = octets ∷ []; event = Take now }

-- a user side after these steps, with a fixed TEI or with none
abbrev pub user_with : Option ℕ → List SideStep → User
user_with fixed before = user_after sides.both_sapis fixed sides.random before

-- a request at 0 ms
abbrev pub requested : Request → User → Reaction User
requested request s = or_unmoved s (user_requested sides.both_sapis request 0 s)

-- the primitives of the request, and of the steps after it
abbrev pub primitives_of_run : Reaction User → List SideStep → List Primitive
primitives_of_run a side_steps =
    a.effects.primitives ++ (after_request (user_behaviour sides.both_sapis) a side_steps).delivered

-- ---- The link is requested, and the peer is silent.

abbrev pub establishing : Reaction User
establishing = requested (request.Establish call) (user_with (Some 64) [])

abbrev pub three_expiries : List SideStep
three_expiries = t200_at (1000 ∷ 2000 ∷ 3000 ∷ [])

-- each expiry is 10 ms late
abbrev pub three_late_expiries : List SideStep
three_late_expiries = t200_at (1010 ∷ 2020 ∷ 3030 ∷ [])

-- ---- The release is requested while the link is being established. The SABME is answered at the
-- last moment, and the DISC is not.

abbrev pub releasing : Reaction User
releasing = requested (request.Release call)
    (user_with (Some 64) (alone (Ask (request.Establish call) 0) ∷ []))

abbrev pub six_expiries : List SideStep
six_expiries = t200_at (1000 ∷ 2000 ∷ 3000 ∷ [])
    ++ arriving (0x00 ∷ 0x81 ∷ 0x73 ∷ []) 4000 ∷ t200_at (5000 ∷ 6000 ∷ 7000 ∷ [])

-- ---- The link is requested without a TEI. The third request for a TEI is answered at the last
-- moment, and the SABME is not.

abbrev pub seeking : Reaction User
seeking = requested (request.Establish (of_sapi Call 0)) (user_with None [])

-- the reference of the third request
abbrev pub third_reference : ℕ
third_reference = next_reference (advanced (pcg32 (advanced (pcg32 sides.random))))

abbrev pub assignment : List ℕ
assignment = spelling side.Network (frame_of_message (assigned third_reference 64))

abbrev pub late_assignment : List SideStep
late_assignment = t202_at (2000 ∷ 4000 ∷ [])
    ++ arriving assignment 6000 ∷ t200_at (7000 ∷ 8000 ∷ 9000 ∷ [])

-- ---- Each premise is needed.

-- Layer 3 withdraws the establishment at once, and T200 expires N200 + 1 times.
abbrev pub withdrawing : List SideStep
withdrawing = alone (Ask (request.Release call) 0) ∷ t200_at (1000 ∷ 2000 ∷ 3000 ∷ 4000 ∷ [])

-- The link is requested at 5 s, and again at 0 s.
abbrev pub backwards : Reaction User
backwards = requested (request.Establish call)
    (user_with (Some 64) (alone (Ask (request.Establish call) 5000) ∷ []))
