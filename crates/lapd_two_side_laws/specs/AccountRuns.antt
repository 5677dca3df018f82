-- Worked runs of a user side, with TEI 64, that accounts for the messages of call control.
use Rattle.std.specs.Prelude.{ℕ, List, [], ◌∷◌, ◌++◌, Some, Vec}
use Rattle.std.specs.declared.alloc.Global.{Global}
use Rattle.lapd_sides.specs.declared.request.Request.TheVariants as request
use Rattle.lapd_sides.specs.User.{User}
use Rattle.lapd_sides.specs.Worked as sides
use Rattle.lapd_two_side_laws.specs.Accounts.{since}
use Rattle.lapd_two_side_laws.specs.AnswerRuns.{alone, arriving, user_with}
use Rattle.lapd_two_side_laws.specs.ExactTimers.{SideStep}
use Rattle.lapd_side_events.specs.Interface.{user_behaviour}
use Rattle.lapd_two_side_laws.specs.Schedule.{call}
use Rattle.lapd_side_events.specs.SideView.{SideView, Ask}

-- the side after these steps, since its creation
abbrev pub run_of : List SideStep → SideView User
run_of side_steps = since (user_behaviour sides.both_sapis) (user_with (Some 64) []) side_steps

-- layer 3 requests the link, and the UA arrives
abbrev pub established : List SideStep
established = alone (Ask (request.Establish call) 0) ∷ arriving (0x00 ∷ 0x81 ∷ 0x73 ∷ []) 0 ∷ []

-- layer 3 submits this message
abbrev pub giving : Vec ℕ Global → SideStep
giving message = alone (Ask (request.Give call message) 0)

-- RR with N(R)=1 arrives
abbrev pub one_acknowledged : SideStep
one_acknowledged = arriving (0x00 ∷ 0x81 ∷ 0x01 ∷ 0x02 ∷ []) 0

-- Layer 3 submits two messages, and the first is acknowledged. Layer 3 requests the link again, by
-- which the second is dropped, and submits a third.
abbrev pub one_of_each : Vec ℕ Global → Vec ℕ Global → Vec ℕ Global → List SideStep
one_of_each first second third = established
    ++ giving first ∷ giving second ∷ one_acknowledged ∷ established ++ giving third ∷ []

-- ---- Each premise is needed.

-- then the terminal gives up its TEI
abbrev pub then_removed : Vec ℕ Global → Vec ℕ Global → Vec ℕ Global → List SideStep
then_removed first second third = one_of_each first second third
    ++ alone (Ask (request.Remove 64) 0) ∷ []

-- layer 3 submits a message before the UA, and the side refuses it
abbrev pub too_early : Vec ℕ Global → List SideStep
too_early message = alone (Ask (request.Establish call) 0) ∷ giving message ∷ []
