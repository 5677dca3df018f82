-- The worked schedule and its refusals, computed in both readings.
use Rattle.std.proofs.Common.{true, false, ◌≡◌, [], ◌∷◌, ◌++◌, Err, refl}
use Rattle.lapd_frame.specs.declared.Side.TheVariants as side
use Rattle.lapd_frame.specs.declared.Role.TheVariants.{Command, Answer}
use Rattle.lapd_frame.specs.declared.Control.TheVariants.{I, Rr, Rnr, Disc}
use Rattle.lapd_mod128.specs.Counting.{Reading, Whole, Tagged}
use Rattle.lapd_link_definition.specs.Procedures.{start}
use Rattle.lapd_link_definition.specs.declared.event.LinkFault.TheVariants.{NotEstablished}
use Rattle.lapd_pair_laws.specs.Histories.{unit_frame}
use Rattle.lapd_pair_laws.specs.Line.{without_info}
use Rattle.lapd_pair_laws.specs.Move.{Give, Release, Deliver, Lose, Expire200, Expire203, Busy, UnitData, NothingThere, NotRunning, NotYet, Refused}
use Rattle.lapd_pair_laws.specs.Safe.{AreSafe}
use Rattle.lapd_pair_laws.specs.Schedule as worked
use Rattle.lapd_pair_laws.specs.Schedule.{figures, of_user, of_network, establishing, losing, schedule, restarting}
use Rattle.lapd_pair_laws.specs.World.{happens, run, left}
use Rattle.lapd_pair_laws.proofs.Safety.{user_is_safe, network_is_safe}
use Rattle.lapd_pair_laws.proofs.ComputedRun.{computed_run}

-- the enquiry is in transit
pub recovering_user : (r : Reading)
    → figures (run r (establishing ++ losing) worked.start).user ≡ worked.user_in_recovery
unfolding computed_run
recovering_user Whole = refl
recovering_user Tagged = refl

-- the schedule is over
pub ending_user : (r : Reading) → figures (run r schedule worked.start).user ≡ worked.user_at_end
unfolding computed_run
ending_user Whole = refl
ending_user Tagged = refl

-- likewise
pub ending_network : (r : Reading)
    → figures (run r schedule worked.start).network ≡ worked.network_at_end
unfolding computed_run
ending_network Whole = refl
ending_network Tagged = refl

-- the line is empty
pub ending_lines : (r : Reading)
    → (run r schedule worked.start).to_user ++ (run r schedule worked.start).to_network ≡ []
unfolding computed_run
ending_lines Whole = refl
ending_lines Tagged = refl

-- and no message is left
pub ending_left : (r : Reading) → left (run r schedule worked.start) ≡ 0
unfolding computed_run
ending_left Whole = refl
ending_left Tagged = refl

-- a restart
pub restarted_user : (r : Reading)
    → figures (run r restarting worked.start).user ≡ worked.user_restarted
unfolding computed_run
restarted_user Whole = refl
restarted_user Tagged = refl

-- which empties the line
pub restarted_lines : (r : Reading)
    → (run r restarting worked.start).to_user ++ (run r restarting worked.start).to_network ≡ []
unfolding computed_run
restarted_lines Whole = refl
restarted_lines Tagged = refl

-- unit data, in state 4
pub units_pass : (r : Reading)
    → (run r (of_user (UnitData (9 ∷ [])) ∷ of_network Deliver ∷ [])
    worked.start).network.history.units ≡ (9 ∷ []) ∷ []
unfolding computed_run
units_pass Whole = refl
units_pass Tagged = refl

-- P1
pub nothing_to_deliver : (r : Reading) → happens r (of_user Deliver) worked.start ≡ Err NothingThere
unfolding computed_run
nothing_to_deliver Whole = refl
nothing_to_deliver Tagged = refl

-- P1
pub nothing_to_lose : (r : Reading) → happens r (of_user (Lose 0)) worked.start ≡ Err NothingThere
unfolding computed_run
nothing_to_lose Whole = refl
nothing_to_lose Tagged = refl

-- P2
pub t200_is_stopped : (r : Reading) → happens r (of_user Expire200) worked.start ≡ Err NotRunning
unfolding computed_run
t200_is_stopped Whole = refl
t200_is_stopped Tagged = refl

-- P2
pub t203_is_stopped : (r : Reading) → happens r (of_user Expire203) worked.start ≡ Err NotRunning
unfolding computed_run
t203_is_stopped Whole = refl
t203_is_stopped Tagged = refl

-- P3, by the enquiry
pub enquiry_under_way : (r : Reading)
    → happens r (of_user Expire200) (run r (establishing ++ losing) worked.start)
    ≡ Err (NotYet side.Network 0)
unfolding computed_run
enquiry_under_way Whole = refl
enquiry_under_way Tagged = refl

-- P3, by its answer
pub answer_under_way : (r : Reading)
    → happens r (of_user Expire200)
    (run r (establishing ++ losing ++ of_network Deliver ∷ []) worked.start)
    ≡ Err (NotYet side.User 0)
unfolding computed_run
answer_under_way Whole = refl
answer_under_way Tagged = refl

-- P4
pub not_established : (r : Reading)
    → happens r (of_user (Give (1 ∷ []))) worked.start ≡ Err (Refused NotEstablished)
unfolding computed_run
not_established Whole = refl
not_established Tagged = refl

-- one message is left while it is not acknowledged
pub waiting_left : (r : Reading) → left (run r (establishing ++ losing) worked.start) ≡ 1
unfolding computed_run
waiting_left Whole = refl
waiting_left Tagged = refl

-- a submitted message
pub message_is_sent : (r : Reading)
    → (run r (establishing ++ of_user (Give (8 ∷ 1 ∷ [])) ∷ []) worked.start).to_network
    ≡ record { role = Command; control = I 0 0 false; info = 8 ∷ 1 ∷ []; place = 0 } ∷ []
unfolding computed_run
message_is_sent Whole = refl
message_is_sent Tagged = refl

-- the first of two messages in transit is lost
pub first_is_lost : (r : Reading)
    → (run r (establishing ++ of_user (Give (8 ∷ 1 ∷ [])) ∷ of_user (Give (8 ∷ 2 ∷ []))
    ∷ of_network (Lose 0) ∷ []) worked.start).to_network
    ≡ record { role = Command; control = I 1 0 false; info = 8 ∷ 2 ∷ []; place = 1 } ∷ []
unfolding computed_run
first_is_lost Whole = refl
first_is_lost Tagged = refl

-- a release
pub disc_is_sent : (r : Reading)
    → (run r (establishing ++ of_user Release ∷ []) worked.start).to_network
    ≡ without_info Command (Disc true) ∷ []
unfolding computed_run
disc_is_sent Whole = refl
disc_is_sent Tagged = refl

-- T203
pub enquiry_is_sent : (r : Reading)
    → (run r (establishing ++ of_user Expire203 ∷ []) worked.start).to_network
    ≡ without_info Command (Rr 0 true) ∷ []
unfolding computed_run
enquiry_is_sent Whole = refl
enquiry_is_sent Tagged = refl

-- own receiver busy
pub rnr_is_sent : (r : Reading)
    → (run r (establishing ++ of_user (Busy true) ∷ []) worked.start).to_network
    ≡ without_info Answer (Rnr 0 false) ∷ []
unfolding computed_run
rnr_is_sent Whole = refl
rnr_is_sent Tagged = refl

-- and no longer busy
pub rr_is_sent : (r : Reading)
    → (run r (establishing ++ of_user (Busy true) ∷ of_user (Busy false) ∷ [])
    worked.start).to_network ≡ without_info Answer (Rnr 0 false)
    ∷ without_info Answer (Rr 0 false) ∷ []
unfolding computed_run
rr_is_sent Whole = refl
rr_is_sent Tagged = refl

-- unit data
pub ui_is_sent : (r : Reading)
    → (run r (of_user (UnitData (9 ∷ [])) ∷ []) worked.start).to_network ≡ unit_frame (9 ∷ []) ∷ []
unfolding computed_run
ui_is_sent Whole = refl
ui_is_sent Tagged = refl

-- P3, by the enquiry that follows a message
pub enquiry_behind_message : (r : Reading)
    → happens r (of_user Expire200)
    (run r (establishing ++ of_user (Give (8 ∷ 1 ∷ [])) ∷ of_user Expire200 ∷ []) worked.start)
    ≡ Err (NotYet side.Network 1)
unfolding computed_run
enquiry_behind_message Whole = refl
enquiry_behind_message Tagged = refl

-- the histories are safe
pub ending_safe : (r : Reading) → AreSafe (run r schedule worked.start)
unfolding computed_run
ending_safe Whole = (user_is_safe, network_is_safe)
ending_safe Tagged = (user_is_safe, network_is_safe)
