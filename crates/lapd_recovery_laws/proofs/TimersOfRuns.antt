-- The timers of an end's state run after each move of either side, and after each run.
use Rattle.std.proofs.Common.{◌≡◌, ◌≤◌, Ok, Bool, List, refl, ap, subst, sym}
use Rattle.lapd_mod128.specs.Counting.{Reading, Whole, Tagged, tag}
use Rattle.lapd_supervision.specs.Tags.{tag_variables}
use Rattle.lapd_link_definition.specs.declared.state.State.{State}
use Rattle.lapd_link_definition.specs.declared.state.State.TheVariants.{MultipleFrameEstablished}
use Rattle.lapd_link_definition.specs.End.{End, StepState}
use Rattle.lapd_link_definition.specs.Input.{Input, Heard}
use Rattle.lapd_link_definition.specs.Numbers.{CarriesNumbers}
use Rattle.lapd_link_definition.specs.Parameters.{Parameters}
use Rattle.lapd_link_definition.specs.RunningTimers.{AreTimersOf, HasTimersOfState}
use Rattle.lapd_link_definition.specs.Table.{step}
use Rattle.lapd_link_definition.specs.Tagging.{tag_end}
use Rattle.lapd_link_definition.proofs.TimersOfWholeStep.{timers_begin, timers_stay}
use Rattle.lapd_pair_laws.specs.Move.{Move, restarted}
use Rattle.lapd_pair_laws.specs.World.{World, world_after, happens, run, new_world}
use Rattle.lapd_pair_laws.proofs.EachMove.{AreBoth, kept_by_move, kept_by_run}
use Rattle.lapd_pair_laws.proofs.Reached.{reached_tags}
use Rattle.lapd_recovery_laws.specs.Timers.{HaveTimersOfStates}

-- whole numbers are any numbers
carries : (input : Input) → CarriesNumbers Whole input
carries (Heard control role) = tt
carries input = tt

-- ---- Moves and runs.

stepping : (what : Input) (e : End) (s : StepState) → HasTimersOfState e → step Whole what e ≡ Ok s
    → HasTimersOfState s.end
stepping what e s has is = timers_stay Whole what e s tt (carries what) has is

restarting : (e : End) → HasTimersOfState e → HasTimersOfState (restarted e)
restarting e has = (refl, refl)

both_have : (w : World) → HaveTimersOfStates w → AreBoth HasTimersOfState w
both_have w have = record { user = have.user; network = have.network }

pub timers_after_move : (move : Move) (w : World) → HaveTimersOfStates w
    → HaveTimersOfStates (world_after w (happens Whole move w))
timers_after_move move w have =
    let after = kept_by_move HasTimersOfState stepping restarting move w (both_have w have) in
    record { user = after.user; network = after.network }

pub timers_after_run : (moves : List Move) (w : World) → HaveTimersOfStates w
    → HaveTimersOfStates (run Whole moves w)
timers_after_run moves w have =
    let after = kept_by_run HasTimersOfState stepping restarting moves w (both_have w have) in
    record { user = after.user; network = after.network }

pub new_has_timers : (user network : Parameters) → HaveTimersOfStates (new_world user network)
new_has_timers user network = record { user = timers_begin user; network = timers_begin network }

-- ---- On tags.

timers_by : {A B : Type 0} (state : State) (t200 t203 : Bool) → (A → B)
    → AreTimersOf state t200 t203 A → AreTimersOf state t200 t203 B
timers_by MultipleFrameEstablished t200 t203 f have = (have.0, λ off. f (have.1 off))
timers_by state t200 t203 f have = have

end_on_tags : (e : End) → HasTimersOfState e → HasTimersOfState (tag_end e)
unfolding tag_variables
end_on_tags e have = timers_by e.state e.t200 e.t203 (λ same. ap tag same) have

pub every_run_has_timers : (r : Reading) (user network : Parameters) → user.k ≤ 127
    → network.k ≤ 127 → (moves : List Move)
    → HaveTimersOfStates (run r moves (new_world user network))
every_run_has_timers Whole user network u n moves =
    timers_after_run moves (new_world user network) (new_has_timers user network)
every_run_has_timers Tagged user network u n moves =
    let w = run Whole moves (new_world user network) in
    let have = timers_after_run moves (new_world user network) (new_has_timers user network) in
    subst HaveTimersOfStates (sym (reached_tags user network u n moves))
    (record {
      user = end_on_tags w.user.end have.user;
      network = end_on_tags w.network.end have.network;
    })
