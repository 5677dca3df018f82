-- The schedule with an enquiry that the network ignores, computed in both readings.
use Rattle.std.proofs.Common.{◌≡◌, ◌++◌, Err, refl}
use Rattle.lapd_frame.specs.declared.Side.TheVariants as side
use Rattle.lapd_mod128.specs.Counting.{Reading, Whole, Tagged}
use Rattle.lapd_link_definition.specs.Procedures.{start}
use Rattle.lapd_pair_laws.specs.Move.{Expire200, NotYet}
use Rattle.lapd_pair_laws.specs.Schedule as worked
use Rattle.lapd_pair_laws.specs.Schedule.{figures, of_user}
use Rattle.lapd_pair_laws.specs.World.{happens, run}
use Rattle.lapd_pair_laws.specs.Eager.{run_eagerly, passed_over, second_enquiry, user_at_end, network_at_end}
use Rattle.lapd_pair_laws.proofs.ComputedRun.{computed_run}

-- the ordinary move waits for the enquiry
pub held_back : (r : Reading)
    → happens r (of_user Expire200) (run r passed_over worked.start) ≡ Err (NotYet side.Network 0)
unfolding computed_run
held_back Whole = refl
held_back Tagged = refl

-- the eager one does not
pub ending_user : (r : Reading)
    → figures (run_eagerly r (passed_over ++ second_enquiry) worked.start).user ≡ user_at_end
unfolding computed_run
ending_user Whole = refl
ending_user Tagged = refl

pub ending_network : (r : Reading)
    → figures (run_eagerly r (passed_over ++ second_enquiry) worked.start).network ≡ network_at_end
unfolding computed_run
ending_network Whole = refl
ending_network Tagged = refl
