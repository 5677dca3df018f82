-- Worked worlds settle as expected, computed in both readings.
use Rattle.std.proofs.Common.{◌≡◌, refl}
use Rattle.lapd_link_definition.specs.declared.recovery.Recovery.TheVariants.{Enquiry, LastMessage}
use Rattle.lapd_mod128.specs.Counting.{Reading, Whole, Tagged}
use Rattle.lapd_pair_laws.specs.World.{run}
use Rattle.lapd_pair_laws.specs.Worked.{outcome_of, new_pair, sabme_lost, three_lost, busy, nothing_to_do, established, recovered, held_up}
use Rattle.lapd_pair_laws.proofs.ComputedRun.{computed_run}

pub new_settles : (r : Reading) → outcome_of r (new_pair 3 Enquiry) ≡ nothing_to_do
unfolding computed_run
new_settles Whole = refl
new_settles Tagged = refl

pub sabme_settles : (r : Reading)
    → outcome_of r (run r sabme_lost (new_pair 3 Enquiry)) ≡ established
unfolding computed_run
sabme_settles Whole = refl
sabme_settles Tagged = refl

pub three_settle : (r : Reading) → outcome_of r (run r three_lost (new_pair 3 Enquiry)) ≡ recovered
unfolding computed_run
three_settle Whole = refl
three_settle Tagged = refl

pub three_settle_by_last : (r : Reading)
    → outcome_of r (run r three_lost (new_pair 3 LastMessage)) ≡ recovered
unfolding computed_run
three_settle_by_last Whole = refl
three_settle_by_last Tagged = refl

pub busy_settles : (r : Reading) → outcome_of r (run r busy (new_pair 1 Enquiry)) ≡ held_up
unfolding computed_run
busy_settles Whole = refl
busy_settles Tagged = refl
