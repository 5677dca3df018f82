use Rattle.lapd_bus_laws.proofs.HealingComputed.{doubled_so, healed_so, again_so, assigned_anew_so}
use Rattle.lapd_bus_laws.proofs.healing.healing_premises_can_be_met.Goals as goal

pub returns : goal.returns
returns c = record {
  doubled = doubled_so;
  healed = healed_so;
  again = again_so;
  anew = assigned_anew_so;
}
