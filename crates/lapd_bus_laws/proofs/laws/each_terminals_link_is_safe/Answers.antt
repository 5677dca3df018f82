use Rattle.lapd_bus_laws.proofs.PremisesOfInterface.{safe_here, nobody_elses}
use Rattle.lapd_bus_laws.proofs.laws.each_terminals_link_is_safe.Goals as goal

pub returns : goal.returns
returns c = record {
  safe = λ c id i p q events t b low. safe_here c id low i p q events t b;
  nobody_elses = λ c id i events b low. nobody_elses c id low i events b;
}
