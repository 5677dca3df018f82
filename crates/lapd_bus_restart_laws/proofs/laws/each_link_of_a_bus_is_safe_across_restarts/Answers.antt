use Rattle.lapd_bus_restart_laws.proofs.AsideAcross.{nobody_elses_across}
use Rattle.lapd_bus_restart_laws.proofs.LinkSafe.{link_safe_across}
use Rattle.lapd_bus_restart_laws.proofs.laws.each_link_of_a_bus_is_safe_across_restarts.Goals as goal

pub returns : goal.returns
returns c = record {
  safe = λ c id i events t b low. link_safe_across c id low i events t b;
  nobody_elses = λ c id i events b low. nobody_elses_across c id low i events b;
}
