use Rattle.lapd_bus_laws.proofs.TerminalsApart.{healed_are_apart}
use Rattle.lapd_bus_laws.proofs.Healed.{check_heals, checks_heal_all, reached_without}
use Rattle.lapd_bus_laws.proofs.healing.each_check_heals_its_tei.Goals as goal

pub returns : goal.returns
returns c = record {
  heals = check_heals;
  all = checks_heal_all;
  apart = healed_are_apart;
  no_management = reached_without;
}
