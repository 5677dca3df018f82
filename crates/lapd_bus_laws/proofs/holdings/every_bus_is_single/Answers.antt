use Rattle.lapd_bus_laws.proofs.TerminalsApart.{reached_is_single}
use Rattle.lapd_bus_laws.proofs.Single.{every_bus_single}
use Rattle.lapd_bus_laws.proofs.holdings.every_bus_is_single.Goals as goal

pub returns : goal.returns
returns c = record { single = every_bus_single; reached = reached_is_single }
