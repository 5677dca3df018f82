use Rattle.lapd_bus_laws.proofs.Freeing.{freeing_is_enough}
use Rattle.lapd_bus_laws.proofs.holdings.freeing_keeps_assignments.Goals as goal

pub returns : goal.returns
returns c = record { assigns = freeing_is_enough }
