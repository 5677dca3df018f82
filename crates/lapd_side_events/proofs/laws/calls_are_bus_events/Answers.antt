use Rattle.lapd_side_events.proofs.BusCalled.{of_terminal, of_network}
use Rattle.lapd_side_events.proofs.laws.calls_are_bus_events.Goals as goal

pub returns : goal.returns
returns c = record { terminal = of_terminal; network = of_network }
