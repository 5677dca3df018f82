use Rattle.lapd_bus_laws.proofs.Followed.{follows}
use Rattle.lapd_bus_laws.proofs.Overheard.{overhears}
use Rattle.lapd_bus_laws.proofs.laws.each_run_is_a_run_of_two_sides.Goals as goal

pub returns : goal.returns
returns c = record { one = overhears; runs = follows }
