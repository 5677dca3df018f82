use Rattle.lapd_program_laws.proofs.Prints.{network_prints, user_prints}
use Rattle.lapd_program_laws.proofs.laws.lines_are_printed.Goals as goal

pub returns : goal.returns
returns c = record { network = network_prints; user = user_prints }
