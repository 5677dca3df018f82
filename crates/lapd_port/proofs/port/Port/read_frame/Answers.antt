use Rattle.lapd_port.proofs.Texts.{reads_first}
use Rattle.lapd_port.proofs.port.Port.read_frame.Goals as goal

pub returns-clause-first : goal.returns-clause-first
returns-clause-first g c =
    λ front frames fits is. reads_first _ _ _ _ _ _ fits is c.read_next-read.ensures.next
