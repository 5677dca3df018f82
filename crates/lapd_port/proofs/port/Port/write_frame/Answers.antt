use Rattle.std.proofs.Common.{rules}
use Rattle.lapd_port.proofs.Texts.{writes_list}
use Rattle.lapd_port.proofs.port.Port.write_frame.Goals as goal

pub returns-clause-list : goal.returns-clause-list
returns-clause-list g c = λ frames is. writes_list _ _ _ _ _ is c.write_next-written.ensures.text

pub returns-clause-lasts : goal.returns-clause-lasts
returns-clause-lasts g c = search rules
