use Rattle.lapd_pair.proofs.Lines.{none_first}
use Rattle.lapd_pair.proofs.line.Line.first.Goals as goal

pub returns-clause-none : goal.returns-clause-none
returns-clause-none c =
    none_first c.args.self.now c.frames.result.now c.first.result c.map.result
    c.frames.ensures.octets c.first.ensures.item.2 c.map.ensures.variant
