use Rattle.std.proofs.Common.{◌-◌, take, ap, ◌∙◌, arith, rules}
use Rattle.std.proofs.lemmas.List.{with_items_is}
use Rattle.lapd_pair.proofs.Lines.{octets_in_front}
use Rattle.lapd_pair.proofs.line.Line.forget_taken.Goals as goal

pub returns-then-self-left-clause-octets : goal.returns-then-self-left-clause-octets
returns-then-self-left-clause-octets c =
    let frames = c.args.self.now.frames in
    octets_in_front c.args.self.now.first c.args.self.now.end frames.items _ (omega arith)
    (ap (take (c.args.self.now.end - c.args.self.now.first))
    (with_items_is frames c.to_front.new.frames (search rules)) ∙ search rules)
