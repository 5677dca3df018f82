use Rattle.std.proofs.Common.{take, ◌∙◌}
use Rattle.lapd_pair.proofs.Lines.{without_first, octets_after}
use Rattle.lapd_pair.proofs.line.Line.take_first.Goals as goal

pub returns-then-self-clause-octets : goal.returns-then-self-clause-octets
returns-then-self-clause-octets c =
    c.forget_taken.ensures.octets
    ∙ octets_after c.args.self.now.first (take c.args.self.now.end c.args.self.now.frames.items)

pub returns-then-self-clause-shows : goal.returns-then-self-clause-shows
returns-then-self-clause-shows c = λ from frame rest o.
    without_first from _ _ frame rest (c.forget_taken.ensures.octets
    ∙ octets_after c.args.self.now.first
    (take c.args.self.now.end c.args.self.now.frames.items))
    c.forget_taken.ensures.polls c.forget_taken.ensures.finals o
