use Rattle.std.proofs.Common.{map, drop, ap, ◌∙◌}
use Rattle.lapd_bus.proofs.Lines.{map_next}
use Rattle.lapd_bus.proofs.line.Line.lose_first.Goals as goal

pub returns : goal.returns
returns c =
    ap (map (λ frame. frame.items)) c.close_up-self-inside.ensures.same
    ∙ (map_next (λ frame. frame.items) c.self.inside.first c.self.inside.frames.items
    ∙ ap (drop 1) c.self.view_is)
