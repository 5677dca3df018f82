use Rattle.std.proofs.Common.{map, drop, ap, ◌∙◌}
use Rattle.std.specs.List.{remove}
use Rattle.lapd_bus.proofs.Lines.{map_drop_remove}
use Rattle.lapd_bus.proofs.line.Line.lose.Goals as goal

pub returns-else-place-eq0-clause-removed : goal.returns-else-place-eq0-clause-removed
returns-else-place-eq0-clause-removed c =
    ap (λ frames. map (λ frame. frame.items) (drop c.self.inside.first frames)) c.remove.ensures.items
    ∙ (map_drop_remove (λ frame. frame.items) c.self.inside.first c.args.place
    c.self.inside.frames.items
    ∙ ap (λ line. remove line c.args.place) c.self.view_is)
