use Rattle.std.proofs.Common.{None, sym, ap}
use Rattle.std.proofs.lemmas.Option.{slice_get_past}
use Rattle.lapd_cli_link_commands.specs.Loop.{line_to}
use Rattle.lapd_cli_link_commands.specs.PairLadder.{taken_at}
use Rattle.lapd_cli_link_commands.proofs.Drawings.{octets_at}
use Rattle.lapd_cli_link_commands.proofs.taken.taken_at.Goals as goal

-- the frames of the line are those of the world, so the one at the place is the world's
pub returns-in-None-clause-ok : goal.returns-in-None-clause-ok
returns-in-None-clause-ok c = λ w h.
    let past = slice_get_past c.line.result.now c.args.place c.in-None.ensures.lookup.3 in
    sym (ap (taken_at c.args.is_lost c.args.to)
    (octets_at (λ frame. frame.items) c.line.result.now (line_to c.args.to w) c.args.place
    None (c.line.ensures w h) (sym past)))
