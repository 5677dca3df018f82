use Rattle.std.proofs.Common.{◌<◌, ◌+◌, length, refl, ◌∙◌, arith}
use Rattle.lapd_pair.proofs.Lines.{one_behind, octets_more}
use Rattle.lapd_pair.proofs.line.Line.put.Goals as goal

pub returns-clause-shows : goal.returns-clause-shows
returns-clause-shows c = λ frames sent o same.
    let place = c.make_place.new.self in
    let there : place.end < length place.frames.items = omega arith in
    one_behind _ _ _ frames sent c.args.frame.now
    (octets_more place.first place.end place.frames.items c.write_over.new.out (omega arith)
    there ∙ rw (c.make_place.ensures.octets, c.write_over.ensures.written) refl)
    c.make_place.ensures.polls c.make_place.ensures.finals c.write_over.ensures.grammar o same

pub returns-clause-room : goal.returns-clause-room
returns-clause-room c = λ n h. let left = c.make_place.ensures.room (n + 1) h in omega arith
