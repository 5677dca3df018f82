use Rattle.std.proofs.Common.{◌+◌, ap, ◌∙◌, arith}
use Rattle.lapd_pair.specs.Marks.{place_of_marked}
use Rattle.lapd_pair.proofs.Lines.{octets_behind, place_in_rest}
use Rattle.lapd_pair.proofs.line.Line.marked_behind.Goals as goal

pub returns-clause-place : goal.returns-clause-place
returns-clause-place c =
    ap (λ n. c.args.passed + n) (c.marked_place.ensures
    ∙ ap (place_of_marked c.args.role c.args.from)
    (octets_behind c.args.passed c.frames.result.now _ c.frames.ensures.octets))

pub overflow_add-result : goal.overflow_add-result
overflow_add-result c =
    let frames = c.frames.result.now in
    let most =
    place_in_rest c.args.role c.args.from c.args.passed frames
    (omega (arith, c.requires, c.frames.ensures.len)) in
    omega (arith, most, c.marked_place.ensures, c.frames.ensures.len)

pub returns-clause-within : goal.returns-clause-within
returns-clause-within c =
    let frames = c.frames.result.now in
    let most =
    place_in_rest c.args.role c.args.from c.args.passed frames
    (omega (arith, c.requires, c.frames.ensures.len)) in
    omega (arith, most, c.marked_place.ensures, c.frames.ensures.len)
