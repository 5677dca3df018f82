use Rattle.std.proofs.Common.{rules, Err, ap, ◌∙◌, arith}
use Rattle.std.proofs.lemmas.Grind.{common_steps}
use Rattle.lapd_port.proofs.Parts.{part_of_frame, part_of_length, passes_part}
use Rattle.lapd_port.proofs.Texts.{frame_read}
use Rattle.lapd_port.proofs.Turning.{both_made, same_fault}
use Rattle.lapd_port.proofs.reading.read_next.Goals as goal

pub returns-in_err-fill-2-clause-turns : goal.returns-in_err-fill-2-clause-turns
returns-in_err-fill-2-clause-turns g c =
    both_made _ _ _ _ _ _ _ c.fill.ensures.turns c.fill-2.ensures.turns c.fill-2.ensures.most
    (λ is. c.fill-2.ensures.all_made (c.in_err-fill-2.was
    ∙ ap Err (same_fault _ _ _ c.from_residual-in_err-fill-2.ensures.1 is)))

pub returns-then-branch-count-clause-turns : goal.returns-then-branch-count-clause-turns
returns-then-branch-count-clause-turns g c =
    both_made _ _ _ _ _ _ _ c.fill.ensures.turns c.fill-2.ensures.turns c.fill-2.ensures.most
    (λ is. absurd cc)

pub returns-clause-turns : goal.returns-clause-turns
returns-clause-turns g c =
    both_made _ _ _ _ _ _ _ c.fill.ensures.turns c.fill-2.ensures.turns c.fill-2.ensures.most
    (λ is. absurd cc)

pub returns-clause-next : goal.returns-clause-next
returns-clause-next g c =
    frame_read _ _ _ _ _ _ _ _ _ (search rules) c.length_of-count.ensures
    c.in_ok-fill.ensures.octets.0 c.in-2.is
    c.in_ok-fill-2.ensures.octets.0 c.if-branch-count.false c.in_ok-fill-2.ensures.bound
    (search rules)

pub returns-in_err-fill-clause-next : goal.returns-in_err-fill-clause-next
returns-in_err-fill-clause-next g c =
    passes_part _ _ _ _ _ c.from_residual.ensures.1 c.in_err-fill.ensures.faults
    (part_of_length _ _ _ c.fill.auto.octets c.in_err-fill.ensures.part)

pub returns-in_err-fill-2-clause-next : goal.returns-in_err-fill-2-clause-next
returns-in_err-fill-2-clause-next g c =
    passes_part _ _ _ _ _ c.from_residual-in_err-fill-2.ensures.1 c.in_err-fill-2.ensures.faults
    (part_of_frame _ _ _ _ _ _ _ (search rules) c.length_of-count.ensures
    c.in_ok-fill.ensures.octets.0 c.in-2.is (search rules) c.in_err-fill-2.ensures.part)

pub returns-clause-length : goal.returns-clause-length
returns-clause-length g c = search rules

pub returns-then-branch-count-clause-next : goal.returns-then-branch-count-clause-next
returns-then-branch-count-clause-next g c = search rules

pub slice_bounds-fill-end-2 : goal.slice_bounds-fill-end-2
slice_bounds-fill-end-2 g c = search rules

pub returns-clause-behind : goal.returns-clause-behind
returns-clause-behind g c = grind (arith, common_steps)
