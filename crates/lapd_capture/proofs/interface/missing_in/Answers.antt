use Rattle.std.proofs.Common.{rules, sym, ◌∙◌}
use Rattle.lapd_capture.proofs.Missing.{among_end, among_found, among_none, among_passed, among_short}
use Rattle.lapd_capture.proofs.interface.missing_in.Goals as goal

pub returns-then-rest : goal.returns-then-rest
returns-then-rest c =
    sym (c.loop-option.invariant
    ∙ among_short c.loop-option._option c.args.order c.loop-option.rest.now (search rules)
    (search rules))

pub returns-then-code-eq0 : goal.returns-then-code-eq0
returns-then-code-eq0 c = sym (c.loop-option.invariant
    ∙ among_end c.loop-option._option c.u16_at-code.result c.args.order c.loop-option.rest.now
    (search rules) (search rules) c.u16_at-code.ensures.number (search rules))

pub returns-then-code-eq-DROPPED : goal.returns-then-code-eq-DROPPED
returns-then-code-eq-DROPPED c = c.u64_at.ensures ∙ sym (c.loop-option.invariant
    ∙ among_found c.loop-option._option c.u16_at-code.result c.args.order c.loop-option.rest.now
    (search rules) (search rules) c.u16_at-code.ensures.number (search rules))

pub loop-option-preserved : goal.loop-option-preserved
loop-option-preserved c = c.loop-option.invariant
    ∙ among_passed c.loop-option._option c.u16_at-code.result c.u16_at.result c.padded.result
    c.args.order c.loop-option.rest.now c.after-rest.result.now (search rules) (search rules)
    c.u16_at-code.ensures.number (search rules) (search rules) c.u16_at.ensures.number
    c.padded.ensures c.after-rest.ensures

pub returns : goal.returns
returns c =
    sym (c.loop-option.invariant
    ∙ among_none c.loop-option._option c.args.order c.loop-option.rest.now (search rules))
