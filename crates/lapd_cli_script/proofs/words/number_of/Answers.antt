use Rattle.std.proofs.Common.{◌∙◌, sym}
use Rattle.lapd_cli_script.proofs.Numbers.{at_end, at_least, parsed, ten_times_too_great, with_digit_too_great}
use Rattle.lapd_cli_script.proofs.words.number_of.Goals as goal

pub returns-in_err-checked_mul : goal.returns-in_err-checked_mul
returns-in_err-checked_mul c =
    c.from_residual.ensures
    ∙ sym (parsed _ _ (sym c.is_empty.ensures ∙ c.if-is_empty.false)
    (sym c.loop-digit.invariant.1
    ∙ ten_times_too_great _ _ _ c.loop-digit-test.true
    (at_least _ _ c.in_err-checked_mul.ensures)))

pub returns-in_err-number : goal.returns-in_err-number
returns-in_err-number c =
    c.from_residual-in_err-number.ensures
    ∙ sym (parsed _ _ (sym c.is_empty.ensures ∙ c.if-is_empty.false)
    (sym c.loop-digit.invariant.1
    ∙ with_digit_too_great _ _ _ _ _ c.loop-digit-test.true
    c.in_ok-checked_mul.ensures.1 (sym c.digit_of.ensures ∙ c.in_ok-digit_of.was)
    (at_least _ _ c.in_err-number.ensures)))

pub returns : goal.returns
returns c =
    sym (parsed _ _ (sym c.is_empty.ensures ∙ c.if-is_empty.false)
    (sym c.loop-digit.invariant.1
    ∙ at_end _ _ _ c.loop-digit-test.false c.loop-digit.invariant.0))
