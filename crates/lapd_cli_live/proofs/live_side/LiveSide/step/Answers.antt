use Rattle.std.proofs.Common.{ℕ, false, ap, subst, sym, ◌∙◌}
use Rattle.lapd_cli_live.specs.Steps.{IsReached, ended_by}
use Rattle.lapd_cli_live.proofs.Steps.{caught_up, if_ok, then_matched, then_over, then_proceeds, true_is_not_false}
use Rattle.lapd_cli_live.proofs.live_side.LiveSide.step.Goals as goal

pub returns-then-is_some-2 : goal.returns-then-is_some-2
returns-then-is_some-2 g c =
    then_matched c.args.service _ _ c.ended_by-end_reason.result
    (caught_up _ _ _ _ _ c.in_ok-end_reason.ensures (sym c.is_some.ensures ∙ c.if-is_some.false)
    c.in_ok-expire_due.ensures)
    (c.ended_by-end_reason.ensures ∙ ap (ended_by c.args.service.until false) c.is_matched.ensures)
    (sym c.is_some-2.ensures ∙ c.if-is_some-2.true)

pub returns-then-is_reached : goal.returns-then-is_reached
returns-then-is_reached g c =
    then_over c.args.service _ _ c.ended_by-end_reason.result
    (caught_up _ _ _ _ _ c.in_ok-end_reason.ensures (sym c.is_some.ensures ∙ c.if-is_some.false)
    c.in_ok-expire_due.ensures)
    (c.ended_by-end_reason.ensures ∙ ap (ended_by c.args.service.until false) c.is_matched.ensures)
    (sym c.is_some-2.ensures ∙ c.if-is_some-2.false)
    (subst (IsReached c.args.service.end) c.moment.ensures
    (sym c.is_reached.ensures ∙ c.if-is_reached.true))

pub returns : goal.returns
returns g c =
    if_ok c.proceed.result _ _
    (λ end_reason proceeds. then_proceeds c.args.service _ _ _ c.ended_by-end_reason.result end_reason
    (caught_up _ _ _ _ _ c.in_ok-end_reason.ensures (sym c.is_some.ensures ∙ c.if-is_some.false)
    c.in_ok-expire_due.ensures)
    (c.ended_by-end_reason.ensures ∙ ap (ended_by c.args.service.until false) c.is_matched.ensures)
    (sym c.is_some-2.ensures ∙ c.if-is_some-2.false)
    (subst (λ (now : ℕ). ¬ IsReached c.args.service.end now) c.moment.ensures
    (λ is. true_is_not_false (sym is ∙ sym c.is_reached.ensures ∙ c.if-is_reached.false)))
    proceeds)
    c.proceed.ensures
