use Rattle.std.proofs.Common.{◌≡◌, ◌==◌, true, false, sym, ap, ◌∙◌}
use Rattle.lapd_supervision.specs.StateVariables.{StateVariables, acknowledges_all}
use Rattle.lapd_link_definition.specs.Established.{acknowledge_with_timers}
use Rattle.lapd_link_machine.proofs.Rows.{then_row, else_row}
use Rattle.lapd_link_machine.proofs.Predicted.{three_behind, two_behind, none_behind, same_outs}
use Rattle.lapd_link_machine.proofs.machine.Machine.take_nr_returning.Goals as goal

pub returns-then-taken-clause-step : goal.returns-then-taken-clause-step
unfolding acknowledge_with_timers
returns-then-taken-clause-step c = λ s outs h.
    let all : acknowledges_all c.args.nr s.end.window ≡ true =
    ap (acknowledges_all c.args.nr) h.window ∙ sym c.requires.taken.all ∙ c.if-taken.true in
    then_row _ _ _ _ _ all (same_outs _ _ _ _ (three_behind outs _ _ _)
    (c.start_t203_returning.ensures.step _ _
    (c.stop_t200_returning-stops.ensures.step _ _
    (c.acknowledge_returning-count.ensures.step s outs h))))

pub returns-then-acknowledges_nothing_new-clause-step :
    goal.returns-then-acknowledges_nothing_new-clause-step
unfolding acknowledge_with_timers
returns-then-acknowledges_nothing_new-clause-step c = λ s outs h.
    let all : acknowledges_all c.args.nr s.end.window ≡ false =
    ap (acknowledges_all c.args.nr) h.window ∙ sym c.requires.taken.all
    ∙ c.if-taken.false in
    let is_va : StateVariables → _ = λ v. c.args.nr == v.va in
    let nothing : (c.args.nr == s.end.window.va) ≡ true =
    ap is_va h.window ∙ sym c.acknowledges_nothing_new.ensures
    ∙ c.if-acknowledges_nothing_new.true in
    else_row _ _ _ _ _ all (then_row _ _ _ _ _ nothing (same_outs _ _ _ _ (none_behind outs) h))

pub returns-else-acknowledges_nothing_new-clause-step :
    goal.returns-else-acknowledges_nothing_new-clause-step
unfolding acknowledge_with_timers
returns-else-acknowledges_nothing_new-clause-step c = λ s outs h.
    let all : acknowledges_all c.args.nr s.end.window ≡ false =
    ap (acknowledges_all c.args.nr) h.window ∙ sym c.requires.taken.all
    ∙ c.if-taken.false in
    let is_va : StateVariables → _ = λ v. c.args.nr == v.va in
    let nothing : (c.args.nr == s.end.window.va) ≡ false =
    ap is_va h.window ∙ sym c.acknowledges_nothing_new.ensures
    ∙ c.if-acknowledges_nothing_new.false in
    else_row _ _ _ _ _ all (else_row _ _ _ _ _ nothing (same_outs _ _ _ _ (two_behind outs _ _)
    (c.start_t200_returning.ensures.step _ _
    (c.acknowledge_returning-count-else-acknowledges_nothing_new.ensures.step s outs h))))
