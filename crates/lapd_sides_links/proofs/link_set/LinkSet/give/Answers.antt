-- give
use Rattle.std.proofs.Common.{Err, refl, sym, ap, ◌∙◌}
use Rattle.lapd_link_definition.specs.Input.{Give}
use Rattle.lapd_table.proofs.Tables.{on_ok, on_err, if_err}
use Rattle.lapd_sides_links.proofs.Acting.{no_link}
use Rattle.lapd_sides_links.proofs.Predictions.{room_for_predicted}
use Rattle.lapd_sides_links.proofs.PredictedSteps.{still_do, still_refuse, still_as_before}
use Rattle.lapd_sides_links.proofs.GivenSteps.{do_as_given, refuse_as_given}
use Rattle.lapd_sides_links.proofs.link_set.LinkSet.give.Goals as goal

pub give_at_once-requires-clause-room : goal.give_at_once-requires-clause-room
give_at_once-requires-clause-room c =
    room_for_predicted (Give c.args.message.items) c.args.acts.now c.requires.room

pub returns-in_default-clause-err : goal.returns-in_default-clause-err
returns-in_default-clause-err c = λ side links shown.
    no_link side c.args.self.now links c.args.id.now _ (c.find.ensures.none c.in_default.is) shown
    ∙ ap (λ kind. Err kind) (sym c.refused.ensures.kind)

pub returns-in-Ok-clause-ok : goal.returns-in-Ok-clause-ok
returns-in-Ok-clause-ok c =
    do_as_given c.args.now c.in-Some.key.id c.args.id.now c.in-Some.ensures.found.0 c.args.message
    c.args.message refl _ _ _ _ c.in-Ok.ensures.ok

pub returns-in-Err-clause-ok : goal.returns-in-Err-clause-ok
returns-in-Err-clause-ok c = on_ok c.give_in_general.result _ _ (λ does.
    do_as_given c.args.now c.in-Some.key.id c.args.id.now c.in-Some.ensures.found.0 c.in-Err.message
    c.args.message c.in-Err.ensures.returned _ _ _ _
    (still_do _ _ _ _ _ _ _ c.in-Err.ensures.unchanged c.in-Err.ensures.nothing
    does)) c.give_in_general.ensures.ok

pub returns-in-Err-clause-err : goal.returns-in-Err-clause-err
returns-in-Err-clause-err c = if_err c.give_in_general.result _ _ (λ fault refuses.
    refuse_as_given c.args.now c.in-Some.key.id c.args.id.now c.in-Some.ensures.found.0
    c.in-Err.message c.args.message c.in-Err.ensures.returned _ _
    (still_refuse _ _ _ _ c.in-Err.ensures.unchanged refuses)) c.give_in_general.ensures.err

pub returns-in-Err-clause-unchanged : goal.returns-in-Err-clause-unchanged
returns-in-Err-clause-unchanged c =
    on_err c.give_in_general.result _ _ (still_as_before _ _ _ c.in-Err.ensures.unchanged)
    c.give_in_general.ensures.unchanged

pub returns-in-Err-clause-nothing : goal.returns-in-Err-clause-nothing
returns-in-Err-clause-nothing c =
    on_err c.give_in_general.result _ _ (λ same. same ∙ c.in-Err.ensures.nothing)
    c.give_in_general.ensures.nothing
