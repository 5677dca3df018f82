use Rattle.std.proofs.Common.{sym, ◌∙◌}
use Rattle.lapd_sides_links.specs.Links.{new_linked}
use Rattle.lapd_sides_links.proofs.Arrivals.{one_added, both_added, taken_back, left_alone}
use Rattle.lapd_sides_links.proofs.link_set.LinkSet.add_tei.Goals as goal

pub returns-then-not-config-clause-ok : goal.returns-then-not-config-clause-ok
returns-then-not-config-clause-ok c = λ side links shown.
    one_added side c.add.new.self c.args.config.now c.args.tei links c.link_id-call.result
    c.link_id-call.ensures c.if-not-config.true
    (c.in_ok-is_added.ensures.ok side links shown)

pub returns-then-is_added-clause-unchanged : goal.returns-then-is_added-clause-unchanged
returns-then-is_added-clause-unchanged c = λ side links shown.
    let added = c.in_ok-is_added.ensures.ok side links shown in
    taken_back side c.remove.new.self links c.link_id-call.result
    (new_linked c.args.config.now.params0 c.args.config.now.durations)
    (sym (c.in_ok-is_added.ensures.added side links shown) ∙ c.if-is_added.true)
    (c.remove.ensures side _ (c.in_default.ensures.unchanged side _ added))

pub returns-else-is_added-clause-unchanged : goal.returns-else-is_added-clause-unchanged
returns-else-is_added-clause-unchanged c = λ side links shown.
    let added = c.in_ok-is_added.ensures.ok side links shown in
    left_alone side c.add-2.new.self links c.link_id-call.result
    (new_linked c.args.config.now.params0 c.args.config.now.durations)
    (sym (c.in_ok-is_added.ensures.added side links shown) ∙ c.if-is_added.false)
    (c.in_default.ensures.unchanged side _ added)

pub returns-clause-ok : goal.returns-clause-ok
returns-clause-ok c = λ side links shown.
    both_added side c.add-2.new.self c.args.config.now c.args.tei links c.link_id-call.result
    c.link_id-call.ensures c.link_id-packet.result c.link_id-packet.ensures c.if-not-config.false
    (c.in-Ok.ensures.ok side _ (c.in_ok-is_added.ensures.ok side links shown))
