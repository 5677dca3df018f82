-- expire
use Rattle.std.proofs.Common.{◌≡◌, ◌∙◌, option_map, subst}
use Rattle.lapd_link_definition.specs.Input.{Input}
use Rattle.lapd_link_definition.specs.Input as input
use Rattle.lapd_table.specs.declared.link_id.LinkId.{LinkId}
use Rattle.lapd_table.specs.LinkTable.{StepsAt, RefusesAt}
use Rattle.lapd_sides_links.specs.Effects.{stopped}
use Rattle.lapd_sides_links.specs.Links.{in_links, link_expires}
use Rattle.lapd_sides_links.specs.Shown.{timers_at, HaveActed}
use Rattle.lapd_sides_links.proofs.Acting.{no_link, refuses_expiry, have_expired}
use Rattle.lapd_sides_links.proofs.link_set.LinkSet.expire.Goals as goal

pub returns-in_default-clause-err : goal.returns-in_default-clause-err
returns-in_default-clause-err c = λ side links shown.
    no_link side c.args.self.now links c.args.id.now _ (c.find.ensures.none c.in_default.is) shown

pub returns-in-Ok-clause-ok : goal.returns-in-Ok-clause-ok
returns-in-Ok-clause-ok c = λ side links shown.
    let id = c.in-Some.key.id in
    let steps =
    subst (λ (input : Input). StepsAt c.args.self.now.table c.handle_at.new.self id input
    c.handle_at.new.outs.items)
    c.expiry_of.ensures.input c.in-Ok.ensures.ok in
    let own =
    subst (λ (i : LinkId). timers_at c.stop.new.self i ≡ option_map (stopped c.args.timer)
    (timers_at c.args.self.now.link_timers i))
    c.id.ensures c.stop.ensures.own in
    subst (λ (i : LinkId). HaveActed side c.carry_out.new.self c.args.acts.now c.carry_out.new.acts
    (in_links i (link_expires side i c.args.now c.args.timer) links)) c.in-Some.ensures.found.0
    (have_expired side c.args.self.now c.carry_out.new.self c.handle_at.new.self links id c.args.now
    c.args.timer
    (timers_at c.stop.new.self id) c.handle_at.new.outs.items c.args.acts.now c.carry_out.new.acts
    steps c.carry_out.ensures.table own c.carry_out.ensures.own
    (λ other differ. c.carry_out.ensures.others other differ ∙ c.stop.ensures.others other
    (λ same. differ (same ∙ c.id.ensures)))
    c.carry_out.ensures.frames c.carry_out.ensures.primitives shown)

pub returns-in-Err-clause-err : goal.returns-in-Err-clause-err
returns-in-Err-clause-err c = λ side links shown.
    refuses_expiry side c.args.self.now links c.args.id.now c.args.now c.args.timer c.in-Err.fault
    (subst (λ (id : LinkId). RefusesAt c.args.self.now.table id (input.Expiry c.args.timer)
    c.in-Err.fault) c.in-Some.ensures.found.0
    (subst (λ (i : Input). RefusesAt c.args.self.now.table c.in-Some.key.id i c.in-Err.fault)
    c.expiry_of.ensures.input c.in-Err.ensures.err)) shown
