-- act
use Rattle.std.proofs.Common.{OnOk, IfErr, sym, subst}
use Rattle.lapd_link_definition.specs.Input.{input_of}
use Rattle.lapd_table.specs.declared.link_id.LinkId.{LinkId}
use Rattle.lapd_table.specs.LinkTable.{IsFor}
use Rattle.lapd_sides_links.specs.Links.{in_links, link_acts}
use Rattle.lapd_sides_links.specs.Shown.{LinksDo, LinksRefuseAs}
use Rattle.lapd_sides_links.proofs.Acting.{no_link}
use Rattle.lapd_sides_links.proofs.link_set.LinkSet.act.Goals as goal

pub act_at-requires-clause-for_link : goal.act_at-requires-clause-for_link
act_at-requires-clause-for_link c =
    subst (λ (id : LinkId). IsFor id c.args.event) (sym c.in-Some.ensures.found.0)
    c.requires.for_link

pub returns-in-Some-clause-ok : goal.returns-in-Some-clause-ok
returns-in-Some-clause-ok c =
    subst (λ (id : LinkId). OnOk c.act_at.result
    (LinksDo c.args.self.now c.act_at.new.self c.args.acts.now c.act_at.new.acts
    (λ side. in_links id (link_acts side id c.args.now (input_of c.args.event)
    c.args.octets.now)))) c.in-Some.ensures.found.0 c.act_at.ensures.ok

pub returns-in-Some-clause-err : goal.returns-in-Some-clause-err
returns-in-Some-clause-err c =
    subst (λ (id : LinkId). IfErr c.act_at.result (LinksRefuseAs c.args.self.now
    (λ side. in_links id (link_acts side id c.args.now (input_of c.args.event)
    c.args.octets.now)))) c.in-Some.ensures.found.0 c.act_at.ensures.err

pub returns-in-None-clause-err : goal.returns-in-None-clause-err
returns-in-None-clause-err c =
    λ side links shown. no_link side c.args.self.now links c.args.id.now _
    (c.find.ensures.none c.in-None.is) shown
