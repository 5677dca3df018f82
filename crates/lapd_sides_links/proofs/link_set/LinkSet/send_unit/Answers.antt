-- send_unit
use Rattle.std.proofs.Common.{OnOk, IfErr, length, subst}
use Rattle.lapd_link_definition.specs.Input.{UnitData}
use Rattle.lapd_table.specs.declared.link_id.LinkId.{LinkId}
use Rattle.lapd_sides_links.specs.Links.{in_links, link_acts}
use Rattle.lapd_sides_links.specs.Shown.{LinksDo, LinksRefuseAs}
use Rattle.lapd_sides_links.proofs.Acting.{no_link}
use Rattle.lapd_sides_links.proofs.Units.{long_is_refused}
use Rattle.lapd_sides_links.proofs.link_set.LinkSet.send_unit.Goals as goal

pub returns-in_default-clause-err : goal.returns-in_default-clause-err
returns-in_default-clause-err c =
    λ side links shown. no_link side c.args.self.now links c.args.id.now _
    (c.find.ensures.none c.in_default.is) shown

pub returns-then-octets-gt-N201-clause-err : goal.returns-then-octets-gt-N201-clause-err
returns-then-octets-gt-N201-clause-err c =
    λ side links shown. long_is_refused side c.args.self.now links c.args.id.now
    c.in-Some.key c.args.now c.args.octets.now c.in-Some.ensures.found c.if-octets-gt-N201.true
    shown

pub returns-clause-ok : goal.returns-clause-ok
returns-clause-ok c =
    subst (λ (id : LinkId). OnOk c.act_at.result
    (LinksDo c.args.self.now c.act_at.new.self c.args.acts.now c.act_at.new.acts
    (λ side. in_links id (link_acts side id c.args.now (UnitData (length c.args.octets.now))
    c.args.octets.now)))) c.in-Some.ensures.found.0 c.act_at.ensures.ok

pub returns-clause-err : goal.returns-clause-err
returns-clause-err c = subst (λ (id : LinkId). IfErr c.act_at.result (LinksRefuseAs c.args.self.now
    (λ side. in_links id (link_acts side id c.args.now (UnitData (length c.args.octets.now))
    c.args.octets.now)))) c.in-Some.ensures.found.0 c.act_at.ensures.err
