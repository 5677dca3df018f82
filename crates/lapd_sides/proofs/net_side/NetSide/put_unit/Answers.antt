use Rattle.std.proofs.Common.{ap, ◌∙◌}
use Rattle.lapd_frame.specs.declared.Side.TheVariants as side
use Rattle.lapd_sides.specs.SideState.{link_of, among_links}
use Rattle.lapd_sides.proofs.Calling.{granted_as}
use Rattle.lapd_sides.specs.ShowsNetwork.{is_assigner}
use Rattle.lapd_sides.proofs.Networking.{not_to_group}
use Rattle.lapd_sides.proofs.Steps.{granted, links_shown}
use Rattle.lapd_sides_links.proofs.Outcomes.{ok_gives, err_gives, each_err}
use Rattle.lapd_sides.proofs.net_side.NetSide.put_unit.Goals as goal

pub returns-else-serves_group-clause-ok : goal.returns-else-serves_group-clause-ok
unfolding link_of
returns-else-serves_group-clause-ok c = ok_gives c.send_unit.result _ _
    (λ f config s shown. granted_as _ config c.send_unit.new.acts _ _
    (not_to_group c.args.self.now.config config c.args.now c.args.id c.args.octets.now s
    c.serves_group.result c.serves_group.ensures c.if-serves_group.false shown.configured)
    (granted is_assigner side.Network c.args.self.now c.send_unit.new.self config s c.args.acts.now
    c.send_unit.new.acts _ shown c.requires.empty
    (f side.Network s.served.links shown.served.links))) c.send_unit.ensures.ok

pub returns-else-serves_group-clause-err : goal.returns-else-serves_group-clause-err
unfolding link_of
returns-else-serves_group-clause-err c = each_err c.send_unit.result _ _
    (λ k f config s shown. not_to_group c.args.self.now.config config c.args.now c.args.id
    c.args.octets.now s c.serves_group.result c.serves_group.ensures c.if-serves_group.false
    shown.configured
    ∙ ap (among_links s) (f side.Network s.served.links shown.served.links)) c.send_unit.ensures.err

pub returns-else-serves_group-clause-unchanged : goal.returns-else-serves_group-clause-unchanged
returns-else-serves_group-clause-unchanged c =
    err_gives c.send_unit.result _ _ (λ f config s shown. links_shown is_assigner side.Network
    c.args.self.now c.send_unit.new.self config s shown
    (f side.Network s.served.links shown.served.links)) c.send_unit.ensures.unchanged
