use Rattle.std.proofs.Common.{[], Some}
use Rattle.lapd_link_definition.specs.Input.{Give}
use Rattle.lapd_sides_links.specs.Links.{in_links, link_acts}
use Rattle.lapd_sides.specs.SideState.{link_of}
use Rattle.lapd_frame.specs.declared.Side.TheVariants as side
use Rattle.lapd_sides.specs.ShowsNetwork.{is_assigner}
use Rattle.lapd_sides.proofs.Steps.{link_answers}
use Rattle.lapd_sides.proofs.net_side.NetSide.give_message.Goals as goal

pub returns : goal.returns
unfolding link_of
returns c =
    link_answers is_assigner side.Network c.give.result c.args.self.now c.give.new.self
    c.args.acts.now c.give.new.acts (Some c.args.message)
    (λ at links. in_links c.args.id
    (link_acts at c.args.id c.args.now (Give c.args.message.items) []) links)
    c.requires.empty c.give.ensures.ok c.give.ensures.err c.give.ensures.returned
    c.give.ensures.unchanged c.give.ensures.nothing
