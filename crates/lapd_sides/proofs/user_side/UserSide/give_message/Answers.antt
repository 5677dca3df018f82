use Rattle.std.proofs.Common.{[], Some, Err, sym, ap, ◌∙◌}
use Rattle.lapd_link_definition.specs.Input.{Give}
use Rattle.lapd_link_definition.specs.declared.event.LinkFault.TheVariants.{NotEstablished}
use Rattle.lapd_sides_links.specs.declared.side_fault.SideKind.TheVariants.{Link}
use Rattle.lapd_sides_links.specs.Links.{in_links, link_acts}
use Rattle.lapd_sides.specs.SideState.{link_of}
use Rattle.lapd_frame.specs.declared.Side.TheVariants as side
use Rattle.lapd_sides.specs.ShowsUser.{ShowTerminal}
use Rattle.lapd_sides.proofs.Steps.{link_answers}
use Rattle.lapd_sides.proofs.Using.{answers_as, is_own, is_none}
use Rattle.lapd_sides.proofs.user_side.UserSide.give_message.Goals as goal

pub returns-in-Some : goal.returns-in-Some
unfolding link_of
returns-in-Some c = answers_as c.give.result _ _ _ _ _ _ (λ config s shown.
    is_own c.args.self.now config s c.tei.result c.in-Some.tei c.args.now c.args.sapi
    c.link_id.result
    (Give c.args.message.items) [] (Err (Link NotEstablished)) shown
    (record { of = c.tei.ensures; is = c.in-Some.is; named = c.link_id.ensures }))
    (link_answers ShowTerminal side.User c.give.result c.args.self.now c.give.new.self
    c.args.acts.now c.give.new.acts (Some c.args.message)
    (λ at links. in_links c.link_id.result
    (link_acts at c.link_id.result c.args.now (Give c.args.message.items) []) links)
    c.requires.empty c.give.ensures.ok c.give.ensures.err c.give.ensures.returned
    c.give.ensures.unchanged c.give.ensures.nothing)

pub returns-in-None : goal.returns-in-None
returns-in-None c = record {
  kind =
      λ config s shown. is_none c.args.self.now config s c.tei.result c.args.now c.args.sapi
      (Give c.args.message.items) [] (Err (Link NotEstablished)) shown c.tei.ensures c.in-None.is ∙
      ap Err (sym c.refused.ensures.kind);
  returned = c.refused.ensures.message;
  unchanged = λ config s shown. shown;
  nothing = c.requires.empty;
}
