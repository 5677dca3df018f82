use Rattle.std.proofs.Common.{[], Err, sym, ap, ◌∙◌}
use Rattle.lapd_link_definition.specs.Input.{input_of}
use Rattle.lapd_sides_links.specs.declared.side_fault.SideFault.{SideFault}
use Rattle.lapd_sides_links.specs.declared.side_fault.SideKind.TheVariants.{NoLink}
use Rattle.lapd_sides.specs.SideState.{link_of}
use Rattle.lapd_sides.proofs.Using.{answers_as, is_own, is_none}
use Rattle.lapd_sides.proofs.user_side.UserSide.set_own_busy.Goals as goal

pub act-requires-clause-for_link : goal.act-requires-clause-for_link
act-requires-clause-for_link c = c.requires.for_link c.link_id.result

pub returns-in-Some : goal.returns-in-Some
unfolding link_of
returns-in-Some c = answers_as c.act.result _ _ _ _ _ _ (λ config s shown.
    is_own c.args.self.now config s c.tei.result c.in-Some.tei c.args.now c.args.sapi
    c.link_id.result
    (input_of c.args.event) [] (Err NoLink) shown
    (record { of = c.tei.ensures; is = c.in-Some.is; named = c.link_id.ensures })) c.act.ensures

pub returns-in-None : goal.returns-in-None
returns-in-None c = record {
  kind =
      λ config s shown. is_none c.args.self.now config s c.tei.result c.args.now c.args.sapi
      (input_of c.args.event) [] (Err NoLink) shown c.tei.ensures c.in-None.is ∙ ap
      (λ (f : SideFault). Err f.kind) (sym c.without_message.ensures);
  returned = ap (λ (f : SideFault). f.message) c.without_message.ensures;
  unchanged = λ config s shown. shown;
  nothing = c.requires.empty;
}
