use Rattle.std.proofs.Common.{Option, option_copied, refl, sym, ap, subst, ◌∙◌}
use Rattle.lapd_link.specs.declared.link.Link.{Link}
use Rattle.lapd_sides.specs.declared.either_side.EitherSide.{EitherSide}
use Rattle.lapd_sides.specs.Either.{HasTable}
use Rattle.lapd_c.specs.Calls.{ReturnsLink}
use Rattle.lapd_c.specs.SideQueries.{link_meant}
use Rattle.lapd_c.proofs.held_side.HeldSide.state.Goals as goal

pub returns-in-Some : goal.returns-in-Some
returns-in-Some c = record {
  same = refl;
  terminal = option_copied c.terminal.result;
  has_terminal = c.terminal.ensures;
  table = c.table.result.now;
  has_table = subst (λ (x : EitherSide). HasTable x c.table.result.now) c.side.ensures
      c.table.ensures;
  link = subst (λ (o : Option Link). ReturnsLink c.of.result 0 o)
      (sym (ap option_copied c.in-Some.is)
      ∙ (c.link_meant.ensures ∙ ap (link_meant c.table.result.now) c.link_of_call.ensures))
      (refl, c.of.ensures);
}

pub returns-in-None : goal.returns-in-None
returns-in-None c = record {
  same = refl;
  terminal = option_copied c.terminal.result;
  has_terminal = c.terminal.ensures;
  table = c.table.result.now;
  has_table = subst (λ (x : EitherSide). HasTable x c.table.result.now) c.side.ensures
      c.table.ensures;
  link = subst (λ (o : Option Link). ReturnsLink c.nothing.result 11 o)
      (sym (ap option_copied c.in-None.is)
      ∙ (c.link_meant.ensures ∙ ap (link_meant c.table.result.now) c.link_of_call.ensures))
      (refl, c.nothing.ensures);
}
