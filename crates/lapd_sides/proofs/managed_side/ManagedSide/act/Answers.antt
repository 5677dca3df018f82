use Rattle.std.proofs.Common.{Err, sym, ap, ◌∙◌}
use Rattle.lapd_sides_links.specs.declared.side_fault.SideFault.{SideFault}
use Rattle.lapd_sides.specs.SideState.{among_links, link_of}
use Rattle.lapd_sides.proofs.Steps.{granted, links_shown}
use Rattle.lapd_sides.proofs.managed_side.ManagedSide.act.Goals as goal

pub returns-in-Ok : goal.returns-in-Ok
unfolding link_of
returns-in-Ok g c = λ config s shown.
    granted g.M.Represented.represents g.M.Represented.rules.side c.args.self.now c.act.new.self
    config s c.args.acts.now c.act.new.acts _ shown c.requires.empty
    (c.in-Ok.ensures.ok g.M.Represented.rules.side s.served.links shown.served.links)

pub returns-in-Err : goal.returns-in-Err
unfolding link_of
returns-in-Err g c = record {
  kind = λ config s shown.
      ap (among_links s)
      (c.in-Err.ensures.err g.M.Represented.rules.side s.served.links shown.served.links)
      ∙ ap (λ (f : SideFault). Err f.kind) (sym c.without_message.ensures);
  returned = ap (λ (f : SideFault). f.message) c.without_message.ensures;
  unchanged = λ config s shown.
      links_shown g.M.Represented.represents g.M.Represented.rules.side c.args.self.now
      c.act.new.self config s shown
      (c.in-Err.ensures.unchanged g.M.Represented.rules.side s.served.links shown.served.links);
  nothing = c.in-Err.ensures.nothing ∙ c.requires.empty;
}
