use Rattle.std.proofs.Common.{refl, subst}
use Rattle.lapd_frame.specs.declared.Side.TheVariants as side
use Rattle.lapd_tei.specs.Assigner.{AssignerState}
use Rattle.lapd_sides_links.specs.Links.{links_of_held}
use Rattle.lapd_sides_links.specs.Shown.{ShowLinks}
use Rattle.lapd_sides.proofs.net_side.NetSide.new.Goals as goal

pub returns : goal.returns
returns c = record {
  configured = refl;
  served = record {
    links =
        subst (λ (assigner : AssignerState). ShowLinks side.Network c.add_held.new.self
        (links_of_held c.args.config assigner.held)) c.new-assigner.ensures
        (c.in_ok-add_held.ensures side.Network c.in_ok-served.ensures.shown.links);
    timers = c.in_ok-served.ensures.shown.timers;
  };
  management = c.new-assigner.ensures;
  discarded = c.in_ok-served.ensures.none;
}
