use Rattle.std.proofs.Common.{ap, ◌∙◌}
use Rattle.lapd_sides_links.specs.declared.config.Config.{Config}
use Rattle.lapd_sides.proofs.managed_side.ManagedSide.set_durations.Goals as goal

pub returns : goal.returns
returns g c = λ config s shown. record {
  configured = ap (λ (before : Config). record before { durations = c.args.durations })
      shown.configured;
  served = c.set_durations.ensures.set g.M.Represented.rules.side s.served shown.served;
  management = shown.management;
  discarded = c.set_durations.ensures.discarded ∙ shown.discarded;
}
