use Rattle.std.proofs.Common.{ap, ◌∙◌}
use Rattle.lapd_timers.specs.Due.{with_durations}
use Rattle.lapd_sides.proofs.links_and_timer.LinksAndTimer.set_durations.Goals as goal

pub returns-clause-set : goal.returns-clause-set
returns-clause-set c = λ side s shown. record {
  links = c.set_durations.ensures side s.links shown.links;
  timers = c.set_durations-2.ensures ∙ ap (with_durations c.args.durations) shown.timers;
}
