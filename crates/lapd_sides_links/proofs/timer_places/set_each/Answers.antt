use Rattle.std.proofs.Common.{rules}
use Rattle.std.proofs.lemmas.List.Edits.{map_over_more}
use Rattle.lapd_timers.specs.Due.{with_durations}
use Rattle.lapd_sides_links.proofs.timer_places.set_each.Goals as goal

pub loop-timers-preserved : goal.loop-timers-preserved
loop-timers-preserved c = search (rules, map_over_more (with_durations c.args.durations))
