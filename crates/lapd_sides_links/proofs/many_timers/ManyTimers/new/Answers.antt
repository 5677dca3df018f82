use Rattle.lapd_sides_links.proofs.DueTimers.{none_entered_yet}
use Rattle.lapd_sides_links.proofs.many_timers.ManyTimers.new.Goals as goal

pub invariant_of-result : goal.invariant_of-result
invariant_of-result c =
    none_entered_yet c.new.result c.in_ok-new.field-0 c.new.ensures c.in_ok-new.ensures
