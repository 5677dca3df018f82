-- The least pair is found by comparing the four timers one after another.
use Rattle.std.proofs.Common.{subst}
use Rattle.lapd_timers.proofs.Least.{found}
use Rattle.lapd_timers.specs.Due.{IsDue}
use Rattle.lapd_timers.proofs.timer_set.TimerSet.due.Goals as goal

pub returns : goal.returns
returns c = subst (λ s. IsDue c.args.now s c.timer_of.result) c.self.view_is
    (found _ _ _ _ _ _ _ c.sooner-least.ensures c.sooner-least-2.ensures c.sooner-least-3.ensures
    c.sooner-least-4.ensures c.timer_of.ensures)
