use Rattle.std.proofs.Common.{◌≡◌, ℕ, Bool, true, false, Option, option_map, refl, ◌∙◌}
use Rattle.lapd_timers.specs.Due.{Timers}
use Rattle.lapd_timers.specs.declared.timer.Timer.TheVariants.{T200, T203}
use Rattle.lapd_link_machine.specs.declared.machine.given.SendEffect.TheVariants.{Starts}
use Rattle.lapd_link_machine.specs.Given.{send_outs}
use Rattle.lapd_sides_links.specs.Effects.{restart_outs, timed}
use Rattle.lapd_sides_links.proofs.GivenSteps.{nothing_timed}
use Rattle.lapd_sides_links.proofs.link_timers.LinkTimers.apply_send.Goals as goal

by_stops : (now : ℕ) (stops : Bool) (timers : Option Timers)
    → option_map (timed now (restart_outs stops T203 T200)) timers
    ≡ option_map (timed now (send_outs (Starts stops))) timers
by_stops now true timers = refl
by_stops now false timers = refl

pub returns-in-Starts-clause-own : goal.returns-in-Starts-clause-own
returns-in-Starts-clause-own c =
    rw c.in-Starts.is (c.restart.ensures.own ∙ by_stops c.args.now c.in-Starts.stops _)

pub returns-in-Nothing-clause-own : goal.returns-in-Nothing-clause-own
returns-in-Nothing-clause-own c = rw c.in-Nothing.is (nothing_timed c.args.now _)
