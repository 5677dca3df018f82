use Rattle.std.proofs.Common.{◌≡◌, ℕ, Bool, true, false, Option, option_map, ◌∙◌}
use Rattle.lapd_timers.specs.Due.{Timers}
use Rattle.lapd_timers.specs.declared.timer.Timer.TheVariants.{T200, T203}
use Rattle.lapd_link_machine.specs.declared.machine.predicted.NrEffect.TheVariants.{All}
use Rattle.lapd_link_machine.specs.Predicted.{nr_outs}
use Rattle.lapd_sides_links.specs.Effects.{restart_outs, timed}
use Rattle.lapd_sides_links.proofs.PredictedSteps.{all_timed, part_timed, none_timed}
use Rattle.lapd_sides_links.proofs.link_timers.LinkTimers.apply_nr.Goals as goal

by_stops : (now count : ℕ) (stops : Bool) (timers : Option Timers)
    → option_map (timed now (restart_outs stops T200 T203)) timers
    ≡ option_map (timed now (nr_outs (All count stops))) timers
by_stops now count true timers = all_timed now count true timers
by_stops now count false timers = all_timed now count false timers

pub returns-in-All-clause-own : goal.returns-in-All-clause-own
returns-in-All-clause-own c =
    rw c.in-All.is (c.restart.ensures.own ∙ by_stops c.args.now c.in-All.count c.in-All.stops _)

pub returns-in-Part-clause-own : goal.returns-in-Part-clause-own
returns-in-Part-clause-own c =
    rw c.in-Part.is (c.restart-in-Part.ensures.own ∙ part_timed c.args.now c.in-Part.count _)

pub returns-in-Nothing-clause-own : goal.returns-in-Nothing-clause-own
returns-in-Nothing-clause-own c = rw c.in-Nothing.is (none_timed c.args.now _)
