use Rattle.std.proofs.Common.{◌≡◌, ◌-◌}
use Rattle.lapd_capture.specs.Moment.{units_among, units_in}
use Rattle.lapd_capture.proofs.interface.units_in.Given as goal

-- the options that were passed say nothing of the units
abbrev pub invariant-loop-option : goal.invariant-loop-option
invariant-loop-option l = units_in l.order l.options ≡ units_among (64 - l._option) l.order l.rest
