use Rattle.std.proofs.Common.{◌≡◌, ◌-◌}
use Rattle.lapd_capture.specs.Moment.{missing_among, missing_in}
use Rattle.lapd_capture.proofs.interface.missing_in.Given as goal

-- the options that were passed say nothing of missing packets
abbrev pub invariant-loop-option : goal.invariant-loop-option
invariant-loop-option l = missing_in l.order l.options ≡ missing_among (64 - l._option) l.order l.rest
