use Rattle.std.proofs.Common.{◌≡◌, length}
use Rattle.lapd_capture.specs.Reading.{first_unserved}
use Rattle.lapd_capture.proofs.interface.first_unserved.Given as goal

-- frames can be read from the link types before
abbrev pub invariant-loop-rest : goal.invariant-loop-rest
invariant-loop-rest l = first_unserved l.rest ≡ first_unserved l.interfaces

abbrev pub decreases-loop-rest : goal.decreases-loop-rest
decreases-loop-rest l = length l.rest
