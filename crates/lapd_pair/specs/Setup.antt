-- The side, SAPI and TEI of each link of a pair.
use Rattle.lapd_frame.specs.declared.Side.{Side}
use Rattle.lapd_frame.specs.declared.Sapi.TheVariants.{Call}
use Rattle.lapd_link.specs.Link.{Setup}

-- SAPI 0 and TEI 64
abbrev pub setup_for : Side → Setup
setup_for side = record { side = side; sapi = Call; tei = 64 }
