-- The side that a handle lends to a call.
use Rattle.std.specs.Prelude.{Option, Some}
use Rattle.std.specs.Borrow.{Fml, LendsIf, MutBor}
use Rattle.lapd_c.specs.declared.handle.Handle.{Handle}
use Rattle.lapd_c.specs.contracts.handle.Handle as handle
use Rattle.lapd_c.specs.contracts.held_side.HeldSide.{the_row}

-- the handle owns this side
abbrev pub with_side : Handle → the_row.Denot → Handle
with_side handle side = record handle { held = Some side }

-- the handle ends with what the call left of the side, and unchanged if it owns none
abbrev pub LendsSide : MutBor Handle → Option (MutBor the_row.Denot) → Fml
LendsSide lender side = LendsIf handle.the_row the_row lender side (with_side lender.now) lender.now
