-- A name for the words that a run of sides computes with.
use Rattle.std.proofs.Common.{ℕ, zero}
use Rattle.lapd_sides.proofs.ComputedSide.{computed_side}
use Rattle.lapd_side_events.specs.SideView.{does}

-- all that the events of sides compute with
unfoldable pub computed_events : ℕ
unfolding computed_side does
computed_events = zero
