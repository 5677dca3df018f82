use Rattle.lapd_tei.proofs.EventsPreserve.{in_order, teis_are_held, held_until_freed}
use Rattle.lapd_tei.proofs.laws.service_is_in_order.Goals as goal

pub returns : goal.returns
returns c = record { in_order = in_order; held = teis_are_held; until = held_until_freed }
