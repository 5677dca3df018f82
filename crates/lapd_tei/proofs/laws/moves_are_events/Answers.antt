use Rattle.std.proofs.Common.{refl}
use Rattle.lapd_tei.proofs.EventsPreserve.{moves_are_events, premises_are_local}
use Rattle.lapd_tei.proofs.laws.moves_are_events.Goals as goal

pub returns : goal.returns
returns c =
    record { first = λ terminals. refl; moves = moves_are_events; premises = premises_are_local }
