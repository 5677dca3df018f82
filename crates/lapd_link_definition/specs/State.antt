-- The numbers of the states (Q.921 Annex B).
use Rattle.std.specs.Prelude.{ℕ}
use Rattle.lapd_link_definition.specs.declared.state.State.{State}
use Rattle.lapd_link_definition.specs.declared.state.State.TheVariants.{TeiAssigned, AwaitingEstablishment, AwaitingRelease, MultipleFrameEstablished, TimerRecovery}

abbrev pub state_number : State → ℕ
state_number TeiAssigned = 4
state_number AwaitingEstablishment = 5
state_number AwaitingRelease = 6
state_number MultipleFrameEstablished = 7
state_number TimerRecovery = 8
