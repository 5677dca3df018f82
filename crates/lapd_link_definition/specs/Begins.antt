-- The steps in which an establishment begins, with all numbers at 0 (Q.921 5.5.1.2).
use Rattle.std.specs.Prelude.{◌≡◌, ◌+◌, ◌&&◌, not, Bool, true, false}
use Rattle.lapd_frame.specs.declared.Role.TheVariants.{Command, Answer}
use Rattle.lapd_frame.specs.declared.Control.TheVariants.{Sabme, Ua}
use Rattle.lapd_link_definition.specs.declared.state.State.{State}
use Rattle.lapd_link_definition.specs.declared.state.State.TheVariants.{TeiAssigned, AwaitingEstablishment, AwaitingRelease, MultipleFrameEstablished, TimerRecovery}
use Rattle.lapd_link_definition.specs.End.{End}
use Rattle.lapd_link_definition.specs.Input.{Input, Heard}

abbrev pub is_sabme : Input → Bool
is_sabme (Heard (Sabme p) Command) = true
is_sabme input = false

-- a UA with F=1, the answer to the SABME
abbrev pub is_final_ua : Input → Bool
is_final_ua (Heard (Ua true) Answer) = true
is_final_ua input = false

-- a SABME of the peer in states 4, 7 and 8, and the answer to this end's own in state 5, if no
-- release is pending
abbrev pub begins : State → Bool → Input → Bool
begins TeiAssigned release_pending input = is_sabme input
begins AwaitingEstablishment release_pending input = is_final_ua input && not release_pending
begins AwaitingRelease release_pending input = false
begins MultipleFrameEstablished release_pending input = is_sabme input
begins TimerRecovery release_pending input = is_sabme input

-- It has begun, in state 7: nothing is acknowledged or received in it. V(S) already counts the
-- frames sent in this step.
pub record HasBegun (before now : End) : Type 0 where
  pub counted : now.establishments ≡ before.establishments + 1
  pub established : now.state ≡ MultipleFrameEstablished
  pub none_acknowledged : now.window.va ≡ 0
  pub none_received : now.window.vr ≡ 0
