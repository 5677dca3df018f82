-- Numbers within the bounds of their windows are near.
use Rattle.std.proofs.Common.{◌≡◌, ℕ, ◌≤◌, true, length}
use Rattle.lapd_frame.specs.declared.Control.{Control}
use Rattle.lapd_frame.specs.declared.Control.TheVariants.{I, Rr, Rnr, Rej}
use Rattle.lapd_mod128.specs.Counting.{Whole}
use Rattle.lapd_mod128.proofs.Tags.{next_is_near}
use Rattle.lapd_supervision.specs.StateVariables.{StateVariables}
use Rattle.lapd_supervision.specs.Tags.{IsWindow}
use Rattle.lapd_supervision.proofs.Tagging.{within_is_near}
use Rattle.lapd_link_definition.specs.declared.state.State.{State}
use Rattle.lapd_link_definition.specs.declared.state.State.TheVariants.{TeiAssigned, AwaitingEstablishment, AwaitingRelease, MultipleFrameEstablished, TimerRecovery}
use Rattle.lapd_link_definition.specs.EndOfStep.{is_7_or_8}
use Rattle.lapd_link_definition.specs.End.{End}
use Rattle.lapd_link_definition.specs.Sound.{IsSoundIn, IsSound}
use Rattle.lapd_link_definition.specs.Tagging.{HasNearNumbers, HasNumbersWithin}
use Rattle.lapd_link_definition.proofs.RowsOnTags.{window_of}

pub window_in : (state : State) (e : End) → IsSoundIn Whole state e → is_7_or_8 state ≡ true
    → IsWindow e.window.va e.window.vs
window_in MultipleFrameEstablished e sound is =
    window_of e.first e.next (length e.given) e.window.va e.window.vs sound
window_in TimerRecovery e sound is =
    window_of e.first e.next (length e.given) e.window.va e.window.vs sound
window_in TeiAssigned e sound is = cc
window_in AwaitingEstablishment e sound is = cc
window_in AwaitingRelease e sound is = cc

within_are_near : (k : ℕ) (control : Control) (m : StateVariables) → k ≤ 127 → IsWindow m.va m.vs
    → HasNumbersWithin k control m → HasNearNumbers control m
within_are_near k (I ns nr p) m small window within = (
  next_is_near ns m.vr k small within.0 within.1,
  within_is_near nr m.va m.vs within.2.0 within.2.1 window.at_most,
)
within_are_near k (Rr nr pf) m small window within =
    within_is_near nr m.va m.vs within.0 within.1 window.at_most
within_are_near k (Rnr nr pf) m small window within =
    within_is_near nr m.va m.vs within.0 within.1 window.at_most
within_are_near k (Rej nr pf) m small window within =
    within_is_near nr m.va m.vs within.0 within.1 window.at_most
within_are_near k control m small window within = tt

pub numbers_within_are_near : (k : ℕ) (control : Control) (e : End) → k ≤ 127 → IsSound Whole e
    → is_7_or_8 e.state ≡ true → HasNumbersWithin k control e.window
    → HasNearNumbers control e.window
numbers_within_are_near k control e small sound is within =
    within_are_near k control e.window small (window_in e.state e sound is) within
