-- The frames that a closed end processes, and the outputs of a step that send none.
use Rattle.std.proofs.Common.{◌≡◌, ℕ, Bool, true, false, List, ◌∷◌, ◌++◌, option_map, refl, subst, []}
use Rattle.lapd_timers.specs.declared.timer.Timer.TheVariants.{T200, T203}
use Rattle.lapd_frame.specs.declared.Role.{Role}
use Rattle.lapd_frame.specs.declared.Role.TheVariants.{Command, Answer}
use Rattle.lapd_frame.specs.declared.Control.{Control}
use Rattle.lapd_frame.specs.declared.Control.TheVariants.{Rr, Rnr, Rej, Sabme, Dm, Disc, Ua}
use Rattle.lapd_link_definition.specs.declared.state.State.{State}
use Rattle.lapd_link_definition.specs.declared.state.State.TheVariants.{TeiAssigned, AwaitingEstablishment, AwaitingRelease, MultipleFrameEstablished, TimerRecovery}
use Rattle.lapd_link_definition.specs.declared.out.Out.TheVariants.{Start, Stop, ReleaseConfirm, Confirmed}
use Rattle.lapd_link_definition.specs.EndOfStep.{is_7_or_8}
use Rattle.lapd_link_definition.specs.Procedures.{out_where}
use Rattle.lapd_pair_laws.specs.Histories.{Occasion, Story, after_outputs}
use Rattle.lapd_pair_laws.specs.Kinds.{Kind, kind_of, is_acceptance}
use Rattle.lapd_pair_laws.specs.Parties.{Reception, behind, behind_acceptance, next_reception, received_in, OnReception}

-- ---- The frames that a closed end will process.

-- a frame that is not the UA is passed over
pub passed_over : (Q : Reception → Type 0) (state : State) (leaving : Bool) (before now : Reception)
    (k : Kind) (ks : List Kind) → is_7_or_8 state ≡ false
    → (state ≡ AwaitingEstablishment → is_acceptance k ≡ false)
    → OnReception Q (received_in state leaving before (k ∷ ks))
    → OnReception Q (received_in state leaving now ks)
passed_over Q TeiAssigned leaving before now k ks closed other a = tt
passed_over Q AwaitingEstablishment true before now k ks closed other a = tt
passed_over Q AwaitingEstablishment false before now k ks closed other a =
    subst (λ b. OnReception Q (option_map next_reception (behind b ks (behind_acceptance ks))))
    (other refl) a
passed_over Q AwaitingRelease leaving before now k ks closed other a = tt
passed_over Q MultipleFrameEstablished leaving before now k ks closed other a = cc
passed_over Q TimerRecovery leaving before now k ks closed other a = cc

-- the UA of the peer
abbrev is_ua : Control → Role → Bool
is_ua (Ua true) Answer = true
is_ua control role = false

pub not_ua : (control : Control) (role : Role) (octets : List ℕ) (place : ℕ)
    → is_ua control role ≡ false → is_acceptance (kind_of role control octets place) ≡ false
not_ua (Ua true) Answer octets place other = cc
not_ua (Rr nr true) Command octets place other = refl
not_ua (Rnr nr true) Command octets place other = refl
not_ua (Rej nr true) Answer octets place other = refl
not_ua (Sabme true) Command octets place other = refl
not_ua (Disc true) Command octets place other = refl
not_ua (Dm true) Answer octets place other = refl
not_ua control Command octets place other = refl
not_ua control role octets place other = refl

-- ---- Outputs that send no frame.

pub confirmed_line : (b : Bool) (o : Occasion) (t : Story)
    → (after_outputs o (out_where b (Stop T200) ++ ReleaseConfirm ∷ []) t).line ≡ t.line
confirmed_line true o t = refl
confirmed_line false o t = refl

pub opened_line : (b : Bool) (o : Occasion) (t : Story)
    → (after_outputs o ((Confirmed ∷ []) ++ out_where b (Stop T200) ++ Start T203 ∷ []) t).line
    ≡ t.line
opened_line true o t = refl
opened_line false o t = refl
