-- The first frame is due: its N(R) is valid, and no response arrives unsolicited.
use Rattle.std.proofs.Common.{◌≡◌, ℕ, ◌+◌, ◌≤◌, ◌&&◌, Bool, true, false, List, [], ◌∷◌, map, refl, ap, arith}
use Rattle.lapd_frame.specs.declared.Role.{Role}
use Rattle.lapd_frame.specs.declared.Role.TheVariants.{Command, Answer}
use Rattle.lapd_frame.specs.declared.Control.{Control}
use Rattle.lapd_frame.specs.declared.Control.TheVariants.{I, Rr, Rnr, Rej, Dm, Ua, Frmr}
use Rattle.lapd_mod128.specs.Counting.{Whole, Tagged}
use Rattle.lapd_supervision.specs.StateVariables.{StateVariables, is_valid_nr}
use Rattle.lapd_link_definition.specs.declared.state.State.{State}
use Rattle.lapd_link_definition.specs.declared.state.State.TheVariants.{TeiAssigned, AwaitingEstablishment, AwaitingRelease, MultipleFrameEstablished, TimerRecovery}
use Rattle.lapd_link_definition.specs.EndOfStep.{is_7_or_8, is_established}
use Rattle.lapd_link_definition.specs.End.{End}
use Rattle.lapd_link_definition.specs.Input.{Heard}
use Rattle.lapd_link_definition.specs.Reports.{is_unasked, HasValidNumber, IsNumberedIn, IsDueIn}
use Rattle.lapd_link_definition.specs.Sound.{IsSound}
use Rattle.lapd_link_definition.specs.Tagging.{HasNumbersWithin, tag_end}
use Rattle.lapd_link_definition.proofs.DueOnTags.{due_on_tags}
use Rattle.lapd_link_definition.proofs.NearNumbers.{numbers_within_are_near}
use Rattle.lapd_pair_laws.specs.Line.{Flight}
use Rattle.lapd_pair_laws.specs.Move.{Station}
use Rattle.lapd_pair_laws.specs.Tagged.{IsFirstWithin, tag_flight, tag_world}
use Rattle.lapd_pair_laws.specs.World.{World}
use Rattle.lapd_pair_laws.specs.Kinds.{Kind, kind_of, kinds, tally, ask_of, answer_of, final_of, foreign_of}
use Rattle.lapd_pair_laws.specs.Parties.{Party, receives, frames_received, party}
use Rattle.lapd_pair_laws.specs.Conjuncts.{NoneAsked, most_asks}
use Rattle.lapd_pair_laws.specs.Invariant.{Both, IsInvariant}
use Rattle.lapd_pair_laws.specs.Reports.{IsFirstDue, AreFirstDue}
use Rattle.lapd_pair_laws.proofs.GoingBack.{none_asked_in_7}
use Rattle.lapd_pair_laws.proofs.MidSteps.{enter}
use Rattle.lapd_pair_laws.proofs.Nearness.{within_by_invariant}
use Rattle.lapd_pair_laws.proofs.OpenRows.{valid_whole}

-- ---- Responses.

only_in_7 : (state : State) (f : Bool) → (state ≡ MultipleFrameEstablished → f ≡ false)
    → (is_established state && f) ≡ false
only_in_7 MultipleFrameEstablished f none = none refl
only_in_7 state f none = refl

-- A response in transit was solicited: a UA or DM by a SABME or DISC that is outstanding, a final
-- by an enquiry. A UA or DM with F=0, or a FRMR, is never sent.
asked_for : (control : Control) (state : State) (info : List ℕ) (place : ℕ)
    → answer_of (kind_of Answer control info place) ≤ most_asks state
    → foreign_of (kind_of Answer control info place) ≡ 0
    → (state ≡ MultipleFrameEstablished → final_of (kind_of Answer control info place) ≡ 0)
    → is_unasked control state ≡ false
asked_for (Ua true) TeiAssigned info place most clean final = absurd (omega (arith, most))
asked_for (Ua true) MultipleFrameEstablished info place most clean final =
    absurd (omega (arith, most))
asked_for (Ua true) TimerRecovery info place most clean final = absurd (omega (arith, most))
asked_for (Ua false) state info place most clean final = absurd (omega (arith, clean))
asked_for (Dm true) MultipleFrameEstablished info place most clean final =
    absurd (omega (arith, most))
asked_for (Dm true) TimerRecovery info place most clean final = absurd (omega (arith, most))
asked_for (Dm false) state info place most clean final = absurd (omega (arith, clean))
asked_for (Frmr f) state info place most clean final = absurd (omega (arith, clean))
asked_for (Rr nr true) state info place most clean final =
    only_in_7 state true (λ is. let none : 1 ≡ 0 = final is in absurd (omega (arith, none)))
asked_for (Rr nr false) state info place most clean final = only_in_7 state false (λ is. refl)
asked_for (Rnr nr true) state info place most clean final =
    only_in_7 state true (λ is. let none : 1 ≡ 0 = final is in absurd (omega (arith, none)))
asked_for (Rnr nr false) state info place most clean final = only_in_7 state false (λ is. refl)
asked_for (Rej nr true) state info place most clean final =
    only_in_7 state true (λ is. let none : 1 ≡ 0 = final is in absurd (omega (arith, none)))
asked_for (Rej nr false) state info place most clean final = only_in_7 state false (λ is. refl)
asked_for control state info place most clean final = refl

-- no final arrives in state 7
no_final : (x y : Party) (out : List Kind) (k : Kind) (ks : List Kind) → Both x y out (k ∷ ks)
    → x.state ≡ MultipleFrameEstablished → final_of k ≡ 0
no_final x y out k ks b is =
    let none : NoneAsked (frames_received (receives y out)) (k ∷ ks) =
    none_asked_in_7 x y out (k ∷ ks) is
    (enter x y out (k ∷ ks) (ap (λ st. is_7_or_8 st) is) b) in
    let finals : final_of k + tally final_of ks ≡ 0 = none.finals in omega (arith, finals)

-- ---- N(R).

valid_within : (k : ℕ) (control : Control) (m : StateVariables) → HasNumbersWithin k control m
    → HasValidNumber Whole control m
unfolding is_valid_nr
valid_within k (I ns nr p) m within = valid_whole m.va nr m.vs within.2.0 within.2.1
valid_within k (Rr nr pf) m within = valid_whole m.va nr m.vs within.0 within.1
valid_within k (Rnr nr pf) m within = valid_whole m.va nr m.vs within.0 within.1
valid_within k (Rej nr pf) m within = valid_whole m.va nr m.vs within.0 within.1
valid_within k control m within = tt

numbered_in : (state : State) (k : ℕ) (control : Control) (m : StateVariables)
    → (is_7_or_8 state ≡ true → HasNumbersWithin k control m) → IsNumberedIn Whole state control m
numbered_in MultipleFrameEstablished k control m within = valid_within k control m (within refl)
numbered_in TimerRecovery k control m within = valid_within k control m (within refl)
numbered_in TeiAssigned k control m within = tt
numbered_in AwaitingEstablishment k control m within = tt
numbered_in AwaitingRelease k control m within = tt

-- ---- The first frame.

due_in : (x y : Party) (out : List Kind) (control : Control) (role : Role) (info : List ℕ)
    (place : ℕ) (ks : List Kind) (m : StateVariables) → IsNumberedIn Whole x.state control m
    → Both x y out (kind_of role control info place ∷ ks)
    → IsDueIn Whole x.state (Heard control role) m
due_in x y out control Command info place ks m numbered b = numbered
due_in x y out control Answer info place ks m numbered b =
    let k = kind_of Answer control info place in
    let one : tally ask_of out + (answer_of k + tally answer_of ks) ≤ most_asks x.state =
    b.mine.exchange.one in
    let clean : foreign_of k + tally foreign_of ks ≡ 0 = b.its.exchange.clean in (
      asked_for control x.state info place (omega (arith, one)) (omega (arith, clean))
          (no_final x y out k ks b),
      numbered,
    )

first_due : (x y : Station) (base its_base k : ℕ) (frames : List Flight) (out : List Kind)
    → IsFirstWithin k frames x.end → Both (party base x) (party its_base y) out (kinds frames)
    → IsFirstDue Whole frames x.end
first_due x y base its_base k [] out within b = tt
first_due x y base its_base k (frame ∷ rest) out within b =
    due_in (party base x) (party its_base y) out frame.control frame.role frame.info frame.place
    (kinds rest) x.end.window (numbered_in x.end.state k frame.control x.end.window within) b

pub due_by_invariant : (w : World) → IsInvariant w → AreFirstDue Whole w
due_by_invariant w i = let within = within_by_invariant w i in record {
  to_user =
      first_due w.user w.network i.user_base i.network_base w.network.end.parameters.k w.to_user
      (kinds w.to_network) within.to_user i.both;
  to_network =
      first_due w.network w.user i.network_base i.user_base w.user.end.parameters.k w.to_network
      (kinds w.to_user) within.to_network (record { mine = i.both.its; its = i.both.mine });
}

-- ---- On tags.

first_due_in_tags : (k : ℕ) (frames : List Flight) (e : End) → k ≤ 127 → e.parameters.k ≤ 127
    → IsSound Whole e → IsFirstWithin k frames e → IsFirstDue Whole frames e
    → IsFirstDue Tagged (map tag_flight frames) (tag_end e)
first_due_in_tags k [] e small window sound within due = tt
first_due_in_tags k (frame ∷ rest) e small window sound within due =
    due_on_tags (Heard frame.control frame.role) e
    (record {
      window = window;
      sound = sound;
      reception = λ is. numbers_within_are_near k frame.control e
          small sound is (within is);
    }) due

pub due_in_tags : (w : World) → IsInvariant w → AreFirstDue Tagged (tag_world w)
due_in_tags w i = let within = within_by_invariant w i in let due = due_by_invariant w i in record {
  to_user =
      first_due_in_tags w.network.end.parameters.k w.to_user w.user.end i.network_window
      i.user_window i.user_sound within.to_user due.to_user;
  to_network =
      first_due_in_tags w.user.end.parameters.k w.to_network w.network.end i.user_window
      i.network_window i.network_sound within.to_network due.to_network;
}
