-- The N(S) of an I frame in hand: the message is accepted, rejected or discarded, and a poll is
-- answered.
use Rattle.std.proofs.Common.{◌≡◌, ◌⊎◌, inl, inr, ℕ, ◌+◌, ◌&&◌, not, Bool, true, false, List, [], ◌∷◌, ◌++◌, Option, Some, None, refl, sym, ap, subst, ◌∙◌}
use Rattle.lapd_frame.specs.declared.Role.TheVariants.{Answer}
use Rattle.lapd_frame.specs.declared.Control.{Control}
use Rattle.lapd_frame.specs.declared.Control.TheVariants.{Rr, Rej}
use Rattle.lapd_mod128.specs.Counting.{Whole, after}
use Rattle.lapd_supervision.specs.StateVariables.{StateVariables, status_frame, poll_response, Receives}
use Rattle.lapd_supervision.proofs.Receiving.{received_while_busy, received_in_sequence, received_out_of_sequence, received_while_rejecting}
use Rattle.lapd_link_definition.specs.declared.out.Out.TheVariants.{Send, Up}
use Rattle.lapd_link_definition.specs.End.{StepState}
use Rattle.lapd_link_definition.specs.Procedures.{out_where, response_of, i_frame_ns}
use Rattle.lapd_pair_laws.specs.Histories.{Story, after_outputs, with_receipt}
use Rattle.lapd_pair_laws.specs.Move.{story_after}
use Rattle.lapd_pair_laws.specs.Kinds.{Message, Kind, Numbered, Status, Rejection, Enquiry, Final}
use Rattle.lapd_pair_laws.proofs.ActionEffects.{Context, story, occasion, seen, line, HoldsMid, after_outputs_append, moved, one_behind, final_kind}
use Rattle.lapd_pair_laws.proofs.MidSteps.{Mid}
use Rattle.lapd_pair_laws.proofs.Polls.{answering}
use Rattle.lapd_pair_laws.proofs.Rejects.{rejecting_now, begin_rejecting, rejecting_message}
use Rattle.lapd_pair_laws.proofs.Sends.{same_or_not}
use Rattle.lapd_pair_laws.proofs.Takes.{taking, preserves_taking, discarding}

-- the message in hand
abbrev pub current : Context → ℕ → Bool → Message
current c ns p = record { number = ns; polled = p; place = c.place; octets = c.octets }

-- the step state after it, by the case
abbrev pub left : StepState → StateVariables → Bool → Option Control → StepState
left s w accepted answer = record {
  end = record (s.end) { window = w };
  outs = s.outs ++ out_where accepted Up ++ response_of answer;
}

pub as_received : (ns : ℕ) (p : Bool) (s : StepState) (w : StateVariables) (accepted : Bool)
    (answer : Option Control) → Receives Whole ns p s.end.window w accepted answer
    → i_frame_ns Whole ns p s ≡ left s w accepted answer
unfolding i_frame_ns
as_received ns p s w accepted answer r = rw (r.variables, r.taken, r.answered) refl

pub after_both : (c : Context) (s : StepState) (w : StateVariables) (accepted : Bool)
    (answer : Option Control)
    → story c (left s w accepted answer)
    ≡ after_outputs (occasion c s) (response_of answer)
    (after_outputs (occasion c s) (out_where accepted Up) (story c s))
unfolding story_after
after_both c s w accepted answer =
    after_outputs_append _ (s.outs ++ out_where accepted Up) (response_of answer) _
    ∙ ap (λ t. after_outputs (occasion c s) (response_of answer) t)
    (after_outputs_append _ s.outs (out_where accepted Up) _)

-- ---- The awaited message.

abbrev with_up : Context → StepState → Story
with_up c s = record (story c s) {
  history =
      with_receipt
      (record { octets = c.octets; establishment = s.end.establishments; place = c.place })
      (story c s).history;
}

mid_taken : (c : Context) (ns : ℕ) (p : Bool) (nr : ℕ) (ks : List Kind) (s : StepState)
    → s.end.window.own_busy ≡ false → ns ≡ s.end.window.vr
    → HoldsMid c (Numbered (current c ns p) nr ∷ ks) s
    → HoldsMid c (Status nr ∷ ks) (i_frame_ns Whole ns p s)
unfolding after
mid_taken c ns true nr ks s free is m =
    let w = s.end.window in
    let now = record w { vr = w.vr + 1; rejecting = false; ack_pending = false } in
    let u = Rr (w.vr + 1) true in
    let z = taking (current c ns true) (seen c s) in
    let took : Mid z c.peer (line c s) (Enquiry nr ∷ ks) =
    preserves_taking (seen c s) c.peer (line c s) (current c ns true) nr ks is m in
    subst (λ (t : StepState). HoldsMid c (Status nr ∷ ks) t)
    (sym (as_received ns true s now true (Some u)
    (received_in_sequence Whole ns true w free is)))
    (moved c (left s now true (Some u))
    (after_outputs (occasion c s) (Send Answer u ∷ []) (with_up c s)) z
    (line c s ++ Final (w.vr + 1) ∷ []) (Status nr ∷ ks)
    (after_both c s now true (Some u)) refl
    (one_behind (story c s).line Answer u (Final (w.vr + 1)) refl)
    (answering z c.peer (line c s) nr ks took))
mid_taken c ns false nr ks s free is m =
    let w = s.end.window in
    let now = record w { vr = w.vr + 1; rejecting = false; ack_pending = true } in
    let z = taking (current c ns false) (seen c s) in
    subst (λ (t : StepState). HoldsMid c (Status nr ∷ ks) t)
    (sym (as_received ns false s now true None (received_in_sequence Whole ns false w free is)))
    (moved c (left s now true None) (with_up c s) z (line c s) (Status nr ∷ ks)
    (after_both c s now true None) refl refl
    (preserves_taking (seen c s) c.peer (line c s) (current c ns false) nr ks is m))

-- ---- A discarded message.

mid_discarded : (c : Context) (ns : ℕ) (p : Bool) (nr : ℕ) (ks : List Kind) (s : StepState)
    → Receives Whole ns p s.end.window
    (record (s.end.window) { ack_pending = not p && s.end.window.ack_pending }) false
    (poll_response p s.end.window)
    → HoldsMid c (Numbered (current c ns p) nr ∷ ks) s
    → HoldsMid c (Status nr ∷ ks) (i_frame_ns Whole ns p s)
unfolding poll_response
mid_discarded c ns true nr ks s r m =
    let w = s.end.window in
    let now = record w { ack_pending = false } in
    let u = status_frame true w in
    let gone : Mid (seen c s) c.peer (line c s) (Enquiry nr ∷ ks) =
    discarding (seen c s) c.peer (line c s) (current c ns true) nr ks m in
    subst (λ (t : StepState). HoldsMid c (Status nr ∷ ks) t)
    (sym (as_received ns true s now false (Some u) r))
    (moved c (left s now false (Some u))
    (after_outputs (occasion c s) (Send Answer u ∷ []) (story c s)) (seen c s)
    (line c s ++ Final w.vr ∷ []) (Status nr ∷ ks)
    (after_both c s now false (Some u)) refl
    (one_behind (story c s).line Answer u (Final w.vr) (final_kind w))
    (answering (seen c s) c.peer (line c s) nr ks gone))
mid_discarded c ns false nr ks s r m =
    let w = s.end.window in
    let now = record w { ack_pending = w.ack_pending } in
    subst (λ (t : StepState). HoldsMid c (Status nr ∷ ks) t)
    (sym (as_received ns false s now false None r))
    (moved c (left s now false None) (story c s) (seen c s) (line c s) (Status nr ∷ ks)
    (after_both c s now false None) refl refl
    (discarding (seen c s) c.peer (line c s) (current c ns false) nr ks m))

-- ---- A rejected message.

mid_rejected : (c : Context) (ns : ℕ) (p : Bool) (nr : ℕ) (ks : List Kind) (s : StepState)
    → s.end.window.own_busy ≡ false → (ns ≡ s.end.window.vr → ⊥) → s.end.window.rejecting ≡ false
    → HoldsMid c (Numbered (current c ns p) nr ∷ ks) s
    → HoldsMid c (Status nr ∷ ks) (i_frame_ns Whole ns p s)
mid_rejected c ns true nr ks s free other fresh m =
    let w = s.end.window in
    let now = record w { rejecting = true; ack_pending = false } in
    let u = Rej w.vr true in
    let z = rejecting_now (seen c s) in
    let gone : Mid (seen c s) c.peer (line c s) (Enquiry nr ∷ ks) =
    discarding (seen c s) c.peer (line c s) (current c ns true) nr ks m in
    subst (λ (t : StepState). HoldsMid c (Status nr ∷ ks) t)
    (sym (as_received ns true s now false (Some u)
    (received_out_of_sequence Whole ns true w free other fresh)))
    (moved c (left s now false (Some u))
    (after_outputs (occasion c s) (Send Answer u ∷ []) (story c s)) z
    (line c s ++ Final w.vr ∷ []) (Status nr ∷ ks)
    (after_both c s now false (Some u)) refl
    (one_behind (story c s).line Answer u (Final w.vr) refl)
    (answering z c.peer (line c s) nr ks
    (begin_rejecting (seen c s) c.peer (line c s) (Enquiry nr ∷ ks) gone)))
mid_rejected c ns false nr ks s free other fresh m =
    let w = s.end.window in
    let now = record w { rejecting = true; ack_pending = false } in
    let u = Rej w.vr false in
    subst (λ (t : StepState). HoldsMid c (Status nr ∷ ks) t)
    (sym (as_received ns false s now false (Some u)
    (received_out_of_sequence Whole ns false w free other fresh)))
    (moved c (left s now false (Some u))
    (after_outputs (occasion c s) (Send Answer u ∷ []) (story c s))
    (rejecting_now (seen c s)) (line c s ++ Rejection w.vr ∷ []) (Status nr ∷ ks)
    (after_both c s now false (Some u)) refl
    (one_behind (story c s).line Answer u (Rejection w.vr) refl)
    (rejecting_message (seen c s) c.peer (line c s) (current c ns false) nr ks refl other fresh
    m))

-- ---- All cases.

pub mid_ns : (c : Context) (ns : ℕ) (p : Bool) (nr : ℕ) (ks : List Kind) (s : StepState)
    → HoldsMid c (Numbered (current c ns p) nr ∷ ks) s
    → HoldsMid c (Status nr ∷ ks) (i_frame_ns Whole ns p s)
mid_ns c ns p nr ks s m =
    by_case s.end.window.own_busy s.end.window.rejecting refl refl (same_or_not ns s.end.window.vr)
  where
    by_case : (busy rejecting : Bool) → s.end.window.own_busy ≡ busy
        → s.end.window.rejecting ≡ rejecting → (ns ≡ s.end.window.vr) ⊎ (ns ≡ s.end.window.vr → ⊥)
        → HoldsMid c (Status nr ∷ ks) (i_frame_ns Whole ns p s)
    by_case true rejecting busy r at =
        mid_discarded c ns p nr ks s (received_while_busy Whole ns p s.end.window busy) m
    by_case false rejecting free r (inl is) = mid_taken c ns p nr ks s free is m
    by_case false true free r (inr other) =
        mid_discarded c ns p nr ks s (received_while_rejecting Whole ns p s.end.window free other r)
        m
    by_case false false free r (inr other) = mid_rejected c ns p nr ks s free other r m
