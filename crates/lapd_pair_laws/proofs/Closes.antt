-- The end of a step: messages are sent while the window is open, and then the pending
-- acknowledgement.
use Rattle.std.proofs.Common.{◌≡◌, ℕ, zero, suc, ◌+◌, ◌-◌, ◌<◌, ◌≤◌, nat_lt, ◌&&◌, Bool, true, false, List, [], ◌∷◌, ◌++◌, length, refl, ap, ◌∙◌, arith}
use Rattle.lapd_timers.specs.declared.timer.Timer.TheVariants.{T200}
use Rattle.lapd_frame.specs.declared.Control.TheVariants.{I}
use Rattle.lapd_mod128.specs.Counting.{Whole, steps, after, before}
use Rattle.lapd_supervision.specs.StateVariables.{StateVariables, without_ack_pending, may_send, next_i_frame, after_sending, last_i_frame}
use Rattle.lapd_supervision.proofs.Outstanding.{may_send_leaves_room}
use Rattle.lapd_link_definition.specs.declared.state.State.{State}
use Rattle.lapd_link_definition.specs.declared.state.State.TheVariants.{MultipleFrameEstablished, TimerRecovery}
use Rattle.lapd_link_definition.specs.declared.out.Out.TheVariants.{SendMessage, Start}
use Rattle.lapd_link_definition.specs.EndOfStep.{is_7_or_8, is_established, may_send_next, send_next, send_all, acknowledge_pending, end_step}
use Rattle.lapd_link_definition.specs.End.{StepState, unsent}
use Rattle.lapd_link_definition.specs.Procedures.{transmit_i_frame, retransmit_last_i_frame, state_to}
use Rattle.lapd_link_definition.proofs.Sending.{both_true, below}
use Rattle.lapd_pair_laws.specs.Histories.{Occasion, Story, with_sending, message_frame}
use Rattle.lapd_pair_laws.specs.Move.{story_after}
use Rattle.lapd_pair_laws.specs.Kinds.{Kind, Numbered, kind}
use Rattle.lapd_pair_laws.specs.Parties.{party_of}
use Rattle.lapd_pair_laws.specs.Conjuncts.{IsNumbering}
use Rattle.lapd_pair_laws.proofs.ActionEffects.{Context, story, occasion, seen, line, HoldsMid, after_outputs_append, kinds_more, moved, mid_ensure, mid_rr}
use Rattle.lapd_pair_laws.proofs.Lists.{by_test}
use Rattle.lapd_pair_laws.proofs.MidSteps.{numbering}
use Rattle.lapd_pair_laws.proofs.Sends.{sending, next_message, preserves_sending, repeating, last_message, preserves_repeating}

in_state_7 : (state : State) → is_established state ≡ true → state ≡ MultipleFrameEstablished
in_state_7 MultipleFrameEstablished is = refl
in_state_7 state is = cc

-- a message is sent: its place is counted from the first waiting message
abbrev message_story : Occasion → ℕ → ℕ → ℕ → Bool → Story → Story
message_story o at ns nr p t = record {
  line = t.line ++ message_frame o (I ns nr p) at ∷ [];
  history = with_sending at o.establishment t.history;
}

pub mid_next : (c : Context) (s : StepState) (back : List Kind)
    → s.end.state ≡ MultipleFrameEstablished
    → s.end.window.vs < s.end.window.va + s.end.parameters.k → s.end.next < length s.end.given
    → HoldsMid c back s → HoldsMid c back (transmit_i_frame Whole s)
unfolding story_after transmit_i_frame after_sending next_i_frame after
mid_next c s back is room free m =
    let z = seen c s in
    let w = s.end.window in
    let n : IsNumbering z.sends = numbering m in
    let at = (story c s).history.passed + (s.end.next - s.end.first) in
    let passed_ : (story c s).history.passed ≡ s.end.first = m.mine.passed in
    let first : s.end.first ≡ c.base + w.va = n.first in
    let next : s.end.next ≡ c.base + w.vs = n.next in
    let ordered : w.va ≤ w.vs = n.ordered in
    let here : at ≡ s.end.next = omega (arith, passed_, first, next, ordered) in
    let e = (transmit_i_frame Whole s).end in
    moved c (transmit_i_frame Whole s) (message_story (occasion c s) at w.vs w.vr false (story c s))
    (sending z) (line c s ++ Numbered (next_message z.sends) w.vr ∷ []) back
    (after_outputs_append _ s.outs (SendMessage (s.end.next - s.end.first) (I w.vs w.vr false) ∷ [])
    _)
    (ap (λ p. party_of c.base e (with_sending p s.end.establishments (story c s).history)) here)
    (kinds_more (story c s).line (message_frame (occasion c s) (I w.vs w.vr false) at)
    ∙ ap (λ p. line c s ++ kind (message_frame (occasion c s) (I w.vs w.vr false) p) ∷ [])
    here)
    (preserves_sending z c.peer (line c s) back is room free m)

room_whole : (k : ℕ) (w : StateVariables) → may_send Whole k w ≡ true → w.va ≤ w.vs
    → w.vs < w.va + k
unfolding steps
room_whole k w may ordered =
    let room : w.vs - w.va < k = may_send_leaves_room Whole k w may in omega (arith, room, ordered)

pub mid_send_next : (c : Context) (s : StepState) (back : List Kind) → may_send_next Whole s ≡ true
    → HoldsMid c back s → HoldsMid c back (send_next Whole s)
mid_send_next c s back go m =
    let one =
    both_true (is_established s.end.state)
    (may_send Whole s.end.parameters.k s.end.window
    && nat_lt s.end.next (length s.end.given)) go in
    let two =
    both_true (may_send Whole s.end.parameters.k s.end.window)
    (nat_lt s.end.next (length s.end.given)) one.1 in
    let n : IsNumbering (seen c s).sends = numbering m in
    mid_ensure c (transmit_i_frame Whole s) back
    (mid_next c s back (in_state_7 s.end.state one.0)
    (room_whole s.end.parameters.k s.end.window two.0 n.ordered)
    (below s.end.next (length s.end.given) two.1) m)

pub mid_send_all : (c : Context) (n : ℕ) (s : StepState) (back : List Kind) → HoldsMid c back s
    → HoldsMid c back (send_all Whole n s)
unfolding send_all
mid_send_all c zero s back m = m
mid_send_all c (suc n) s back m =
    by_test (λ (t : StepState). HoldsMid c back t) (may_send_next Whole s) _ _
    (λ go. mid_send_all c n (send_next Whole s) back (mid_send_next c s back go m)) (λ _. m)

pub mid_close : (c : Context) (s : StepState) (back : List Kind) → HoldsMid c back s
    → HoldsMid c back (end_step Whole s)
unfolding end_step acknowledge_pending
mid_close c s back m =
    let all = send_all Whole (unsent s.end) s in
    let sent : HoldsMid c back all = mid_send_all c (unsent s.end) s back m in
    by_test (λ (t : StepState). HoldsMid c back t)
    (is_7_or_8 all.end.state && all.end.window.ack_pending) _ _ (λ _. mid_rr c all back sent)
    (λ _. sent)

-- the last message is retransmitted, with a poll
pub mid_last : (c : Context) (s : StepState) (back : List Kind)
    → s.end.state ≡ MultipleFrameEstablished → s.end.window.va < s.end.window.vs → HoldsMid c back s
    → HoldsMid c back (state_to TimerRecovery (retransmit_last_i_frame Whole s))
unfolding story_after retransmit_last_i_frame last_i_frame without_ack_pending state_to before
mid_last c s back is some m =
    let z = seen c s in
    let w = s.end.window in
    let n : IsNumbering z.sends = numbering m in
    let at = (story c s).history.passed + (s.end.next - 1 - s.end.first) in
    let passed_ : (story c s).history.passed ≡ s.end.first = m.mine.passed in
    let first : s.end.first ≡ c.base + w.va = n.first in
    let next : s.end.next ≡ c.base + w.vs = n.next in
    let here : at ≡ s.end.next - 1 = omega (arith, passed_, first, next, some) in
    let e = (state_to TimerRecovery (retransmit_last_i_frame Whole s)).end in
    moved c (state_to TimerRecovery (retransmit_last_i_frame Whole s))
    (message_story (occasion c s) at (w.vs - 1) w.vr true (story c s)) (repeating z)
    (line c s ++ Numbered (last_message z.sends) w.vr ∷ []) back
    (after_outputs_append _ s.outs
    (SendMessage (s.end.next - 1 - s.end.first) (I (w.vs - 1) w.vr true) ∷ Start T200 ∷ [])
    _)
    (ap (λ p. party_of c.base e (with_sending p s.end.establishments (story c s).history)) here)
    (kinds_more (story c s).line (message_frame (occasion c s) (I (w.vs - 1) w.vr true) at)
    ∙ ap (λ p. line c s ++ kind (message_frame (occasion c s) (I (w.vs - 1) w.vr true) p) ∷
    []) here)
    (preserves_repeating z c.peer (line c s) back is some m)
