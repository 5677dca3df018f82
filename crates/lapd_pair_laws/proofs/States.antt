-- The recorded effect of each action: which frame it appends to the line, if any. No action drops a
-- message.
use Rattle.std.proofs.Common.{◌≡◌, ℕ, ◌+◌, ◌-◌, if◌then◌else◌, Bool, true, false, [], ◌∷◌, ◌++◌, Some, None, sym, ap, ◌∙◌}
use Rattle.lapd_timers.specs.declared.timer.Timer.TheVariants.{T200, T203}
use Rattle.lapd_frame.specs.declared.Role.TheVariants.{Command, Answer}
use Rattle.lapd_frame.specs.declared.Control.{Control}
use Rattle.lapd_frame.specs.declared.Control.TheVariants.{I, Rr}
use Rattle.lapd_mod128.specs.Counting.{Whole, steps, after, before}
use Rattle.lapd_supervision.specs.StateVariables.{StateVariables, status_frame, acknowledgement, without_ack_pending, with_va, acknowledged_count, next_i_frame, after_sending, last_i_frame}
use Rattle.lapd_link_definition.specs.declared.out.Out.TheVariants.{Send, SendMessage, Acknowledged, Start, Stop}
use Rattle.lapd_link_definition.specs.End.{StepState, runs}
use Rattle.lapd_link_definition.specs.Procedures.{out_where, counted, start, stop, enquiry_response, transmit_rr, transmit_enquiry, transmit_i_frame, retransmit_last_i_frame, ensure_t200, acknowledge}
use Rattle.lapd_pair_laws.specs.Histories.{Story, after_outputs, message_frame}
use Rattle.lapd_pair_laws.specs.Line.{Flight, without_info}
use Rattle.lapd_pair_laws.specs.Move.{story_after}
use Rattle.lapd_pair_laws.proofs.ActionEffects.{Context, story, occasion, after_outputs_append, after_stop, after_acknowledged, ensured}
use Rattle.lapd_pair_laws.proofs.Receives.{left, after_both}

-- from one mid-step to another: no frame is sent
pub record PutsNoFrame (c : Context) (s t : StepState) : Type 0 where
  pub line : (story c t).line ≡ (story c s).line
  pub dropped : (story c t).history.dropped ≡ (story c s).history.dropped

-- this frame is sent
pub record PutsFrame (c : Context) (frame : Flight) (s t : StepState) : Type 0 where
  pub line : (story c t).line ≡ (story c s).line ++ frame ∷ []
  pub dropped : (story c t).history.dropped ≡ (story c s).history.dropped

pub then_no_frame : {c : Context} {s t u : StepState} → PutsNoFrame c s t → PutsNoFrame c t u
    → PutsNoFrame c s u
then_no_frame a b = record { line = b.line ∙ a.line; dropped = b.dropped ∙ a.dropped }

-- an action that leaves line and history unchanged sends no frame
by_story : (c : Context) (s t : StepState) → story c t ≡ story c s → PutsNoFrame c s t
by_story c s t same =
    record { line = ap (λ u. u.line) same; dropped = ap (λ u. u.history.dropped) same }

abbrev with_frame : Flight → Story → Story
with_frame frame t = record t { line = t.line ++ frame ∷ [] }

module _ (c : Context) (s : StepState) where
  -- ---- Timers, and acknowledgements.

  pub start_200_puts : PutsNoFrame c s (start T200 s)
  unfolding story_after start
  start_200_puts = by_story c s (start T200 s) (after_outputs_append _ s.outs (Start T200 ∷ []) _)

  pub start_203_puts : PutsNoFrame c s (start T203 s)
  unfolding story_after start
  start_203_puts = by_story c s (start T203 s) (after_outputs_append _ s.outs (Start T203 ∷ []) _)

  pub stop_200_puts : PutsNoFrame c s (stop T200 s)
  unfolding story_after stop
  stop_200_puts =
      by_story c s (stop T200 s) (after_outputs_append _ s.outs
      (out_where (runs T200 s.end) (Stop T200)) _
      ∙ after_stop (runs T200 s.end) T200 (occasion c s) (story c s))

  pub ensure_puts : PutsNoFrame c s (ensure_t200 s)
  unfolding story_after ensure_t200
  ensure_puts =
      let stops = if s.end.t200 then [] else out_where s.end.t203 (Stop T203) in
      let starts = if s.end.t200 then [] else Start T200 ∷ [] in
      by_story c s (ensure_t200 s) (after_outputs_append _ (s.outs ++ stops) starts _
      ∙ ap (λ t. after_outputs (occasion c s) starts t)
      (after_outputs_append _ s.outs stops _)
      ∙ sym (after_outputs_append (occasion c s) stops starts (story c s))
      ∙ ensured s.end.t200 s.end.t203 (occasion c s) (story c s))

  pub acknowledge_puts : (nr : ℕ) → PutsNoFrame c s (acknowledge Whole nr s)
  unfolding story_after acknowledge with_va acknowledged_count steps
  acknowledge_puts nr =
      let n = nr - s.end.window.va in
      let same =
      after_outputs_append _ s.outs (counted n Acknowledged) _
      ∙ after_acknowledged n (occasion c s) (story c s) in
      record { line = ap (λ u. u.line) same; dropped = ap (λ u. u.history.dropped) same }

  -- ---- Frames.

  -- an action that only appends this frame to the line sends this frame
  frame_by_story : (t : StepState) (frame : Flight) → story c t ≡ with_frame frame (story c s)
      → PutsFrame c frame s t
  frame_by_story t frame same =
      record { line = ap (λ u. u.line) same; dropped = ap (λ u. u.history.dropped) same }

  abbrev pub status_sent : Flight
  status_sent = without_info Answer (Rr s.end.window.vr false)

  pub rr_puts : PutsFrame c status_sent s (transmit_rr s)
  unfolding story_after transmit_rr without_ack_pending acknowledgement
  rr_puts =
      frame_by_story (transmit_rr s) status_sent
      (after_outputs_append _ s.outs (Send Answer (Rr s.end.window.vr false) ∷ []) _)

  pub response_puts : PutsFrame c (without_info Answer (status_frame true s.end.window)) s
      (enquiry_response s)
  unfolding story_after enquiry_response without_ack_pending
  response_puts =
      frame_by_story (enquiry_response s) _
      (after_outputs_append _ s.outs (Send Answer (status_frame true s.end.window) ∷ []) _)

  abbrev pub enquiry_sent : Flight
  enquiry_sent = without_info Command (status_frame true s.end.window)

  pub enquiry_puts : PutsFrame c enquiry_sent s (transmit_enquiry s)
  unfolding story_after transmit_enquiry without_ack_pending
  enquiry_puts =
      frame_by_story (transmit_enquiry s) enquiry_sent
      (after_outputs_append _ s.outs
      (Send Command (status_frame true s.end.window) ∷ Start T200 ∷ []) _)

  -- the I frame that is sent next, and the last one again
  abbrev pub next_sent : Flight
  next_sent =
      message_frame (occasion c s) (I s.end.window.vs s.end.window.vr false)
      ((story c s).history.passed + (s.end.next - s.end.first))

  pub next_puts : PutsFrame c next_sent s (transmit_i_frame Whole s)
  unfolding story_after transmit_i_frame next_i_frame after_sending after
  next_puts =
      let same =
      after_outputs_append _ s.outs
      (SendMessage (s.end.next - s.end.first) (I s.end.window.vs s.end.window.vr false)
      ∷ []) _ in
      record { line = ap (λ u. u.line) same; dropped = ap (λ u. u.history.dropped) same }

  abbrev pub last_sent : Flight
  last_sent =
      message_frame (occasion c s) (I (s.end.window.vs - 1) s.end.window.vr true)
      ((story c s).history.passed + (s.end.next - 1 - s.end.first))

  pub last_puts : PutsFrame c last_sent s (retransmit_last_i_frame Whole s)
  unfolding story_after retransmit_last_i_frame last_i_frame without_ack_pending before
  last_puts =
      let same =
      after_outputs_append _ s.outs
      (SendMessage (s.end.next - 1 - s.end.first)
      (I (s.end.window.vs - 1) s.end.window.vr true) ∷ Start T200 ∷ []) _ in
      record { line = ap (λ u. u.line) same; dropped = ap (λ u. u.history.dropped) same }

  -- ---- The N(S) of an I frame, by the case.

  pub unanswered_puts : (w : StateVariables) (accepted : Bool)
      → PutsNoFrame c s (left s w accepted None)
  unanswered_puts w true =
      let same = after_both c s w true None in
      record { line = ap (λ u. u.line) same; dropped = ap (λ u. u.history.dropped) same }
  unanswered_puts w false = by_story c s (left s w false None) (after_both c s w false None)

  pub answered_puts : (w : StateVariables) (accepted : Bool) (answer : Control)
      → PutsFrame c (without_info Answer answer) s (left s w accepted (Some answer))
  answered_puts w true answer =
      let same = after_both c s w true (Some answer) in
      record { line = ap (λ u. u.line) same; dropped = ap (λ u. u.history.dropped) same }
  answered_puts w false answer =
      let same = after_both c s w false (Some answer) in
      record { line = ap (λ u. u.line) same; dropped = ap (λ u. u.history.dropped) same }
