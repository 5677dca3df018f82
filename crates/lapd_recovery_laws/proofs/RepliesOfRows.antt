-- The replies of a row in which N(R) is processed: timers, V(S) set back, and the whole row.
use Rattle.std.proofs.Common.{◌≡◌, inl, inr, ℕ, ◌+◌, ◌-◌, ◌≤◌, ◌==◌, if◌then◌else◌, Bool, true, false, List, ◌∷◌, length, refl, ap, subst, ◌∙◌, arith, []}
use Rattle.lapd_timers.specs.declared.timer.Timer.TheVariants.{T200, T203}
use Rattle.lapd_frame.specs.declared.Role.{Role}
use Rattle.lapd_frame.specs.declared.Role.TheVariants.{Command, Answer}
use Rattle.lapd_frame.specs.declared.Control.{Control}
use Rattle.lapd_frame.specs.declared.Control.TheVariants.{I, Rr, Rnr, Rej}
use Rattle.lapd_mod128.specs.Counting.{Whole, steps}
use Rattle.lapd_supervision.specs.StateVariables.{status_frame, without_ack_pending, with_peer_busy, is_valid_nr, acknowledges_all, with_va, with_vs, acknowledged_count}
use Rattle.lapd_link_definition.specs.declared.state.State.TheVariants.{MultipleFrameEstablished, TimerRecovery}
use Rattle.lapd_link_definition.specs.declared.out.Out.TheVariants.{Stop}
use Rattle.lapd_link_definition.specs.End.{StepState, runs}
use Rattle.lapd_link_definition.specs.Established.{poll_or_final, acknowledge_with_timers, i_frame_nr, rr_nr, rej_nr, rnr_nr, multiple_frame_established}
use Rattle.lapd_link_definition.specs.Input.{Heard}
use Rattle.lapd_link_definition.specs.Procedures.{out_where, state_to, start, stop, set_peer_busy, enquiry_response, acknowledge, invoke_retransmission, i_frame_ns}
use Rattle.lapd_link_definition.specs.TimerRecovery.{poll, i_frame_nr_in_recovery, rr_nr_in_recovery, rnr_nr_in_recovery, timer_recovery}
use Rattle.lapd_pair_laws.specs.Move.{story_after}
use Rattle.lapd_pair_laws.specs.Kinds.{Kind, Status, Rejection, Enquiry, Final, kind_of, kinds, message_of, numbers, rejections, poll_of, final_of}
use Rattle.lapd_pair_laws.specs.Conjuncts.{IsNumbering}
use Rattle.lapd_link_definition.specs.EndOfStep.{is_7_or_8}
use Rattle.lapd_pair_laws.specs.Parties.{receives, OnReception}
use Rattle.lapd_pair_laws.proofs.ActionEffects.{Context, story, occasion, seen, line, HoldsMid, after_outputs_append, after_stop, mid_peer_busy, mid_response, final_kind}
use Rattle.lapd_pair_laws.proofs.Facts.{taken_below, rejected_so, final_so}
use Rattle.lapd_pair_laws.proofs.FrameOfStep.{turned, rejection_left, final_left}
use Rattle.lapd_pair_laws.proofs.GoingBack.{asked_in_8, sent_back_in_7}
use Rattle.lapd_pair_laws.proofs.Lists.{by_test}
use Rattle.lapd_pair_laws.proofs.MidSteps.{numbering, no_answer_out}
use Rattle.lapd_pair_laws.proofs.OpenRows.{valid, no_final_in_7, no_foreign}
use Rattle.lapd_pair_laws.proofs.Receives.{current, mid_ns}
use Rattle.lapd_pair_laws.proofs.Receptions.{by_open}
use Rattle.lapd_pair_laws.proofs.Runs.{climb_top}
use Rattle.lapd_pair_laws.proofs.States.{start_200_puts, start_203_puts, stop_200_puts, acknowledge_puts, response_puts}
use Rattle.lapd_recovery_laws.proofs.EndSends.{IsCalm, then_calm}
use Rattle.lapd_recovery_laws.proofs.Proceeding.{weight_of, Arrives}
use Rattle.lapd_recovery_laws.proofs.Replies.{Sending, receiving, Keeps, then_keeps, Replies, Backs, Turns, keeps_replies, replies_keep, passes, ready_status, answers_by, replies_ns}

-- ---- N(R), and timers.

module _ (c : Context) (s : StepState) where
  acknowledge_keeps : (nr : ℕ) → Keeps c s (acknowledge Whole nr s)
  unfolding acknowledge with_va
  acknowledge_keeps nr = record {
    line = (acknowledge_puts c s nr).line;
    sending_same = refl;
    receiving_same = refl;
    first = omega arith;
    calm = record { rc = refl; dropped = (acknowledge_puts c s nr).dropped };
  }

  start_200_keeps : Keeps c s (start T200 s)
  unfolding start
  start_200_keeps = record {
    line = (start_200_puts c s).line;
    sending_same = refl;
    receiving_same = refl;
    first = omega arith;
    calm = record { rc = refl; dropped = (start_200_puts c s).dropped };
  }

  start_203_keeps : Keeps c s (start T203 s)
  unfolding start
  start_203_keeps = record {
    line = (start_203_puts c s).line;
    sending_same = refl;
    receiving_same = refl;
    first = omega arith;
    calm = record { rc = refl; dropped = (start_203_puts c s).dropped };
  }

  stop_200_keeps : Keeps c s (stop T200 s)
  unfolding stop
  stop_200_keeps = record {
    line = (stop_200_puts c s).line;
    sending_same = refl;
    receiving_same = refl;
    first = omega arith;
    calm = record { rc = refl; dropped = (stop_200_puts c s).dropped };
  }

  stop_203_keeps : Keeps c s (stop T203 s)
  unfolding stop story_after
  stop_203_keeps =
      let same =
      after_outputs_append _ s.outs (out_where (runs T203 s.end) (Stop T203)) _
      ∙ after_stop (runs T203 s.end) T203 (occasion c s) (story c s) in
      record {
        line = ap (λ u. u.line) same;
        sending_same = refl;
        receiving_same = refl;
        first = omega arith;
        calm = record { rc = refl; dropped = ap (λ u. u.history.dropped) same };
      }

  peer_busy_keeps : (on : Bool) → Keeps c s (set_peer_busy on s)
  unfolding set_peer_busy with_peer_busy story_after
  peer_busy_keeps on = record {
    line = refl;
    sending_same = refl;
    receiving_same = refl;
    first = omega arith;
    calm = record { rc = refl; dropped = refl };
  }

  nothing_keeps : Keeps c s s
  nothing_keeps = record {
    line = refl;
    sending_same = refl;
    receiving_same = refl;
    first = omega arith;
    calm = record { rc = refl; dropped = refl };
  }

module _ (c : Context) (nr : ℕ) (ks : List Kind) (s : StepState)
    (m : HoldsMid c (Status nr ∷ ks) s) where
  when_valid : (x y : StepState) → Keeps c s x
      → Keeps c s (if is_valid_nr Whole nr s.end.window then x else y)
  when_valid x y done =
      by_test (λ (t : StepState). Keeps c s t) (is_valid_nr Whole nr s.end.window) x y (λ _. done)
      (λ no_. let yes_ : is_valid_nr Whole nr s.end.window ≡ true = valid c nr ks s m in cc)

  timers_keep : Keeps c s (acknowledge_with_timers Whole nr s)
  unfolding acknowledge_with_timers
  timers_keep = by_test (λ (t : StepState). Keeps c s t) (acknowledges_all nr s.end.window) _ _
      (λ _. then_keeps (acknowledge_keeps c s nr)
      (then_keeps (stop_200_keeps c (acknowledge Whole nr s))
      (start_203_keeps c (stop T200 (acknowledge Whole nr s)))))
      (λ _. by_test (λ (t : StepState). Keeps c s t) (nr == s.end.window.va) _ _
      (λ _. nothing_keeps c s) (λ _. then_keeps (acknowledge_keeps c s nr)
      (start_200_keeps c (acknowledge Whole nr s))))

  i_nr_keeps : Keeps c s (i_frame_nr Whole nr s)
  unfolding i_frame_nr
  i_nr_keeps =
      when_valid _ _ (by_test (λ (t : StepState). Keeps c s t) s.end.window.peer_busy _ _
      (λ _. acknowledge_keeps c s nr) (λ _. timers_keep))

  rr_nr_keeps : Keeps c s (rr_nr Whole nr s)
  unfolding rr_nr
  rr_nr_keeps = when_valid _ _ timers_keep

  rnr_nr_keeps : Keeps c s (rnr_nr Whole nr s)
  unfolding rnr_nr
  rnr_nr_keeps =
      when_valid _ _ (then_keeps (acknowledge_keeps c s nr)
      (then_keeps (stop_203_keeps c (acknowledge Whole nr s))
      (start_200_keeps c (stop T203 (acknowledge Whole nr s)))))

  i_nr_keeps_in_8 : Keeps c s (i_frame_nr_in_recovery Whole nr s)
  unfolding i_frame_nr_in_recovery
  i_nr_keeps_in_8 = when_valid _ _ (acknowledge_keeps c s nr)

  rr_nr_keeps_in_8 : Keeps c s (rr_nr_in_recovery Whole false nr s)
  unfolding rr_nr_in_recovery
  rr_nr_keeps_in_8 = when_valid _ _ (acknowledge_keeps c s nr)

  rnr_nr_keeps_in_8 : Keeps c s (rnr_nr_in_recovery Whole false nr s)
  unfolding rnr_nr_in_recovery
  rnr_nr_keeps_in_8 = when_valid _ _ (acknowledge_keeps c s nr)

response_replies : (c : Context) (nr : ℕ) (s : StepState)
    → Replies c (Enquiry nr) s (enquiry_response s)
unfolding enquiry_response without_ack_pending
response_replies c nr s =
    answers_by c (Enquiry nr) s (enquiry_response s) (status_frame true s.end.window)
    (Final s.end.window.vr) (final_kind s.end.window) refl refl refl (ready_status s.end.window)
    (omega arith) refl refl 0 refl
    (omega arith) (omega arith) (response_puts c s) refl refl (omega arith)
    (λ on. (refl, omega arith)) (λ off end ks there. (refl, there, omega arith))

-- ---- V(S) is set back.

record IsQueued (s : StepState) (nr : ℕ) : Type 0 where
  low : s.end.window.va ≤ nr
  high : nr ≤ s.end.window.vs
  sent : s.end.next + s.end.window.va ≡ s.end.first + s.end.window.vs
  within : s.end.next ≤ length s.end.given
  room : s.end.window.vs ≤ s.end.window.va + s.end.parameters.k

-- the state before the end of the row, and what is known of the frames in transit
back_row : (c : Context) (k : Kind) (ks : List Kind) (nr : ℕ) (s t : StepState) → message_of k ≡ []
    → weight_of k ≡ 1 → poll_of k ≡ 0 → rejections ks ≡ []
    → (s.end.state ≡ MultipleFrameEstablished → rejections (k ∷ ks) ≡ [] → ⊥)
    → (s.end.state ≡ TimerRecovery → final_of k ≡ 1) → OnReception (Arrives nr) (receives c.peer (line c s)) → (story c t).line ≡ (story c s).line
    → IsCalm c s t → t.end.state ≡ MultipleFrameEstablished
    → t.end.window.vs ≡ nr → t.end.next ≡ t.end.first → t.end.given ≡ s.end.given
    → t.end.window.own_busy ≡ s.end.window.own_busy → receiving t.end ≡ receiving s.end
    → t.end.first ≡ s.end.first + (nr - s.end.window.va)
    → t.end.window.va ≡ nr → t.end.parameters.k ≡ s.end.parameters.k
    → (s.end.state ≡ MultipleFrameEstablished → t.end.window.peer_busy ≡ false)
    → (s.end.state ≡ MultipleFrameEstablished → t.end.t200 ≡ false) → IsQueued s nr
    → (is_7_or_8 c.peer.state ≡ true → c.peer.takes.vr ≡ nr) → Backs c k ks s t
back_row c k ks nr s t no_message light no_poll wanted unwanted final arrives same calm in_7 vs next given
    own_busy receiving_same acked va same_k free stopped q awaited =
    let low = q.low in
    let high = q.high in
    let sent = q.sent in
    let within = q.within in
    let len = ap length given in
    record {
      nr = nr;
      line = same;
      in_7 = in_7;
      vs = vs;
      next = next;
      given = given;
      own_busy = own_busy;
      receiving_same = receiving_same;
      first = omega (arith, acked);
      calm = calm;
      resent = omega (arith, next, acked, len, low, high, sent, within);
      awaited = awaited;
      outstanding = omega (arith, low, high, sent, within);
      va = va;
      in_window = let room = q.room in omega (arith, low, room, same_k);
      free = free;
      stopped = stopped;
      no_message = no_message;
      light = light;
      no_poll = no_poll;
      wanted = wanted;
      unwanted = unwanted;
      final = final;
      arrives = arrives;
    }

-- the places and numbers of an open side, and the N(R) in hand
queued : (c : Context) (nr : ℕ) (ks : List Kind) (s : StepState) → HoldsMid c (Status nr ∷ ks) s
    → IsQueued s nr
queued c nr ks s m =
    let climb = m.its.reception.acks.climb in
    let n : IsNumbering (seen c s).sends = numbering m in
    let first : s.end.first ≡ c.base + s.end.window.va = n.first in
    let next : s.end.next ≡ c.base + s.end.window.vs = n.next in
    let ordered : s.end.window.va ≤ s.end.window.vs = n.ordered in
    record {
      low = climb.0;
      high = climb_top nr s.end.window.vs (numbers ks) climb.1;
      sent = omega (arith, first, next, ordered);
      within = n.within;
      room = n.window;
    }

-- a REJ, in state 7
module _ (c : Context) (nr : ℕ) (ks : List Kind) (s : StepState)
    (is : s.end.state ≡ MultipleFrameEstablished) (peer_free : s.end.window.peer_busy ≡ false)
    (m : HoldsMid c (Rejection nr ∷ ks) s) where
  status_of_rej : HoldsMid c (Status nr ∷ ks) s
  status_of_rej =
      turned (seen c s) c.peer (line c s) (Status nr ∷ ks) (Rejection nr ∷ ks)
      (rejection_left nr ks) m

  rej_arrives : OnReception (Arrives nr) (receives c.peer (line c s))
  rej_arrives =
      by_open (Arrives nr) c.peer (line c s) (no_answer_out nr (numbers ks) refl m)
      (λ opened.
      (rejected_so {x = seen c s} {y = c.peer} {out = line c s} nr ks is opened m).arriving)

  rej_backs : Backs c (Rejection nr) ks s
      (start T203 (stop T200 (invoke_retransmission nr (acknowledge Whole nr s))))
  unfolding start stop invoke_retransmission acknowledge with_va with_vs story_after
      acknowledged_count steps
  rej_backs =
      let a = acknowledge Whole nr s in
      let b = invoke_retransmission nr a in
      back_row c (Rejection nr) ks nr s (start T203 (stop T200 b)) refl refl refl
      (sent_back_in_7 (seen c s) c.peer (line c s) nr ks is m).1 (λ in_7 none. cc) (λ in_8. cc)
      rej_arrives
      ((start_203_puts c (stop T200 b)).line ∙ (stop_200_puts c b).line
      ∙ (acknowledge_puts c s nr).line)
      (record {
        rc = refl;
        dropped =
            (start_203_puts c (stop T200 b)).dropped ∙ (stop_200_puts c b).dropped
            ∙ (acknowledge_puts c s nr).dropped;
      }) is refl refl refl refl refl refl refl refl
      (λ in_7. peer_free) (λ in_7. refl) (queued c nr ks s status_of_rej)
      (λ opened.
      (rejected_so {x = seen c s} {y = c.peer} {out = line c s} nr ks is opened m).at)

  rej_nr_backs : Backs c (Rejection nr) ks s (rej_nr Whole nr s)
  unfolding rej_nr
  rej_nr_backs =
      by_test (λ (t : StepState). Backs c (Rejection nr) ks s t) (is_valid_nr Whole nr s.end.window)
      _ _ (λ _. rej_backs) (λ no_. let yes_ : is_valid_nr Whole nr s.end.window ≡ true =
      valid c nr ks s status_of_rej in cc)

-- a final, in state 8
module _ (c : Context) (nr : ℕ) (ks : List Kind) (s : StepState) (is : s.end.state ≡ TimerRecovery)
    (m : HoldsMid c (Final nr ∷ ks) s) where
  status_of_final : HoldsMid c (Status nr ∷ ks) s
  status_of_final =
      turned (seen c s) c.peer (line c s) (Status nr ∷ ks) (Final nr ∷ ks) (final_left nr ks) m

  final_arrives : OnReception (Arrives nr) (receives c.peer (line c s))
  final_arrives =
      by_open (Arrives nr) c.peer (line c s) (no_answer_out nr (numbers ks) refl m)
      (λ opened. (final_so {x = seen c s} {y = c.peer} {out = line c s} nr ks is opened m).arriving)

  final_wanted : rejections ks ≡ []
  final_wanted = (asked_in_8 (seen c s) c.peer (line c s) (Final nr ∷ ks) is m).names.0.1

  rr_final_backs : Backs c (Final nr) ks s
      (state_to MultipleFrameEstablished
      (start T203 (stop T200 (invoke_retransmission nr (acknowledge Whole nr s)))))
  unfolding state_to start stop invoke_retransmission acknowledge with_va with_vs story_after
      acknowledged_count steps
  rr_final_backs =
      let b = invoke_retransmission nr (acknowledge Whole nr s) in
      back_row c (Final nr) ks nr s (state_to MultipleFrameEstablished (start T203 (stop T200 b)))
      refl refl refl final_wanted (λ in_7 none. cc) (λ in_8. refl) final_arrives
      ((start_203_puts c (stop T200 b)).line ∙ (stop_200_puts c b).line
      ∙ (acknowledge_puts c s nr).line)
      (record {
        rc = refl;
        dropped =
            (start_203_puts c (stop T200 b)).dropped ∙ (stop_200_puts c b).dropped
            ∙ (acknowledge_puts c s nr).dropped;
      }) refl refl refl refl refl refl refl refl
      refl (λ in_7. cc) (λ in_7. cc) (queued c nr ks s status_of_final)
      (λ opened. (final_so {x = seen c s} {y = c.peer} {out = line c s} nr ks is opened m).at)

  rnr_final_backs : Backs c (Final nr) ks s
      (state_to MultipleFrameEstablished
      (start T200 (invoke_retransmission nr (acknowledge Whole nr s))))
  unfolding state_to start invoke_retransmission acknowledge with_va with_vs story_after
      acknowledged_count steps
  rnr_final_backs =
      let b = invoke_retransmission nr (acknowledge Whole nr s) in
      back_row c (Final nr) ks nr s (state_to MultipleFrameEstablished (start T200 b)) refl refl
      refl final_wanted (λ in_7 none. cc) (λ in_8. refl) final_arrives
      ((start_200_puts c b).line ∙ (acknowledge_puts c s nr).line)
      (record {
        rc = refl;
        dropped = (start_200_puts c b).dropped ∙ (acknowledge_puts c s nr).dropped;
      }) refl
      refl refl refl refl refl refl refl refl (λ in_7. cc) (λ in_7. cc) (queued c nr ks s status_of_final)
      (λ opened. (final_so {x = seen c s} {y = c.peer} {out = line c s} nr ks is opened m).at)

  rr_backs_in_8 : Backs c (Final nr) ks s (rr_nr_in_recovery Whole true nr s)
  unfolding rr_nr_in_recovery
  rr_backs_in_8 =
      by_test (λ (t : StepState). Backs c (Final nr) ks s t) (is_valid_nr Whole nr s.end.window) _ _
      (λ _. rr_final_backs) (λ no_. let yes_ : is_valid_nr Whole nr s.end.window ≡ true =
      valid c nr ks s status_of_final in cc)

  rnr_backs_in_8 : Backs c (Final nr) ks s (rnr_nr_in_recovery Whole true nr s)
  unfolding rnr_nr_in_recovery
  rnr_backs_in_8 =
      by_test (λ (t : StepState). Backs c (Final nr) ks s t) (is_valid_nr Whole nr s.end.window) _ _
      (λ _. rnr_final_backs) (λ no_. let yes_ : is_valid_nr Whole nr s.end.window ≡ true =
      valid c nr ks s status_of_final in cc)

-- the peer busy condition is set before
keeps_backs : {c : Context} {k : Kind} {ks : List Kind} {s t u : StepState} → Keeps c s t
    → Backs c k ks t u → Backs c k ks s u
keeps_backs {c = c} {s = s} {t = t} a b = record {
  nr = b.nr;
  line = b.line ∙ a.line;
  in_7 = b.in_7;
  vs = b.vs;
  next = b.next;
  given = b.given ∙ ap (λ (v : Sending). v.given) a.sending_same;
  own_busy = b.own_busy ∙ ap (λ (v : Sending). v.own_busy) a.sending_same;
  receiving_same = b.receiving_same ∙ a.receiving_same;
  first = let p = a.first in let q = b.first in omega (arith, p, q);
  calm = then_calm a.calm b.calm;
  resent =
      let q = b.resent in
      let same = ap (λ (v : Sending). length v.given - v.next) a.sending_same in
      let vs = ap (λ (v : Sending). v.vs) a.sending_same in omega (arith, q, same, vs);
  awaited = b.awaited;
  outstanding =
      let q = b.outstanding in
      let given = ap (λ (v : Sending). length v.given) a.sending_same in
      let next = ap (λ (v : Sending). v.next) a.sending_same in
      let vs = ap (λ (v : Sending). v.vs) a.sending_same in
      let f = a.first in
      omega (arith, q, given, next, vs, f);
  va = b.va;
  in_window =
      let q = b.in_window in
      let vs = ap (λ (v : Sending). v.vs) a.sending_same in omega (arith, q, vs);
  free = λ in_7. b.free (ap (λ (v : Sending). v.state) a.sending_same ∙ in_7);
  stopped = λ in_7. b.stopped (ap (λ (v : Sending). v.state) a.sending_same ∙ in_7);
  no_message = b.no_message;
  light = b.light;
  no_poll = b.no_poll;
  wanted = b.wanted;
  unwanted = λ in_7 none. b.unwanted (ap (λ (v : Sending). v.state) a.sending_same ∙ in_7) none;
  final = λ in_8. b.final (ap (λ (v : Sending). v.state) a.sending_same ∙ in_8);
  arrives = subst (λ l. OnReception (Arrives b.nr) (receives c.peer (kinds l))) a.line b.arrives;
}

-- ---- The rows.

abbrev Arriving : Context → Role → Control → List Kind → StepState → Type 0
Arriving c role control ks s = HoldsMid c (kind_of role control c.octets c.place ∷ ks) s

abbrev pub Row : Context → Role → Control → List Kind → StepState → StepState → Type 0
Row c role control ks s t = Turns c (kind_of role control c.octets c.place) ks s t

module _ (c : Context) (ks : List Kind) (s : StepState)
    (none_pending : s.end.window.ack_pending ≡ false) where
  abbrev freed : StepState
  freed = set_peer_busy false s

  abbrev busied : StepState
  busied = set_peer_busy true s

  pub i_in_7 : (ns nr : ℕ) (p : Bool) → Arriving c Command (I ns nr p) ks s
      → Row c Command (I ns nr p) ks s
      (multiple_frame_established Whole (Heard (I ns nr p) Command) s)
  unfolding multiple_frame_established
  i_in_7 ns nr p m =
      inl (replies_keep (replies_ns c ns nr s none_pending p
      (λ is. taken_below {x = seen c s} {y = c.peer} {out = line c s} (current c ns p) nr ks
      is m)) (i_nr_keeps c nr ks (i_frame_ns Whole ns p s) (mid_ns c ns p nr ks s m)))

  pub i_in_8 : (ns nr : ℕ) (p : Bool) → Arriving c Command (I ns nr p) ks s
      → Row c Command (I ns nr p) ks s (timer_recovery Whole (Heard (I ns nr p) Command) s)
  unfolding timer_recovery
  i_in_8 ns nr p m =
      inl (replies_keep (replies_ns c ns nr s none_pending p
      (λ is. taken_below {x = seen c s} {y = c.peer} {out = line c s} (current c ns p) nr ks
      is m))
      (i_nr_keeps_in_8 c nr ks (i_frame_ns Whole ns p s) (mid_ns c ns p nr ks s m)))

  pub rr_in_7 : (role : Role) (nr : ℕ) (pf : Bool) → s.end.state ≡ MultipleFrameEstablished
      → Arriving c role (Rr nr pf) ks s
      → Row c role (Rr nr pf) ks s (multiple_frame_established Whole (Heard (Rr nr pf) role) s)
  unfolding multiple_frame_established poll_or_final
  rr_in_7 Command nr true is m =
      inl (replies_keep (keeps_replies (peer_busy_keeps c s false) (response_replies c nr freed))
      (rr_nr_keeps c nr ks (enquiry_response freed)
      (mid_response c freed nr ks (mid_peer_busy c false s (Enquiry nr ∷ ks) m))))
  rr_in_7 Answer nr true is m = absurd (no_final_in_7 c nr ks s is m)
  rr_in_7 Answer nr false is m =
      inl (passes (Status nr) refl refl refl none_pending (omega arith)
      (then_keeps (peer_busy_keeps c s false)
      (rr_nr_keeps c nr ks freed (mid_peer_busy c false s (Status nr ∷ ks) m))))
  rr_in_7 Command nr false is m = absurd (no_foreign c ks s m)

  pub rnr_in_7 : (role : Role) (nr : ℕ) (pf : Bool) → s.end.state ≡ MultipleFrameEstablished
      → Arriving c role (Rnr nr pf) ks s
      → Row c role (Rnr nr pf) ks s (multiple_frame_established Whole (Heard (Rnr nr pf) role) s)
  unfolding multiple_frame_established poll_or_final
  rnr_in_7 Command nr true is m =
      inl (replies_keep (keeps_replies (peer_busy_keeps c s true) (response_replies c nr busied))
      (rnr_nr_keeps c nr ks (enquiry_response busied)
      (mid_response c busied nr ks (mid_peer_busy c true s (Enquiry nr ∷ ks) m))))
  rnr_in_7 Answer nr true is m = absurd (no_final_in_7 c nr ks s is m)
  rnr_in_7 Answer nr false is m =
      inl (passes (Status nr) refl refl refl none_pending (omega arith)
      (then_keeps (peer_busy_keeps c s true)
      (rnr_nr_keeps c nr ks busied (mid_peer_busy c true s (Status nr ∷ ks) m))))
  rnr_in_7 Command nr false is m = absurd (no_foreign c ks s m)

  freed_is : freed.end.window.peer_busy ≡ false
  unfolding set_peer_busy with_peer_busy
  freed_is = refl

  in_7_still : s.end.state ≡ MultipleFrameEstablished → (on : Bool)
      → (set_peer_busy on s).end.state ≡ MultipleFrameEstablished
  unfolding set_peer_busy
  in_7_still is on = is

  in_8_still : s.end.state ≡ TimerRecovery → (on : Bool)
      → (set_peer_busy on s).end.state ≡ TimerRecovery
  unfolding set_peer_busy
  in_8_still is on = is

  pub rej_in_7 : (role : Role) (nr : ℕ) (pf : Bool) → s.end.state ≡ MultipleFrameEstablished
      → Arriving c role (Rej nr pf) ks s
      → Row c role (Rej nr pf) ks s (multiple_frame_established Whole (Heard (Rej nr pf) role) s)
  unfolding multiple_frame_established poll_or_final
  rej_in_7 Command nr true is m = absurd (no_foreign c ks s m)
  rej_in_7 Answer nr true is m = absurd (no_final_in_7 c nr ks s is m)
  rej_in_7 Answer nr false is m =
      inr (keeps_backs (peer_busy_keeps c s false)
      (rej_nr_backs c nr ks freed (in_7_still is false) freed_is
      (mid_peer_busy c false s (Rejection nr ∷ ks) m)))
  rej_in_7 Command nr false is m = absurd (no_foreign c ks s m)

  pub rr_in_8 : (role : Role) (nr : ℕ) (pf : Bool) → s.end.state ≡ TimerRecovery
      → Arriving c role (Rr nr pf) ks s
      → Row c role (Rr nr pf) ks s (timer_recovery Whole (Heard (Rr nr pf) role) s)
  unfolding timer_recovery poll
  rr_in_8 Command nr true is m =
      inl (replies_keep (keeps_replies (peer_busy_keeps c s false) (response_replies c nr freed))
      (rr_nr_keeps_in_8 c nr ks (enquiry_response freed)
      (mid_response c freed nr ks (mid_peer_busy c false s (Enquiry nr ∷ ks) m))))
  rr_in_8 Answer nr true is m =
      inr (keeps_backs (peer_busy_keeps c s false)
      (rr_backs_in_8 c nr ks freed (in_8_still is false)
      (mid_peer_busy c false s (Final nr ∷ ks) m)))
  rr_in_8 Answer nr false is m =
      inl (passes (Status nr) refl refl refl none_pending (omega arith)
      (then_keeps (peer_busy_keeps c s false)
      (rr_nr_keeps_in_8 c nr ks freed (mid_peer_busy c false s (Status nr ∷ ks) m))))
  rr_in_8 Command nr false is m = absurd (no_foreign c ks s m)

  pub rnr_in_8 : (role : Role) (nr : ℕ) (pf : Bool) → s.end.state ≡ TimerRecovery
      → Arriving c role (Rnr nr pf) ks s
      → Row c role (Rnr nr pf) ks s (timer_recovery Whole (Heard (Rnr nr pf) role) s)
  unfolding timer_recovery poll
  rnr_in_8 Command nr true is m =
      inl (replies_keep (keeps_replies (peer_busy_keeps c s true) (response_replies c nr busied))
      (rnr_nr_keeps_in_8 c nr ks (enquiry_response busied)
      (mid_response c busied nr ks (mid_peer_busy c true s (Enquiry nr ∷ ks) m))))
  rnr_in_8 Answer nr true is m =
      inr (keeps_backs (peer_busy_keeps c s true)
      (rnr_backs_in_8 c nr ks busied (in_8_still is true)
      (mid_peer_busy c true s (Final nr ∷ ks) m)))
  rnr_in_8 Answer nr false is m =
      inl (passes (Status nr) refl refl refl none_pending (omega arith)
      (then_keeps (peer_busy_keeps c s true)
      (rnr_nr_keeps_in_8 c nr ks busied (mid_peer_busy c true s (Status nr ∷ ks) m))))
  rnr_in_8 Command nr false is m = absurd (no_foreign c ks s m)

  -- a REJ with F=0 in state 8 acknowledges, and no more
  pub rej_in_8 : (role : Role) (nr : ℕ) (pf : Bool) → s.end.state ≡ TimerRecovery
      → Arriving c role (Rej nr pf) ks s
      → Row c role (Rej nr pf) ks s (timer_recovery Whole (Heard (Rej nr pf) role) s)
  unfolding timer_recovery poll
  rej_in_8 Command nr true is m = absurd (no_foreign c ks s m)
  rej_in_8 Answer nr true is m =
      inr (keeps_backs (peer_busy_keeps c s false)
      (rr_backs_in_8 c nr ks freed (in_8_still is false)
      (mid_peer_busy c false s (Final nr ∷ ks) m)))
  rej_in_8 Answer nr false is m =
      let r = mid_peer_busy c false s (Rejection nr ∷ ks) m in
      inl (passes (Rejection nr) refl refl refl none_pending (omega arith)
      (then_keeps (peer_busy_keeps c s false)
      (rr_nr_keeps_in_8 c nr ks freed
      (turned (seen c freed) c.peer (line c freed) (Status nr ∷ ks)
      (Rejection nr ∷ ks) (rejection_left nr ks) r))))
  rej_in_8 Command nr false is m = absurd (no_foreign c ks s m)
