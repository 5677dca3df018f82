-- The end of a step does not increase the remaining work, and expiry of T200 reduces it.
use Rattle.std.proofs.Common.{◌≡◌, ℕ, zero, suc, ◌+◌, ◌-◌, ◌≤◌, ◌&&◌, nat_lt, Bool, true, false, List, [], ◌∷◌, ◌++◌, length, length-append, refl, sym, ap, subst, ◌∙◌, arith}
use Rattle.lapd_timers.specs.declared.timer.Timer.TheVariants.{T200}
use Rattle.lapd_frame.specs.declared.Role.TheVariants.{Command, Answer}
use Rattle.lapd_frame.specs.declared.Control.TheVariants.{Rr}
use Rattle.lapd_mod128.specs.Counting.{Whole, after, before}
use Rattle.lapd_supervision.specs.StateVariables.{StateVariables, status_frame, without_ack_pending, may_send, after_sending, last_i_frame}
use Rattle.lapd_link_definition.specs.declared.state.State.TheVariants.{MultipleFrameEstablished, TimerRecovery}
use Rattle.lapd_link_definition.specs.EndOfStep.{is_7_or_8, is_established, may_send_next, send_next, send_all, acknowledge_pending, end_step}
use Rattle.lapd_link_definition.specs.End.{End, StepState, unsent}
use Rattle.lapd_link_definition.specs.Established.{established_t200, sends_last}
use Rattle.lapd_link_definition.specs.Procedures.{state_to, rc_to, expired, transmit_enquiry, transmit_rr, transmit_i_frame, ensure_t200, retransmit_last_i_frame}
use Rattle.lapd_link_definition.proofs.Sending.{both_true, below}
use Rattle.lapd_link_definition.proofs.Soundness.{established_is}
use Rattle.lapd_pair_laws.specs.Line.{without_info}
use Rattle.lapd_pair_laws.specs.Move.{story_after}
use Rattle.lapd_pair_laws.specs.Safe.{IsAmong}
use Rattle.lapd_pair_laws.specs.Kinds.{Message, Kind, Numbered, Status, Enquiry, kind, kinds, numbers, rejection_of, tally, poll_of, final_of}
use Rattle.lapd_pair_laws.proofs.ActionEffects.{Context, story, kinds_more, enquiry_kind}
use Rattle.lapd_pair_laws.proofs.Lists.{by_test, numbers_more, rejections_same, tally_more}
use Rattle.lapd_pair_laws.proofs.Flow.{source, sink, Stream, Lighter, Flow}
use Rattle.lapd_pair_laws.proofs.StreamReceipts as receives
use Rattle.lapd_pair_laws.proofs.SenderStream as speaks
use Rattle.lapd_pair_laws.proofs.WorkOfActions.{with_pending, is_ready, ready_more, Draws}
use Rattle.lapd_pair_laws.proofs.States.{rr_puts, enquiry_puts, next_sent, next_puts, last_sent, last_puts, ensure_puts}
use Rattle.lapd_pair_laws.proofs.WorkOfRows.{pending_messages}

-- ---- A message is sent, and with it the pending acknowledgement.

pending_polls : (pending : Bool) (vr : ℕ) (ks : List Kind)
    → tally poll_of (with_pending pending vr ks) ≡ tally poll_of ks
pending_polls true vr ks = let more = tally_more poll_of (Status vr) ks in omega (arith, more)
pending_polls false vr ks = refl

flow_sent : (x z y : End) (pending : Bool) (m : Message) (ks out : List Kind) (n u : ℕ)
    → x.state ≡ MultipleFrameEstablished → (source x).unsent ≡ u + 1 → m.number ≡ x.window.vs
    → source z ≡ record (source x) { vs = x.window.vs + 1; unsent = u; t200 = true }
    → sink z ≡ sink x
    → Flow x y (with_pending pending x.window.vr out) ks n
    → Flow z y (out ++ Numbered m x.window.vr ∷ []) ks n
flow_sent x z y pending m ks out n u is one_more at same_source same_sink f =
    let vr = x.window.vr in
    let k = Numbered m vr in
    let bare : Stream (source x) (sink y) out ks f.a =
    speaks.as_sent (source x) (sink y) (with_pending pending vr out) ks out ks f.a
    (sym (pending_messages pending vr out)) (sym (pending_polls pending vr out)) refl refl
    refl f.mine in
    let l : Lighter 1 (record (source x) { vs = x.window.vs + 1; unsent = u; t200 = true }) (sink y)
    (out ++ k ∷ []) ks f.a =
    speaks.sends (source x) (sink y) out ks m vr u f.a is one_more at bare in
    record {
      a = f.a - 1;
      b = f.b;
      mine = subst (λ p. Stream p (sink y) (out ++ k ∷ []) ks (f.a - 1)) (sym same_source) l.stream;
      its =
          subst (λ q. Stream (source y) q ks (out ++ k ∷ []) f.b) (sym same_sink)
          (its pending f.its);
      most = longer pending l.some f.most;
    }
  where
    its : (b : Bool) → Stream (source y) (sink x) ks (with_pending b x.window.vr out) f.b
        → Stream (source y) (sink x) ks (out ++ Numbered m x.window.vr ∷ []) f.b
    its true st =
        receives.sends_more (source y) (sink x) ks (out ++ Status x.window.vr ∷ [])
        (out ++ Numbered m x.window.vr ∷ []) f.b
        (rejections_same (Numbered m x.window.vr) out refl
        ∙ sym (rejections_same (Status x.window.vr) out refl))
        (λ j a. subst (λ ns. IsAmong j ns)
        (numbers_more (Status x.window.vr) out x.window.vr refl
        ∙ sym (numbers_more (Numbered m x.window.vr) out x.window.vr refl)) a)
        (let p = tally_more final_of (Status x.window.vr) out in
        let q = tally_more final_of (Numbered m x.window.vr) out in omega (arith, p, q)) st
    its false st =
        receives.sends_more (source y) (sink x) ks out (out ++ Numbered m x.window.vr ∷ []) f.b
        (rejections_same (Numbered m x.window.vr) out refl)
        (λ j a. subst (λ ns. IsAmong j ns)
        (sym (numbers_more (Numbered m x.window.vr) out x.window.vr refl))
        (receives.among_more j x.window.vr (numbers out) a))
        (let q = tally_more final_of (Numbered m x.window.vr) out in omega (arith, q)) st

    longer : (b : Bool) → 1 ≤ f.a
        → length (with_pending b x.window.vr out) + length ks + f.a + f.b ≤ n
        → length (out ++ Numbered m x.window.vr ∷ []) + length ks + (f.a - 1) + f.b ≤ n
    longer true some most =
        let p = length-append out (Status x.window.vr ∷ []) in
        let q = length-append out (Numbered m x.window.vr ∷ []) in omega (arith, p, q, some, most)
    longer false some most =
        let q = length-append out (Numbered m x.window.vr ∷ []) in omega (arith, q, some, most)

module _ (c : Context) (peer : End) (ks : List Kind) (n : ℕ) where
  draws_next : (s : StepState) → may_send_next Whole s ≡ true → Draws c peer ks n s
      → Draws c peer ks n (send_next Whole s)
  unfolding transmit_i_frame ensure_t200 after_sending after
  draws_next s go d =
      let one =
      both_true (is_established s.end.state)
      (may_send Whole s.end.parameters.k s.end.window
      && nat_lt s.end.next (length s.end.given)) go in
      let two =
      both_true (may_send Whole s.end.parameters.k s.end.window)
      (nat_lt s.end.next (length s.end.given)) one.1 in
      let free = below s.end.next (length s.end.given) two.1 in
      let is = established_is s.end.state one.0 in
      let t = send_next Whole s in
      let f = next_sent c s in
      let m : Message =
      record
      { number = s.end.window.vs; polled = false; place = f.place; octets = f.info } in
      let left : length s.end.given - s.end.next ≡ (length s.end.given - (s.end.next + 1)) + 1 =
      omega (arith, free) in
      record {
        frames = d.frames ++ f ∷ [];
        so =
            (ensure_puts c (transmit_i_frame Whole s)).line ∙ (next_puts c s).line
            ∙ ap (λ l. l ++ f ∷ []) d.so;
        preserved =
            (ensure_puts c (transmit_i_frame Whole s)).dropped ∙ (next_puts c s).dropped
            ∙ d.preserved;
        flow = subst (λ l. Flow t.end peer l ks n) (sym (kinds_more d.frames f))
            (flow_sent s.end t.end peer s.end.window.ack_pending m ks (kinds d.frames) n
            (length s.end.given - (s.end.next + 1)) is left refl refl refl d.flow);
        idle = d.idle;
        ready = ready_more d.frames f refl d.ready;
      }

  draws_all : (k : ℕ) (s : StepState) → Draws c peer ks n s → Draws c peer ks n (send_all Whole k s)
  unfolding send_all
  draws_all zero s d = d
  draws_all (suc k) s d =
      by_test (λ (t : StepState). Draws c peer ks n t) (may_send_next Whole s) _ _
      (λ go. draws_all k (send_next Whole s) (draws_next s go d)) (λ _. d)

  draws_rr : (s : StepState) → s.end.window.ack_pending ≡ true → Draws c peer ks n s
      → Draws c peer ks n (transmit_rr s)
  unfolding transmit_rr without_ack_pending
  draws_rr s pending d =
      let f = without_info Answer (Rr s.end.window.vr false) in
      let t = transmit_rr s in
      let now : Flow s.end peer (kinds d.frames ++ Status s.end.window.vr ∷ []) ks n =
      subst (λ b. Flow s.end peer (with_pending b s.end.window.vr (kinds d.frames)) ks n)
      pending d.flow in
      record {
        frames = d.frames ++ f ∷ [];
        so = (rr_puts c s).line ∙ ap (λ l. l ++ f ∷ []) d.so;
        preserved = (rr_puts c s).dropped ∙ d.preserved;
        flow =
            subst (λ l. Flow t.end peer l ks n) (sym (kinds_more d.frames f))
            (record { a = now.a; b = now.b; mine = now.mine; its = now.its; most = now.most });
        idle = d.idle;
        ready = ready_more d.frames f refl d.ready;
      }

  pub draws_close : (s : StepState) → Draws c peer ks n s → Draws c peer ks n (end_step Whole s)
  unfolding end_step acknowledge_pending
  draws_close s d =
      let all = send_all Whole (unsent s.end) s in
      let sent : Draws c peer ks n all = draws_all (unsent s.end) s d in
      by_test (λ (t : StepState). Draws c peer ks n t)
      (is_7_or_8 all.end.state && all.end.window.ack_pending) _ _
      (λ pending. draws_rr all
      (both_true (is_7_or_8 all.end.state) all.end.window.ack_pending pending).1 sent)
      (λ _. sent)

-- ---- T200 expires in state 7 while the line is empty.

flow_polled : (x z y : End) (u : Kind) (nr n : ℕ) → x.t200 ≡ true → poll_of u ≡ 1
    → rejection_of u ≡ [] → final_of u ≡ 0
    → source z ≡ record (source x) { state = TimerRecovery; t200 = true } → sink z ≡ sink x
    → Flow x y [] [] n → Flow z y (u ∷ []) [] (n - 1)
flow_polled x z y u nr n runs poll rejects_none no_final same_source same_sink f =
    let l = speaks.polls (source x) (sink y) u f.a runs poll f.mine in
    let its : Stream (source y) (sink x) [] (u ∷ []) f.b =
    receives.sends_more (source y) (sink x) [] [] (u ∷ []) f.b (ap (λ r. r ++ []) rejects_none)
    (λ j none. absurd none) (omega (arith, no_final)) f.its in
    record {
      a = f.a - 2;
      b = f.b;
      mine = subst (λ p. Stream p (sink y) (u ∷ []) [] (f.a - 2)) (sym same_source) l.stream;
      its = subst (λ q. Stream (source y) q [] (u ∷ []) f.b) (sym same_sink) its;
      most = let le = f.most in let some = l.some in omega (arith, le, some);
    }

pub ready_enquiry : (w : StateVariables) → w.own_busy ≡ false
    → is_ready (status_frame true w) ≡ true
unfolding status_frame
ready_enquiry w free = rw free refl

pub draws_t200 : (c : Context) (peer : End) (n : ℕ) (s : StepState) → s.end.t200 ≡ true
    → s.end.window.own_busy ≡ false → (story c s).line ≡ []
    → (story c s).history.dropped ≡ c.view.station.history.dropped → Flow s.end peer [] [] n
    → Draws c peer [] (n - 1) (established_t200 Whole s)
unfolding established_t200 story_after expired transmit_enquiry retransmit_last_i_frame last_i_frame
    without_ack_pending before rc_to state_to
draws_t200 c peer n s runs idle none preserved f =
    by_test (λ (t : StepState). Draws c peer [] (n - 1) t)
    (sends_last s.end.parameters.recovery s.end.window) _ _
    (λ _. let u = last_sent c s in record {
      frames = u ∷ [];
      so = (last_puts c (expired T200 s)).line ∙ ap (λ l. l ++ u ∷ []) none;
      preserved = (last_puts c (expired T200 s)).dropped ∙ preserved;
      flow =
          flow_polled s.end
          (state_to TimerRecovery (rc_to 1 (retransmit_last_i_frame Whole (expired T200 s)))).end
          peer (kind u) s.end.window.vr n runs refl refl refl refl refl f;
      idle = idle;
      ready = (refl, tt);
    })
    (λ _. let u = without_info Command (status_frame true s.end.window) in record {
      frames = u ∷ [];
      so = (enquiry_puts c (expired T200 s)).line ∙ ap (λ l. l ++ u ∷ []) none;
      preserved = (enquiry_puts c (expired T200 s)).dropped ∙ preserved;
      flow =
          let z = (state_to TimerRecovery (rc_to 1 (transmit_enquiry (expired T200 s)))).end in
          subst (λ k. Flow z peer (k ∷ []) [] (n - 1)) (sym (enquiry_kind s.end.window))
          (flow_polled s.end z peer (Enquiry s.end.window.vr) s.end.window.vr n
          runs refl refl refl refl refl f);
      idle = idle;
      ready = (ready_enquiry s.end.window idle, tt);
    })
