-- Frames with N(R) in states 7 and 8, and the end of the step: each reduces the remaining work.
use Rattle.std.proofs.Common.{◌≡◌, ℕ, ◌+◌, ◌-◌, ◌≤◌, ◌==◌, if◌then◌else◌, Bool, true, false, List, [], ◌∷◌, length, refl, sym, subst, ◌∙◌, arith}
use Rattle.std.proofs.lemmas.Bool.{eqb-true}
use Rattle.lapd_timers.specs.declared.timer.Timer.TheVariants.{T200, T203}
use Rattle.lapd_frame.specs.declared.Role.{Role}
use Rattle.lapd_frame.specs.declared.Role.TheVariants.{Command, Answer}
use Rattle.lapd_frame.specs.declared.Control.{Control}
use Rattle.lapd_frame.specs.declared.Control.TheVariants.{I, Rr, Rnr, Rej}
use Rattle.lapd_mod128.specs.Counting.{Whole, steps}
use Rattle.lapd_supervision.specs.StateVariables.{without_ack_pending, with_peer_busy, is_valid_nr, acknowledges_all, with_va, acknowledged_count, with_vs}
use Rattle.lapd_link_definition.specs.declared.state.State.{State}
use Rattle.lapd_link_definition.specs.declared.state.State.TheVariants.{MultipleFrameEstablished, TimerRecovery}
use Rattle.lapd_link_definition.specs.EndOfStep.{is_7_or_8}
use Rattle.lapd_link_definition.specs.End.{End, StepState}
use Rattle.lapd_link_definition.specs.Established.{poll_or_final, acknowledge_with_timers, i_frame_nr, rr_nr, rej_nr, multiple_frame_established}
use Rattle.lapd_link_definition.specs.Input.{Heard}
use Rattle.lapd_link_definition.specs.Procedures.{state_to, start, stop, set_peer_busy, enquiry_response, acknowledge, invoke_retransmission, i_frame_ns}
use Rattle.lapd_link_definition.specs.TimerRecovery.{i_frame_nr_in_recovery, poll, rr_nr_in_recovery, timer_recovery}
use Rattle.lapd_pair_laws.specs.Move.{Station, View, story_after}
use Rattle.lapd_pair_laws.specs.Kinds.{Kind, Status, Rejection, Enquiry, Final, Foreign, kind_of, kinds, message_of, messages, numbers, poll_of, final_of}
use Rattle.lapd_pair_laws.specs.Parties.{party}
use Rattle.lapd_pair_laws.proofs.ActionEffects.{Context, seen, line, HoldsMid, mid_peer_busy, mid_response}
use Rattle.lapd_pair_laws.proofs.Lists.{by_test, messages_same}
use Rattle.lapd_pair_laws.proofs.MidSteps.{numbering}
use Rattle.lapd_pair_laws.proofs.OpenRows.{valid, no_final_in_7}
use Rattle.lapd_pair_laws.proofs.Receives.{mid_ns}
use Rattle.lapd_pair_laws.proofs.FrameOfStep.{turned, rejection_left, final_left}
use Rattle.lapd_pair_laws.proofs.Flow.{IsInTransit, IsClean, source, sink, Stream, Flow}
use Rattle.lapd_pair_laws.proofs.StreamReceipts as receives
use Rattle.lapd_pair_laws.proofs.SenderStream as speaks
use Rattle.lapd_pair_laws.proofs.Facts.{AllArrive, between_open, number_open, acknowledged_so, rejected_so, final_so}
use Rattle.lapd_pair_laws.proofs.WorkOfActions.{with_pending, sent_by, is_ready, Draws, draws_ns, draws_response}
use Rattle.lapd_pair_laws.proofs.States.{PutsNoFrame, then_no_frame, start_200_puts, start_203_puts, stop_200_puts, acknowledge_puts}

other_number : (a b : ℕ) → (a == b) ≡ false → a ≡ b → ⊥
other_number a b h same = grind (arith, h, same)

-- a pending acknowledgement is no message
pub pending_messages : (pending : Bool) (vr : ℕ) (ks : List Kind)
    → messages (with_pending pending vr ks) ≡ messages ks
pending_messages true vr ks = messages_same (Status vr) ks refl
pending_messages false vr ks = refl

-- the frame in hand is processed
pub flow_done : (x z y : End) (k : Kind) (ks out : List Kind) (n : ℕ) → message_of k ≡ []
    → poll_of k ≡ 0 → sink z ≡ sink x
    → ((a : ℕ) → Stream (source x) (sink y) out (k ∷ ks) a → Stream (source z) (sink y) out ks a)
    → Flow x y out (k ∷ ks) n → Flow z y out ks (n - 1)
flow_done x z y k ks out n no_message no_poll same mine f =
    let its : Stream (source y) (sink x) ks out f.b =
    receives.done (source y) (sink x) k ks out f.b no_message no_poll f.its in
    record {
      a = f.a;
      b = f.b;
      mine = mine f.a f.mine;
      its = subst (λ q. Stream (source y) q ks out f.b) (sym same) its;
      most = let le = f.most in omega (arith, le);
    }

module _ (base its_base place : ℕ) (octets : List ℕ) (view : View) (peer : Station)
    (opened : is_7_or_8 peer.end.state ≡ true) (ks : List Kind) (n : ℕ) where
  abbrev c : Context
  c = record {
    base = base;
    octets = octets;
    place = place;
    view = view;
    peer = party its_base peer;
  }

  -- the facts before and after each action
  abbrev CurrentFrame : Kind → StepState → Type 0
  CurrentFrame k s = Draws c peer.end (k ∷ ks) n s

  abbrev Done : StepState → Type 0
  Done s = Draws c peer.end ks (n - 1) s

  -- T203 runs in place of T200
  timers_put : (s : StepState) → PutsNoFrame c s (start T203 (stop T200 s))
  timers_put s = then_no_frame (stop_200_puts c s) (start_203_puts c (stop T200 s))

  when_valid : (nr : ℕ) (s x y : StepState) → HoldsMid c (Status nr ∷ ks) s → Done x
      → Done (if is_valid_nr Whole nr s.end.window then x else y)
  when_valid nr s x y m done =
      by_test (λ (t : StepState). Done t) (is_valid_nr Whole nr s.end.window) x y (λ _. done)
      (λ no_. let yes_ : is_valid_nr Whole nr s.end.window ≡ true = valid c nr ks s m in cc)

  -- all missing messages are in transit, also with the pending acknowledgement appended
  in_transit_sent : (s : StepState) (k : Kind) (top : ℕ) (d : CurrentFrame k s)
      → AllArrive (seen c s) c.peer (line c s) ks top
      → IsInTransit peer.end.window.rejecting peer.end.window.vr top
      (messages (sent_by s.end (kinds d.frames)))
  in_transit_sent s k top d all =
      subst (λ ms. IsInTransit peer.end.window.rejecting peer.end.window.vr top ms)
      (sym (pending_messages s.end.window.ack_pending s.end.window.vr (kinds d.frames)))
      (subst (λ l. IsInTransit peer.end.window.rejecting peer.end.window.vr top
      (messages (kinds l))) d.so all.arriving)

  -- ---- In state 7.

  acked_all : (nr : ℕ) (s : StepState) → s.end.state ≡ MultipleFrameEstablished
      → s.end.window.peer_busy ≡ false → nr ≡ s.end.window.vs → HoldsMid c (Status nr ∷ ks) s
      → CurrentFrame (Status nr) s → Done (start T203 (stop T200 (acknowledge Whole nr s)))
  unfolding start stop acknowledge with_va
  acked_all nr s is free all m d =
      let t = start T203 (stop T200 (acknowledge Whole nr s)) in
      let reporting =
      then_no_frame (acknowledge_puts c s nr) (timers_put (acknowledge Whole nr s)) in
      let so = acknowledged_so {x = seen c s} {y = c.peer} {out = line c s} nr ks is opened all m in
      record {
        frames = d.frames;
        so = reporting.line ∙ d.so;
        preserved = reporting.dropped ∙ d.preserved;
        flow =
            flow_done s.end t.end peer.end (Status nr) ks (sent_by s.end (kinds d.frames)) n refl
            refl refl
            (λ a st. speaks.acked_all (source s.end) (sink peer.end)
            (sent_by s.end (kinds d.frames)) nr ks a is free (sym all)
            (in_transit_sent s (Status nr) s.end.window.vs d so) so.none st) d.flow;
        idle = d.idle;
        ready = d.ready;
      }

  acked_none : (nr : ℕ) (s : StepState) → s.end.state ≡ MultipleFrameEstablished
      → (s.end.window.vs ≡ nr → ⊥) → CurrentFrame (Status nr) s → Done s
  acked_none nr s is other d = record {
    frames = d.frames;
    so = d.so;
    preserved = d.preserved;
    flow =
        flow_done s.end s.end peer.end (Status nr) ks (sent_by s.end (kinds d.frames)) n refl refl
        refl
        (λ a st. speaks.acked_none (source s.end) (sink peer.end) (sent_by s.end (kinds d.frames))
        nr ks a is other st) d.flow;
    idle = d.idle;
    ready = d.ready;
  }

  acked_some : (nr : ℕ) (s : StepState) → s.end.state ≡ MultipleFrameEstablished
      → (s.end.window.vs ≡ nr → ⊥) → HoldsMid c (Status nr ∷ ks) s → CurrentFrame (Status nr) s
      → Done (start T200 (acknowledge Whole nr s))
  unfolding start acknowledge with_va
  acked_some nr s is other m d =
      let t = start T200 (acknowledge Whole nr s) in
      let reporting =
      then_no_frame (acknowledge_puts c s nr) (start_200_puts c (acknowledge Whole nr s)) in
      let number =
      number_open {x = seen c s} {y = c.peer} {out = line c s} nr (numbers ks)
      (Status nr ∷ ks) refl opened m in
      let between = between_open {x = seen c s} {y = c.peer} {out = line c s} opened m in
      let low : s.end.window.va ≤ nr = number.0 in
      let high : nr ≤ s.end.window.vs = omega (arith, number.1, between.1) in
      record {
        frames = d.frames;
        so = reporting.line ∙ d.so;
        preserved = reporting.dropped ∙ d.preserved;
        flow =
            flow_done s.end t.end peer.end (Status nr) ks (sent_by s.end (kinds d.frames)) n refl
            refl refl
            (λ a st. speaks.acked_some (source s.end) (sink peer.end)
            (sent_by s.end (kinds d.frames)) nr ks a is other low high st) d.flow;
        idle = d.idle;
        ready = d.ready;
      }

  draws_timers : (nr : ℕ) (s : StepState) → s.end.state ≡ MultipleFrameEstablished
      → s.end.window.peer_busy ≡ false → HoldsMid c (Status nr ∷ ks) s → CurrentFrame (Status nr) s
      → Done (acknowledge_with_timers Whole nr s)
  unfolding acknowledge_with_timers acknowledges_all
  draws_timers nr s is free m d =
      by_test (λ (t : StepState). Done t) (nr == s.end.window.vs) _ _
      (λ all. acked_all nr s is free (eqb-true nr s.end.window.vs all) m d)
      (λ other. let no : s.end.window.vs ≡ nr → ⊥ =
      λ same. other_number nr s.end.window.vs other (sym same) in
      by_test (λ (t : StepState). Done t) (nr == s.end.window.va) _ _ (λ _. acked_none nr s is no d)
      (λ _. acked_some nr s is no m d))

  acked_busy : (nr : ℕ) (s : StepState) → s.end.window.peer_busy ≡ true → CurrentFrame (Status nr) s
      → Done (acknowledge Whole nr s)
  unfolding acknowledge with_va
  acked_busy nr s busy d = record {
    frames = d.frames;
    so = (acknowledge_puts c s nr).line ∙ d.so;
    preserved = (acknowledge_puts c s nr).dropped ∙ d.preserved;
    flow =
        flow_done s.end (acknowledge Whole nr s).end peer.end (Status nr) ks
        (sent_by s.end (kinds d.frames)) n refl refl refl
        (λ a st. speaks.acked_busy (source s.end) (sink peer.end) (sent_by s.end (kinds d.frames))
        nr ks a busy st) d.flow;
    idle = d.idle;
    ready = d.ready;
  }

  draws_i_nr : (nr : ℕ) (s : StepState) → s.end.state ≡ MultipleFrameEstablished
      → HoldsMid c (Status nr ∷ ks) s → CurrentFrame (Status nr) s → Done (i_frame_nr Whole nr s)
  unfolding i_frame_nr
  draws_i_nr nr s is m d =
      when_valid nr s _ _ m (by_test (λ (t : StepState). Done t) s.end.window.peer_busy _ _
      (λ busy. acked_busy nr s busy d) (λ free. draws_timers nr s is free m d))

  draws_rr_nr : (nr : ℕ) (s : StepState) → s.end.state ≡ MultipleFrameEstablished
      → s.end.window.peer_busy ≡ false → HoldsMid c (Status nr ∷ ks) s → CurrentFrame (Status nr) s
      → Done (rr_nr Whole nr s)
  unfolding rr_nr
  draws_rr_nr nr s is free m d = when_valid nr s _ _ m (draws_timers nr s is free m d)

  -- the peer is no longer busy
  draws_freed : (k : Kind) (s : StepState) → CurrentFrame k s
      → CurrentFrame k (set_peer_busy false s)
  unfolding story_after set_peer_busy with_peer_busy
  draws_freed k s d = record {
    frames = d.frames;
    so = d.so;
    preserved = d.preserved;
    flow =
        let f = d.flow in
        record {
          a = f.a;
          b = f.b;
          mine =
              speaks.freed (source s.end) (sink peer.end) (sent_by s.end (kinds d.frames)) (k ∷ ks)
              f.a f.mine;
          its = f.its;
          most = f.most;
        };
    idle = d.idle;
    ready = d.ready;
  }

  -- ---- The side sets V(S) back.

  as_back : (state : State) (busy : Bool) (nr u v : ℕ) (out : List Kind) (a : ℕ)
      → state ≡ MultipleFrameEstablished → busy ≡ false → u ≡ v
      → Stream (record {
        state = MultipleFrameEstablished;
        t200 = false;
        busy = false;
        vs = nr;
        va = nr;
        unsent = v;
      }) (sink peer.end) out ks a
      → Stream (record { state = state; t200 = false; busy = busy; vs = nr; va = nr; unsent = u })
      (sink peer.end) out ks a
  as_back state busy nr u v out a is free same st = rw (is, free, same) st

  unsent_back : (first next va vs nr given b : ℕ) → first ≡ b + va → next ≡ b + vs → va ≤ nr
      → nr ≤ vs → next ≤ given → given - (first + (nr - va)) ≡ (given - next) + (vs - nr)
  unsent_back first next va vs nr given b f n low high within =
      omega (arith, f, n, low, high, within)

  flow_back : (k : Kind) (nr : ℕ) (s : StepState) (state : State) (d : CurrentFrame k s)
      → message_of k ≡ [] → poll_of k ≡ 0 → state ≡ MultipleFrameEstablished
      → s.end.window.peer_busy ≡ false
      → (IsClean (source s.end) (sink peer.end) (sent_by s.end (kinds d.frames)) (k ∷ ks) → ⊥)
      → HoldsMid c (Status nr ∷ ks) s → AllArrive (seen c s) c.peer (line c s) ks nr
      → Flow (record (s.end) {
        state = state;
        t200 = false;
        t203 = true;
        window = with_vs nr (with_va nr s.end.window);
        first = s.end.first + acknowledged_count Whole nr s.end.window;
        next = s.end.first + acknowledged_count Whole nr s.end.window;
      }) peer.end
      (sent_by s.end (kinds d.frames)) ks (n - 1)
  unfolding with_vs with_va acknowledged_count steps
  flow_back k nr s state d no_message no_poll is free dirty m all =
      let z =
      record (s.end) {
        state = state;
        t200 = false;
        t203 = true;
        window = with_vs nr (with_va nr s.end.window);
        first = s.end.first + (nr - s.end.window.va);
        next = s.end.first + (nr - s.end.window.va);
      } in
      let number =
      number_open {x = seen c s} {y = c.peer} {out = line c s} nr (numbers ks)
      (Status nr ∷ ks) refl opened m in
      let between = between_open {x = seen c s} {y = c.peer} {out = line c s} opened m in
      let low : s.end.window.va ≤ nr = number.0 in
      let high : nr ≤ s.end.window.vs = omega (arith, number.1, between.1) in
      let num = numbering m in
      let same : length s.end.given - (s.end.first + (nr - s.end.window.va)) ≡
      (length s.end.given - s.end.next) + (s.end.window.vs - nr) =
      unsent_back s.end.first s.end.next s.end.window.va s.end.window.vs nr
      (length s.end.given) base num.first num.next low high num.within in
      flow_done s.end z peer.end k ks (sent_by s.end (kinds d.frames)) n no_message no_poll refl
      (λ a st. as_back state s.end.window.peer_busy nr _ _ (sent_by s.end (kinds d.frames)) a is
      free same
      (speaks.mid_back (source s.end) (sink peer.end) (sent_by s.end (kinds d.frames)) k nr ks a
      dirty all.at high (in_transit_sent s k nr d all) all.none st)) d.flow

  draws_rej_nr : (nr : ℕ) (s : StepState) → s.end.state ≡ MultipleFrameEstablished
      → s.end.window.peer_busy ≡ false → HoldsMid c (Rejection nr ∷ ks) s
      → CurrentFrame (Rejection nr) s → Done (rej_nr Whole nr s)
  unfolding rej_nr stop start invoke_retransmission acknowledge story_after with_vs with_va
  draws_rej_nr nr s is free m d =
      let t : HoldsMid c (Status nr ∷ ks) s =
      turned (seen c s) c.peer (line c s) (Status nr ∷ ks) (Rejection nr ∷ ks)
      (rejection_left nr ks) m in
      let back = invoke_retransmission nr (acknowledge Whole nr s) in
      let all = rejected_so {x = seen c s} {y = c.peer} {out = line c s} nr ks is opened m in
      when_valid nr s _ _ t (record {
        frames = d.frames;
        so = (timers_put back).line ∙ (acknowledge_puts c s nr).line ∙ d.so;
        preserved = (timers_put back).dropped ∙ (acknowledge_puts c s nr).dropped ∙ d.preserved;
        flow =
            flow_back (Rejection nr) nr s s.end.state d refl refl is free
            (λ cl. let none = cl.wanted in cc) t all;
        idle = d.idle;
        ready = d.ready;
      })

  draws_final : (nr : ℕ) (s : StepState) → s.end.state ≡ TimerRecovery
      → s.end.window.peer_busy ≡ false → HoldsMid c (Final nr ∷ ks) s → CurrentFrame (Final nr) s
      → Done (rr_nr_in_recovery Whole true nr s)
  unfolding rr_nr_in_recovery stop start invoke_retransmission acknowledge state_to story_after
      with_vs with_va
  draws_final nr s is free m d =
      let t : HoldsMid c (Status nr ∷ ks) s =
      turned (seen c s) c.peer (line c s) (Status nr ∷ ks) (Final nr ∷ ks)
      (final_left nr ks) m in
      let back = invoke_retransmission nr (acknowledge Whole nr s) in
      let all = final_so {x = seen c s} {y = c.peer} {out = line c s} nr ks is opened m in
      when_valid nr s _ _ t (record {
        frames = d.frames;
        so = (timers_put back).line ∙ (acknowledge_puts c s nr).line ∙ d.so;
        preserved = (timers_put back).dropped ∙ (acknowledge_puts c s nr).dropped ∙ d.preserved;
        flow =
            flow_back (Final nr) nr s MultipleFrameEstablished d refl refl refl free
            (λ cl. let in_7 = cl.in_7 in cc) t all;
        idle = d.idle;
        ready = d.ready;
      })

  -- ---- In state 8.

  acked_in_8 : (k : Kind) (nr : ℕ) (s : StepState) → message_of k ≡ [] → poll_of k ≡ 0
      → final_of k ≡ 0 → s.end.state ≡ TimerRecovery → CurrentFrame k s
      → Done (acknowledge Whole nr s)
  unfolding acknowledge with_va
  acked_in_8 k nr s no_message no_poll no_final is d = record {
    frames = d.frames;
    so = (acknowledge_puts c s nr).line ∙ d.so;
    preserved = (acknowledge_puts c s nr).dropped ∙ d.preserved;
    flow =
        flow_done s.end (acknowledge Whole nr s).end peer.end k ks (sent_by s.end (kinds d.frames))
        n no_message no_poll refl
        (λ a st. speaks.acked_in_8 (source s.end) (sink peer.end) (sent_by s.end (kinds d.frames)) k
        nr ks a is no_final st) d.flow;
    idle = d.idle;
    ready = d.ready;
  }

  draws_i_nr_in_8 : (nr : ℕ) (s : StepState) → s.end.state ≡ TimerRecovery
      → HoldsMid c (Status nr ∷ ks) s → CurrentFrame (Status nr) s
      → Done (i_frame_nr_in_recovery Whole nr s)
  unfolding i_frame_nr_in_recovery
  draws_i_nr_in_8 nr s is m d =
      when_valid nr s _ _ m (acked_in_8 (Status nr) nr s refl refl refl is d)

  draws_status_in_8 : (nr : ℕ) (s : StepState) → s.end.state ≡ TimerRecovery
      → HoldsMid c (Status nr ∷ ks) s → CurrentFrame (Status nr) s
      → Done (rr_nr_in_recovery Whole false nr s)
  unfolding rr_nr_in_recovery
  draws_status_in_8 nr s is m d =
      when_valid nr s _ _ m (acked_in_8 (Status nr) nr s refl refl refl is d)

  draws_rejection_in_8 : (nr : ℕ) (s : StepState) → s.end.state ≡ TimerRecovery
      → HoldsMid c (Rejection nr ∷ ks) s → CurrentFrame (Rejection nr) s
      → Done (rr_nr_in_recovery Whole false nr s)
  unfolding rr_nr_in_recovery
  draws_rejection_in_8 nr s is m d =
      let t : HoldsMid c (Status nr ∷ ks) s =
      turned (seen c s) c.peer (line c s) (Status nr ∷ ks) (Rejection nr ∷ ks)
      (rejection_left nr ks) m in
      when_valid nr s _ _ t (acked_in_8 (Rejection nr) nr s refl refl refl is d)

  -- ---- By the frame.

  no_foreign : (s : StepState) → HoldsMid c (Foreign ∷ ks) s → ⊥
  no_foreign s m = let clean = m.its.exchange.clean in omega (arith, clean)

  abbrev Arrives : Role → Control → StepState → Type 0
  Arrives role control s =
      HoldsMid c (kind_of role control octets place ∷ ks) s
      × CurrentFrame (kind_of role control octets place) s

  i_in_7 : (ns nr : ℕ) (p : Bool) (s : StepState) → s.end.state ≡ MultipleFrameEstablished
      → s.end.window.ack_pending ≡ false → Arrives Command (I ns nr p) s
      → Done (multiple_frame_established Whole (Heard (I ns nr p) Command) s)
  unfolding multiple_frame_established i_frame_ns
  i_in_7 ns nr p s is none h =
      draws_i_nr nr (i_frame_ns Whole ns p s) is (mid_ns c ns p nr ks s h.0)
      (draws_ns base its_base place octets view peer opened ns p nr ks n s none h.0 h.1)

  i_in_8 : (ns nr : ℕ) (p : Bool) (s : StepState) → s.end.state ≡ TimerRecovery
      → s.end.window.ack_pending ≡ false → Arrives Command (I ns nr p) s
      → Done (timer_recovery Whole (Heard (I ns nr p) Command) s)
  unfolding timer_recovery i_frame_ns
  i_in_8 ns nr p s is none h =
      draws_i_nr_in_8 nr (i_frame_ns Whole ns p s) is (mid_ns c ns p nr ks s h.0)
      (draws_ns base its_base place octets view peer opened ns p nr ks n s none h.0 h.1)

  -- a poll by RR: its N(R) remains
  polled : (nr : ℕ) (s : StepState) → s.end.window.ack_pending ≡ false
      → HoldsMid c (Enquiry nr ∷ ks) s → CurrentFrame (Enquiry nr) s
      → HoldsMid c (Status nr ∷ ks) (enquiry_response (set_peer_busy false s))
      × CurrentFrame (Status nr) (enquiry_response (set_peer_busy false s))
  unfolding set_peer_busy with_peer_busy
  polled nr s none m d =
      let b = set_peer_busy false s in
      let go : HoldsMid c (Enquiry nr ∷ ks) b = mid_peer_busy c false s (Enquiry nr ∷ ks) m in (
        mid_response c b nr ks go,
        draws_response base its_base place octets view peer opened nr ks n
            b none go (draws_freed (Enquiry nr) s d),
      )

  rr_in_7 : (nr : ℕ) (pf : Bool) (role : Role) (s : StepState)
      → s.end.state ≡ MultipleFrameEstablished → s.end.window.ack_pending ≡ false
      → Arrives role (Rr nr pf) s
      → Done (multiple_frame_established Whole (Heard (Rr nr pf) role) s)
  unfolding multiple_frame_established poll_or_final set_peer_busy with_peer_busy enquiry_response
      without_ack_pending
  rr_in_7 nr true Command s is none h =
      let p = polled nr s none h.0 h.1 in
      draws_rr_nr nr (enquiry_response (set_peer_busy false s)) is refl p.0 p.1
  rr_in_7 nr true Answer s is none h = absurd (no_final_in_7 c nr ks s is h.0)
  rr_in_7 nr false Answer s is none h =
      draws_rr_nr nr (set_peer_busy false s) is refl (mid_peer_busy c false s (Status nr ∷ ks) h.0)
      (draws_freed (Status nr) s h.1)
  rr_in_7 nr false Command s is none h = absurd (no_foreign s h.0)

  rej_in_7 : (nr : ℕ) (pf : Bool) (role : Role) (s : StepState)
      → s.end.state ≡ MultipleFrameEstablished → Arrives role (Rej nr pf) s
      → Done (multiple_frame_established Whole (Heard (Rej nr pf) role) s)
  unfolding multiple_frame_established poll_or_final set_peer_busy with_peer_busy
  rej_in_7 nr true Command s is h = absurd (no_foreign s h.0)
  rej_in_7 nr true Answer s is h = absurd (no_final_in_7 c nr ks s is h.0)
  rej_in_7 nr false Answer s is h =
      draws_rej_nr nr (set_peer_busy false s) is refl
      (mid_peer_busy c false s (Rejection nr ∷ ks) h.0) (draws_freed (Rejection nr) s h.1)
  rej_in_7 nr false Command s is h = absurd (no_foreign s h.0)

  rr_in_8 : (nr : ℕ) (pf : Bool) (role : Role) (s : StepState) → s.end.state ≡ TimerRecovery
      → s.end.window.ack_pending ≡ false → Arrives role (Rr nr pf) s
      → Done (timer_recovery Whole (Heard (Rr nr pf) role) s)
  unfolding timer_recovery poll set_peer_busy with_peer_busy enquiry_response without_ack_pending
  rr_in_8 nr true Command s is none h =
      let p = polled nr s none h.0 h.1 in
      draws_status_in_8 nr (enquiry_response (set_peer_busy false s)) is p.0 p.1
  rr_in_8 nr true Answer s is none h =
      draws_final nr (set_peer_busy false s) is refl (mid_peer_busy c false s (Final nr ∷ ks) h.0)
      (draws_freed (Final nr) s h.1)
  rr_in_8 nr false Answer s is none h =
      draws_status_in_8 nr (set_peer_busy false s) is (mid_peer_busy c false s (Status nr ∷ ks) h.0)
      (draws_freed (Status nr) s h.1)
  rr_in_8 nr false Command s is none h = absurd (no_foreign s h.0)

  rej_in_8 : (nr : ℕ) (pf : Bool) (role : Role) (s : StepState) → s.end.state ≡ TimerRecovery
      → Arrives role (Rej nr pf) s → Done (timer_recovery Whole (Heard (Rej nr pf) role) s)
  unfolding timer_recovery poll set_peer_busy with_peer_busy
  rej_in_8 nr true Command s is h = absurd (no_foreign s h.0)
  rej_in_8 nr true Answer s is h =
      draws_final nr (set_peer_busy false s) is refl (mid_peer_busy c false s (Final nr ∷ ks) h.0)
      (draws_freed (Final nr) s h.1)
  rej_in_8 nr false Answer s is h =
      draws_rejection_in_8 nr (set_peer_busy false s) is
      (mid_peer_busy c false s (Rejection nr ∷ ks) h.0) (draws_freed (Rejection nr) s h.1)
  rej_in_8 nr false Command s is h = absurd (no_foreign s h.0)

  pub in_7 : (control : Control) (role : Role) (s : StepState) → is_ready control ≡ true
      → s.end.state ≡ MultipleFrameEstablished → s.end.window.ack_pending ≡ false
      → Arrives role control s → Done (multiple_frame_established Whole (Heard control role) s)
  in_7 (I ns nr p) Command s plain is none h = i_in_7 ns nr p s is none h
  in_7 (I ns nr p) Answer s plain is none h = absurd (no_foreign s h.0)
  in_7 (Rr nr pf) role s plain is none h = rr_in_7 nr pf role s is none h
  in_7 (Rej nr pf) role s plain is none h = rej_in_7 nr pf role s is h
  in_7 (Rnr nr pf) role s plain is none h = cc
  in_7 control role s plain is none h = cc

  pub in_8 : (control : Control) (role : Role) (s : StepState) → is_ready control ≡ true
      → s.end.state ≡ TimerRecovery → s.end.window.ack_pending ≡ false → Arrives role control s
      → Done (timer_recovery Whole (Heard control role) s)
  in_8 (I ns nr p) Command s plain is none h = i_in_8 ns nr p s is none h
  in_8 (I ns nr p) Answer s plain is none h = absurd (no_foreign s h.0)
  in_8 (Rr nr pf) role s plain is none h = rr_in_8 nr pf role s is none h
  in_8 (Rej nr pf) role s plain is none h = rej_in_8 nr pf role s is h
  in_8 (Rnr nr pf) role s plain is none h = cc
  in_8 control role s plain is none h = cc
