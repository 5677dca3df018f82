-- The effects of the state table's actions on the remaining work, in mid-step.
use Rattle.std.proofs.Common.{◌≡◌, ◌⊎◌, inl, inr, ℕ, ◌+◌, ◌-◌, ◌<◌, ◌≤◌, if◌then◌else◌, Bool, true, false, List, [], ◌∷◌, ◌++◌, length-append, Some, None, refl, sym, ap, subst, ◌∙◌, arith}
use Rattle.lapd_frame.specs.declared.Role.TheVariants.{Answer}
use Rattle.lapd_frame.specs.declared.Control.{Control}
use Rattle.lapd_frame.specs.declared.Control.TheVariants.{I, Rr, Rej}
use Rattle.lapd_mod128.specs.Counting.{Whole, after}
use Rattle.lapd_supervision.specs.StateVariables.{StateVariables, status_frame, poll_response, without_ack_pending}
use Rattle.lapd_supervision.proofs.Receiving.{received_in_sequence, received_out_of_sequence, received_while_rejecting}
use Rattle.lapd_link_definition.specs.EndOfStep.{is_7_or_8}
use Rattle.lapd_link_definition.specs.End.{End, StepState}
use Rattle.lapd_link_definition.specs.Procedures.{enquiry_response, i_frame_ns}
use Rattle.lapd_pair_laws.specs.Histories.{after_outputs}
use Rattle.lapd_pair_laws.specs.Line.{Flight, without_info}
use Rattle.lapd_pair_laws.specs.Move.{Station, View}
use Rattle.lapd_pair_laws.specs.Kinds.{Kind, Numbered, Status, Rejection, Enquiry, Final, kind_of, kinds, message_of, numbers, rejections, tally, poll_of, final_of}
use Rattle.lapd_pair_laws.specs.Parties.{party}
use Rattle.lapd_pair_laws.proofs.ActionEffects.{Context, story, HoldsMid, one_behind, final_kind}
use Rattle.lapd_pair_laws.proofs.Lists.{messages_same, tally_more}
use Rattle.lapd_pair_laws.proofs.Receives.{current, left, as_received}
use Rattle.lapd_pair_laws.proofs.Sends.{same_or_not}
use Rattle.lapd_pair_laws.proofs.Flow.{source, sink, Stream, Lighter, Flow, burden}
use Rattle.lapd_pair_laws.proofs.StreamReceipts as receives
use Rattle.lapd_pair_laws.proofs.SenderStream as speaks
use Rattle.lapd_pair_laws.proofs.Facts.{taken_below, polled_by_8}
use Rattle.lapd_pair_laws.proofs.States.{PutsFrame, unanswered_puts, answered_puts, response_puts}

-- ---- The line with the pending acknowledgement appended.

abbrev pub with_pending : Bool → ℕ → List Kind → List Kind
with_pending true vr ks = ks ++ Status vr ∷ []
with_pending false vr ks = ks

abbrev pub sent_by : End → List Kind → List Kind
sent_by e ks = with_pending e.window.ack_pending e.window.vr ks

-- no RNR, and only frames that ends in states 7 and 8 send
abbrev pub is_ready : Control → Bool
is_ready (I ns nr p) = true
is_ready (Rr nr pf) = true
is_ready (Rej nr pf) = true
is_ready control = false

abbrev pub AreReady : List Flight → Type 0
AreReady [] = Unit {0}
AreReady (f ∷ fs) = (is_ready f.control ≡ true) × AreReady fs

pub ready_more : (fs : List Flight) (f : Flight) → is_ready f.control ≡ true → AreReady fs
    → AreReady (fs ++ f ∷ [])
ready_more [] f is ready = (is, tt)
ready_more (g ∷ fs) f is ready = (ready.0, ready_more fs f is ready.1)

-- In mid-step, or between two steps: the frames in transit from the acting side, and the remaining
-- work.
pub record Draws (c : Context) (peer : End) (ks : List Kind) (n : ℕ) (s : StepState) : Type 0 where
  pub frames : List Flight
  pub so : (story c s).line ≡ frames
  pub preserved : (story c s).history.dropped ≡ c.view.station.history.dropped
  pub flow : Flow s.end peer (sent_by s.end (kinds frames)) ks n
  pub idle : s.end.window.own_busy ≡ false
  pub ready : AreReady frames

-- ---- A Status in hand is the rest of a frame.

-- An answer is appended to the frames in transit, and the other stream is lighter by one.
pub flow_replied : (x z y : End) (k u : Kind) (nr : ℕ) (ks out : List Kind) (n : ℕ)
    → source z ≡ source x
    → rejections (Status nr ∷ ks) ≡ rejections (k ∷ ks)
    → numbers (Status nr ∷ ks) ≡ numbers (k ∷ ks)
    → tally final_of (Status nr ∷ ks) ≡ tally final_of (k ∷ ks)
    → message_of u ≡ [] → poll_of u ≡ 0
    → ((b : ℕ) → Stream (source y) (sink x) (k ∷ ks) out b
    → Lighter 1 (source y) (sink z) (Status nr ∷ ks) (out ++ u ∷ []) b)
    → Flow x y out (k ∷ ks) n → Flow z y (out ++ u ∷ []) (Status nr ∷ ks) n
flow_replied x z y k u nr ks out n same rs ns fs no_message no_poll lighter f =
    let l = lighter f.b f.its in
    let more = tally_more poll_of u out in
    let mine : Stream (source x) (sink y) (out ++ u ∷ []) (Status nr ∷ ks) f.a =
    speaks.as_sent (source x) (sink y) out (k ∷ ks) (out ++ u ∷ []) (Status nr ∷ ks) f.a
    (messages_same u out no_message) (omega (arith, more, no_poll)) rs ns fs f.mine in
    record {
      a = f.a;
      b = f.b - 1;
      mine = subst (λ p. Stream p (sink y) (out ++ u ∷ []) (Status nr ∷ ks) f.a) (sym same) mine;
      its = l.stream;
      most =
          let len = length-append out (u ∷ []) in
          let le = f.most in let some = l.some in omega (arith, len, le, some);
    }

-- the same without an answer
pub flow_passed : (x z y : End) (k : Kind) (nr : ℕ) (ks out : List Kind) (n : ℕ)
    → source z ≡ source x
    → rejections (Status nr ∷ ks) ≡ rejections (k ∷ ks)
    → numbers (Status nr ∷ ks) ≡ numbers (k ∷ ks)
    → tally final_of (Status nr ∷ ks) ≡ tally final_of (k ∷ ks)
    → ((b : ℕ) → Stream (source y) (sink x) (k ∷ ks) out b
    → Stream (source y) (sink z) (Status nr ∷ ks) out b)
    → Flow x y out (k ∷ ks) n → Flow z y out (Status nr ∷ ks) n
flow_passed x z y k nr ks out n same rs ns fs passes f =
    let mine : Stream (source x) (sink y) out (Status nr ∷ ks) f.a =
    speaks.as_sent (source x) (sink y) out (k ∷ ks) out (Status nr ∷ ks) f.a refl refl rs ns
    fs f.mine in
    record {
      a = f.a;
      b = f.b;
      mine = subst (λ p. Stream p (sink y) out (Status nr ∷ ks) f.a) (sym same) mine;
      its = passes f.b f.its;
      most = f.most;
    }

-- ---- The N(S) of an I frame.

module _ (base its_base place : ℕ) (octets : List ℕ) (view : View) (peer : Station)
    (opened : is_7_or_8 peer.end.state ≡ true) where
  abbrev c : Context
  c = record {
    base = base;
    octets = octets;
    place = place;
    view = view;
    peer = party its_base peer;
  }

  -- the flow while no acknowledgement is pending
  flow_after : (s : StepState) (ks : List Kind) (n : ℕ) (d : Draws c peer.end ks n s)
      → s.end.window.ack_pending ≡ false → Flow s.end peer.end (kinds d.frames) ks n
  flow_after s ks n d after_outputs =
      subst (λ b. Flow s.end peer.end (with_pending b s.end.window.vr (kinds d.frames)) ks n)
      after_outputs d.flow

  -- an answer is appended
  replied : (s t : StepState) (k u : Kind) (control : Control) (nr : ℕ) (ks : List Kind) (n : ℕ)
      (d : Draws c peer.end (k ∷ ks) n s) → t.end.window.ack_pending ≡ false
      → t.end.window.own_busy ≡ false → is_ready control ≡ true → kind_of Answer control [] 0 ≡ u
      → PutsFrame c (without_info Answer control) s t
      → Flow t.end peer.end (kinds d.frames ++ u ∷ []) (Status nr ∷ ks) n
      → Draws c peer.end (Status nr ∷ ks) n t
  replied s t k u control nr ks n d after_outputs idle plain is reporting f = record {
    frames = d.frames ++ without_info Answer control ∷ [];
    so = reporting.line ∙ ap (λ l. l ++ without_info Answer control ∷ []) d.so;
    preserved = reporting.dropped ∙ d.preserved;
    flow =
        subst (λ b. Flow t.end peer.end
        (with_pending b t.end.window.vr (kinds (d.frames ++ without_info Answer control ∷ [])))
        (Status nr ∷ ks) n) (sym after_outputs)
        (subst (λ l. Flow t.end peer.end l (Status nr ∷ ks) n)
        (sym (one_behind d.frames Answer control u is)) f);
    idle = idle;
    ready = ready_more d.frames (without_info Answer control) plain d.ready;
  }

  ready_status : (w : StateVariables) → w.own_busy ≡ false → is_ready (status_frame true w) ≡ true
  unfolding status_frame
  ready_status w free = rw free refl

  draws_taken : (ns : ℕ) (p : Bool) (nr : ℕ) (ks : List Kind) (n : ℕ) (s : StepState)
      → s.end.window.ack_pending ≡ false → ns ≡ s.end.window.vr
      → HoldsMid c (Numbered (current c ns p) nr ∷ ks) s
      → Draws c peer.end (Numbered (current c ns p) nr ∷ ks) n s
      → Draws c peer.end (Status nr ∷ ks) n (i_frame_ns Whole ns p s)
  unfolding after
  draws_taken ns true nr ks n s none_pending is m d =
      let w = s.end.window in
      let now = record w { vr = w.vr + 1; rejecting = false; ack_pending = false } in
      let u = Rr (w.vr + 1) true in
      let t = left s now true (Some u) in
      let k = Numbered (current c ns true) nr in
      let by_8 = polled_by_8 k ks refl opened m in
      let less = taken_below (current c ns true) nr ks is m in
      let none : tally final_of (kinds d.frames) ≡ 0 =
      subst (λ l. tally final_of (kinds l) ≡ 0) d.so by_8.1 in
      subst (λ (t : StepState). Draws c peer.end (Status nr ∷ ks) n t)
      (sym (as_received ns true s now true (Some u)
      (received_in_sequence Whole ns true w d.idle is)))
      (replied s t k (Final (w.vr + 1)) u nr ks n d
      refl d.idle refl refl (answered_puts c s now true u)
      (flow_replied s.end t.end peer.end k (Final (w.vr + 1)) nr ks (kinds d.frames) n
      refl refl refl refl refl refl
      (λ b st. receives.answered (source peer.end) (sink s.end) (sink t.end) k nr (w.vr + 1) ks
      (kinds d.frames) b by_8.0 none (lighter w.vr w.rejecting less) st)
      (flow_after s (k ∷ ks) n d none_pending)))
    where
      lighter : (vr : ℕ) (rejecting : Bool) → vr < peer.end.window.vs
          → burden 0 (source peer.end) (record { vr = vr + 1; rejecting = false }) + 1
          ≤ burden 1 (source peer.end) (record { vr = vr; rejecting = rejecting })
      lighter vr rejecting less = omega (arith, less)
  draws_taken ns false nr ks n s none_pending is m d =
      let w = s.end.window in
      let now = record w { vr = w.vr + 1; rejecting = false; ack_pending = true } in
      let t = left s now true None in
      let k = Numbered (current c ns false) nr in
      let less = taken_below (current c ns false) nr ks is m in
      subst (λ (t : StepState). Draws c peer.end (Status nr ∷ ks) n t)
      (sym (as_received ns false s now true None
      (received_in_sequence Whole ns false w d.idle is)))
      (record {
        frames = d.frames;
        so = (unanswered_puts c s now true).line ∙ d.so;
        preserved = (unanswered_puts c s now true).dropped ∙ d.preserved;
        flow =
            flow_replied s.end t.end peer.end k (Status (w.vr + 1)) nr ks (kinds d.frames) n refl
            refl refl refl refl refl
            (λ b st. receives.taken (source peer.end) (sink s.end) (current c ns false) nr ks
            (kinds d.frames) b is refl less st) (flow_after s (k ∷ ks) n d none_pending);
        idle = d.idle;
        ready = d.ready;
      })

  draws_rejected : (ns : ℕ) (p : Bool) (nr : ℕ) (ks : List Kind) (n : ℕ) (s : StepState)
      → (ns ≡ s.end.window.vr → ⊥) → s.end.window.rejecting ≡ false
      → HoldsMid c (Numbered (current c ns p) nr ∷ ks) s
      → s.end.window.ack_pending ≡ false → Draws c peer.end (Numbered (current c ns p) nr ∷ ks) n s
      → Draws c peer.end (Status nr ∷ ks) n (i_frame_ns Whole ns p s)
  draws_rejected ns true nr ks n s other not_yet m none_pending d =
      let w = s.end.window in
      let now = record w { rejecting = true; ack_pending = false } in
      let u = Rej w.vr true in
      let t = left s now false (Some u) in
      let k = Numbered (current c ns true) nr in
      let by_8 = polled_by_8 k ks refl opened m in
      let none : tally final_of (kinds d.frames) ≡ 0 =
      subst (λ l. tally final_of (kinds l) ≡ 0) d.so by_8.1 in
      subst (λ (t : StepState). Draws c peer.end (Status nr ∷ ks) n t)
      (sym (as_received ns true s now false (Some u)
      (received_out_of_sequence Whole ns true w d.idle other not_yet)))
      (replied s t k (Final w.vr) u nr ks n d refl d.idle refl refl (answered_puts c s now false u)
      (flow_replied s.end t.end peer.end k (Final w.vr) nr ks (kinds d.frames) n
      refl refl refl refl refl refl
      (λ b st. receives.answered (source peer.end) (sink s.end) (sink t.end) k nr w.vr ks
      (kinds d.frames) b by_8.0 none (lighter w.vr w.rejecting) st)
      (flow_after s (k ∷ ks) n d none_pending)))
    where
      lighter : (vr : ℕ) (rejecting : Bool)
          → burden 0 (source peer.end) (record { vr = vr; rejecting = true }) + 1
          ≤ burden 1 (source peer.end) (record { vr = vr; rejecting = rejecting })
      lighter vr rejecting = omega arith
  draws_rejected ns false nr ks n s other not_yet m none_pending d =
      let w = s.end.window in
      let now = record w { rejecting = true; ack_pending = false } in
      let u = Rej w.vr false in
      let t = left s now false (Some u) in
      let k = Numbered (current c ns false) nr in
      subst (λ (t : StepState). Draws c peer.end (Status nr ∷ ks) n t)
      (sym (as_received ns false s now false (Some u)
      (received_out_of_sequence Whole ns false w d.idle other not_yet)))
      (replied s t k (Rejection w.vr) u nr ks n d
      refl d.idle refl refl (answered_puts c s now false u)
      (flow_replied s.end t.end peer.end k (Rejection w.vr) nr ks (kinds d.frames) n
      refl refl refl refl refl refl
      (λ b st. receives.rejected (source peer.end) (sink s.end) (current c ns false) nr ks
      (kinds d.frames) b other not_yet refl st) (flow_after s (k ∷ ks) n d none_pending)))

  draws_discarded : (ns : ℕ) (p : Bool) (nr : ℕ) (ks : List Kind) (n : ℕ) (s : StepState)
      → (ns ≡ s.end.window.vr → ⊥) → s.end.window.rejecting ≡ true
      → HoldsMid c (Numbered (current c ns p) nr ∷ ks) s
      → s.end.window.ack_pending ≡ false → Draws c peer.end (Numbered (current c ns p) nr ∷ ks) n s
      → Draws c peer.end (Status nr ∷ ks) n (i_frame_ns Whole ns p s)
  unfolding poll_response
  draws_discarded ns true nr ks n s other rejects m none_pending d =
      let w = s.end.window in
      let now = record w { ack_pending = false } in
      let u = status_frame true w in
      let t = left s now false (Some u) in
      let k = Numbered (current c ns true) nr in
      let by_8 = polled_by_8 k ks refl opened m in
      let none : tally final_of (kinds d.frames) ≡ 0 =
      subst (λ l. tally final_of (kinds l) ≡ 0) d.so by_8.1 in
      subst (λ (t : StepState). Draws c peer.end (Status nr ∷ ks) n t)
      (sym (as_received ns true s now false (Some u)
      (received_while_rejecting Whole ns true w d.idle other rejects)))
      (replied s t k (Final w.vr) u nr ks n d
      refl d.idle (ready_status w d.idle) (final_kind w) (answered_puts c s now false u)
      (flow_replied s.end t.end peer.end k (Final w.vr) nr ks (kinds d.frames) n
      refl refl refl refl refl refl
      (λ b st. receives.answered (source peer.end) (sink s.end) (sink t.end) k nr w.vr ks
      (kinds d.frames) b by_8.0 none (omega arith) st)
      (flow_after s (k ∷ ks) n d none_pending)))
  draws_discarded ns false nr ks n s other rejects m none_pending d =
      let w = s.end.window in
      let now = record w { ack_pending = w.ack_pending } in
      let t = left s now false None in
      let k = Numbered (current c ns false) nr in
      let flow = flow_passed s.end t.end peer.end k nr ks (kinds d.frames) n refl refl refl refl
      (λ b st. receives.discarded (source peer.end) (sink s.end) (current c ns false) nr ks
      (kinds d.frames) b other rejects refl st) (flow_after s (k ∷ ks) n d none_pending) in
      subst (λ (t : StepState). Draws c peer.end (Status nr ∷ ks) n t)
      (sym (as_received ns false s now false None
      (received_while_rejecting Whole ns false w d.idle other rejects)))
      (record {
        frames = d.frames;
        so = (unanswered_puts c s now false).line ∙ d.so;
        preserved = (unanswered_puts c s now false).dropped ∙ d.preserved;
        flow =
            subst
            (λ b. Flow t.end peer.end (with_pending b w.vr (kinds d.frames)) (Status nr ∷ ks) n)
            (sym none_pending) flow;
        idle = d.idle;
        ready = d.ready;
      })

  pub draws_ns : (ns : ℕ) (p : Bool) (nr : ℕ) (ks : List Kind) (n : ℕ) (s : StepState)
      → s.end.window.ack_pending ≡ false → HoldsMid c (Numbered (current c ns p) nr ∷ ks) s
      → Draws c peer.end (Numbered (current c ns p) nr ∷ ks) n s
      → Draws c peer.end (Status nr ∷ ks) n (i_frame_ns Whole ns p s)
  draws_ns ns p nr ks n s none_pending m d =
      by_case s.end.window.rejecting refl (same_or_not ns s.end.window.vr)
    where
      by_case : (rejecting : Bool) → s.end.window.rejecting ≡ rejecting
          → (ns ≡ s.end.window.vr) ⊎ (ns ≡ s.end.window.vr → ⊥)
          → Draws c peer.end (Status nr ∷ ks) n (i_frame_ns Whole ns p s)
      by_case rejecting r (inl is) = draws_taken ns p nr ks n s none_pending is m d
      by_case true r (inr other) = draws_discarded ns p nr ks n s other r m none_pending d
      by_case false r (inr other) = draws_rejected ns p nr ks n s other r m none_pending d

  pub draws_response : (nr : ℕ) (ks : List Kind) (n : ℕ) (s : StepState)
      → s.end.window.ack_pending ≡ false → HoldsMid c (Enquiry nr ∷ ks) s
      → Draws c peer.end (Enquiry nr ∷ ks) n s
      → Draws c peer.end (Status nr ∷ ks) n (enquiry_response s)
  unfolding enquiry_response without_ack_pending
  draws_response nr ks n s none_pending m d =
      let w = s.end.window in
      let t = enquiry_response s in
      let by_8 = polled_by_8 (Enquiry nr) ks refl opened m in
      let none : tally final_of (kinds d.frames) ≡ 0 =
      subst (λ l. tally final_of (kinds l) ≡ 0) d.so by_8.1 in
      replied s t (Enquiry nr) (Final w.vr) (status_frame true w) nr ks n d refl d.idle
      (ready_status w d.idle) (final_kind w) (response_puts c s)
      (flow_replied s.end t.end peer.end (Enquiry nr) (Final w.vr) nr ks (kinds d.frames) n
      refl refl refl refl refl refl
      (λ b st. receives.answered (source peer.end) (sink s.end) (sink t.end) (Enquiry nr) nr w.vr ks
      (kinds d.frames) b by_8.0 none (omega arith) st)
      (flow_after s (Enquiry nr ∷ ks) n d none_pending))
