-- The frames of an end in state 7 or 8 at the end of any step: its unsent messages, as far as the
-- window allows, or the pending acknowledgement.
use Rattle.std.proofs.Common.{◌≡◌, ◌⊎◌, inl, inr, not, ℕ, zero, suc, ◌+◌, ◌-◌, ◌≤◌, ◌&&◌, nat_lt, Bool, true, false, List, [], ◌∷◌, ◌++◌, length, append_assoc, append-nil, refl, sym, ap, subst, ◌∙◌, arith}
use Rattle.std.proofs.lemmas.Bool.Decides.{nat_tests}
use Rattle.lapd_frame.specs.declared.Role.TheVariants.{Answer}
use Rattle.lapd_frame.specs.declared.Control.TheVariants.{Rr}
use Rattle.lapd_mod128.specs.Counting.{Whole, after, steps}
use Rattle.lapd_supervision.specs.StateVariables.{may_send, after_sending, without_ack_pending}
use Rattle.lapd_link_definition.specs.declared.state.State.{State}
use Rattle.lapd_link_definition.specs.declared.state.State.TheVariants.{MultipleFrameEstablished}
use Rattle.lapd_link_definition.specs.EndOfStep.{is_7_or_8, is_established, may_send_next, send_next, send_all, acknowledge_pending, end_step}
use Rattle.lapd_link_definition.specs.End.{End, StepState, unsent}
use Rattle.lapd_link_definition.specs.Procedures.{transmit_rr, transmit_i_frame, ensure_t200}
use Rattle.lapd_link_definition.proofs.Sending.{both_true, below}
use Rattle.lapd_link_definition.proofs.Soundness.{established_is}
use Rattle.lapd_pair_laws.specs.Line.{Flight, without_info}
use Rattle.lapd_pair_laws.specs.Kinds.{kind, kinds, messages, rejections, tally, answer_of}
use Rattle.lapd_pair_laws.proofs.ActionEffects.{Context, story}
use Rattle.lapd_pair_laws.proofs.Flow.{IsWhole}
use Rattle.lapd_pair_laws.proofs.Lists.{by_test, tally_append}
use Rattle.lapd_pair_laws.proofs.WorkOfActions.{AreReady}
use Rattle.lapd_pair_laws.proofs.States.{next_sent, next_puts, ensure_puts, rr_puts}
use Rattle.lapd_recovery_laws.proofs.Proceeding.{weight_of, weigh, whole_joined, none_rejected}

-- the values of an end that neither sending nor acknowledging changes
pub record Unsending : Type 0 where
  pub state : State
  pub vr : ℕ
  pub rejecting : Bool
  pub own_busy : Bool
  pub given : List (List ℕ)
  pub first : ℕ

abbrev pub unsending : End → Unsending
unsending e = record {
  state = e.state;
  vr = e.window.vr;
  rejecting = e.window.rejecting;
  own_busy = e.window.own_busy;
  given = e.given;
  first = e.first;
}

abbrev pub pending_in : Bool → ℕ
pending_in true = 1
pending_in false = 0

abbrev pub pending : End → ℕ
pending e = pending_in e.window.ack_pending

pub kinds_append : (fs gs : List Flight) → kinds (fs ++ gs) ≡ kinds fs ++ kinds gs
kinds_append [] gs = refl
kinds_append (f ∷ fs) gs = ap (λ ks. kind f ∷ ks) (kinds_append fs gs)

-- no message is dropped, and RC stays
pub record IsCalm (c : Context) (s t : StepState) : Type 0 where
  pub rc : t.end.rc ≡ s.end.rc
  pub dropped : (story c t).history.dropped ≡ (story c s).history.dropped

pub then_calm : {c : Context} {s t u : StepState} → IsCalm c s t → IsCalm c t u → IsCalm c s u
then_calm a b = record { rc = b.rc ∙ a.rc; dropped = b.dropped ∙ a.dropped }

-- these frames are sent: messages from V(S) on, and no REJ, UA or DM
pub record Closes (c : Context) (s t : StepState) : Type 0 where
  pub frames : List Flight
  pub line : (story c t).line ≡ (story c s).line ++ frames
  pub whole : IsWhole s.end.window.vs t.end.window.vs (messages (kinds frames))
  pub rejects_none : rejections (kinds frames) ≡ []
  pub no_answer : tally answer_of (kinds frames) ≡ 0
  pub sent : ℕ
  pub fewer : unsent t.end + sent ≡ unsent s.end
  pub only_7 : (sent ≡ 0) ⊎ (s.end.state ≡ MultipleFrameEstablished)
  pub count : t.end.window.vs ≡ s.end.window.vs + sent
  pub light : weigh (kinds frames) + pending t.end ≤ sent + pending s.end
  pub same : unsending t.end ≡ unsending s.end
  pub calm : IsCalm c s t
  pub ready : AreReady frames
  pub timed : t.end.t200 ≡ true → (s.end.t200 ≡ true) ⊎ (1 ≤ sent)

pub ready_append : (fs gs : List Flight) → AreReady fs → AreReady gs → AreReady (fs ++ gs)
ready_append [] gs one other = other
ready_append (f ∷ fs) gs one other = (one.0, ready_append fs gs one.1 other)

closes_none : (c : Context) (s : StepState) → Closes c s s
closes_none c s = record {
  frames = [];
  line = sym (append-nil (story c s).line);
  whole = refl;
  rejects_none = refl;
  no_answer = refl;
  sent = 0;
  fewer = omega arith;
  only_7 = inl refl;
  count = omega arith;
  light = omega arith;
  same = refl;
  calm = record { rc = refl; dropped = refl };
  ready = tt;
  timed = λ on. inl on;
}

then_closes : {c : Context} {s t u : StepState} → Closes c s t → Closes c t u → Closes c s u
then_closes {c = c} {s = s} {t = t} {u = u} a b =
    let both = kinds_append a.frames b.frames in
    record {
      frames = a.frames ++ b.frames;
      line =
          b.line ∙ ap (λ l. l ++ b.frames) a.line ∙ append_assoc (story c s).line a.frames b.frames;
      whole =
          subst (λ ks. IsWhole s.end.window.vs u.end.window.vs (messages ks)) (sym both)
          (whole_joined s.end.window.vs t.end.window.vs u.end.window.vs (kinds a.frames)
          (kinds b.frames) a.whole b.whole);
      rejects_none = ap rejections both ∙ none_rejected (kinds a.frames) (kinds b.frames)
          a.rejects_none b.rejects_none;
      no_answer =
          ap (λ ks. tally answer_of ks) both
          ∙ (let sum = tally_append answer_of (kinds a.frames) (kinds b.frames) in
          let p = a.no_answer in let q = b.no_answer in omega (arith, sum, p, q));
      sent = a.sent + b.sent;
      fewer = let p = a.fewer in let q = b.fewer in omega (arith, p, q);
      only_7 = by_both a.only_7 b.only_7;
      count = let p = a.count in let q = b.count in omega (arith, p, q);
      light =
          let sum =
          ap (λ ks. weigh ks) both ∙ tally_append weight_of (kinds a.frames) (kinds b.frames) in
          let p = a.light in let q = b.light in omega (arith, sum, p, q);
      same = b.same ∙ a.same;
      calm = then_calm a.calm b.calm;
      ready = ready_append a.frames b.frames a.ready b.ready;
      timed = λ on. by_second (b.timed on);
    }
  where
    by_first : (s.end.t200 ≡ true) ⊎ (1 ≤ a.sent)
        → (s.end.t200 ≡ true) ⊎ (1 ≤ a.sent + b.sent)
    by_first (inl on) = inl on
    by_first (inr some) = inr (omega (arith, some))

    by_second : (t.end.t200 ≡ true) ⊎ (1 ≤ b.sent)
        → (s.end.t200 ≡ true) ⊎ (1 ≤ a.sent + b.sent)
    by_second (inl on) = by_first (a.timed on)
    by_second (inr some) = inr (omega (arith, some))

    by_both : (a.sent ≡ 0) ⊎ (s.end.state ≡ MultipleFrameEstablished)
        → (b.sent ≡ 0) ⊎ (t.end.state ≡ MultipleFrameEstablished)
        → (a.sent + b.sent ≡ 0) ⊎ (s.end.state ≡ MultipleFrameEstablished)
    by_both (inr is) q = inr is
    by_both (inl none) (inl nothing) = inl (omega (arith, none, nothing))
    by_both (inl none) (inr is) = inr (sym (ap (λ (v : Unsending). v.state) a.same) ∙ is)

closes_next : (c : Context) (s : StepState) → may_send_next Whole s ≡ true
    → Closes c s (send_next Whole s)
unfolding transmit_i_frame ensure_t200 after_sending after
closes_next c s go =
    let one =
    both_true (is_established s.end.state)
    (may_send Whole s.end.parameters.k s.end.window
    && nat_lt s.end.next (length s.end.given)) go in
    let two =
    both_true (may_send Whole s.end.parameters.k s.end.window)
    (nat_lt s.end.next (length s.end.given)) one.1 in
    let free = below s.end.next (length s.end.given) two.1 in
    record {
      frames = next_sent c s ∷ [];
      line = (ensure_puts c (transmit_i_frame Whole s)).line ∙ (next_puts c s).line;
      whole = (refl, refl);
      rejects_none = refl;
      no_answer = refl;
      sent = 1;
      fewer = omega (arith, free);
      only_7 = inr (established_is s.end.state one.0);
      count = omega arith;
      light = omega arith;
      same = refl;
      calm = record {
        rc = refl;
        dropped =
            (ensure_puts c (transmit_i_frame Whole s)).dropped ∙ (next_puts c s).dropped;
      };
      ready = (refl, tt);
      timed = λ on. inr (omega arith);
    }

closes_rr : (c : Context) (s : StepState) → s.end.window.ack_pending ≡ true
    → Closes c s (transmit_rr s)
unfolding transmit_rr without_ack_pending
closes_rr c s on = record {
  frames = without_info Answer (Rr s.end.window.vr false) ∷ [];
  line = (rr_puts c s).line;
  whole = refl;
  rejects_none = refl;
  no_answer = refl;
  sent = 0;
  fewer = omega arith;
  only_7 = inl refl;
  count = omega arith;
  light = let one : pending s.end ≡ 1 = ap pending_in on in omega (arith, one);
  same = refl;
  calm = record { rc = refl; dropped = (rr_puts c s).dropped };
  ready = (refl, tt);
  timed = λ on. inl on;
}

closes_all : (c : Context) (n : ℕ) (s : StepState) → Closes c s (send_all Whole n s)
unfolding send_all
closes_all c zero s = closes_none c s
closes_all c (suc n) s =
    by_test (λ (t : StepState). Closes c s t) (may_send_next Whole s) _ _
    (λ go. then_closes (closes_next c s go) (closes_all c n (send_next Whole s)))
    (λ _. closes_none c s)

pub end_closes : (c : Context) (s : StepState) → Closes c s (end_step Whole s)
unfolding end_step acknowledge_pending
end_closes c s =
    let all = send_all Whole (unsent s.end) s in
    let done = closes_all c (unsent s.end) s in
    by_test (λ (t : StepState). Closes c s t)
    (is_7_or_8 all.end.state && all.end.window.ack_pending) _ _
    (λ both. then_closes done (closes_rr c all
    (both_true (is_7_or_8 all.end.state) all.end.window.ack_pending both).1))
    (λ _. done)

-- ---- All is sent, or the window is full, if the peer is not busy.

abbrev pub Full : StepState → StepState → Type 0
Full s t = (unsent t.end ≡ 0) ⊎ (s.end.parameters.k ≤ t.end.window.vs - s.end.window.va)

either_stops : (a b c d : Bool) → a ≡ true → b ≡ true → (a && ((b && c) && d)) ≡ false
    → (c ≡ false) ⊎ (d ≡ false)
either_stops true true true true established free stop = cc
either_stops true true true false established free stop = inr refl
either_stops true true false d established free stop = inl refl
either_stops true false c d established free stop = cc
either_stops false b c d established free stop = cc

window_full : (a b : ℕ) → nat_lt a b ≡ false → b ≤ a
window_full a b stop = grind (arith, nat_tests, stop)

pub stops_full : (s : StepState) → s.end.state ≡ MultipleFrameEstablished
    → s.end.window.peer_busy ≡ false → may_send_next Whole s ≡ false → Full s s
unfolding may_send steps
stops_full s is free stop =
    by_either (either_stops (is_established s.end.state) (not s.end.window.peer_busy)
    (nat_lt (s.end.window.vs - s.end.window.va) s.end.parameters.k)
    (nat_lt s.end.next (length s.end.given)) (ap is_established is) (ap not free) stop)
  where
    by_either : (nat_lt (s.end.window.vs - s.end.window.va) s.end.parameters.k ≡ false)
        ⊎ (nat_lt s.end.next (length s.end.given) ≡ false) → Full s s
    by_either (inl full) =
        inr (window_full (s.end.window.vs - s.end.window.va) s.end.parameters.k full)
    by_either (inr all) =
        let le = window_full s.end.next (length s.end.given) all in inl (omega (arith, le))

all_full : (n : ℕ) (s : StepState) → unsent s.end ≤ n → s.end.state ≡ MultipleFrameEstablished
    → s.end.window.peer_busy ≡ false → Full s (send_all Whole n s)
unfolding send_all transmit_i_frame ensure_t200 after_sending
all_full zero s few is free = inl (omega (arith, few))
all_full (suc n) s few is free = by_test (λ (t : StepState). Full s t) (may_send_next Whole s) _ _
    (λ go. let one =
    both_true _ _ go in let two =
    both_true _ _ one.1 in let some =
    below s.end.next (length s.end.given) two.1 in all_full n
    (send_next Whole s) (omega (arith, few, some)) is free)
    (λ stop. stops_full s is free stop)

pub end_full : (s : StepState) → s.end.state ≡ MultipleFrameEstablished
    → s.end.window.peer_busy ≡ false → Full s (end_step Whole s)
unfolding end_step acknowledge_pending transmit_rr without_ack_pending
end_full s is free =
    let all = send_all Whole (unsent s.end) s in
    let done = all_full (unsent s.end) s (omega arith) is free in
    by_test (λ (t : StepState). Full s t) (is_7_or_8 all.end.state && all.end.window.ack_pending) _
    _ (λ _. done) (λ _. done)
