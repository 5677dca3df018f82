-- The frames with N(S) or N(R) that arrive in states 7 and 8: what they change, and what answers
-- them.
use Rattle.std.proofs.Common.{◌≡◌, ◌⊎◌, inl, inr, ℕ, ◌+◌, ◌-◌, ◌*◌, ◌<◌, ◌≤◌, not, ◌&&◌, Bool, true, false, List, ◌∷◌, ◌++◌, Some, None, append-nil, refl, sym, ap, subst, ◌∙◌, arith, []}
use Rattle.lapd_frame.specs.declared.Role.TheVariants.{Answer}
use Rattle.lapd_frame.specs.declared.Control.{Control}
use Rattle.lapd_frame.specs.declared.Control.TheVariants.{Rr, Rej}
use Rattle.lapd_mod128.specs.Counting.{Whole, after}
use Rattle.lapd_supervision.specs.StateVariables.{StateVariables, status_frame, poll_response, Receives}
use Rattle.lapd_supervision.proofs.Receiving.{received_while_busy, received_in_sequence, received_out_of_sequence, received_while_rejecting}
use Rattle.lapd_link_definition.specs.declared.state.State.{State}
use Rattle.lapd_link_definition.specs.declared.state.State.TheVariants.{MultipleFrameEstablished, TimerRecovery}
use Rattle.lapd_link_definition.specs.End.{End, StepState, unsent, waiting}
use Rattle.lapd_link_definition.specs.Procedures.{i_frame_ns}
use Rattle.lapd_pair_laws.specs.Line.{Flight, without_info}
use Rattle.lapd_pair_laws.specs.Kinds.{Kind, Numbered, Rejection, Final, kind_of, kinds, message_of, messages, rejection_of, rejections, tally, answer_of, poll_of, final_of}
use Rattle.lapd_link_definition.specs.EndOfStep.{is_7_or_8}
use Rattle.lapd_pair_laws.specs.Parties.{receives, OnReception}
use Rattle.lapd_pair_laws.proofs.ActionEffects.{Context, story, final_kind}
use Rattle.lapd_pair_laws.proofs.Flow.{IsInTransit, fresh}
use Rattle.lapd_pair_laws.proofs.Receives.{current, left, as_received}
use Rattle.lapd_pair_laws.proofs.Sends.{same_or_not}
use Rattle.lapd_pair_laws.proofs.States.{PutsFrame, unanswered_puts, answered_puts}
use Rattle.lapd_pair_laws.proofs.WorkOfActions.{is_ready, AreReady}
use Rattle.lapd_pair_laws.proofs.StreamReceipts.{whole_taken, junk_passed}
use Rattle.lapd_recovery_laws.proofs.EndSends.{pending_in, pending, IsCalm, then_calm}
use Rattle.lapd_recovery_laws.proofs.Proceeding.{weight_of, weigh, plain_of, Arrives}

-- ---- The changes of an action.

-- the values of an end that sending reads
pub record Sending : Type 0 where
  pub state : State
  pub vs : ℕ
  pub next : ℕ
  pub given : List (List ℕ)
  pub own_busy : Bool

abbrev pub sending : End → Sending
sending e = record {
  state = e.state;
  vs = e.window.vs;
  next = e.next;
  given = e.given;
  own_busy = e.window.own_busy;
}

-- the values that receiving reads
pub record Receiving : Type 0 where
  pub vr : ℕ
  pub rejecting : Bool
  pub ack_pending : Bool

abbrev pub receiving : End → Receiving
receiving e =
    record { vr = e.window.vr; rejecting = e.window.rejecting; ack_pending = e.window.ack_pending }

-- messages are acknowledged, timers are started, and no frame is sent
pub record Keeps (c : Context) (s t : StepState) : Type 0 where
  pub line : (story c t).line ≡ (story c s).line
  pub sending_same : sending t.end ≡ sending s.end
  pub receiving_same : receiving t.end ≡ receiving s.end
  pub first : s.end.first ≤ t.end.first
  pub calm : IsCalm c s t

pub then_keeps : {c : Context} {s t u : StepState} → Keeps c s t → Keeps c t u → Keeps c s u
then_keeps a b = record {
  line = b.line ∙ a.line;
  sending_same = b.sending_same ∙ a.sending_same;
  receiving_same = b.receiving_same ∙ a.receiving_same;
  first = let p = a.first in let q = b.first in omega (arith, p, q);
  calm = then_calm a.calm b.calm;
}

-- what the peer accounts for, with this V(S), falls by `relief`
abbrev pub Falls : ℕ → Receiving → Receiving → ℕ → Type 0
Falls vs before now relief =
    2 * (vs - now.vr) + fresh now.rejecting + relief ≤ 2 * (vs - before.vr) + fresh before.rejecting

-- and what it misses
abbrev pub Lacks : ℕ → Receiving → Receiving → ℕ → Type 0
Lacks vs before now relief = (vs - now.vr) + relief ≤ vs - before.vr

-- the frame of kind k is answered: these frames are sent
pub record Replies (c : Context) (k : Kind) (s t : StepState) : Type 0 where
  pub frames : List Flight
  pub line : (story c t).line ≡ (story c s).line ++ frames
  pub silent : messages (kinds frames) ≡ []
  pub no_answer : tally answer_of (kinds frames) ≡ 0
  pub relief : ℕ
  pub light : weigh (kinds frames) + pending t.end + 1 ≤ weight_of k + relief
  pub falls : Falls c.peer.sends.vs (receiving s.end) (receiving t.end) relief
  pub plain : relief ≤ plain_of k
  pub sending_same : sending t.end ≡ sending s.end
  pub first : s.end.first ≤ t.end.first
  pub calm : IsCalm c s t
  pub finals : poll_of k ≤ tally final_of (kinds frames)
  pub no_final : final_of k ≡ 0
  pub ready : s.end.window.own_busy ≡ false → AreReady frames
  pub busy : s.end.window.own_busy ≡ true
      → (rejections (kinds frames) ≡ [])
      × Lacks c.peer.sends.vs (receiving s.end) (receiving t.end) relief
  pub idle : s.end.window.own_busy ≡ false → (end : ℕ) (ks : List Kind)
      → IsInTransit s.end.window.rejecting s.end.window.vr end (messages (k ∷ ks))
      → (rejections (kinds frames) ≡ [])
      × IsInTransit t.end.window.rejecting t.end.window.vr end (messages ks)
      × Lacks c.peer.sends.vs (receiving s.end) (receiving t.end) relief

-- V(S) is set back: what the peer misses from there on is not in transit yet
pub record Backs (c : Context) (k : Kind) (ks : List Kind) (s t : StepState) : Type 0 where
  pub nr : ℕ
  pub line : (story c t).line ≡ (story c s).line
  pub in_7 : t.end.state ≡ MultipleFrameEstablished
  pub vs : t.end.window.vs ≡ nr
  pub next : t.end.next ≡ t.end.first
  pub given : t.end.given ≡ s.end.given
  pub own_busy : t.end.window.own_busy ≡ s.end.window.own_busy
  pub receiving_same : receiving t.end ≡ receiving s.end
  pub first : s.end.first ≤ t.end.first
  pub calm : IsCalm c s t
  pub resent : unsent t.end ≤ unsent s.end + (s.end.window.vs - nr)
  pub awaited : is_7_or_8 c.peer.state ≡ true → c.peer.takes.vr ≡ nr
  pub outstanding : s.end.window.vs - nr ≤ waiting s.end - unsent s.end
  pub va : t.end.window.va ≡ nr
  pub in_window : s.end.window.vs - nr ≤ t.end.parameters.k
  pub free : s.end.state ≡ MultipleFrameEstablished → t.end.window.peer_busy ≡ false
  pub stopped : s.end.state ≡ MultipleFrameEstablished → t.end.t200 ≡ false
  pub no_message : message_of k ≡ []
  pub light : weight_of k ≡ 1
  pub no_poll : poll_of k ≡ 0
  pub wanted : rejections ks ≡ []
  pub unwanted : s.end.state ≡ MultipleFrameEstablished → rejections (k ∷ ks) ≡ [] → ⊥
  pub final : s.end.state ≡ TimerRecovery → final_of k ≡ 1
  pub arrives : OnReception (Arrives nr) (receives c.peer (kinds (story c s).line))

abbrev pub Turns : Context → Kind → List Kind → StepState → StepState → Type 0
Turns c k ks s t = Replies c k s t ⊎ Backs c k ks s t

-- ---- Building them.

pub keeps_replies : {c : Context} {k : Kind} {s t u : StepState} → Keeps c s t → Replies c k t u
    → Replies c k s u
keeps_replies {c = c} {k = k} {u = u} a r = record {
  frames = r.frames;
  line = r.line ∙ ap (λ l. l ++ r.frames) a.line;
  silent = r.silent;
  no_answer = r.no_answer;
  relief = r.relief;
  light = r.light;
  falls =
      subst (λ (v : Receiving). Falls c.peer.sends.vs v (receiving u.end) r.relief) a.receiving_same
      r.falls;
  plain = r.plain;
  sending_same = r.sending_same ∙ a.sending_same;
  first = let p = a.first in let q = r.first in omega (arith, p, q);
  calm = then_calm a.calm r.calm;
  finals = r.finals;
  no_final = r.no_final;
  ready = λ off. r.ready (ap (λ (v : Sending). v.own_busy) a.sending_same ∙ off);
  busy =
      λ is. let both =
      r.busy (ap (λ (v : Sending). v.own_busy) a.sending_same ∙ is) in (
        both.0,
        subst (λ (v : Receiving). Lacks c.peer.sends.vs v (receiving u.end) r.relief)
            a.receiving_same both.1,
      );
  idle = λ is end ks there.
      let all =
      r.idle (ap (λ (v : Sending). v.own_busy) a.sending_same ∙ is) end ks
      (subst (λ (v : Receiving). IsInTransit v.rejecting v.vr end (messages (k ∷ ks)))
      (sym a.receiving_same) there) in (
        all.0,
        all.1,
        subst (λ (v : Receiving). Lacks c.peer.sends.vs v (receiving u.end) r.relief)
            a.receiving_same all.2,
      );
}

pub replies_keep : {c : Context} {k : Kind} {s t u : StepState} → Replies c k s t → Keeps c t u
    → Replies c k s u
replies_keep {c = c} {k = k} {s = s} r a = record {
  frames = r.frames;
  line = a.line ∙ r.line;
  silent = r.silent;
  no_answer = r.no_answer;
  relief = r.relief;
  light =
      subst (λ (v : Receiving). weigh (kinds r.frames) + pending_in v.ack_pending + 1 ≤ weight_of k
      + r.relief) (sym a.receiving_same) r.light;
  falls =
      subst (λ (v : Receiving). Falls c.peer.sends.vs (receiving s.end) v r.relief)
      (sym a.receiving_same) r.falls;
  plain = r.plain;
  sending_same = a.sending_same ∙ r.sending_same;
  first = let p = a.first in let q = r.first in omega (arith, p, q);
  calm = then_calm r.calm a.calm;
  finals = r.finals;
  no_final = r.no_final;
  ready = r.ready;
  busy =
      λ is. let both =
      r.busy is in (
        both.0,
        subst (λ (v : Receiving). Lacks c.peer.sends.vs (receiving s.end) v r.relief)
            (sym a.receiving_same) both.1,
      );
  idle = λ is end ks there.
      let all = r.idle is end ks there in (
        all.0,
        subst (λ (v : Receiving). IsInTransit v.rejecting v.vr end (messages ks))
            (sym a.receiving_same) all.1,
        subst (λ (v : Receiving). Lacks c.peer.sends.vs (receiving s.end) v r.relief)
            (sym a.receiving_same) all.2,
      );
}

-- a frame without message is not answered
pub passes : {c : Context} {s t : StepState} (k : Kind) → message_of k ≡ [] → poll_of k ≡ 0
    → final_of k ≡ 0 → s.end.window.ack_pending ≡ false → 1 ≤ weight_of k → Keeps c s t
    → Replies c k s t
passes {c = c} {s = s} {t = t} k none no_poll no_final no_ack some a = record {
  frames = [];
  line = a.line ∙ sym (append-nil (story c s).line);
  silent = refl;
  no_answer = refl;
  relief = 0;
  light =
      let same : pending t.end ≡ 0 =
      ap (λ (v : Receiving). pending_in v.ack_pending) a.receiving_same
      ∙ ap pending_in no_ack in
      omega (arith, same, some);
  falls =
      subst (λ (v : Receiving). Falls c.peer.sends.vs (receiving s.end) v 0) (sym a.receiving_same)
      (omega arith);
  plain = omega arith;
  sending_same = a.sending_same;
  first = a.first;
  calm = a.calm;
  finals = omega (arith, no_poll);
  no_final = no_final;
  ready = λ off. tt;
  busy =
      λ is. (
        refl,
        subst (λ (v : Receiving). Lacks c.peer.sends.vs (receiving s.end) v 0)
            (sym a.receiving_same) (omega arith),
      );
  idle = λ is end ks there. (
    refl,
    subst (λ (v : Receiving). IsInTransit v.rejecting v.vr end (messages ks)) (sym a.receiving_same)
        (subst (λ l. IsInTransit s.end.window.rejecting s.end.window.vr end (l ++ messages ks)) none
        there),
    subst (λ (v : Receiving). Lacks c.peer.sends.vs (receiving s.end) v 0) (sym a.receiving_same)
        (omega arith),
  );
}

-- an end that is not own receiver busy sends no RNR
pub ready_status : (w : StateVariables) → w.own_busy ≡ false → is_ready (status_frame true w) ≡ true
unfolding status_frame
ready_status w off = rw off refl

-- one frame answers
pub answers_by : (c : Context) (k : Kind) (s t : StepState) (u : Control) (q : Kind)
    → kind_of Answer u [] 0 ≡ q → message_of q ≡ [] → answer_of q ≡ 0 → weight_of q ≡ 1
    → (s.end.window.own_busy ≡ false → is_ready u ≡ true) → poll_of k ≤ final_of q → final_of k ≡ 0 → t.end.rc ≡ s.end.rc → (relief : ℕ)
    → weight_of k + relief ≡ 2 → Falls c.peer.sends.vs (receiving s.end) (receiving t.end) relief
    → relief ≤ plain_of k
    → PutsFrame c (without_info Answer u) s t → t.end.window.ack_pending ≡ false
    → sending t.end ≡ sending s.end → s.end.first ≤ t.end.first
    → (s.end.window.own_busy ≡ true
    → (rejection_of q ≡ [])
    × Lacks c.peer.sends.vs (receiving s.end) (receiving t.end) relief)
    → (s.end.window.own_busy ≡ false → (end : ℕ) (ks : List Kind)
    → IsInTransit s.end.window.rejecting s.end.window.vr end
    (messages (k ∷ ks))
    → (rejection_of q ≡ []) × IsInTransit t.end.window.rejecting t.end.window.vr end
    (messages ks) × Lacks c.peer.sends.vs (receiving s.end) (receiving t.end) relief)
    → Replies c k s t
answers_by c k s t u q is no_message no_answer one ready polls no_final rc relief two falls plain puts
    no_ack same first busy idle =
    let all : kinds (without_info Answer u ∷ []) ≡ q ∷ [] = ap (λ k. k ∷ []) is in
    record {
      frames = without_info Answer u ∷ [];
      line = puts.line;
      silent = ap messages all ∙ ap (λ l. l ++ []) no_message;
      no_answer =
          ap (λ ks. tally answer_of ks) all
          ∙ (let none : answer_of q + 0 ≡ 0 = omega (arith, no_answer) in none);
      light =
          let w : weigh (kinds (without_info Answer u ∷ [])) ≡ weight_of q + 0 =
          ap (λ ks. weigh ks) all in
          let p : pending t.end ≡ 0 = ap pending_in no_ack in omega (arith, w, one, two, p);
      relief = relief;
      falls = falls;
      plain = plain;
      sending_same = same;
      first = first;
      calm = record { rc = rc; dropped = puts.dropped };
      finals =
          let f : tally final_of (kinds (without_info Answer u ∷ [])) ≡ final_of q + 0 =
          ap (λ ks. tally final_of ks) all in
          omega (arith, f, polls);
      no_final = no_final;
      ready = λ off. (ready off, tt);
      busy = λ is. let both = busy is in (ap rejections all ∙ ap (λ l. l ++ []) both.0, both.1);
      idle =
          λ is end ks there. let three =
          idle is end ks there in (ap rejections all ∙ ap (λ l. l ++ []) three.0, three.1, three.2);
    }

-- ---- N(S).

module _ (c : Context) (ns nr : ℕ) (s : StepState)
    (none_pending : s.end.window.ack_pending ≡ false) where
  abbrev w : StateVariables
  w = s.end.window

  abbrev k : Bool → Kind
  k p = Numbered (current c ns p) nr

  impossible : {A : Type 0} (b : Bool) → b ≡ true → b ≡ false → A
  impossible true on off = cc
  impossible false on off = cc

  abbrev pvs : ℕ
  pvs = c.peer.sends.vs

  abbrev was : Receiving
  was = receiving s.end

  abbrev becomes : StateVariables → Receiving
  becomes now = record { vr = now.vr; rejecting = now.rejecting; ack_pending = now.ack_pending }

  -- the answer is this one, and the variables are these
  answered : (p accepted : Bool) (now : StateVariables) (u : Control) (q : Kind)
      → Receives Whole ns p w now accepted (Some u) → kind_of Answer u [] 0 ≡ q → message_of q ≡ []
      → answer_of q ≡ 0 → weight_of q ≡ 1 → (w.own_busy ≡ false → is_ready u ≡ true)
      → poll_of (k p) ≤ final_of q → (relief : ℕ) → weight_of (k p) + relief ≡ 2 → Falls pvs was (becomes now) relief
      → relief ≤ plain_of (k p)
      → now.ack_pending ≡ false → now.vs ≡ w.vs → now.own_busy ≡ w.own_busy
      → (w.own_busy ≡ true → (rejection_of q ≡ []) × Lacks pvs was (becomes now) relief)
      → (w.own_busy ≡ false → (end : ℕ) (ks : List Kind) → IsInTransit w.rejecting w.vr end
      (messages (k p ∷ ks)) → (rejection_of q ≡ []) × IsInTransit now.rejecting now.vr end
      (messages ks) × Lacks pvs was (becomes now) relief)
      → Replies c (k p) s (i_frame_ns Whole ns p s)
  answered p accepted now u q r is no_message no_answer one ready polls relief two falls plain no_ack
      same_vs same_busy busy idle =
      subst (λ (t : StepState). Replies c (k p) s t)
      (sym (as_received ns p s now accepted (Some u) r))
      (answers_by c (k p) s (left s now accepted (Some u)) u q is no_message no_answer one ready
      polls refl refl relief two falls plain (answered_puts c s now accepted u) no_ack
      (both same_vs same_busy) (omega arith) busy idle)
    where
      both : now.vs ≡ w.vs → now.own_busy ≡ w.own_busy
          → sending (record (s.end) { window = now }) ≡ sending s.end
      both a b =
          ap (λ v. record (sending s.end) { vs = v; own_busy = now.own_busy }) a
          ∙ ap (λ o. record (sending s.end) { own_busy = o }) b

  unanswered : (p accepted : Bool) (now : StateVariables) → Receives Whole ns p w now accepted None
      → poll_of (k p) ≡ 0 → (relief : ℕ) → pending_in now.ack_pending + 1 ≤ weight_of (k p) + relief
      → Falls pvs was (becomes now) relief → relief ≤ plain_of (k p)
      → Lacks pvs was (becomes now) relief → now.vs ≡ w.vs → now.own_busy ≡ w.own_busy
      → (w.own_busy ≡ false → (end : ℕ) (ks : List Kind) → IsInTransit w.rejecting w.vr end
      (messages (k p ∷ ks)) → IsInTransit now.rejecting now.vr end (messages ks))
      → Replies c (k p) s (i_frame_ns Whole ns p s)
  unanswered p accepted now r no_poll relief few falls plain lacks same_vs same_busy idle =
      subst (λ (t : StepState). Replies c (k p) s t) (sym (as_received ns p s now accepted None r))
      (record {
        frames = [];
        line = (unanswered_puts c s now accepted).line ∙ sym (append-nil (story c s).line);
        silent = refl;
        no_answer = refl;
        relief = relief;
        light = omega (arith, few);
        falls = falls;
        plain = plain;
        sending_same = both same_vs same_busy;
        first = omega arith;
        calm = record { rc = refl; dropped = (unanswered_puts c s now accepted).dropped };
        finals = omega (arith, no_poll);
        no_final = refl;
        ready = λ off. tt;
        busy = λ is. (refl, lacks);
        idle = λ is end ks there. (refl, idle is end ks there, lacks);
      })
    where
      both : now.vs ≡ w.vs → now.own_busy ≡ w.own_busy
          → sending (record (s.end) { window = now }) ≡ sending s.end
      both a b =
          ap (λ v. record (sending s.end) { vs = v; own_busy = now.own_busy }) a
          ∙ ap (λ o. record (sending s.end) { own_busy = o }) b

  -- the fresh part is at most one
  accepted_falls : (rejecting : Bool) (relief : ℕ) → relief ≤ 1 → w.vr < pvs
      → 2 * (pvs - (w.vr + 1)) + 1 + relief ≤ 2 * (pvs - w.vr) + fresh rejecting
  accepted_falls true relief le below = omega (arith, le, below)
  accepted_falls false relief le below = omega (arith, le, below)

  taken : (p : Bool) → w.own_busy ≡ false → ns ≡ w.vr → w.vr < pvs
      → Replies c (k p) s (i_frame_ns Whole ns p s)
  unfolding after
  taken true free is below =
      answered true true (record w { vr = w.vr + 1; rejecting = false; ack_pending = false })
      (Rr (w.vr + 1) true) (Final (w.vr + 1)) (received_in_sequence Whole ns true w free is) refl
      refl refl refl (λ off. refl) (omega arith)
      0 refl (accepted_falls w.rejecting 0 (omega arith) below) (omega arith) refl refl refl
      (λ on. (refl, omega (arith, below)))
      (λ off end
      ks there. (
        refl,
        whole_taken w.rejecting w.vr end
            (current c ns true) (messages ks) is there,
        omega (arith, below),
      ))
  taken false free is below =
      unanswered false true (record w { vr = w.vr + 1; rejecting = false; ack_pending = true })
      (received_in_sequence Whole ns false w free is) refl
      1 (omega arith) (accepted_falls w.rejecting 1 (omega arith) below) (omega arith)
      (omega (arith, below)) refl refl
      (λ off end ks there. whole_taken w.rejecting w.vr end
      (current c ns false) (messages ks) is there)

  rejected_falls : (rejecting : Bool) (relief : ℕ) → rejecting ≡ false → relief ≤ 1
      → 2 * (pvs - w.vr) + 0 + relief ≤ 2 * (pvs - w.vr) + fresh rejecting
  rejected_falls true relief off le = cc
  rejected_falls false relief off le = omega (arith, le)

  rejected_row : (p : Bool) → w.own_busy ≡ false → (ns ≡ w.vr → ⊥) → w.rejecting ≡ false
      → Replies c (k p) s (i_frame_ns Whole ns p s)
  rejected_row true free other not_yet =
      answered true false (record w { rejecting = true; ack_pending = false }) (Rej w.vr true)
      (Final w.vr) (received_out_of_sequence Whole ns true w free other not_yet) refl refl refl refl
      (λ off. refl) (omega arith)
      0 refl (rejected_falls w.rejecting 0 not_yet (omega arith)) (omega arith) refl refl refl
      (λ on. impossible w.own_busy on free)
      (λ off end ks there. let first : IsInTransit false w.vr end
      (messages (k true ∷ ks)) =
      subst (λ b. IsInTransit b w.vr end (messages (k true ∷ ks))) not_yet there in absurd
      (other first.0))
  rejected_row false free other not_yet =
      answered false false (record w { rejecting = true; ack_pending = false }) (Rej w.vr false)
      (Rejection w.vr) (received_out_of_sequence Whole ns false w free other not_yet) refl refl refl
      refl (λ off. refl) (omega arith)
      1 refl (rejected_falls w.rejecting 1 not_yet (omega arith)) (omega arith) refl refl refl
      (λ on. impossible w.own_busy on free)
      (λ off end ks there. let first : IsInTransit false w.vr end
      (messages (k false ∷ ks)) =
      subst (λ b. IsInTransit b w.vr end (messages (k false ∷ ks))) not_yet there in absurd
      (other first.0))

  discarded : (p : Bool)
      → Receives Whole ns p w (record w { ack_pending = not p && w.ack_pending }) false
      (poll_response p w)
      → (w.own_busy ≡ false → (end : ℕ) (ks : List Kind) → IsInTransit w.rejecting w.vr end
      (messages (k p ∷ ks)) → IsInTransit w.rejecting w.vr end (messages ks))
      → Replies c (k p) s (i_frame_ns Whole ns p s)
  unfolding poll_response
  discarded true r idle =
      answered true false (record w { ack_pending = false }) (status_frame true w) (Final w.vr) r
      (final_kind w) refl refl refl (ready_status w) (omega arith)
      0 refl (omega arith) (omega arith) refl refl refl (λ on. (refl, omega arith))
      (λ off end ks there. (refl, idle off end ks there, omega arith))
  discarded false r idle = unanswered false false (record w { ack_pending = w.ack_pending }) r refl
      0 (let none : pending_in w.ack_pending ≡ 0 = ap pending_in none_pending in
      omega (arith, none)) (omega arith) (omega arith) (omega arith) refl refl idle

  pub replies_ns : (p : Bool) → (ns ≡ w.vr → w.vr < pvs)
      → Replies c (k p) s (i_frame_ns Whole ns p s)
  replies_ns p below = by_case w.own_busy w.rejecting refl refl (same_or_not ns w.vr)
    where
      by_case : (busy rejecting : Bool) → w.own_busy ≡ busy → w.rejecting ≡ rejecting
          → (ns ≡ w.vr) ⊎ (ns ≡ w.vr → ⊥) → Replies c (k p) s (i_frame_ns Whole ns p s)
      by_case true rejecting busy r at =
          discarded p (received_while_busy Whole ns p w busy) (λ off. impossible w.own_busy busy
          off)
      by_case false rejecting free r (inl is) = taken p free is (below is)
      by_case false true free r (inr other) =
          discarded p (received_while_rejecting Whole ns p w free other r)
          (λ off end
          ks there. subst (λ b. IsInTransit b w.vr end (messages ks)) (sym r)
          (junk_passed w.vr end
          (current c ns p) (messages ks) other
          (subst (λ b. IsInTransit b w.vr end (messages (k p ∷ ks))) r there)))
      by_case false false free r (inr other) = rejected_row p free other r
