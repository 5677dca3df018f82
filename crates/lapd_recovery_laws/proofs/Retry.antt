-- T200 expires in state 8 while the line is empty: the end polls again.
use Rattle.std.proofs.Common.{◌≡◌, ℕ, ◌+◌, ◌≤◌, nat_lt, true, false, [], ◌∷◌, ◌++◌, Result, refl, sym, ap, subst, ◌∙◌, arith}
use Rattle.lapd_timers.specs.declared.timer.Timer.TheVariants.{T200}
use Rattle.lapd_frame.specs.declared.Side.TheVariants as side
use Rattle.lapd_frame.specs.declared.Role.TheVariants.{Command}
use Rattle.lapd_mod128.specs.Counting.{Whole}
use Rattle.lapd_supervision.specs.StateVariables.{status_frame, without_ack_pending}
use Rattle.lapd_link_definition.specs.declared.state.State.{State}
use Rattle.lapd_link_definition.specs.declared.state.State.TheVariants.{TimerRecovery}
use Rattle.lapd_link_definition.specs.EndOfStep.{end_step}
use Rattle.lapd_link_definition.specs.End.{End, StepState, begin}
use Rattle.lapd_link_definition.specs.Input.{Expiry}
use Rattle.lapd_link_definition.specs.Procedures.{increment_rc, expired, transmit_enquiry}
use Rattle.lapd_link_definition.specs.Table.{by_state, row, step}
use Rattle.lapd_link_definition.specs.TimerRecovery.{timer_recovery, timer_recovery_t200}
use Rattle.lapd_pair_laws.specs.Line.{without_info}
use Rattle.lapd_pair_laws.specs.Move.{Expire200, Station, View, ViewStep, Refusal, acts, takes, story_after, expires_200}
use Rattle.lapd_pair_laws.specs.Kinds.{Enquiry}
use Rattle.lapd_pair_laws.proofs.ActionEffects.{Context, story, enquiry_kind}
use Rattle.lapd_pair_laws.proofs.Lists.{by_test}
use Rattle.lapd_pair_laws.proofs.Steps.{context}
use Rattle.lapd_pair_laws.proofs.Worlds.{left_by}
use Rattle.lapd_pair_laws.proofs.Flow.{source, sink, Polling, burden, Stream, Flow}
use Rattle.lapd_pair_laws.proofs.StreamReceipts as receives
use Rattle.lapd_pair_laws.proofs.WorkOfActions.{Draws}
use Rattle.lapd_pair_laws.proofs.WorkOfClosing.{draws_close, ready_enquiry}
use Rattle.lapd_pair_laws.proofs.Drains.{Seen, mine_open, after_step}
use Rattle.lapd_pair_laws.proofs.SettledEnds.{closed_step}
use Rattle.lapd_pair_laws.proofs.States.{enquiry_puts}

-- the remaining work after a poll is that of the peer's stream, and of the poll
pub record Retries (x y : End) (n : ℕ) : Type 0 where
  pub in_8 : x.state ≡ TimerRecovery
  pub tries : nat_lt x.rc x.parameters.n200 ≡ true
  pub idle : x.window.own_busy ≡ false
  pub b : ℕ
  pub its : Stream (source y) (sink x) [] [] b
  pub most : 1 + burden 1 (source x) (sink y) + b ≤ n

draws_retry : (c : Context) (peer : End) (n : ℕ) (s : StepState) → Retries s.end peer n
    → (story c s).line ≡ [] → (story c s).history.dropped ≡ c.view.station.history.dropped
    → Draws c peer [] n (timer_recovery_t200 s)
unfolding timer_recovery_t200 story_after increment_rc expired transmit_enquiry without_ack_pending
draws_retry c peer n s r none preserved =
    by_test (λ (t : StepState). Draws c peer [] n t) (nat_lt s.end.rc s.end.parameters.n200) _ _
    (λ _.
    let u = without_info Command (status_frame true s.end.window) in
    let before = expired T200 (increment_rc s) in
    let z = (transmit_enquiry before).end in
    let flow : Flow z peer (Enquiry s.end.window.vr ∷ []) [] n = record {
      a = burden 1 (source s.end) (sink peer);
      b = r.b;
      mine = record { stage = Polling; so = (r.in_8, refl); most = omega arith };
      its =
          receives.sends_more (source peer) (sink s.end) [] [] (Enquiry s.end.window.vr ∷ []) r.b
          refl (λ j among. absurd among) refl r.its;
      most = let le = r.most in omega (arith, le);
    } in
    record {
      frames = u ∷ [];
      so = (enquiry_puts c before).line ∙ ap (λ l. l ++ u ∷ []) none;
      preserved = (enquiry_puts c before).dropped ∙ preserved;
      flow = subst (λ k. Flow z peer (k ∷ []) [] n) (sym (enquiry_kind s.end.window)) flow;
      idle = r.idle;
      ready = (ready_enquiry s.end.window r.idle, tt);
    })
    (λ no. let yes = r.tries in cc)

module _ (station peer : Station) (n : ℕ) where
  abbrev v : View
  v = record { station = station; incoming = []; outgoing = [] }

  -- no place is read
  abbrev c : Context
  c = context 0 [] 0 v [] peer 0

  abbrev e : End
  e = station.end

  abbrev done : StepState
  done = end_step Whole (row Whole e.state (Expiry T200) (begin e))

  by_8 : (state : State) → state ≡ TimerRecovery
      → Draws c peer.end [] n (timer_recovery_t200 (begin e))
      → Draws c peer.end [] n (by_state Whole state (Expiry T200) (begin e))
  unfolding by_state timer_recovery
  by_8 TimerRecovery is d = d
  by_8 state is d = cc

  draws_row : e.t200 ≡ true → Retries e peer.end n → Draws c peer.end [] n done
  unfolding row begin story_after
  draws_row on r =
      draws_close c peer.end [] n _ (by_test (λ (t : StepState). Draws c peer.end [] n t) e.t200 _ _
      (λ _. by_8 e.state r.in_8 (draws_retry c peer.end n (begin e) r refl refl)) (λ off. cc))

  pub seen_retried : e.t200 ≡ true → peer.end.window.own_busy ≡ false → Retries e peer.end n
      → Seen n (left_by v (acts Whole side.User Expire200 v)) peer
  unfolding acts expires_200 takes step
  seen_retried on its_idle r =
      let d = draws_row on r in
      by_test (λ (o : Result ViewStep Refusal). Seen n (left_by v o) peer) e.t200 _ _
      (λ _. after_step [] 0 n
      v peer [] 0 0 done (closed_step (Expiry T200) e done refl) (mine_open d.flow) its_idle
      tt d) (λ off. cc)
