-- The steps by which an end in state 7 or 8 finds its peer in state 4, and brings it up.
use Rattle.std.proofs.Common.{◌≡◌, ℕ, ◌+◌, ◌&&◌, nat_lt, Bool, true, false, List, [], ◌∷◌, ◌++◌, length, append-nil, Result, refl, sym, ap, subst, ◌∙◌, arith}
use Rattle.std.proofs.lemmas.Bool.Decides.{nat_tests}
use Rattle.lapd_timers.specs.declared.timer.Timer.TheVariants.{T200, T203}
use Rattle.lapd_frame.specs.declared.Side.TheVariants as side
use Rattle.lapd_frame.specs.declared.Role.TheVariants.{Command, Answer}
use Rattle.lapd_frame.specs.declared.Control.{Control}
use Rattle.lapd_frame.specs.declared.Control.TheVariants.{I, Rr, Rnr, Rej, Sabme, Ua}
use Rattle.lapd_mod128.specs.Counting.{Whole, before}
use Rattle.lapd_supervision.specs.StateVariables.{StateVariables, status_frame, without_ack_pending, without_exceptions, with_zero_counters, last_i_frame}
use Rattle.lapd_link_definition.specs.declared.out.Letter.TheVariants as letter
use Rattle.lapd_link_definition.specs.declared.out.Out.TheVariants.{Send, Start, Stop, Report, Established}
use Rattle.lapd_link_definition.specs.declared.state.State.TheVariants.{TeiAssigned, AwaitingEstablishment, MultipleFrameEstablished, TimerRecovery}
use Rattle.lapd_link_definition.specs.EndOfStep.{is_7_or_8, is_established, end_step, acknowledge_pending, may_send_next}
use Rattle.lapd_link_definition.specs.End.{End, StepState, begin, unsent, waiting}
use Rattle.lapd_link_definition.specs.Established.{established_t200, sends_last}
use Rattle.lapd_link_definition.specs.Input.{Heard, Expiry}
use Rattle.lapd_link_definition.specs.Procedures.{out_where, state_to, rc_to, increment_rc, expired, transmit_enquiry, retransmit_last_i_frame}
use Rattle.lapd_link_definition.specs.Table.{row, step}
use Rattle.lapd_link_definition.proofs.Sending.{sends_none}
use Rattle.lapd_pair_laws.specs.Line.{Flight, without_info}
use Rattle.lapd_pair_laws.specs.Move.{Expire200, Expire203, Station, View, ViewStep, Refusal, acts, takes, expires_200, expires_203, view_after, story_after}
use Rattle.lapd_pair_laws.specs.Kinds.{kind, poll_of}
use Rattle.lapd_pair_laws.proofs.ActionEffects.{Context, story, enquiry_kind}
use Rattle.lapd_pair_laws.proofs.ClosedActions.{closes_nothing}
use Rattle.lapd_pair_laws.proofs.Lists.{by_test}
use Rattle.lapd_pair_laws.proofs.Steps.{context}
use Rattle.lapd_pair_laws.proofs.States.{enquiry_puts, last_sent, last_puts}
use Rattle.lapd_pair_laws.proofs.Worlds.{left_by}
use Rattle.lapd_pair_laws.proofs.WorkOfActions.{is_ready}
use Rattle.lapd_recovery_laws.proofs.Replies.{ready_status}
use Rattle.lapd_recovery_laws.proofs.OneMoreFrame.{seeing}
use Rattle.lapd_recovery_laws.proofs.ClosedSteps.{Yields}
use Rattle.lapd_link_definition.proofs.ComputedStep.{each_change, each_row}

-- ---- Frames that an end in state 4 ignores.

abbrev pub is_ignored : Control → Bool
is_ignored (I ns nr p) = true
is_ignored (Rr nr pf) = true
is_ignored (Rnr nr pf) = true
is_ignored (Rej nr pf) = true
is_ignored control = false

ignored_status : (w : StateVariables) → is_ignored (status_frame true w) ≡ true
unfolding status_frame
ignored_status w =
    by_test (λ control. is_ignored control ≡ true) w.own_busy _ _ (λ _. refl) (λ _. refl)

pub no_frame : (e : End) (octets : List ℕ) (place : ℕ) (v : View)
    → (story_after octets place v (begin e)).line ≡ v.outgoing ++ []
unfolding story_after begin
no_frame e octets place v = sym (append-nil v.outgoing)

pub same_end : (e : End) → (begin e).end ≡ e
unfolding begin
same_end e = refl

-- ---- A poll that nobody answers.

-- in state 8, with this RC, and with one ignored frame in transit
pub record HasPolled (before : End) (rc : ℕ) (e : End) : Type 0 where
  pub in_8 : e.state ≡ TimerRecovery
  pub rc_is : e.rc ≡ rc
  pub parameters : e.parameters ≡ before.parameters
  pub unsent_is : unsent e ≡ unsent before
  pub waiting_is : waiting e ≡ waiting before
  pub window : e.window ≡ without_ack_pending before.window

pub and_off : (a b : Bool) → b ≡ false → (a && b) ≡ true → ⊥
and_off true b off on = cc
and_off false b off on = cc

-- the end of a step in state 8 with no pending acknowledgement
pub closes_in_8 : (s : StepState) → s.end.state ≡ TimerRecovery → s.end.window.ack_pending ≡ false
    → end_step Whole s ≡ s
unfolding end_step acknowledge_pending
closes_in_8 s is none =
    let nothing : may_send_next Whole s ≡ false = rw is refl in
    ap (λ t. acknowledge_pending t) (sends_none Whole (unsent s.end) s nothing)
    ∙ by_test (λ (t : StepState). t ≡ s) (is_7_or_8 s.end.state && s.end.window.ack_pending) _ _
    (λ both. absurd (and_off (is_7_or_8 s.end.state) s.end.window.ack_pending none both))
    (λ _. refl)

-- a step on an empty line, by its last state
pub record Polls (x : Station) (rc : ℕ) (v : View) : Type 0 where
  pub polled : HasPolled x.end rc v.station.end
  pub frame : Flight
  pub ignored : is_ignored frame.control ≡ true
  pub ready : x.end.window.own_busy ≡ false → is_ready frame.control ≡ true
  pub polls : poll_of (kind frame) ≡ 1
  pub outgoing : v.outgoing ≡ frame ∷ []
  pub incoming : v.incoming ≡ []
  pub none_dropped : v.station.history.dropped ≡ x.history.dropped

module _ (x : Station) where
  abbrev v : View
  v = seeing x [] []

  abbrev c : Context
  c = context 0 [] 0 v [] x 0

  record PollsBy (rc : ℕ) (s : StepState) : Type 0 where
    polled : HasPolled x.end rc s.end
    frame : Flight
    ignored : is_ignored frame.control ≡ true
    ready : x.end.window.own_busy ≡ false → is_ready frame.control ≡ true
    polls : poll_of (kind frame) ≡ 1
    line : (story c s).line ≡ frame ∷ []
    none_dropped : (story c s).history.dropped ≡ x.history.dropped

  polls_view : (rc : ℕ) (s : StepState) → PollsBy rc s → Polls x rc (view_after [] 0 v s)
  unfolding view_after
  polls_view rc s p = record {
    polled = p.polled;
    frame = p.frame;
    ignored = p.ignored;
    ready = p.ready;
    polls = p.polls;
    outgoing = p.line;
    incoming = refl;
    none_dropped = p.none_dropped;
  }

  enquires : (s : StepState) (rc : ℕ) → s.end.parameters ≡ x.end.parameters
      → unsent s.end ≡ unsent x.end → waiting s.end ≡ waiting x.end → s.end.window ≡ x.end.window
      → s.end.rc ≡ rc → (story c s).line ≡ [] → (story c s).history.dropped ≡ x.history.dropped
      → PollsBy rc (end_step Whole (state_to TimerRecovery (transmit_enquiry s)))
  unfolding each_change story_after
  enquires s rc same_parameters same_unsent same_waiting same_window same_rc none same_dropped =
      let t = state_to TimerRecovery (transmit_enquiry s) in
      let u = without_info Command (status_frame true s.end.window) in
      subst (λ (t : StepState). PollsBy rc t) (sym (closes_in_8 t refl refl)) (record {
        polled = record {
          in_8 = refl;
          rc_is = same_rc;
          parameters = same_parameters;
          unsent_is = same_unsent;
          waiting_is = same_waiting;
          window = ap (λ w. without_ack_pending w) same_window;
        };
        frame = u;
        ignored = ignored_status s.end.window;
        ready =
            λ off. ready_status s.end.window
            (ap (λ (w : StateVariables). w.own_busy) same_window ∙ off);
        polls = ap poll_of (enquiry_kind s.end.window);
        line = (enquiry_puts c s).line ∙ ap (λ l. l ++ u ∷ []) none;
        none_dropped = (enquiry_puts c s).dropped ∙ same_dropped;
      })

  -- T200 expires in state 7
  retransmits : PollsBy 1 (end_step Whole (established_t200 Whole (begin x.end)))
  unfolding each_change established_t200 story_after last_i_frame before
  retransmits =
      by_test (λ (t : StepState). PollsBy 1 (end_step Whole t))
      (sends_last x.end.parameters.recovery x.end.window) _ _
      (λ _.
      let s = begin x.end in
      let t = state_to TimerRecovery (rc_to 1 (retransmit_last_i_frame Whole (expired T200 s))) in
      let u = last_sent c (expired T200 s) in
      subst (λ (t : StepState). PollsBy 1 t) (sym (closes_in_8 t refl refl)) (record {
        polled = record {
          in_8 = refl;
          rc_is = refl;
          parameters = refl;
          unsent_is = refl;
          waiting_is = refl;
          window = refl;
        };
        frame = u;
        ignored = refl;
        ready = λ off. refl;
        polls = refl;
        line = (last_puts c (expired T200 s)).line;
        none_dropped = (last_puts c (expired T200 s)).dropped;
      }))
      (λ _.
      let s = begin x.end in
      let t = state_to TimerRecovery (rc_to 1 (transmit_enquiry (expired T200 s))) in
      let u = without_info Command (status_frame true x.end.window) in
      subst (λ (t : StepState). PollsBy 1 t) (sym (closes_in_8 t refl refl)) (record {
        polled = record {
          in_8 = refl;
          rc_is = refl;
          parameters = refl;
          unsent_is = refl;
          waiting_is = refl;
          window = refl;
        };
        frame = u;
        ignored = ignored_status x.end.window;
        ready = ready_status x.end.window;
        polls = ap poll_of (enquiry_kind x.end.window);
        line = (enquiry_puts c (expired T200 s)).line;
        none_dropped = (enquiry_puts c (expired T200 s)).dropped;
      }))

  t200_in_7 : x.end.t200 ≡ true
      → PollsBy 1 (end_step Whole (row Whole MultipleFrameEstablished (Expiry T200) (begin x.end)))
  unfolding each_row begin
  t200_in_7 on =
      by_test (λ (t : StepState). PollsBy 1 (end_step Whole t)) x.end.t200 _ _ (λ _. retransmits)
      (λ off. cc)

  t203_in_7 : x.end.t203 ≡ true
      → PollsBy 0 (end_step Whole (row Whole MultipleFrameEstablished (Expiry T203) (begin x.end)))
  unfolding each_change each_row story_after
  t203_in_7 on =
      by_test (λ (t : StepState). PollsBy 0 (end_step Whole t)) x.end.t203 _ _
      (λ _. enquires (rc_to 0 (expired T203 (begin x.end))) 0 refl refl refl refl refl refl refl)
      (λ off. cc)

  retries_in_8 : x.end.state ≡ TimerRecovery
      → PollsBy (x.end.rc + 1)
      (end_step Whole (transmit_enquiry (expired T200 (increment_rc (begin x.end)))))
  unfolding each_change story_after
  retries_in_8 is =
      let s = expired T200 (increment_rc (begin x.end)) in
      let t = transmit_enquiry s in
      subst (λ (t : StepState). PollsBy (x.end.rc + 1) t) (sym (closes_in_8 t is refl)) (record {
        polled = record {
          in_8 = is;
          rc_is = refl;
          parameters = refl;
          unsent_is = refl;
          waiting_is = refl;
          window = refl;
        };
        frame = without_info Command (status_frame true x.end.window);
        ignored = ignored_status x.end.window;
        ready = ready_status x.end.window;
        polls = ap poll_of (enquiry_kind x.end.window);
        line = (enquiry_puts c s).line;
        none_dropped = (enquiry_puts c s).dropped;
      })

  t200_in_8 : x.end.state ≡ TimerRecovery → x.end.t200 ≡ true
      → nat_lt x.end.rc x.end.parameters.n200 ≡ true
      → PollsBy (x.end.rc + 1)
      (end_step Whole (row Whole TimerRecovery (Expiry T200) (begin x.end)))
  unfolding each_row begin
  t200_in_8 is on tries =
      by_test (λ (t : StepState). PollsBy (x.end.rc + 1) (end_step Whole t)) x.end.t200 _ _
      (λ _. by_test (λ (t : StepState). PollsBy (x.end.rc + 1) (end_step Whole t))
      (nat_lt x.end.rc x.end.parameters.n200) _ _ (λ _. retries_in_8 is) (λ last. cc))
      (λ off. cc)

  by_t200 : (rc : ℕ) → x.end.t200 ≡ true
      → PollsBy rc (end_step Whole (row Whole x.end.state (Expiry T200) (begin x.end)))
      → Polls x rc (left_by v (acts Whole side.User Expire200 v))
  unfolding acts expires_200 takes step
  by_t200 rc on p =
      by_test (λ (o : Result ViewStep Refusal). Polls x rc (left_by v o)) x.end.t200 _ _
      (λ _. polls_view rc _ p) (λ off. cc)

  by_t203 : (rc : ℕ) → x.end.t203 ≡ true
      → PollsBy rc (end_step Whole (row Whole x.end.state (Expiry T203) (begin x.end)))
      → Polls x rc (left_by v (acts Whole side.User Expire203 v))
  unfolding acts expires_203 takes step
  by_t203 rc on p =
      by_test (λ (o : Result ViewStep Refusal). Polls x rc (left_by v o)) x.end.t203 _ _
      (λ _. polls_view rc _ p) (λ off. cc)

  pub polls_by_t200 : x.end.state ≡ MultipleFrameEstablished → x.end.t200 ≡ true
      → Polls x 1 (left_by v (acts Whole side.User Expire200 v))
  polls_by_t200 is on =
      by_t200 1 on (subst
      (λ st. PollsBy 1 (end_step Whole (row Whole st (Expiry T200) (begin x.end)))) (sym is)
      (t200_in_7 on))

  pub polls_by_t203 : x.end.state ≡ MultipleFrameEstablished → x.end.t203 ≡ true
      → Polls x 0 (left_by v (acts Whole side.User Expire203 v))
  polls_by_t203 is on =
      by_t203 0 on (subst
      (λ st. PollsBy 0 (end_step Whole (row Whole st (Expiry T203) (begin x.end)))) (sym is)
      (t203_in_7 on))

  pub polls_again : x.end.state ≡ TimerRecovery → x.end.t200 ≡ true
      → nat_lt x.end.rc x.end.parameters.n200 ≡ true
      → Polls x (x.end.rc + 1) (left_by v (acts Whole side.User Expire200 v))
  polls_again is on tries =
      by_t200 (x.end.rc + 1) on (subst
      (λ st. PollsBy (x.end.rc + 1) (end_step Whole (row Whole st (Expiry T200) (begin x.end))))
      (sym is) (t200_in_8 is on tries))

-- ---- At the last try the end establishes anew.

abbrev pub sabme : Flight
sabme = without_info Command (Sabme true)

abbrev pub asking : End → End
asking e = record e {
  t200 = true;
  t203 = false;
  layer3_initiated = false;
  release_pending = false;
  rc = 0;
  window = without_exceptions e.window;
  state = AwaitingEstablishment;
}

asking_line : (b : Bool) (e : End) (octets : List ℕ) (place : ℕ) (v : View)
    → (story_after octets place v (record {
      end = asking e;
      outs =
          Report letter.I ∷ Send Command (Sabme true) ∷ out_where b (Stop T203)
          ++ Start T200 ∷ [];
    })).line ≡ v.outgoing ++ sabme ∷ []
unfolding story_after
asking_line true e octets place v = refl
asking_line false e octets place v = refl

last_try_yields : (e : End) → e.t200 ≡ true → nat_lt e.rc e.parameters.n200 ≡ false
    → Yields e (end_step Whole (row Whole TimerRecovery (Expiry T200) (begin e))) (asking e)
    (sabme ∷ [])
unfolding each_change each_row
last_try_yields e on last =
    by_test (λ (t : StepState). Yields e (end_step Whole t) (asking e) (sabme ∷ [])) e.t200 _ _
    (λ _. by_test (λ (t : StepState). Yields e (end_step Whole t) (asking e) (sabme ∷ []))
    (nat_lt e.rc e.parameters.n200) _ _
    (λ some. cc)
    (λ _. let s : StepState =
    record {
      end = asking e;
      outs =
          Report letter.I ∷ Send Command (Sabme true) ∷ out_where e.t203 (Stop T203)
          ++ Start T200 ∷ [];
    } in
    subst (λ (t : StepState). Yields e t (asking e) (sabme ∷ [])) (sym (closes_nothing s refl))
    (record { end = refl; line = λ octets place v same. asking_line e.t203 e octets place v })))
    (λ off. cc)

pub last_try_in_8 : (e : End) → e.state ≡ TimerRecovery → e.t200 ≡ true
    → nat_lt e.rc e.parameters.n200 ≡ false
    → Yields e (end_step Whole (row Whole e.state (Expiry T200) (begin e))) (asking e) (sabme ∷ [])
last_try_in_8 e is on last =
    subst
    (λ st. Yields e (end_step Whole (row Whole st (Expiry T200) (begin e))) (asking e) (sabme ∷ []))
    (sym is) (last_try_yields e on last)

-- ---- A SABME in state 4.

-- just established, with nothing to send
pub record IsNew (e : End) : Type 0 where
  pub in_7 : e.state ≡ MultipleFrameEstablished
  pub off : e.t200 ≡ false
  pub vs : e.window.vs ≡ 0
  pub va : e.window.va ≡ 0
  pub vr : e.window.vr ≡ 0
  pub idle : e.window.own_busy ≡ false
  pub free : e.window.peer_busy ≡ false
  pub none : unsent e ≡ 0

abbrev pub ua : Flight
ua = without_info Answer (Ua true)

abbrev pub established : End → End
established e = record e {
  window = with_zero_counters (without_exceptions e.window);
  establishments = e.establishments + 1;
  t203 = true;
  state = MultipleFrameEstablished;
}

pub sends_nothing : (s : StepState) → length s.end.given ≡ s.end.next
    → s.end.window.ack_pending ≡ false → end_step Whole s ≡ s
unfolding end_step acknowledge_pending
sends_nothing s all none =
    ap (λ t. acknowledge_pending t) (sends_none Whole (unsent s.end) s
    (no_more (is_established s.end.state) _ (not_less s.end.next (length s.end.given) all)))
    ∙ by_test (λ (t : StepState). t ≡ s) (is_7_or_8 s.end.state && s.end.window.ack_pending) _ _
    (λ both. absurd (and_off (is_7_or_8 s.end.state) s.end.window.ack_pending none both))
    (λ _. refl)
  where
    not_less : (a b : ℕ) → b ≡ a → nat_lt a b ≡ false
    not_less a b same = grind (arith, nat_tests, same)

    no_more : (a b : Bool) {c : Bool} → c ≡ false → (a && (b && c)) ≡ false
    no_more a b {c = c} none = by_bools a b c none
      where
        by_bools : (a b c : Bool) → c ≡ false → (a && (b && c)) ≡ false
        by_bools true true c none = none
        by_bools true false c none = refl
        by_bools false b c none = refl

sabme_yields : (e : End) → length e.given ≡ e.next
    → Yields e (end_step Whole (row Whole TeiAssigned (Heard (Sabme true) Command) (begin e)))
    (established e) (ua ∷ [])
unfolding each_change each_row story_after
sabme_yields e all =
    let s : StepState =
    record {
      end = established e;
      outs = Send Answer (Ua true) ∷ Established ∷ Start T203 ∷ [];
    } in
    subst (λ (t : StepState). Yields e t (established e) (ua ∷ [])) (sym (sends_nothing s all refl))
    (record { end = refl; line = λ octets place v same. refl })

pub sabme_in_4 : (e : End) → e.state ≡ TeiAssigned → length e.given ≡ e.next
    → Yields e (end_step Whole (row Whole e.state (Heard (Sabme true) Command) (begin e)))
    (established e) (ua ∷ [])
sabme_in_4 e is all =
    subst (λ st. Yields e
    (end_step Whole (row Whole st (Heard (Sabme true) Command) (begin e))) (established e)
    (ua ∷ [])) (sym is) (sabme_yields e all)

pub is_new : (e : End) → e.t200 ≡ false → length e.given ≡ e.next → IsNew (established e)
unfolding without_exceptions with_zero_counters
is_new e off all = record {
  in_7 = refl;
  off = off;
  vs = refl;
  va = refl;
  vr = refl;
  idle = refl;
  free = refl;
  none = omega (arith, all);
}
