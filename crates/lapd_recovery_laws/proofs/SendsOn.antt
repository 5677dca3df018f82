-- The frames of an end at the end of a step in which it establishes: its waiting messages, as far as
-- the window allows.
use Rattle.std.proofs.Common.{◌≡◌, ◌⊎◌, inl, inr, ℕ, zero, suc, ◌+◌, ◌-◌, ◌≤◌, ◌==◌, ◌&&◌, nat_lt, if◌then◌else◌, Bool, true, false, List, [], ◌∷◌, ◌++◌, length, append_assoc, append-nil, refl, sym, ap, subst, ◌∙◌, arith}
use Rattle.lapd_timers.specs.declared.timer.Timer.TheVariants.{T200, T203}
use Rattle.lapd_frame.specs.declared.Side.TheVariants as side
use Rattle.lapd_frame.specs.declared.Role.TheVariants.{Command, Answer}
use Rattle.lapd_frame.specs.declared.Control.TheVariants.{Sabme, Ua}
use Rattle.lapd_mod128.specs.Counting.{Whole, after}
use Rattle.lapd_supervision.specs.StateVariables.{may_send, after_sending, without_exceptions, with_zero_counters}
use Rattle.lapd_link_definition.specs.declared.out.Letter.TheVariants as letter
use Rattle.lapd_link_definition.specs.declared.out.Out.TheVariants.{Send, Start, Stop, Report, Dropped, Confirmed, Established}
use Rattle.lapd_link_definition.specs.declared.state.State.{State}
use Rattle.lapd_link_definition.specs.declared.state.State.TheVariants.{AwaitingEstablishment, MultipleFrameEstablished, TimerRecovery}
use Rattle.lapd_link_definition.specs.AwaitingEstablishment.{confirm_or_indicate, ua_final, awaiting_establishment}
use Rattle.lapd_link_definition.specs.EndOfStep.{is_7_or_8, is_established, may_send_next, send_next, send_all, acknowledge_pending, end_step}
use Rattle.lapd_link_definition.specs.End.{End, StepState, ◌▷◌, begin, unsent, waiting}
use Rattle.lapd_link_definition.specs.Established.{in_7_and_8, multiple_frame_established}
use Rattle.lapd_link_definition.specs.Input.{Heard}
use Rattle.lapd_link_definition.specs.Procedures.{out_where, put, state_to, start, stop, clear_exception_conditions, zero_state_variables, discard_unacknowledged, transmit_i_frame, ensure_t200, counted}
use Rattle.lapd_link_definition.specs.Table.{by_state, row, step}
use Rattle.lapd_link_definition.specs.TimerRecovery.{timer_recovery}
use Rattle.lapd_link_definition.proofs.Sending.{both_true, below}
use Rattle.lapd_pair_laws.specs.Histories.{Occasion, Story, after_outputs}
use Rattle.lapd_pair_laws.specs.Line.{Flight}
use Rattle.lapd_pair_laws.specs.Move.{Deliver, Station, View, acts, receives, delivers, view_after, story_after}
use Rattle.lapd_pair_laws.specs.Kinds.{kinds, messages, rejections, tally, poll_of, final_of}
use Rattle.lapd_pair_laws.proofs.ActionEffects.{Context, story}
use Rattle.lapd_pair_laws.proofs.WorkOfActions.{AreReady}
use Rattle.lapd_pair_laws.proofs.Flow.{IsWhole}
use Rattle.lapd_pair_laws.proofs.Lists.{by_test}
use Rattle.lapd_pair_laws.proofs.Steps.{context}
use Rattle.lapd_pair_laws.proofs.States.{next_sent, next_puts, ensure_puts}
use Rattle.lapd_pair_laws.proofs.Worlds.{left_by}
use Rattle.lapd_recovery_laws.proofs.OneMoreFrame.{seeing}
use Rattle.lapd_recovery_laws.proofs.LoneSteps.{is_ignored, sabme, ua, and_off}

-- ---- Messages of the last establishment are dropped, if any is outstanding.

abbrev pub discards_by : Bool → StepState → StepState
discards_by none s = record {
  end = record (s.end) {
    first = if none then s.end.first else length s.end.given;
    next = if none then s.end.next else length s.end.given;
  };
  outs = s.outs ++ (if none then [] else counted (waiting s.end) Dropped ++ Established ∷ []);
}

pub by_outstanding : (P : StepState → Type 0) (s : StepState) → P (discards_by true s)
    → P (discards_by false s) → P (discard_unacknowledged s)
unfolding discard_unacknowledged
by_outstanding P s same other = cases (s.end.window.vs == s.end.window.va)
  where
    cases : (test : Bool) → P (discards_by test s)
    cases true = same
    cases false = other

abbrev pub AreIgnored : List Flight → Type 0
AreIgnored [] = Unit {0}
AreIgnored (f ∷ fs) = (is_ignored f.control ≡ true) × AreIgnored fs

-- messages alone: all numbers from `low` on below `end`, none with P=1
pub record AreMessages (low end : ℕ) (frames : List Flight) : Type 0 where
  pub ignored : AreIgnored frames
  pub ready : AreReady frames
  pub whole : IsWhole low end (messages (kinds frames))
  pub polls : tally poll_of (kinds frames) ≡ 0
  pub finals : tally final_of (kinds frames) ≡ 0
  pub rejections_none : rejections (kinds frames) ≡ []

-- the end but for what sending changes
pub record IsSameBut (before e : End) : Type 0 where
  pub parameters : e.parameters ≡ before.parameters
  pub state : e.state ≡ before.state
  pub rc : e.rc ≡ before.rc
  pub va : e.window.va ≡ before.window.va
  pub vr : e.window.vr ≡ before.window.vr
  pub rejecting : e.window.rejecting ≡ before.window.rejecting
  pub idle : e.window.own_busy ≡ before.window.own_busy
  pub free : e.window.peer_busy ≡ before.window.peer_busy
  pub leaving : e.release_pending ≡ before.release_pending
  pub asked : e.layer3_initiated ≡ before.layer3_initiated

pub record SendsOn (c : Context) (s t : StepState) : Type 0 where
  pub frames : List Flight
  pub line : (story c t).line ≡ (story c s).line ++ frames
  pub messages_are : AreMessages s.end.window.vs t.end.window.vs frames
  pub count : t.end.window.vs ≡ s.end.window.vs + length frames
  pub fewer : unsent t.end + length frames ≡ unsent s.end
  pub same : IsSameBut s.end t.end
  pub none_pending : t.end.window.ack_pending ≡ false
  pub on : length frames ≡ 0 ⊎ (t.end.t200 ≡ true)
  pub off : length frames ≡ 0 → t.end.t200 ≡ s.end.t200

same_but : (e : End) → IsSameBut e e
same_but e = record {
  parameters = refl;
  state = refl;
  rc = refl;
  va = refl;
  vr = refl;
  rejecting = refl;
  idle = refl;
  free = refl;
  leaving = refl;
  asked = refl;
}

nothing_sent : (c : Context) (s : StepState) → s.end.window.ack_pending ≡ false → SendsOn c s s
nothing_sent c s none = record {
  frames = [];
  line = sym (append-nil (story c s).line);
  messages_are = record {
    ignored = tt;
    ready = tt;
    whole = refl;
    polls = refl;
    finals = refl;
    rejections_none = refl;
  };
  count = omega arith;
  fewer = omega arith;
  same = same_but s.end;
  none_pending = none;
  on = inl refl;
  off = λ _. refl;
}

one_sent : (c : Context) (s t : StepState) → may_send_next Whole s ≡ true
    → SendsOn c (send_next Whole s) t → SendsOn c s t
unfolding transmit_i_frame ensure_t200 after_sending after
one_sent c s t go rest =
    let one =
    both_true (is_established s.end.state)
    (may_send Whole s.end.parameters.k s.end.window
    && nat_lt s.end.next (length s.end.given)) go in
    let two =
    both_true (may_send Whole s.end.parameters.k s.end.window)
    (nat_lt s.end.next (length s.end.given)) one.1 in
    let free = below s.end.next (length s.end.given) two.1 in
    let f = next_sent c s in
    let m = rest.messages_are in
    let r = rest.same in
    record {
      frames = f ∷ rest.frames;
      line =
          rest.line
          ∙ ap (λ l. l ++ rest.frames)
          ((ensure_puts c (transmit_i_frame Whole s)).line ∙ (next_puts c s).line)
          ∙ append_assoc (story c s).line (f ∷ []) rest.frames;
      messages_are = record {
        ignored = (refl, m.ignored);
        ready = (refl, m.ready);
        whole = (refl, m.whole);
        polls = let p = m.polls in omega (arith, p);
        finals = let p = m.finals in omega (arith, p);
        rejections_none = m.rejections_none;
      };
      count = let n = rest.count in omega (arith, n);
      fewer = let n = rest.fewer in omega (arith, n, free);
      same = record {
        parameters = r.parameters;
        state = r.state;
        rc = r.rc;
        va = r.va;
        vr = r.vr;
        rejecting = r.rejecting;
        idle = r.idle;
        free = r.free;
        leaving = r.leaving;
        asked = r.asked;
      };
      none_pending = rest.none_pending;
      on = inr (by_on rest.on);
      off = λ none. absurd (omega (arith, none));
    }
  where
    by_on : length rest.frames ≡ 0 ⊎ (t.end.t200 ≡ true) → t.end.t200 ≡ true
    by_on (inl none) = rest.off none
    by_on (inr on) = on

sends_all : (c : Context) (n : ℕ) (s : StepState) → s.end.window.ack_pending ≡ false
    → SendsOn c s (send_all Whole n s)
unfolding send_all transmit_i_frame ensure_t200 after_sending
sends_all c zero s none = nothing_sent c s none
sends_all c (suc n) s none =
    by_test (λ (t : StepState). SendsOn c s t) (may_send_next Whole s) _ _
    (λ go. one_sent c s (send_all Whole n (send_next Whole s)) go
    (sends_all c n (send_next Whole s) refl)) (λ _. nothing_sent c s none)

pub sends_on : (c : Context) (s : StepState) → s.end.window.ack_pending ≡ false
    → SendsOn c s (end_step Whole s)
unfolding end_step acknowledge_pending
sends_on c s none =
    let all = send_all Whole (unsent s.end) s in
    let done = sends_all c (unsent s.end) s none in
    by_test (λ (t : StepState). SendsOn c s t)
    (is_7_or_8 all.end.state && all.end.window.ack_pending) _ _
    (λ both. absurd
    (and_off (is_7_or_8 all.end.state) all.end.window.ack_pending done.none_pending both))
    (λ _. done)

-- ---- A SABME in states 7 and 8.

-- just established: `frames` are its messages so far
pub record IsUpWith (frames : List Flight) (e : End) : Type 0 where
  pub in_7 : e.state ≡ MultipleFrameEstablished
  pub va : e.window.va ≡ 0
  pub vr : e.window.vr ≡ 0
  pub idle : e.window.own_busy ≡ false
  pub free : e.window.peer_busy ≡ false
  pub messages_are : AreMessages 0 e.window.vs frames
  pub count : e.window.vs ≡ length frames
  pub on : length frames ≡ 0 ⊎ (e.t200 ≡ true)
  pub off : length frames ≡ 0 → e.t200 ≡ false

-- the outputs but for the messages, of each case
answered_line : (test c b : Bool) (n : ℕ) (o : Occasion) (t : Story)
    → (after_outputs o (((Send Answer (Ua true) ∷ Report letter.F ∷ [])
    ++ (if test then [] else out_where c (Dropped n) ++ Established ∷ []))
    ++ out_where b (Stop T200) ++ Start T203 ∷ []) t).line ≡ t.line ++ ua ∷ []
answered_line true c true n o t = refl
answered_line true c false n o t = refl
answered_line false true true n o t = refl
answered_line false true false n o t = refl
answered_line false false true n o t = refl
answered_line false false false n o t = refl

-- a view after the end of a step in which the end establishes
pub record Opens (n : ℕ) (sent rest : List Flight) (v : View) : Type 0 where
  pub frames : List Flight
  pub up : IsUpWith frames v.station.end
  pub outgoing : v.outgoing ≡ sent ++ frames
  pub incoming : v.incoming ≡ rest
  pub fewer : unsent v.station.end + length frames ≤ n

module _ (x : Station) (frame : Flight) (rest outgoing : List Flight) where
  abbrev v : View
  v = seeing x (frame ∷ rest) outgoing

  abbrev c : Context
  c = context 0 frame.info frame.place v rest x 0

  -- the step before the messages are sent
  record IsOpening (n : ℕ) (sent : List Flight) (z : StepState) : Type 0 where
    in_7 : z.end.state ≡ MultipleFrameEstablished
    off : z.end.t200 ≡ false
    vs : z.end.window.vs ≡ 0
    va : z.end.window.va ≡ 0
    vr : z.end.window.vr ≡ 0
    idle : z.end.window.own_busy ≡ false
    free : z.end.window.peer_busy ≡ false
    none_pending : z.end.window.ack_pending ≡ false
    line : (story c z).line ≡ sent
    fewer : unsent z.end ≤ n

  opens : (n : ℕ) (sent : List Flight) (z : StepState) → IsOpening n sent z
      → Opens n sent rest
      (view_after frame.info frame.place (record v { incoming = rest }) (end_step Whole z))
  unfolding view_after
  opens n sent z o =
      let s = sends_on c z o.none_pending in
      let r = s.same in
      record {
        frames = s.frames;
        up = record {
          in_7 = r.state ∙ o.in_7;
          va = r.va ∙ o.va;
          vr = r.vr ∙ o.vr;
          idle = r.idle ∙ o.idle;
          free = r.free ∙ o.free;
          messages_are =
              subst (λ low. AreMessages low (end_step Whole z).end.window.vs s.frames) o.vs
              s.messages_are;
          count = let count = s.count in let vs = o.vs in omega (arith, count, vs);
          on = s.on;
          off = λ none. s.off none ∙ o.off;
        };
        outgoing = s.line ∙ ap (λ l. l ++ s.frames) o.line;
        incoming = refl;
        fewer = let few = s.fewer in let le = o.fewer in omega (arith, few, le);
      }

  abbrev After : (n : ℕ) → List Flight → StepState → Type 0
  After n sent t =
      Opens n sent rest (view_after frame.info frame.place (record v { incoming = rest }) t)

-- the SABME of the peer
module _ (x : Station) (frame : Flight) (rest outgoing : List Flight) where
  abbrev e : End
  e = x.end

  abbrev Then : StepState → Type 0
  Then t = After x frame rest outgoing (unsent e) (outgoing ++ ua ∷ []) (end_step Whole t)

  abbrev reset : StepState → StepState
  reset d = d ▷ stop T200 ▷ start T203 ▷ zero_state_variables ▷ state_to MultipleFrameEstablished

  abbrev answered : StepState
  answered =
      begin e ▷ put (Send Answer (Ua true)) ▷ clear_exception_conditions ▷ put (Report letter.F)

  few : (test : Bool)
      → length e.given - (if test then e.next else length e.given) ≤ length e.given - e.next
  few true = omega arith
  few false = omega arith

  answers : (test : Bool) → Then (reset (discards_by test answered))
  unfolding put clear_exception_conditions stop start zero_state_variables state_to begin
      without_exceptions with_zero_counters story_after
  answers test =
      opens x frame rest outgoing (unsent e) (outgoing ++ ua ∷ [])
      (reset (discards_by test answered)) (record {
        in_7 = refl;
        off = refl;
        vs = refl;
        va = refl;
        vr = refl;
        idle = refl;
        free = refl;
        none_pending = refl;
        line = answered_line test (nat_lt 0 (waiting e)) e.t200 (waiting e) _ _;
        fewer = few test;
      })

  by_row : Then (in_7_and_8 (Heard (Sabme true) Command) (begin e))
  unfolding in_7_and_8
  by_row =
      by_outstanding (λ (d : StepState). Then (reset d)) answered (answers true) (answers false)

  by_state_7_8 : (state : State) → is_7_or_8 state ≡ true
      → Then (row Whole state (Heard (Sabme true) Command) (begin e))
  unfolding row by_state multiple_frame_established timer_recovery
  by_state_7_8 MultipleFrameEstablished opened = by_row
  by_state_7_8 TimerRecovery opened = by_row
  by_state_7_8 state opened = cc

  pub sabme_opens : frame.control ≡ Sabme true → frame.role ≡ Command → is_7_or_8 e.state ≡ true
      → Opens (unsent e) (outgoing ++ ua ∷ []) rest
      (left_by (seeing x (frame ∷ rest) outgoing)
      (acts Whole side.User Deliver (seeing x (frame ∷ rest) outgoing)))
  unfolding acts delivers receives step
  sabme_opens is by opened =
      subst (λ control. Then (row Whole e.state (Heard control frame.role) (begin e))) (sym is)
      (subst (λ role. Then (row Whole e.state (Heard (Sabme true) role) (begin e))) (sym by)
      (by_state_7_8 e.state opened))

pub sabme_in_7_8 : (x : Station) (rest outgoing : List Flight) → is_7_or_8 x.end.state ≡ true
    → Opens (unsent x.end) (outgoing ++ ua ∷ []) rest
    (left_by (seeing x (sabme ∷ rest) outgoing)
    (acts Whole side.User Deliver (seeing x (sabme ∷ rest) outgoing)))
sabme_in_7_8 x rest outgoing opened = sabme_opens x sabme rest outgoing refl refl opened

-- ---- The UA in state 5.

-- no release is pending, and conditions are cleared
pub record IsCleared (e : End) : Type 0 where
  pub in_5 : e.state ≡ AwaitingEstablishment
  pub stays : e.release_pending ≡ false
  pub idle : e.window.own_busy ≡ false
  pub free : e.window.peer_busy ≡ false
  pub none_pending : e.window.ack_pending ≡ false

confirmed_line : (b : Bool) (o : Occasion) (t : Story)
    → (after_outputs o ((Confirmed ∷ []) ++ out_where b (Stop T200) ++ Start T203 ∷ []) t).line
    ≡ t.line
confirmed_line true o t = refl
confirmed_line false o t = refl

pub indicated_line : (test c b : Bool) (n : ℕ) (o : Occasion) (t : Story)
    → (after_outputs o
    ((if test then [] else out_where c (Dropped n) ++ Established ∷ [])
    ++ out_where b (Stop T200) ++ Start T203 ∷ []) t).line ≡ t.line
indicated_line true c true n o t = refl
indicated_line true c false n o t = refl
indicated_line false true true n o t = refl
indicated_line false true false n o t = refl
indicated_line false false true n o t = refl
indicated_line false false false n o t = refl

-- the messages that it will send: none if one is outstanding
abbrev pub sendable_in : Bool → ℕ → ℕ
sendable_in true u = u
sendable_in false u = 0

abbrev pub sendable : End → ℕ
sendable e = sendable_in (e.window.vs == e.window.va) (unsent e)

pub sendable_few : (same : Bool) (u : ℕ) → sendable_in same u ≤ u
sendable_few true u = omega arith
sendable_few false u = omega arith

pub by_each : (P : StepState → Type 0) (s : StepState)
    → ((test : Bool) → (s.end.window.vs == s.end.window.va) ≡ test → P (discards_by test s))
    → P (discard_unacknowledged s)
unfolding discard_unacknowledged
by_each P s each = each (s.end.window.vs == s.end.window.va) refl

module _ (x : Station) (asks : IsCleared x.end)
    (empty : x.end.layer3_initiated ≡ true → unsent x.end ≡ 0) (frame : Flight)
    (rest outgoing : List Flight) where
  abbrev d : End
  d = x.end

  abbrev Arrives : StepState → Type 0
  Arrives t = After x frame rest outgoing (sendable d) outgoing (end_step Whole t)

  abbrev opening : StepState → StepState
  opening s = s ▷ zero_state_variables ▷ stop T200 ▷ start T203 ▷ state_to MultipleFrameEstablished

  few_left : (test : Bool) → (d.window.vs == d.window.va) ≡ test
      → length d.given - (if test then d.next else length d.given) ≤ sendable d
  few_left true same =
      let all : sendable d ≡ unsent d = ap (λ b. sendable_in b (unsent d)) same in
      omega (arith, all)
  few_left false same = omega arith

  confirms : d.layer3_initiated ≡ true → Arrives (opening (put Confirmed (begin d)))
  unfolding put zero_state_variables stop start state_to with_zero_counters begin story_after
  confirms asked =
      opens x frame rest outgoing (sendable d) outgoing (opening (put Confirmed (begin d))) (record {
        in_7 = refl;
        off = refl;
        vs = refl;
        va = refl;
        vr = refl;
        idle = asks.idle;
        free = asks.free;
        none_pending = asks.none_pending;
        line = confirmed_line d.t200 _ _;
        fewer = let none = empty asked in omega (arith, none);
      })

  indicates : (test : Bool) → (d.window.vs == d.window.va) ≡ test
      → Arrives (opening (discards_by test (begin d)))
  unfolding zero_state_variables stop start state_to with_zero_counters begin story_after
  indicates test same =
      opens x frame rest outgoing (sendable d) outgoing (opening (discards_by test (begin d)))
      (record {
        in_7 = refl;
        off = refl;
        vs = refl;
        va = refl;
        vr = refl;
        idle = asks.idle;
        free = asks.free;
        none_pending = asks.none_pending;
        line = indicated_line test (nat_lt 0 (waiting d)) d.t200 (waiting d) _ _;
        fewer = few_left test same;
      })

  arrives : Arrives (row Whole AwaitingEstablishment (Heard (Ua true) Answer) (begin d))
  unfolding row by_state awaiting_establishment ua_final confirm_or_indicate begin
  arrives = by_test Arrives d.release_pending _ _ (λ leaving. let stays = asks.stays in cc)
      (λ _. by_test (λ (s : StepState). Arrives (opening s)) d.layer3_initiated _ _
      (λ asked. confirms asked)
      (λ _. by_each (λ (s : StepState). Arrives (opening s)) (begin d) indicates))

  pub opens_by_ua : frame.control ≡ Ua true → frame.role ≡ Answer
      → Opens (sendable d) outgoing rest
      (left_by (seeing x (frame ∷ rest) outgoing)
      (acts Whole side.User Deliver (seeing x (frame ∷ rest) outgoing)))
  unfolding acts delivers receives step
  opens_by_ua is by =
      subst (λ control. Arrives (row Whole d.state (Heard control frame.role) (begin d))) (sym is)
      (subst (λ role. Arrives (row Whole d.state (Heard (Ua true) role) (begin d))) (sym by)
      (subst (λ st. Arrives (row Whole st (Heard (Ua true) Answer) (begin d))) (sym asks.in_5)
      arrives))

pub ua_opens : (x : Station) → IsCleared x.end
    → (x.end.layer3_initiated ≡ true → unsent x.end ≡ 0) → (rest outgoing : List Flight)
    → Opens (sendable x.end) outgoing rest
    (left_by (seeing x (ua ∷ rest) outgoing)
    (acts Whole side.User Deliver (seeing x (ua ∷ rest) outgoing)))
ua_opens x asks empty rest outgoing = opens_by_ua x asks empty ua rest outgoing refl refl
