-- T200 or T203 of a side expires beside frames in transit: the deliveries that the line needs grow
-- by the messages that wait.
use Rattle.std.proofs.Common.{◌≡◌, ◌⊎◌, inl, inr, ℕ, ◌+◌, ◌-◌, ◌*◌, ◌≤◌, if◌then◌else◌, nat_lt, Bool, true, false, List, [], ◌∷◌, ◌++◌, append_assoc, append-nil, Option, Some, None, Result, Err, is_ok, refl, sym, ap, subst, ◌∙◌, arith, length, length-append}
use Rattle.lapd_timers.specs.declared.timer.Timer.{Timer}
use Rattle.lapd_timers.specs.declared.timer.Timer.TheVariants.{T200, T203}
use Rattle.lapd_frame.specs.declared.Side.{Side}
use Rattle.lapd_frame.specs.declared.Side.TheVariants as side
use Rattle.lapd_frame.specs.declared.Role.{Role}
use Rattle.lapd_frame.specs.declared.Role.TheVariants.{Command, Answer}
use Rattle.lapd_frame.specs.declared.Control.{Control}
use Rattle.lapd_frame.specs.declared.Control.TheVariants.{I, Rr, Rnr, Rej, Sabme, Dm, Disc, Ua}
use Rattle.lapd_mod128.specs.Counting.{Whole}
use Rattle.lapd_supervision.specs.StateVariables.{without_ack_pending}
use Rattle.lapd_link_definition.specs.declared.out.Out.{Out}
use Rattle.lapd_link_definition.specs.declared.out.Out.TheVariants.{Send, SendMessage, SendUnit, Up, UnitUp, Acknowledged, Dropped}
use Rattle.lapd_link_definition.specs.declared.state.State.{State}
use Rattle.lapd_link_definition.specs.declared.state.State.TheVariants.{TeiAssigned, AwaitingEstablishment, AwaitingRelease, MultipleFrameEstablished, TimerRecovery}
use Rattle.lapd_link_definition.specs.EndOfStep.{is_7_or_8, end_step}
use Rattle.lapd_link_definition.specs.End.{End, begin, unsent, waiting}
use Rattle.lapd_link_definition.specs.Input.{Expiry}
use Rattle.lapd_link_definition.specs.RunningTimers.{HasTimersOfState}
use Rattle.lapd_link_definition.specs.Table.{row, step}
use Rattle.lapd_pair_laws.specs.Histories.{History, Occasion, after_outputs, message_frame, unit_frame, with_sending, with_receipt, with_unit, with_acked, with_dropped, with_beginning}
use Rattle.lapd_pair_laws.specs.Invariant.{Both, IsInvariant}
use Rattle.lapd_pair_laws.specs.Kinds.{Kind, Numbered, Enquiry, kind_of, kind, kinds, tally, poll_of, bit, is_acceptance}
use Rattle.lapd_pair_laws.specs.Line.{Flight, without_info, first_poll, first_final}
use Rattle.lapd_pair_laws.specs.Move.{PairEvent, Expire200, Expire203, NotRunning, Station, View, ViewStep, Refusal, acts, takes, expires_200, expires_203, unless_under_way, view_after, story_after}
use Rattle.lapd_pair_laws.specs.Parties.{party}
use Rattle.lapd_pair_laws.specs.World.{World, swapped, view_of, with_view, happens, world_after}
use Rattle.lapd_pair_laws.proofs.Flow.{fresh}
use Rattle.lapd_pair_laws.proofs.Lists.{tally_append}
use Rattle.lapd_pair_laws.proofs.Stepping.{user_move}
use Rattle.lapd_pair_laws.proofs.Swaps.{network_alike}
use Rattle.lapd_pair_laws.proofs.Whole.{each_move_preserves}
use Rattle.lapd_pair_laws.proofs.Worlds.{left_by, exchanged}
use Rattle.lapd_recovery_laws.specs.Deliveries.{frames}
use Rattle.lapd_recovery_laws.specs.EarlyTimers.{is_message, messages_in, if_in_8, overtaken_by}
use Rattle.lapd_recovery_laws.specs.Losses.{one_if}
use Rattle.lapd_recovery_laws.specs.Own.{IsFree}
use Rattle.lapd_recovery_laws.specs.Timers.{HaveTimersOfStates}
use Rattle.lapd_recovery_laws.proofs.OneMoreFrame.{seeing}
use Rattle.lapd_recovery_laws.proofs.ClosedSteps.{Sees, seen_after_t200, released, retried, retry_in_6, give_up_in_6}
use Rattle.lapd_recovery_laws.proofs.EndSends.{kinds_append}
use Rattle.lapd_recovery_laws.proofs.HalfSteps.{disc, asked_again, abandoned, retry_in_5, give_up_in_5}
use Rattle.lapd_recovery_laws.proofs.OwnBySide.{t200_runs, t203_runs, ok_of_side}
use Rattle.lapd_recovery_laws.proofs.LoneSteps.{Polls, polls_by_t200, polls_by_t203, polls_again, sabme, asking, last_try_in_8}
use Rattle.lapd_recovery_laws.proofs.Lost.{at}
use Rattle.lapd_recovery_laws.proofs.LostMoves.{moved_user}
use Rattle.lapd_recovery_laws.proofs.Proceeding.{weigh, weight_of, plain_of, extra, extra_few, extra_open, extra_shut, extra_more, load, load_in, load_least, missing, fresh_few, Share, flowing_turned}
use Rattle.lapd_recovery_laws.proofs.RunsEmpty.{Flow, missing_few, in_queue, side_few}
use Rattle.lapd_recovery_laws.proofs.Transitions.{timers_in, in_7_if_t203}

-- ---- The same step, whichever frames are in transit.

module _ (o : Occasion) (l : List Flight) where
  -- a line that begins with l, and the rest of it
  abbrev Behind : List Out → History → List Flight → List Flight → Type 0
  Behind outs h all rest =
      (after_outputs o outs (record { line = all; history = h })).line
      ≡ l ++ (after_outputs o outs (record { line = rest; history = h })).line

  one_more : (outs : List Out) (h : History) (rest : List Flight) (g : Flight)
      → Behind outs h (l ++ (rest ++ g ∷ [])) (rest ++ g ∷ [])
      → Behind outs h ((l ++ rest) ++ g ∷ []) (rest ++ g ∷ [])
  one_more outs h rest g same =
      subst (λ all. Behind outs h all (rest ++ g ∷ [])) (sym (append_assoc l rest (g ∷ []))) same

  outputs_behind : (outs : List Out) (h : History) (rest : List Flight)
      → Behind outs h (l ++ rest) rest
  outputs_behind [] h rest = refl
  outputs_behind (Send role control ∷ outs) h rest =
      let g = without_info role control in
      one_more outs h rest g (outputs_behind outs h (rest ++ g ∷ []))
  outputs_behind (SendMessage n control ∷ outs) h rest =
      let g = message_frame o control (h.passed + n) in
      let now = with_sending (h.passed + n) o.establishment h in
      one_more outs now rest g (outputs_behind outs now (rest ++ g ∷ []))
  outputs_behind (SendUnit ∷ outs) h rest =
      let g = unit_frame o.octets in
      one_more outs h rest g (outputs_behind outs h (rest ++ g ∷ []))
  outputs_behind (Up ∷ outs) h rest =
      outputs_behind outs (with_receipt
      (record { octets = o.octets; establishment = o.establishment; place = o.place }) h) rest
  outputs_behind (UnitUp ∷ outs) h rest = outputs_behind outs (with_unit o.octets h) rest
  outputs_behind (Acknowledged n ∷ outs) h rest = outputs_behind outs (with_acked n h) rest
  outputs_behind (Dropped n ∷ outs) h rest = outputs_behind outs (with_dropped n h) rest
  outputs_behind (out ∷ outs) h rest = outputs_behind outs h rest

-- the history does not depend on the line
same_history : (o : Occasion) (outs : List Out) (h : History) (one other : List Flight)
    → (after_outputs o outs (record { line = one; history = h })).history
    ≡ (after_outputs o outs (record { line = other; history = h })).history
same_history o [] h one other = refl
same_history o (Send role control ∷ outs) h one other =
    let g = without_info role control in
    same_history o outs h (one ++ g ∷ []) (other ++ g ∷ [])
same_history o (SendMessage n control ∷ outs) h one other =
    let g = message_frame o control (h.passed + n) in
    same_history o outs (with_sending (h.passed + n) o.establishment h) (one ++ g ∷ [])
    (other ++ g ∷ [])
same_history o (SendUnit ∷ outs) h one other =
    let g = unit_frame o.octets in
    same_history o outs h (one ++ g ∷ []) (other ++ g ∷ [])
same_history o (Up ∷ outs) h one other =
    same_history o outs (with_receipt
    (record { octets = o.octets; establishment = o.establishment; place = o.place }) h) one other
same_history o (UnitUp ∷ outs) h one other = same_history o outs (with_unit o.octets h) one other
same_history o (Acknowledged n ∷ outs) h one other =
    same_history o outs (with_acked n h) one other
same_history o (Dropped n ∷ outs) h one other = same_history o outs (with_dropped n h) one other
same_history o (out ∷ outs) h one other = same_history o outs h one other

-- a view after a step, and after the same step on an empty line
pub record IsBeside (incoming outgoing : List Flight) (alone v : View) : Type 0 where
  pub end : v.station.end ≡ alone.station.end
  pub incoming_is : v.incoming ≡ incoming
  pub outgoing_is : v.outgoing ≡ outgoing ++ alone.outgoing
  pub dropped : v.station.history.dropped ≡ alone.station.history.dropped

module _ (x : Station) (incoming outgoing : List Flight) where
  abbrev pub full : View
  full = seeing x incoming outgoing

  abbrev pub alone : View
  alone = seeing x [] []

  abbrev pub Beside : PairEvent → Type 0
  Beside event =
      IsBeside incoming outgoing (left_by alone (acts Whole side.User event alone))
      (left_by full (acts Whole side.User event full))

  t200_taken : is_ok (acts Whole side.User Expire200 full) ≡ true
      → acts Whole side.User Expire200 full ≡ takes Whole (Expiry T200) [] full
  unfolding acts expires_200
  t200_taken ok =
      by_tests x.end.t200 (first_poll outgoing) (first_final incoming)
      (takes Whole (Expiry T200) [] full) ok
    where
      by_tests : (on : Bool) (poll final : Option ℕ) (taken : Result ViewStep Refusal)
          → is_ok (if on then unless_under_way side.User poll final taken else Err NotRunning)
          ≡ true
          → (if on then unless_under_way side.User poll final taken else Err NotRunning) ≡ taken
      by_tests true None None taken ok = refl
      by_tests true None (Some final) taken ok = cc
      by_tests true (Some poll) final taken ok = cc
      by_tests false poll final taken ok = cc

  t200_alone : x.end.t200 ≡ true
      → acts Whole side.User Expire200 alone ≡ takes Whole (Expiry T200) [] alone
  unfolding acts expires_200
  t200_alone on = rw on refl

  t203_taken : (v : View) → v.station.end.t203 ≡ true
      → acts Whole side.User Expire203 v ≡ takes Whole (Expiry T203) [] v
  unfolding acts expires_203
  t203_taken v on = rw on refl

  stepped : (timer : Timer)
      → IsBeside incoming outgoing (left_by alone (takes Whole (Expiry timer) [] alone))
      (left_by full (takes Whole (Expiry timer) [] full))
  unfolding takes step view_after story_after
  stepped timer =
      let s = end_step Whole (row Whole x.end.state (Expiry timer) (begin x.end)) in
      let o : Occasion =
      record {
        given = s.end.given;
        establishment = s.end.establishments;
        octets = [];
        place = 0;
      } in
      let h = with_beginning x.end.establishments s.end.establishments x.history in
      record {
        end = refl;
        incoming_is = refl;
        outgoing_is =
            subst (λ l. (after_outputs o s.outs (record { line = l; history = h })).line
            ≡ outgoing ++ (after_outputs o s.outs (record { line = []; history = h })).line)
            (append-nil outgoing) (outputs_behind o outgoing s.outs h []);
        dropped =
            ap (λ (k : History). k.dropped) (same_history o s.outs h outgoing []);
      }

  pub t200_beside : is_ok (acts Whole side.User Expire200 full) ≡ true → Beside Expire200
  t200_beside ok =
      let on = t200_runs full ok in
      let F : Result ViewStep Refusal → Type 0 =
      λ r. IsBeside incoming outgoing (left_by alone r)
      (left_by full (acts Whole side.User Expire200 full)) in
      subst F (sym (t200_alone on))
      (subst (λ r. IsBeside incoming outgoing
      (left_by alone (takes Whole (Expiry T200) [] alone)) (left_by full r))
      (sym (t200_taken ok)) (stepped T200))

  pub t203_beside : is_ok (acts Whole side.User Expire203 full) ≡ true → Beside Expire203
  t203_beside ok =
      let on = t203_runs full ok in
      let F : Result ViewStep Refusal → Type 0 =
      λ r. IsBeside incoming outgoing (left_by alone r)
      (left_by full (acts Whole side.User Expire203 full)) in
      subst F (sym (t203_taken alone on))
      (subst (λ r. IsBeside incoming outgoing
      (left_by alone (takes Whole (Expiry T203) [] alone)) (left_by full r))
      (sym (t203_taken full on)) (stepped T203))

-- ---- The frame that is sent.

-- at most two moves, and no message to answer
record IsLight (k : Kind) : Type 0 where
  other : is_acceptance k ≡ false
  plain : plain_of k ≡ 0
  light : weight_of k ≤ 2

polling : (k : Kind) → poll_of k ≡ 1 → IsLight k
polling (Numbered m nr) polls = by_bit m.polled refl polls
  where
    by_bit : (b : Bool) → m.polled ≡ b → bit b ≡ 1 → IsLight (Numbered m nr)
    by_bit true is one =
        record { other = refl; plain = rw is refl; light = rw is (omega arith) }
    by_bit false is one = cc
polling (Enquiry nr) polls = record { other = refl; plain = refl; light = omega arith }
polling k polls = cc

-- The expiry of a timer on an empty line: what its peer processes, and what it processes itself,
-- does not grow. An end that establishes anew was in state 8.
record IsMild (x : Station) (v : View) : Type 0 where
  fewer : waiting v.station.end ≤ waiting x.end
  free : IsFree x.end → IsFree v.station.end
  one : length v.outgoing ≤ 1
  light : weigh (kinds v.outgoing) ≤ 2
  passed : (y : End) (ks : List Kind) → extra y (ks ++ kinds v.outgoing) ≤ extra y ks
  heard : (ks : List Kind) → extra v.station.end ks ≤ extra x.end ks
  closes : is_7_or_8 v.station.end.state ≡ false
      → (is_7_or_8 x.end.state ≡ false) ⊎ (x.end.state ≡ TimerRecovery)

module _ (x : Station) (v : View) where
  -- these facts of the end after the step
  record Keeps (e : End) : Type 0 where
    fewer : waiting e ≤ waiting x.end
    free : IsFree x.end → IsFree e
    heard : (ks : List Kind) → extra e ks ≤ extra x.end ks
    closes : is_7_or_8 e.state ≡ false
        → (is_7_or_8 x.end.state ≡ false) ⊎ (x.end.state ≡ TimerRecovery)

  with_frame : (f : Flight) → v.outgoing ≡ f ∷ [] → IsLight (kind f) → Keeps v.station.end
      → IsMild x v
  with_frame f sent l k =
      let light = l.light in
      record {
        fewer = k.fewer;
        free = k.free;
        one = let len = ap (λ fs. length fs) sent in omega (arith, len);
        light = subst (λ fs. weigh (kinds fs) ≤ 2) (sym sent) (omega (arith, light));
        passed = λ y ks. subst (λ fs. extra y (ks ++ kinds fs) ≤ extra y ks) (sym sent)
            (let same = extra_more y ks (kind f) l.other l.plain in omega (arith, same));
        heard = k.heard;
        closes = k.closes;
      }

  with_none : v.outgoing ≡ [] → Keeps v.station.end → IsMild x v
  with_none sent k = record {
    fewer = k.fewer;
    free = k.free;
    one = let len = ap (λ fs. length fs) sent in omega (arith, len);
    light = subst (λ fs. weigh (kinds fs) ≤ 2) (sym sent) (omega arith);
    passed = λ y ks. subst (λ fs. extra y (ks ++ kinds fs) ≤ extra y ks) (sym sent)
        (let same = ap (λ l. extra y l) (append-nil ks) in omega (arith, same));
    heard = k.heard;
    closes = k.closes;
  }

  from_polls : (rc : ℕ) → Polls x rc v → is_7_or_8 x.end.state ≡ true → IsMild x v
  unfolding without_ack_pending
  from_polls rc p opened =
      let same = p.polled.waiting_is in
      let open_still : is_7_or_8 v.station.end.state ≡ true = ap is_7_or_8 p.polled.in_8 in
      with_frame p.frame p.outgoing (polling (kind p.frame) p.polls) (record {
        fewer = omega (arith, same);
        free = λ f _. ap (λ w. w.own_busy) p.polled.window ∙ f opened;
        heard = λ ks.
            let now = extra_open v.station.end ks open_still in
            let was = extra_open x.end ks opened in omega (arith, now, was);
        closes = λ shut. cc;
      })

  from_sees : (e : End) (there : List Flight) → Sees v e [] there → Keeps e
      → Keeps v.station.end
  from_sees e there s k = subst (λ d. Keeps d) (sym s.end) k

module _ (x : Station) where
  abbrev by : PairEvent → View
  by event = left_by (seeing x [] []) (acts Whole side.User event (seeing x [] []))

  abbrev expired : View
  expired = by Expire200

  t200_mild : HasTimersOfState x.end → x.end.t200 ≡ true → IsMild x (by Expire200)
  t200_mild has on = by_state x.end.state refl
    where
      asks : IsLight (kind sabme)
      asks = record { other = refl; plain = refl; light = omega arith }

      in_5 : x.end.state ≡ AwaitingEstablishment → (b : Bool)
          → nat_lt x.end.rc x.end.parameters.n200 ≡ b → IsMild x expired
      in_5 is true more =
          let e = asked_again x.end is in
          let s = seen_after_t200 x e (sabme ∷ []) on (retry_in_5 x.end is on more) in
          with_frame x expired sabme s.outgoing asks (from_sees x expired e (sabme ∷ []) s (record {
            fewer = omega arith;
            free = λ free. free;
            heard = λ ks. omega arith;
            closes = λ shut. inl shut;
          }))
      in_5 is false last =
          let e = abandoned x.end is in
          let s = seen_after_t200 x e [] on (give_up_in_5 x.end is on last) in
          with_none x expired s.outgoing (from_sees x expired e [] s (record {
            fewer = omega arith;
            free = λ free opened. cc;
            heard = λ ks. let none = extra_shut e ks refl (λ impossible. cc) in omega (arith, none);
            closes = λ shut. inl (ap is_7_or_8 is);
          }))

      in_6 : x.end.state ≡ AwaitingRelease → (b : Bool) → nat_lt x.end.rc x.end.parameters.n200 ≡ b
          → IsMild x expired
      in_6 is true more =
          let e = retried x.end is in
          let s = seen_after_t200 x e (disc ∷ []) on (retry_in_6 x.end is on more) in
          with_frame x expired disc s.outgoing
          (record { other = refl; plain = refl; light = omega arith })
          (from_sees x expired e (disc ∷ []) s (record {
            fewer = omega arith;
            free = λ free. free;
            heard = λ ks. omega arith;
            closes = λ shut. inl shut;
          }))
      in_6 is false last =
          let e = released x.end is in
          let s = seen_after_t200 x e [] on (give_up_in_6 x.end is on last) in
          with_none x expired s.outgoing (from_sees x expired e [] s (record {
            fewer = omega arith;
            free = λ free opened. cc;
            heard = λ ks. let none = extra_shut e ks refl (λ impossible. cc) in omega (arith, none);
            closes = λ shut. inl (ap is_7_or_8 is);
          }))

      in_8 : x.end.state ≡ TimerRecovery → (b : Bool) → nat_lt x.end.rc x.end.parameters.n200 ≡ b
          → IsMild x expired
      in_8 is true more =
          from_polls x expired (x.end.rc + 1) (polls_again x is on more) (ap is_7_or_8 is)
      in_8 is false last =
          let e = asking x.end in
          let s = seen_after_t200 x e (sabme ∷ []) on (last_try_in_8 x.end is on last) in
          with_frame x expired sabme s.outgoing asks (from_sees x expired e (sabme ∷ []) s (record {
            fewer = omega arith;
            free = λ free opened. cc;
            heard = λ ks.
                let few = extra_few e ks in
                let was = extra_open x.end ks (ap is_7_or_8 is) in omega (arith, few, was);
            closes = λ shut. inr is;
          }))

      by_state : (state : State) → x.end.state ≡ state → IsMild x expired
      by_state TeiAssigned is = let off = (timers_in TeiAssigned x.end has is).0 in cc
      by_state AwaitingEstablishment is = in_5 is (nat_lt x.end.rc x.end.parameters.n200) refl
      by_state AwaitingRelease is = in_6 is (nat_lt x.end.rc x.end.parameters.n200) refl
      by_state MultipleFrameEstablished is =
          from_polls x expired 1 (polls_by_t200 x is on) (ap is_7_or_8 is)
      by_state TimerRecovery is = in_8 is (nat_lt x.end.rc x.end.parameters.n200) refl

  t203_mild : HasTimersOfState x.end → x.end.t203 ≡ true → IsMild x (by Expire203)
  t203_mild has on =
      let is = in_7_if_t203 x.end has on in
      from_polls x (by Expire203) 0 (polls_by_t203 x is on) (ap is_7_or_8 is)

-- ---- The moves that a side accounts for.

open_few : (state : State) (leaving : Bool) (u w m f e : ℕ) → is_7_or_8 state ≡ true → u ≤ w
    → f ≤ 1 → m ≤ w - u → load_in state leaving u m f e ≤ 3 * w + 2
open_few MultipleFrameEstablished leaving u w m f e opened le one some = omega (arith, le, one, some)
open_few TimerRecovery leaving u w m f e opened le one some = omega (arith, le, one, some)
open_few state leaving u w m f e opened le one some = cc

-- whatever was sent: three for each message that waits, and the messages of a closed side
load_few : (x y : Station) (base its_base : ℕ) (out back : List Kind) (n : ℕ)
    → Both (party base x) (party its_base y) out back
    → (is_7_or_8 x.end.state ≡ false → extra y.end out ≤ n)
    → load x.end y.end out ≤ 3 * waiting x.end + 2 + n
load_few x y base its_base out back n both closed = by_test (is_7_or_8 x.end.state) refl
  where
    by_test : (b : Bool) → is_7_or_8 x.end.state ≡ b
        → load x.end y.end out ≤ 3 * waiting x.end + 2 + n
    by_test false shut =
        let all = side_few x y base its_base out back both in
        let few = closed shut in omega (arith, all, few)
    by_test true opened =
        let p = party base x in
        let le : x.end.first ≤ x.end.next =
        in_queue p.state p.asked p.leaving p.sends both.mine.preserved in
        let queue : unsent x.end ≤ waiting x.end = omega (arith, le) in
        let all =
        open_few x.end.state x.end.release_pending (unsent x.end) (waiting x.end)
        (missing x.end y.end) (fresh y.end.window.rejecting) (extra y.end out) opened queue
        (fresh_few y.end.window.rejecting)
        (missing_few x y base its_base out back both opened) in omega (arith, all)

-- a closed side accounts for its messages in transit
closed_counts : (x y : End) (out back : List Kind) (n : ℕ) → is_7_or_8 x.state ≡ false
    → Share x y out back n → extra y out ≤ n
closed_counts x y out back n shut (inl enough) =
    let least =
    load_least x.state x.release_pending (unsent x) (missing x y) (fresh y.window.rejecting)
    (extra y out) shut in omega (arith, least, enough)
closed_counts x y out back n shut (inr s) =
    let opened : is_7_or_8 x.state ≡ true = ap is_7_or_8 s.0.in_7 in cc

plain_few : (role : Role) (control : Control) (info : List ℕ) (place : ℕ)
    → plain_of (kind_of role control info place) ≤ one_if (is_message control)
plain_few Command (I ns nr true) info place = omega arith
plain_few Command (I ns nr false) info place = omega arith
plain_few Command (Rr nr true) info place = omega arith
plain_few Command (Rr nr false) info place = omega arith
plain_few Command (Rnr nr true) info place = omega arith
plain_few Command (Rnr nr false) info place = omega arith
plain_few Command (Rej nr true) info place = omega arith
plain_few Command (Rej nr false) info place = omega arith
plain_few Command (Sabme true) info place = omega arith
plain_few Command (Sabme false) info place = omega arith
plain_few Command (Dm true) info place = omega arith
plain_few Command (Dm false) info place = omega arith
plain_few Command (Disc true) info place = omega arith
plain_few Command (Disc false) info place = omega arith
plain_few Command (Ua true) info place = omega arith
plain_few Command (Ua false) info place = omega arith
plain_few Answer (Rr nr true) info place = omega arith
plain_few Answer (Rr nr false) info place = omega arith
plain_few Answer (Rnr nr true) info place = omega arith
plain_few Answer (Rnr nr false) info place = omega arith
plain_few Answer (Rej nr true) info place = omega arith
plain_few Answer (Rej nr false) info place = omega arith
plain_few Answer (Sabme true) info place = omega arith
plain_few Answer (Sabme false) info place = omega arith
plain_few Answer (Dm true) info place = omega arith
plain_few Answer (Dm false) info place = omega arith
plain_few Answer (Disc true) info place = omega arith
plain_few Answer (Disc false) info place = omega arith
plain_few Answer (Ua true) info place = omega arith
plain_few Answer (Ua false) info place = omega arith
plain_few role control info place = omega arith

messages_plain : (l : List Flight) → tally plain_of (kinds l) ≤ messages_in l
messages_plain [] = omega arith
messages_plain (f ∷ fs) =
    let one = plain_few f.role f.control f.info f.place in
    let rest = messages_plain fs in omega (arith, one, rest)

-- ---- The world.

-- n bounds the deliveries that the line needs after the expiry
pub record ExpiresBeside (n : ℕ) (w now : World) : Type 0 where
  pub flow : Flow n now
  pub one_more : frames now ≤ frames w + 1
  pub user_fewer : waiting now.user.end ≤ waiting w.user.end
  pub network_fewer : waiting now.network.end ≤ waiting w.network.end
  pub user_free : IsFree w.user.end → IsFree now.user.end
  pub network_free : IsFree w.network.end → IsFree now.network.end

abbrev after : Side → PairEvent → World → World
after s event w = world_after w (happens Whole (record { side = s; event = event }) w)

-- at most `late` messages of an end in state 8 are in transit
module _ (m late : ℕ) (x y : Station) (to_user to_network : List Flight)
    (i : IsInvariant (at x y to_user to_network)) (flow : Flow m (at x y to_user to_network))
  where
    abbrev w : World
    w = at x y to_user to_network

    abbrev most : ℕ
    most = m + 3 * waiting x.end + 3 * waiting y.end + 6 + late

    -- an end in state 8 that closes overtakes few
    abbrev Few : View → Type 0
    Few quiet =
        is_7_or_8 quiet.station.end.state ≡ false → x.end.state ≡ TimerRecovery
        → messages_in to_network ≤ late

    in_view : (v : View) (quiet : View) → IsInvariant (with_view side.User v w)
        → IsBeside to_user to_network quiet v → IsMild x quiet → Few quiet
        → ExpiresBeside most w (with_view side.User v w)
    in_view v quiet now b k few =
        let out = kinds v.outgoing in
        let back = kinds v.incoming in
        let new = kinds quiet.outgoing in
        let out_is : out ≡ kinds to_network ++ new =
        ap kinds b.outgoing_is ∙ kinds_append to_network quiet.outgoing in
        let back_is : back ≡ kinds to_user = ap kinds b.incoming_is in
        let its_now : Both (party now.network_base y) (party now.user_base v.station) back out =
        record { mine = now.both.its; its = now.both.mine } in
        let mine =
        load_few v.station y now.user_base now.network_base out back (flow.a + late) now.both
        (λ shut. let closed = subst (λ e. is_7_or_8 e.state ≡ false) b.end shut in
        overtakes out new out_is (k.passed y.end (kinds to_network)) (few closed)
        (k.closes closed)) in
        let its =
        load_few y v.station now.network_base now.user_base back out flow.b its_now
        (λ shut. heard_less back back_is
        (subst (λ e. extra e (kinds to_user) ≤ extra x.end (kinds to_user)) (sym b.end)
        (k.heard (kinds to_user))) shut) in
        let sum = ap (λ ks. weigh ks) out_is ∙ tally_append weight_of (kinds to_network) new in
        let same : weigh back ≡ weigh (kinds to_user) = ap (λ ks. weigh ks) back_is in
        let light = k.light in
        let all = flow.most in
        let fewer : waiting v.station.end ≤ waiting x.end =
        subst (λ e. waiting e ≤ waiting x.end) (sym b.end) k.fewer in
        record {
          flow = record {
            a = load v.station.end y.end out;
            b = load y.end v.station.end back;
            mine = inl (omega arith);
            its = inl (omega arith);
            most = omega (arith, mine, its, sum, same, light, all, fewer);
          };
          one_more =
              let sent = k.one in
              let stays = ap (λ fs. length fs) b.incoming_is in
              let joined =
              ap (λ fs. length fs) b.outgoing_is ∙ length-append to_network quiet.outgoing in
              omega (arith, sent, stays, joined);
          user_fewer = fewer;
          network_fewer = omega arith;
          user_free = λ free. subst IsFree (sym b.end) (k.free free);
          network_free = λ free. free;
        }
      where
        overtakes : (out new : List Kind) → out ≡ kinds to_network ++ new
            → extra y.end (kinds to_network ++ new) ≤ extra y.end (kinds to_network)
            → (x.end.state ≡ TimerRecovery → messages_in to_network ≤ late)
            → (is_7_or_8 x.end.state ≡ false) ⊎ (x.end.state ≡ TimerRecovery)
            → extra y.end out ≤ flow.a + late
        overtakes out new is passed few (inl shut) =
            let same = ap (λ ks. extra y.end ks) is in
            let counts = closed_counts x.end y.end (kinds to_network) (kinds to_user) flow.a shut
            flow.mine in
            omega (arith, same, passed, counts)
        overtakes out new is passed few (inr in_8) =
            let same = ap (λ ks. extra y.end ks) is in
            let all = extra_few y.end (kinds to_network) in
            let plain = messages_plain to_network in
            let at_most = few in_8 in
            omega (arith, same, passed, all, plain, at_most)

        heard_less : (back : List Kind) → back ≡ kinds to_user
            → extra v.station.end (kinds to_user) ≤ extra x.end (kinds to_user)
            → is_7_or_8 y.end.state ≡ false → extra v.station.end back ≤ flow.b
        heard_less back is less shut =
            let same = ap (λ ks. extra v.station.end ks) is in
            let counts = closed_counts y.end x.end (kinds to_user) (kinds to_network) flow.b shut
            flow.its in
            omega (arith, same, less, counts)

    by_event : (event : PairEvent)
        → IsBeside to_user to_network (by x event)
        (left_by (seeing x to_user to_network)
        (acts Whole side.User event (seeing x to_user to_network)))
        → IsMild x (by x event) → Few (by x event)
        → ExpiresBeside most w (after side.User event w)
    by_event event b k few =
        let v =
        left_by (seeing x to_user to_network)
        (acts Whole side.User event (seeing x to_user to_network)) in
        let now : IsInvariant (with_view side.User v w) =
        subst IsInvariant (moved_user event w) (each_move_preserves (user_move event) w i) in
        subst (λ u. ExpiresBeside most w u) (sym (moved_user event w))
        (in_view v (by x event) now b k few)

-- ---- Either side.

expires_swapped : (n : ℕ) (w now : World) → ExpiresBeside n (swapped w) now
    → ExpiresBeside n w (swapped now)
expires_swapped n w now e = record {
  flow = flowing_turned e.flow;
  one_more = let one = e.one_more in omega (arith, one);
  user_fewer = e.network_fewer;
  network_fewer = e.user_fewer;
  user_free = e.network_free;
  network_free = e.user_free;
}

-- the number of deliveries after the expiry of this timer
abbrev pub most_beside : ℕ → Side → PairEvent → World → ℕ
most_beside m s event w =
    m + 3 * waiting w.user.end + 3 * waiting w.network.end + 6
    + overtaken_by event (view_of s w)

in_8_few : (state : State) (n : ℕ) → state ≡ TimerRecovery → n ≤ if_in_8 state n
in_8_few TimerRecovery n is = omega arith
in_8_few state n is = cc

-- an expiry, and the same on an empty line
record Expiring (event : PairEvent) (x : Station) (incoming outgoing : List Flight) : Type 0 where
  beside : Beside x incoming outgoing event
  mild : IsMild x (by x event)
  few : x.end.state ≡ TimerRecovery
      → messages_in outgoing ≤ overtaken_by event (seeing x incoming outgoing)

abbrev IsTimer : PairEvent → Type 0
IsTimer event =
    (x : Station) (incoming outgoing : List Flight) → HasTimersOfState x.end
    → is_ok (acts Whole side.User event (seeing x incoming outgoing)) ≡ true
    → Expiring event x incoming outgoing

t200_timer : IsTimer Expire200
t200_timer x incoming outgoing has ok = record {
  beside = t200_beside x incoming outgoing ok;
  mild = t200_mild x has (t200_runs (seeing x incoming outgoing) ok);
  few = λ is. in_8_few x.end.state (messages_in outgoing) is;
}

t203_timer : IsTimer Expire203
t203_timer x incoming outgoing has ok = record {
  beside = t203_beside x incoming outgoing ok;
  mild = t203_mild x has (t203_runs (seeing x incoming outgoing) ok);
  few = λ is. absurd (let off = (timers_in TimerRecovery x.end has is).1 in
      let on = t203_runs (seeing x incoming outgoing) ok in cc);
}

by_user : (event : PairEvent) → IsTimer event → (m : ℕ) (x y : Station)
    (to_user to_network : List Flight) → IsInvariant (at x y to_user to_network)
    → HaveTimersOfStates (at x y to_user to_network) → Flow m (at x y to_user to_network)
    → is_ok (acts Whole side.User event (seeing x to_user to_network)) ≡ true
    → ExpiresBeside (most_beside m side.User event (at x y to_user to_network))
    (at x y to_user to_network) (after side.User event (at x y to_user to_network))
by_user event timer m x y to_user to_network i have flow ok =
    let e = timer x to_user to_network have.user ok in
    by_event m (overtaken_by event (seeing x to_user to_network)) x y to_user to_network i flow event
    e.beside e.mild (λ shut is. e.few is)

module _ (m : ℕ) (x y : Station) (to_user to_network : List Flight)
    (i : IsInvariant (at x y to_user to_network))
    (have : HaveTimersOfStates (at x y to_user to_network))
    (flow : Flow m (at x y to_user to_network)) where
  abbrev world : World
  world = at x y to_user to_network

  -- the network's timer, as the user's in the world with the sides exchanged
  by_network : (event : PairEvent)
      → ExpiresBeside (most_beside m side.User event (swapped world)) (swapped world)
      (after side.User event (swapped world))
      → ExpiresBeside (most_beside m side.Network event world) world
      (after side.Network event world)
  by_network event e =
      let now = after side.User event (swapped world) in
      let same : most_beside m side.User event (swapped world)
      ≡ most_beside m side.Network event world = omega arith in
      subst (λ u. ExpiresBeside (most_beside m side.Network event world) world u)
      (sym (network_alike Whole event world))
      (subst (λ n. ExpiresBeside n world (swapped now)) same
      (expires_swapped (most_beside m side.User event (swapped world)) world now e))

  have_swapped : HaveTimersOfStates (swapped world)
  have_swapped = record { user = have.network; network = have.user }

  early : (event : PairEvent) → IsTimer event → (s : Side)
      → is_ok (happens Whole (record { side = s; event = event }) world) ≡ true
      → ExpiresBeside (most_beside m s event world) world (after s event world)
  early event timer side.User ok =
      by_user event timer m x y to_user to_network i have flow (ok_of_side side.User event world ok)
  early event timer side.Network ok =
      by_network event (by_user event timer m y x to_network to_user (exchanged world i) have_swapped
      (flowing_turned flow) (ok_of_side side.Network event world ok))

  pub t200_early : (s : Side)
      → is_ok (happens Whole (record { side = s; event = Expire200 }) world) ≡ true
      → ExpiresBeside (most_beside m s Expire200 world) world (after s Expire200 world)
  t200_early s ok = early Expire200 t200_timer s ok

  pub t203_early : (s : Side)
      → is_ok (happens Whole (record { side = s; event = Expire203 }) world) ≡ true
      → ExpiresBeside (most_beside m s Expire203 world) world (after s Expire203 world)
  t203_early s ok = early Expire203 t203_timer s ok

-- ---- The end that expires stays in states 7 and 8: it overtakes none.

stays_open : (x : Station) (to_user to_network : List Flight) (event : PairEvent)
    → IsBeside to_user to_network (by x event)
    (left_by (seeing x to_user to_network)
    (acts Whole side.User event (seeing x to_user to_network)))
    → is_7_or_8 (left_by (seeing x to_user to_network)
    (acts Whole side.User event (seeing x to_user to_network))).station.end.state ≡ true
    → is_7_or_8 (by x event).station.end.state ≡ false → ⊥
stays_open x to_user to_network event b opened shut =
    let same = ap (λ e. is_7_or_8 e.state) b.end in cc

open_most : (m : ℕ) (w : World) (now : World)
    → ExpiresBeside (m + 3 * waiting w.user.end + 3 * waiting w.network.end + 6 + 0) w now
    → ExpiresBeside (m + 3 * waiting w.user.end + 3 * waiting w.network.end + 6) w now
open_most m w now e =
    subst (λ n. ExpiresBeside n w now)
    (let same : m + 3 * waiting w.user.end + 3 * waiting w.network.end + 6 + 0
    ≡ m + 3 * waiting w.user.end + 3 * waiting w.network.end + 6 = omega arith in same) e

user_open : (event : PairEvent) → IsTimer event → (m : ℕ) (w : World) → IsInvariant w
    → HasTimersOfState w.user.end → Flow m w
    → is_7_or_8 (after side.User event w).user.end.state ≡ true
    → is_ok (acts Whole side.User event (view_of side.User w)) ≡ true
    → ExpiresBeside (m + 3 * waiting w.user.end + 3 * waiting w.network.end + 6) w
    (after side.User event w)
user_open event timer m w i has flow opened ok =
    let e = timer w.user w.to_user w.to_network has ok in
    let now : is_7_or_8 (left_by (view_of side.User w)
    (acts Whole side.User event (view_of side.User w))).station.end.state ≡ true =
    subst (λ u. is_7_or_8 u.user.end.state ≡ true) (moved_user event w) opened in
    open_most m w (after side.User event w)
    (by_event m 0 w.user w.network w.to_user w.to_network i flow event e.beside e.mild
    (λ shut is. absurd (stays_open w.user w.to_user w.to_network event e.beside now shut)))

open_swapped : (m : ℕ) (event : PairEvent) (w : World)
    → ExpiresBeside (m + 3 * waiting w.network.end + 3 * waiting w.user.end + 6) (swapped w)
    (after side.User event (swapped w))
    → ExpiresBeside (m + 3 * waiting w.user.end + 3 * waiting w.network.end + 6) w
    (after side.Network event w)
open_swapped m event w e =
    let now = after side.User event (swapped w) in
    let same : m + 3 * waiting w.network.end + 3 * waiting w.user.end + 6
    ≡ m + 3 * waiting w.user.end + 3 * waiting w.network.end + 6 = omega arith in
    subst (λ u. ExpiresBeside (m + 3 * waiting w.user.end + 3 * waiting w.network.end + 6) w u)
    (sym (network_alike Whole event w))
    (subst (λ n. ExpiresBeside n w (swapped now)) same
    (expires_swapped (m + 3 * waiting w.network.end + 3 * waiting w.user.end + 6) w now e))

opened_swapped : (event : PairEvent) (w : World)
    → is_7_or_8 (after side.Network event w).network.end.state ≡ true
    → is_7_or_8 (after side.User event (swapped w)).user.end.state ≡ true
opened_swapped event w opened =
    subst (λ u. is_7_or_8 u.network.end.state ≡ true) (network_alike Whole event w) opened

opens : (event : PairEvent) → IsTimer event → (m : ℕ) (s : Side) (w : World) → IsInvariant w
    → HaveTimersOfStates w → Flow m w → is_7_or_8 (after s event w).user.end.state ≡ true
    → is_7_or_8 (after s event w).network.end.state ≡ true
    → is_ok (happens Whole (record { side = s; event = event }) w) ≡ true
    → ExpiresBeside (m + 3 * waiting w.user.end + 3 * waiting w.network.end + 6) w
    (after s event w)
opens event timer m side.User w i have flow user network ok =
    user_open event timer m w i have.user flow user (ok_of_side side.User event w ok)
opens event timer m side.Network w i have flow user network ok =
    open_swapped m event w (user_open event timer m (swapped w) (exchanged w i) have.network
    (flowing_turned flow) (opened_swapped event w network) (ok_of_side side.Network event w ok))

pub t200_open : (m : ℕ) (s : Side) (w : World) → IsInvariant w → HaveTimersOfStates w → Flow m w
    → is_7_or_8 (after s Expire200 w).user.end.state ≡ true
    → is_7_or_8 (after s Expire200 w).network.end.state ≡ true
    → is_ok (happens Whole (record { side = s; event = Expire200 }) w) ≡ true
    → ExpiresBeside (m + 3 * waiting w.user.end + 3 * waiting w.network.end + 6) w
    (after s Expire200 w)
t200_open m s w i have flow user network ok =
    opens Expire200 t200_timer m s w i have flow user network ok

pub t203_open : (m : ℕ) (s : Side) (w : World) → IsInvariant w → HaveTimersOfStates w → Flow m w
    → is_7_or_8 (after s Expire203 w).user.end.state ≡ true
    → is_7_or_8 (after s Expire203 w).network.end.state ≡ true
    → is_ok (happens Whole (record { side = s; event = Expire203 }) w) ≡ true
    → ExpiresBeside (m + 3 * waiting w.user.end + 3 * waiting w.network.end + 6) w
    (after s Expire203 w)
t203_open m s w i have flow user network ok =
    opens Expire203 t203_timer m s w i have flow user network ok
