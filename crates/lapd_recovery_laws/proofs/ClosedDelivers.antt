-- Any frame is delivered to an end in state 4, 5 or 6: the weight falls.
use Rattle.std.proofs.Common.{◌≡◌, inl, inr, ℕ, ◌+◌, ◌-◌, ◌*◌, ◌≤◌, ◌==◌, nat_lt, Bool, true, false, List, ◌∷◌, ◌++◌, length, append-nil, refl, sym, ap, subst, ◌∙◌, arith, []}
use Rattle.std.proofs.lemmas.Bool.{eqb-true}
use Rattle.lapd_timers.specs.declared.timer.Timer.TheVariants.{T200, T203}
use Rattle.lapd_frame.specs.declared.Role.{Role}
use Rattle.lapd_frame.specs.declared.Role.TheVariants.{Command, Answer}
use Rattle.lapd_frame.specs.declared.Control.{Control}
use Rattle.lapd_frame.specs.declared.Control.TheVariants.{Sabme, Dm, Disc, Ua}
use Rattle.lapd_mod128.specs.Counting.{Whole}
use Rattle.lapd_supervision.specs.StateVariables.{without_exceptions, with_zero_counters}
use Rattle.lapd_link_definition.specs.declared.state.State.{State}
use Rattle.lapd_link_definition.specs.declared.state.State.TheVariants.{TeiAssigned, AwaitingEstablishment, AwaitingRelease, MultipleFrameEstablished, TimerRecovery}
use Rattle.lapd_link_definition.specs.declared.out.Letter.TheVariants as letter
use Rattle.lapd_link_definition.specs.declared.out.Out.TheVariants.{Send, Report, Confirmed, UnitUp}
use Rattle.lapd_link_definition.specs.AwaitingEstablishment.{end_establishment, confirm_or_indicate, ua_final, awaiting_establishment}
use Rattle.lapd_link_definition.specs.AwaitingRelease.{confirm_release, awaiting_release}
use Rattle.lapd_link_definition.specs.EndOfStep.{is_7_or_8, end_step}
use Rattle.lapd_link_definition.specs.End.{End, StepState, ◌▷◌, begin, unsent, waiting}
use Rattle.lapd_link_definition.specs.Input.{Heard}
use Rattle.lapd_link_definition.specs.Procedures.{put, state_to, rc_to, start, stop, release_pending_to, clear_exception_conditions, zero_state_variables, discard_i_queue}
use Rattle.lapd_link_definition.specs.Table.{by_state, row, is_unit_data}
use Rattle.lapd_link_definition.specs.TeiAssigned.{tei_assigned}
use Rattle.lapd_pair_laws.specs.Line.{Flight, without_info}
use Rattle.lapd_pair_laws.specs.Move.{Station, View, story_after}
use Rattle.lapd_pair_laws.specs.Kinds.{Kind, Asks, Accepts, Refuses, Unnumbered, kind, kind_of, kinds, messages, numbers, rejections, tally, answer_of, is_acceptance}
use Rattle.lapd_pair_laws.specs.Parties.{Reception, party, next_reception, received_in, receives, OnReception}
use Rattle.lapd_pair_laws.specs.Conjuncts.{IsEmpty, IsHolding, IsNumbering, IsConsistentSender, IsReceivable, most_asks}
use Rattle.lapd_pair_laws.specs.Invariant.{Both}
use Rattle.lapd_pair_laws.proofs.ActionEffects.{Context, story, seen, line}
use Rattle.lapd_pair_laws.proofs.ClosedActions.{closes_nothing}
use Rattle.lapd_pair_laws.proofs.Delivers.{no_foreign}
use Rattle.lapd_pair_laws.proofs.Flow.{IsWhole, fresh}
use Rattle.lapd_pair_laws.proofs.Lists.{by_test}
use Rattle.lapd_pair_laws.proofs.MidSteps.{open_numbering}
use Rattle.lapd_pair_laws.proofs.Steps.{context, begun}
use Rattle.lapd_pair_laws.proofs.Closed.{unsaid_rejections}
use Rattle.lapd_pair_laws.proofs.Closings.{most_is_one}
use Rattle.lapd_recovery_laws.specs.Own.{IsFree}
use Rattle.lapd_recovery_laws.proofs.Cleared.{IsClearIn5, AreClear}
use Rattle.lapd_recovery_laws.proofs.EndSends.{Unsending, pending_in, pending, end_closes}
use Rattle.lapd_recovery_laws.proofs.LoneSteps.{sends_nothing}
use Rattle.lapd_recovery_laws.proofs.OpenDelivers.{Delivered, heard_in, impossible}
use Rattle.lapd_recovery_laws.proofs.OpenFrames.{unit_kind, asks_closed, reset_arrives}
use Rattle.lapd_recovery_laws.proofs.Proceeding.{weight_of, weigh, weight_some, plain_of, plain_in, no_number_plain, heard, extra, extra_few, extra_shut, extra_more, extra_first, extra_passed, Arrives, Hears, in_transit_of_whole, none_rejected, missing_in, missing, load_in, load, load_open, load_less, load_closed, load_least, once_more, none_more, fresh_few, Share, Pays}
use Rattle.lapd_recovery_laws.proofs.HalfSteps.{refused_line}
use Rattle.lapd_recovery_laws.proofs.SendsOn.{discards_by, indicated_line, by_each}
use Rattle.lapd_recovery_laws.proofs.ClosedInputs.{passed_over, not_ua, confirmed_line, opened_line}

module _ (station peer : Station) (frame : Flight) (rest outgoing : List Flight) (base its_base : ℕ)
    (clear : IsClearIn5 station.end) (closed : is_7_or_8 station.end.state ≡ false)
    (both : Both (party base station) (party its_base peer) (kinds outgoing) (kinds (frame ∷ rest)))
  where
    abbrev v : View
    v = record { station = station; incoming = frame ∷ rest; outgoing = outgoing }

    abbrev c : Context
    c = context base frame.info frame.place v rest peer its_base

    abbrev e : End
    e = station.end

    abbrev s : StepState
    s = begin e

    abbrev ks : List Kind
    ks = kinds rest

    abbrev out : List Kind
    out = kinds outgoing

    abbrev Done : Kind → StepState → Type 0
    Done k t =
        Delivered e peer.end k ks outgoing (end_step Whole t).end (story c (end_step Whole t)).line

    abbrev Arriving : Kind → Type 0
    Arriving k = Both (seen c s) c.peer (line c s) (k ∷ ks)

    arrived : Arriving (kind frame)
    arrived = begun c (kind frame ∷ ks) both

    -- ---- From the row to the end of the step.

    record Closing (k : Kind) (t : StepState) : Type 0 where
      closes : end_step Whole t ≡ t
      new : List Flight
      sent : (story c t).line ≡ outgoing ++ new
      work_falls : load t.end peer.end (out ++ kinds new) + weigh (kinds new) + 1 ≤ load e peer.end
          out
          + weight_of k
      rejects_none : rejections (kinds new) ≡ []
      its_load : load peer.end t.end ks + 0 ≤ load peer.end e (k ∷ ks)
      lacks : peer.end.state ≡ MultipleFrameEstablished
          → missing peer.end t.end ≤ missing peer.end e
      hears : peer.end.state ≡ MultipleFrameEstablished
          → OnReception (Arrives peer.end.window.vs) (heard e (k ∷ ks))
          → OnReception (Arrives peer.end.window.vs) (heard t.end ks)
      fewer : waiting t.end ≤ waiting e
      free : IsFree t.end

    pays : (k : Kind) (x : End) (new : List Flight)
        → load x peer.end (out ++ kinds new) + weigh (kinds new) + 1 ≤ load e peer.end out
        + weight_of k → (n : ℕ) → Share e peer.end out (k ∷ ks) n
        → Pays x peer.end (out ++ kinds new) ks (n + weight_of k + 0 - weigh (kinds new))
    pays k x new work_falls n (inl enough) = record {
      a = load x peer.end (out ++ kinds new);
      share = inl (omega arith);
      most = omega (arith, work_falls, enough);
    }
    pays k x new work_falls n (inr p) =
        let is = p.0.in_7 in impossible (is_7_or_8 e.state) (ap is_7_or_8 is) closed

    by_closing : (k : Kind) (t : StepState) → Closing k t → Done k t
    by_closing k t r =
        subst (λ (u : StepState). Delivered e peer.end k ks outgoing u.end (story c u).line)
        (sym r.closes) (record {
          new = r.new;
          sent = r.sent;
          advances = record {
            relief = 0;
            mine = λ n share. pays k t.end r.new r.work_falls n share;
            its_load = r.its_load;
            its =
                λ p. (
                  record {
                    in_7 = p.in_7;
                    wanted = none_rejected out (kinds r.new) p.wanted r.rejects_none;
                    hears = inr (by_hearing p.in_7 p.hears);
                  },
                  let less = r.lacks p.in_7 in omega (arith, less),
                );
          };
          fewer = r.fewer;
          free = λ was. r.free;
        })
      where
        by_hearing : peer.end.state ≡ MultipleFrameEstablished → Hears peer.end.window.vs e (k ∷ ks)
            → OnReception (Arrives peer.end.window.vs) (heard t.end ks)
        by_hearing is (inl busy) = impossible (is_7_or_8 e.state) busy.0 closed
        by_hearing is (inr a) = r.hears is a

    same_end : s.end ≡ e
    unfolding begin
    same_end = refl

    nothing_yet : (story c s).line ≡ outgoing
    unfolding begin story_after
    nothing_yet = refl

    -- the peer accounts for no more, if this end stays closed
    still_missing : (x : End) → is_7_or_8 x.state ≡ false → missing peer.end x ≡ missing peer.end e
    still_missing x shut =
        ap (λ b. missing_in b peer.end.window.vs x.window.vr (waiting peer.end) (unsent peer.end))
        shut
        ∙ sym (ap (λ b. missing_in b peer.end.window.vs e.window.vr (waiting peer.end)
        (unsent peer.end)) closed)

    still_loaded : (k : Kind) (x : End) → is_7_or_8 x.state ≡ false
        → x.window.rejecting ≡ e.window.rejecting → extra x ks ≤ extra e (k ∷ ks)
        → load peer.end x ks + 0 ≤ load peer.end e (k ∷ ks)
    still_loaded k x shut same less =
        let lack = still_missing x shut in
        let rej = ap fresh same in
        load_less peer.end.state peer.end.release_pending (unsent peer.end) (missing peer.end e)
        (fresh e.window.rejecting) (extra e (k ∷ ks)) (missing peer.end x)
        (fresh x.window.rejecting) (extra x ks) 0 (fresh_few e.window.rejecting)
        (omega (arith, lack, rej)) (omega (arith, less))

    -- nothing is sent
    same_extra : extra peer.end (out ++ []) ≡ extra peer.end out
    same_extra = ap (λ l. extra peer.end l) (append-nil out)

    -- ---- A frame that changes nothing.

    passes : (k : Kind) (t : StepState) → t.end ≡ e → (story c t).line ≡ outgoing → 1 ≤ weight_of k
        → (e.state ≡ AwaitingEstablishment → is_acceptance k ≡ false) → Done k t
    passes k t same none some other = by_closing k t (record {
      closes = closes_nothing t (ap (λ (x : End). is_7_or_8 x.state) same ∙ closed);
      new = [];
      sent = none ∙ sym (append-nil outgoing);
      work_falls =
          let b : load t.end peer.end (out ++ []) ≡ load e peer.end out =
          ap (λ (x : End). load x peer.end (out ++ [])) same
          ∙ ap (λ l. load e peer.end l) (append-nil out) in
          omega (arith, b, some);
      rejects_none = refl;
      its_load =
          still_loaded k t.end (ap (λ (x : End). is_7_or_8 x.state) same ∙ closed)
          (ap (λ (x : End). x.window.rejecting) same) (let a : extra t.end ks ≡ extra e
          ks = ap (λ (x : End). extra x ks) same in let b = extra_passed e
          k ks closed other in omega (arith, a, b));
      lacks =
          λ is. let lack =
          still_missing t.end (ap (λ (x : End). is_7_or_8 x.state) same ∙ closed) in omega
          (arith, lack);
      hears =
          λ is a. subst (λ (x : End). OnReception (Arrives peer.end.window.vs) (heard x ks))
          (sym same) (passed_over (Arrives peer.end.window.vs) e.state e.release_pending _ _ k ks
          closed other a);
      fewer =
          let w : waiting t.end ≡ waiting e = ap (λ (x : End). waiting x) same in omega (arith, w);
      free =
          λ o. impossible (is_7_or_8 t.end.state) o (ap (λ (x : End). is_7_or_8 x.state) same ∙
          closed);
    })

    ignored : (k : Kind) → 1 ≤ weight_of k
        → (e.state ≡ AwaitingEstablishment → is_acceptance k ≡ false) → Done k s
    ignored k some other = passes k s same_end nothing_yet some other

    by_unit : (k : Kind) → k ≡ Unnumbered → Done k (put UnitUp s)
    unfolding put begin story_after
    by_unit k is =
        passes k (put UnitUp s) refl refl (let w = ap weight_of is in omega (arith, w))
        (λ in_5. ap is_acceptance is)

    -- ---- A SABME or DISC is answered.

    module _ (b : Arriving Asks) where
      asks_one : 1 + tally answer_of out ≤ most_asks peer.end.state
      unfolding begin story_after
      asks_one = let one = b.its.exchange.one in omega (arith, one)

      no_answer : tally answer_of out ≡ 0
      no_answer =
          let one = asks_one in
          let most = most_is_one peer.end.state in
          omega (arith, one, most)

      peer_asks : 1 ≤ most_asks peer.end.state
      peer_asks = let one = asks_one in omega (arith, one)

      peer_closed : is_7_or_8 peer.end.state ≡ false
      peer_closed = asks_closed peer.end.state peer_asks

      asks_not_in_7 : peer.end.state ≡ MultipleFrameEstablished → ⊥
      asks_not_in_7 is =
          let none : most_asks peer.end.state ≡ 0 = ap most_asks is in
          let some = peer_asks in omega (arith, none, some)

      no_numbers : numbers ks ≡ []
      no_numbers = b.its.exchange.behind.0 (omega arith)

      replies : (u : Control) → weigh (kinds (without_info Answer u ∷ [])) ≡ 1
          → rejections (kinds (without_info Answer u ∷ [])) ≡ []
          → extra peer.end (out ++ kinds (without_info Answer u ∷ [])) ≤ extra peer.end out
          → Done Asks (put (Send Answer u) s)
      unfolding put begin story_after
      replies u one rejects_none less = by_closing Asks (put (Send Answer u) s) (record {
        closes = closes_nothing (put (Send Answer u) s) closed;
        new = without_info Answer u ∷ [];
        sent = refl;
        work_falls =
            let le =
            load_closed e.state e.release_pending (unsent e) (missing e peer.end)
            (fresh peer.end.window.rejecting) (extra peer.end out) (missing e peer.end)
            (fresh peer.end.window.rejecting)
            (extra peer.end (out ++ kinds (without_info Answer u ∷ []))) closed less in
            omega (arith, one, le);
        rejects_none = rejects_none;
        its_load =
            still_loaded Asks e closed refl
            (let same = extra_passed e Asks ks closed (λ in_5. refl) in omega (arith, same));
        lacks = λ is. omega arith;
        hears = λ is a. absurd (asks_not_in_7 is);
        fewer = omega arith;
        free = λ o. impossible (is_7_or_8 e.state) o closed;
      })

      by_ua : Done Asks (put (Send Answer (Ua true)) s)
      by_ua =
          replies (Ua true) refl refl
          (let none = extra_first peer.end out peer_closed no_answer in omega (arith, none))

      by_dm : Done Asks (put (Send Answer (Dm true)) s)
      by_dm =
          replies (Dm true) refl refl
          (let same = extra_more peer.end out Refuses refl refl in omega (arith, same))

    reported_end : (put (Report letter.C) s).end ≡ e
    unfolding put begin
    reported_end = refl

    reported_line : (story c (put (Report letter.C) s)).line ≡ outgoing
    unfolding put begin story_after
    reported_line = refl

    -- ---- State 4.

    module _ (is : e.state ≡ TeiAssigned) where
      not_5 : e.state ≡ AwaitingEstablishment → ⊥
      not_5 in_5 = cc

      empty : Arriving (kind frame) → IsEmpty (seen c s).sends
      unfolding begin
      empty b =
          subst (λ st. IsConsistentSender st e.layer3_initiated e.release_pending (seen c s).sends)
          is
          b.mine.preserved

      sabme_in_4 : Arriving Asks → Done Asks (tei_assigned (Heard (Sabme true) Command) s)
      unfolding tei_assigned put clear_exception_conditions zero_state_variables start state_to
          begin
          without_exceptions with_zero_counters story_after
      sabme_in_4 b =
          let t = tei_assigned (Heard (Sabme true) Command) s in
          let none : IsEmpty (seen c s).sends = empty arrived in
          let first : e.first ≡ length e.given = none.first in
          let next : e.next ≡ length e.given = none.next in
          let lack : missing t.end peer.end ≡ waiting t.end - unsent t.end =
          ap (λ b. missing_in b t.end.window.vs peer.end.window.vr (waiting t.end)
          (unsent t.end)) (peer_closed b) in
          subst (λ (u : StepState). Delivered e peer.end Asks ks outgoing u.end (story c u).line)
          (sym (sends_nothing t (sym next) refl)) (record {
            new = without_info Answer (Ua true) ∷ [];
            sent = refl;
            advances = record {
              relief = 0;
              mine = λ n share. record {
                a = 0;
                share = inr (
                  record {
                    in_7 = refl;
                    wanted = unsaid_rejections ks (no_numbers b);
                    hears =
                        inr (reset_arrives peer.end.state peer.end.release_pending
                        peer.end.window.vs
                        peer.end.window.va peer.end.window.vr 0 peer.end.window.rejecting out []
                        (peer_closed b) (no_answer b) refl);
                  },
                  omega (arith, lack, first, next),
                );
                most = omega arith;
              };
              its_load =
                  let few = extra_few t.end ks in
                  let plain = no_number_plain ks (no_numbers b) in
                  load_closed peer.end.state peer.end.release_pending (unsent peer.end)
                  (missing peer.end e) (fresh e.window.rejecting) (extra e (Asks ∷ ks))
                  (missing peer.end t.end) (fresh t.end.window.rejecting) (extra t.end ks)
                  (peer_closed b) (omega (arith, few, plain));
              its = λ p. absurd (asks_not_in_7 b p.in_7);
            };
            fewer = omega arith;
            free = λ was o. refl;
          })

      in_state_4 : (control : Control) (role : Role) → is_unit_data control role ≡ false
          → Arriving (kind_of role control frame.info frame.place)
          → Done (kind_of role control frame.info frame.place) (tei_assigned (Heard control role) s)
      unfolding tei_assigned
      in_state_4 (Sabme true) Command no_unit b = sabme_in_4 b
      in_state_4 (Sabme false) Command no_unit b = absurd (no_foreign c ks s b)
      in_state_4 (Disc true) Command no_unit b = by_dm b
      in_state_4 (Disc false) Command no_unit b = absurd (no_foreign c ks s b)
      in_state_4 (Ua true) Answer no_unit b =
          passes Accepts (put (Report letter.C) s) reported_end reported_line (omega arith)
          (λ in_5. absurd (not_5 in_5))
      in_state_4 (Ua false) Answer no_unit b = absurd (no_foreign c ks s b)
      in_state_4 control role no_unit b =
          ignored (kind_of role control frame.info frame.place)
          (weight_some (kind_of role control frame.info frame.place)) (λ in_5. absurd (not_5 in_5))

    -- ---- States 5 and 6: the answer arrives.

    -- to state 4 or 6
    parts : (k : Kind) (t : StepState) (state : State) (new : List Flight) → t.end.state ≡ state
        → is_7_or_8 state ≡ false → (state ≡ AwaitingEstablishment → ⊥)
        → (story c t).line ≡ outgoing ++ new → rejections (kinds new) ≡ []
        → t.end.window.rejecting ≡ e.window.rejecting
        → load t.end peer.end (out ++ kinds new) + weigh (kinds new) + 1 ≤ load e peer.end out
        + weight_of k → waiting t.end ≤ waiting e → Done k t
    parts k t state new at shut other sent rejects_none rejecting work_falls fewer =
        by_closing k t (record {
          closes = closes_nothing t (ap is_7_or_8 at ∙ shut);
          new = new;
          sent = sent;
          work_falls = work_falls;
          rejects_none = rejects_none;
          its_load =
              still_loaded k t.end (ap is_7_or_8 at ∙ shut) rejecting
              (let none =
              extra_shut t.end ks (ap is_7_or_8 at ∙ shut)
              (λ in_5. other (sym at ∙ in_5)) in
              omega (arith, none));
          lacks = λ is. let lack = still_missing t.end (ap is_7_or_8 at ∙ shut) in omega (arith, lack);
          hears = λ is a. nothing t.end state at shut other;
          fewer = fewer;
          free = λ o. impossible (is_7_or_8 t.end.state) o (ap is_7_or_8 at ∙ shut);
        })
      where
        nothing : (x : End) (state : State) → x.state ≡ state → is_7_or_8 state ≡ false
            → (state ≡ AwaitingEstablishment → ⊥)
            → OnReception (Arrives peer.end.window.vs) (heard x ks)
        nothing x state at shut other =
            subst (λ st. OnReception (Arrives peer.end.window.vs)
            (received_in st x.release_pending
            (record {
              vs = x.window.vs;
              va = x.window.va;
              vr = x.window.vr;
              rejecting = x.window.rejecting;
              frames = ks;
            }) ks)) (sym at)
            (by_case (record {
              vs = x.window.vs;
              va = x.window.va;
              vr = x.window.vr;
              rejecting = x.window.rejecting;
              frames = ks;
            }) state shut other)
          where
            by_case : (now : Reception) (state : State) → is_7_or_8 state ≡ false
                → (state ≡ AwaitingEstablishment → ⊥)
                → OnReception (Arrives peer.end.window.vs)
                (received_in state x.release_pending now ks)
            by_case now TeiAssigned shut other = tt
            by_case now AwaitingEstablishment shut other = absurd (other refl)
            by_case now AwaitingRelease shut other = tt
            by_case now MultipleFrameEstablished shut other = cc
            by_case now TimerRecovery shut other = cc

    at_least : extra peer.end out ≤ load e peer.end out
    at_least =
        load_least e.state e.release_pending (unsent e) (missing e peer.end)
        (fresh peer.end.window.rejecting) (extra peer.end out) closed

    released : (k : Kind) → 1 ≤ weight_of k → Done k (confirm_release s)
    unfolding confirm_release stop put state_to begin story_after
    released k some =
        parts k (confirm_release s) TeiAssigned [] refl refl (λ in_5. cc)
        (confirmed_line e.t200 _ _ ∙ sym (append-nil outgoing)) refl refl
        (let same = same_extra in let least = at_least in omega (arith, some, same, least))
        (omega arith)

    refused : Done Refuses (s ▷ discard_i_queue ▷ stop T200 ▷ end_establishment)
    unfolding end_establishment discard_i_queue stop put release_pending_to state_to begin
        story_after
    refused =
        parts Refuses (s ▷ discard_i_queue ▷ stop T200 ▷ end_establishment) TeiAssigned [] refl refl
        (λ in_5. cc) (refused_line (nat_lt 0 (waiting e)) e.t200 e.release_pending (waiting e) _ _
        ∙ sym (append-nil outgoing)) refl refl
        (let same = same_extra in let least = at_least in omega (arith, same, least)) (omega arith)

    module _ (is : e.state ≡ AwaitingRelease) where
      not_5_in_6 : e.state ≡ AwaitingEstablishment → ⊥
      not_5_in_6 in_5 = cc

      in_state_6 : (control : Control) (role : Role) → is_unit_data control role ≡ false
          → Arriving (kind_of role control frame.info frame.place)
          → Done (kind_of role control frame.info frame.place)
          (awaiting_release (Heard control role) s)
      unfolding awaiting_release
      in_state_6 (Sabme true) Command no_unit b = by_dm b
      in_state_6 (Sabme false) Command no_unit b = absurd (no_foreign c ks s b)
      in_state_6 (Disc true) Command no_unit b = by_ua b
      in_state_6 (Disc false) Command no_unit b = absurd (no_foreign c ks s b)
      in_state_6 (Ua true) Answer no_unit b = released Accepts (omega arith)
      in_state_6 (Ua false) Answer no_unit b = absurd (no_foreign c ks s b)
      in_state_6 (Dm true) Answer no_unit b = released Refuses (omega arith)
      in_state_6 (Dm false) Answer no_unit b = absurd (no_foreign c ks s b)
      in_state_6 control role no_unit b =
          ignored (kind_of role control frame.info frame.place)
          (weight_some (kind_of role control frame.info frame.place))
          (λ in_5. absurd (not_5_in_6 in_5))

    -- ---- State 5.

    module _ (is : e.state ≡ AwaitingEstablishment) where
      cleared : AreClear e
      cleared = clear is

      leaves : e.release_pending ≡ true
          → Done Accepts (s ▷ release_pending_to false ▷ rc_to 0 ▷ put (Send Command (Disc true)) ▷
          start T200 ▷ state_to AwaitingRelease)
      unfolding release_pending_to rc_to put start state_to begin story_after
      leaves waits =
          let f = fresh peer.end.window.rejecting in
          let was : load e peer.end out ≡ 2 + extra peer.end out =
          ap (λ st. load_in st e.release_pending (unsent e) (missing e peer.end) f
          (extra peer.end out)) is
          ∙ ap (λ b. load_in AwaitingEstablishment b (unsent e) (missing e peer.end) f
          (extra peer.end out)) waits in
          let same = extra_more peer.end out Asks refl refl in
          parts Accepts (s ▷ release_pending_to false ▷ rc_to 0 ▷ put (Send Command (Disc true)) ▷
          start T200 ▷ state_to AwaitingRelease) AwaitingRelease
          (without_info Command (Disc true) ∷ []) refl refl (λ in_5. cc) refl refl refl
          (omega (arith, was, same)) (omega arith)

      module _ (stays : e.release_pending ≡ false) (b : Arriving Accepts) where
        -- the frames behind the UA
        behind_ua : (Q : Reception → Type 0) → OnReception Q (heard e (Accepts ∷ ks))
            → Q (next_reception ks)
        behind_ua Q a =
            let now : Reception =
            record {
              vs = e.window.vs;
              va = e.window.va;
              vr = e.window.vr;
              rejecting = e.window.rejecting;
              frames = Accepts ∷ ks;
            } in
            let in_5 : OnReception Q
            (received_in AwaitingEstablishment e.release_pending now (Accepts ∷ ks)) =
            subst (λ st. OnReception Q (received_in st e.release_pending now (Accepts ∷ ks)))
            is a in
            let here : OnReception Q (received_in AwaitingEstablishment false now (Accepts ∷ ks)) =
            subst
            (λ b. OnReception Q (received_in AwaitingEstablishment b now (Accepts ∷ ks)))
            stays in_5 in
            here

        extra_behind : extra e (Accepts ∷ ks) ≡ tally plain_of ks
        extra_behind =
            let now : Reception =
            record {
              vs = e.window.vs;
              va = e.window.va;
              vr = e.window.vr;
              rejecting = e.window.rejecting;
              frames = Accepts ∷ ks;
            } in
            ap (λ st. plain_in (received_in st e.release_pending now (Accepts ∷ ks))) is
            ∙ ap (λ b. plain_in (received_in AwaitingEstablishment b now (Accepts ∷ ks))) stays

        -- an open peer has just established, and nothing is acknowledged yet
        peer_missing : is_7_or_8 peer.end.state ≡ true
            → peer.end.window.vs ≤ waiting peer.end - unsent peer.end
        unfolding begin story_after
        peer_missing opened =
            let h : IsReceivable c.peer (seen c s) (receives c.peer (line c s))
            (next_reception ks) =
            behind_ua (IsReceivable c.peer (seen c s) (receives c.peer (line c s)))
            b.its.reception in
            let n : IsNumbering c.peer.sends =
            open_numbering c.peer.state c.peer.asked c.peer.leaving c.peer.sends opened
            b.its.preserved in
            let zero_ : peer.end.window.va ≤ 0 = (h.stream.between opened).0 in
            let first : peer.end.first ≡ its_base + peer.end.window.va = n.first in
            let next : peer.end.next ≡ its_base + peer.end.window.vs = n.next in
            let within : peer.end.next ≤ length peer.end.given = n.within in
            omega (arith, zero_, first, next, within)

        record Opening (t : StepState) : Type 0 where
          sent : (story c t).line ≡ outgoing
          in_7 : t.end.state ≡ MultipleFrameEstablished
          vs : t.end.window.vs ≡ 0
          vr : t.end.window.vr ≡ 0
          rejecting : t.end.window.rejecting ≡ e.window.rejecting
          idle : t.end.window.own_busy ≡ false
          none : t.end.window.ack_pending ≡ false
          all : waiting t.end ≡ unsent t.end
          few : unsent t.end ≤ unsent e
          queue : unsent e ≤ waiting e

        by_opening : (t : StepState) → Opening t → Done Accepts t
        by_opening t r =
            let u = end_step Whole t in
            let cl = end_closes c t in
            let in_7 : u.end.state ≡ MultipleFrameEstablished =
            ap (λ (v : Unsending). v.state) cl.same ∙ r.in_7 in
            let vr : u.end.window.vr ≡ 0 = ap (λ (v : Unsending). v.vr) cl.same ∙ r.vr in
            let given = ap length (ap (λ (v : Unsending). v.given) cl.same) in
            let first = ap (λ (v : Unsending). v.first) cl.same in
            let none : pending t.end ≡ 0 = ap pending_in r.none in
            let all = r.all in
            let few = r.few in
            let q = r.queue in
            let l = cl.light in
            let fewer = cl.fewer in
            let count = cl.count in
            let vs = r.vs in
            let f = fresh peer.end.window.rejecting in
            let one = fresh_few peer.end.window.rejecting in
            let was : load e peer.end out ≡ 3 * unsent e + 1 + extra peer.end out =
            ap (λ st. load_in st e.release_pending (unsent e) (missing e peer.end) f
            (extra peer.end out)) is
            ∙ ap (λ b. load_in AwaitingEstablishment b (unsent e) (missing e peer.end) f
            (extra peer.end out)) stays in
            let now : load u.end peer.end (out ++ kinds cl.frames) ≡ 3 * unsent u.end + 2 * missing
            u.end peer.end + f + once_more u.end.state (missing u.end peer.end) =
            load_open u.end.state u.end.release_pending (unsent u.end)
            (missing u.end peer.end) f (extra peer.end (out ++ kinds cl.frames))
            (ap is_7_or_8 in_7) in
            let again = none_more u.end.state (missing u.end peer.end) in_7 in
            let lack =
            lacked u.end cl.sent (is_7_or_8 peer.end.state) (omega (arith, count, vs))
            (omega (arith, given, first, all, fewer)) in
            let rejecting : u.end.window.rejecting ≡ e.window.rejecting =
            ap (λ (v : Unsending). v.rejecting) cl.same ∙ r.rejecting in
            record {
              new = cl.frames;
              sent = cl.line ∙ ap (λ l. l ++ cl.frames) r.sent;
              advances = record {
                relief = 0;
                mine =
                    λ n share. pays Accepts u.end cl.frames
                    (omega (arith, was, now, again, lack, one, none, few, fewer, l)) n share;
                its_load = its_loaded u.end in_7 vr rejecting (is_7_or_8 peer.end.state) refl;
                its =
                    λ p. (
                      record {
                        in_7 = p.in_7;
                        wanted = none_rejected out (kinds cl.frames) p.wanted cl.rejects_none;
                        hears = inr (by_hearing u.end in_7 vr p.hears);
                      },
                      let less = less_missing u.end in_7 vr (ap is_7_or_8 p.in_7) in
                          omega (arith, less),
                    );
              };
              fewer = omega (arith, given, first, all, few, q);
              free = λ was o. ap (λ (v : Unsending). v.own_busy) cl.same ∙ r.idle;
            }
          where
            lacked : (x : End) (count : ℕ) (open_state : Bool) → x.window.vs ≡ count
                → waiting x ≡ unsent x + count
                → missing_in open_state x.window.vs peer.end.window.vr (waiting x) (unsent x)
                ≤ count
            lacked x count true vs all = omega (arith, vs)
            lacked x count false vs all = omega (arith, all)

            less_missing : (x : End) → x.state ≡ MultipleFrameEstablished → x.window.vr ≡ 0
                → is_7_or_8 peer.end.state ≡ true → missing peer.end x ≤ missing peer.end e
            less_missing x in_7 vr opened =
                let now : missing peer.end x ≡ peer.end.window.vs - x.window.vr =
                ap (λ b. missing_in b peer.end.window.vs x.window.vr (waiting peer.end)
                (unsent peer.end)) (ap is_7_or_8 in_7) in
                let was : missing peer.end e ≡ waiting peer.end - unsent peer.end =
                ap (λ b. missing_in b peer.end.window.vs e.window.vr (waiting peer.end)
                (unsent peer.end)) closed in
                let le = peer_missing opened in
                omega (arith, now, was, le, vr)

            fewer_extra : (x : End) → extra x ks + 0 ≤ extra e (Accepts ∷ ks)
            fewer_extra x =
                let few = extra_few x ks in let all = extra_behind in omega (arith, few, all)

            its_loaded : (x : End) → x.state ≡ MultipleFrameEstablished → x.window.vr ≡ 0
                → x.window.rejecting ≡ e.window.rejecting → (open_state : Bool)
                → is_7_or_8 peer.end.state ≡ open_state
                → load peer.end x ks + 0 ≤ load peer.end e (Accepts ∷ ks)
            its_loaded x in_7 vr rejecting true opened =
                let less = less_missing x in_7 vr opened in
                let rej = ap fresh rejecting in
                load_less peer.end.state peer.end.release_pending (unsent peer.end)
                (missing peer.end e) (fresh e.window.rejecting) (extra e (Accepts ∷ ks))
                (missing peer.end x) (fresh x.window.rejecting) (extra x ks) 0
                (fresh_few e.window.rejecting) (omega (arith, less, rej)) (fewer_extra x)
            its_loaded x in_7 vr rejecting false shut =
                load_closed peer.end.state peer.end.release_pending (unsent peer.end)
                (missing peer.end e) (fresh e.window.rejecting) (extra e (Accepts ∷ ks))
                (missing peer.end x) (fresh x.window.rejecting) (extra x ks) shut
                (let few = fewer_extra x in omega (arith, few))

            by_hearing : (x : End) → x.state ≡ MultipleFrameEstablished → x.window.vr ≡ 0
                → Hears peer.end.window.vs e (Accepts ∷ ks)
                → OnReception (Arrives peer.end.window.vs) (heard x ks)
            by_hearing x in_7 vr (inl busy) = impossible (is_7_or_8 e.state) busy.0 closed
            by_hearing x in_7 vr (inr a) =
                let whole : IsWhole 0 peer.end.window.vs (messages ks) =
                behind_ua (Arrives peer.end.window.vs) a in
                heard_in (Arrives peer.end.window.vs) x ks (ap is_7_or_8 in_7)
                (in_transit_of_whole x.window.rejecting x.window.vr peer.end.window.vs
                (messages ks)
                (subst (λ n. IsWhole n peer.end.window.vs (messages ks)) (sym vr) whole))

        abbrev opening : StepState → StepState
        opening d =
            d ▷ zero_state_variables ▷ stop T200 ▷ start T203 ▷ state_to MultipleFrameEstablished

        consistent : IsConsistentSender AwaitingEstablishment e.layer3_initiated false
            (seen c s).sends
        unfolding begin
        consistent =
            subst
            (λ b. IsConsistentSender AwaitingEstablishment e.layer3_initiated b (seen c s).sends)
            stays (subst
            (λ st. IsConsistentSender st e.layer3_initiated e.release_pending (seen c s).sends) is
            arrived.mine.preserved)

        confirms : e.layer3_initiated ≡ true → Opening (opening (put Confirmed s))
        unfolding put zero_state_variables stop start state_to begin with_zero_counters story_after
        confirms asked =
            let none : IsEmpty (seen c s).sends =
            subst (λ b. IsConsistentSender AwaitingEstablishment b false (seen c s).sends)
            asked consistent in
            let first : e.first ≡ length e.given = none.first in
            let next : e.next ≡ length e.given = none.next in
            record {
              sent = opened_line e.t200 _ _;
              in_7 = refl;
              vs = refl;
              vr = refl;
              rejecting = refl;
              idle = cleared.idle;
              none = cleared.none_pending;
              all = omega (arith, first, next);
              few = omega arith;
              queue = omega (arith, first, next);
            }

        indicates : e.layer3_initiated ≡ false → (test : Bool)
            → (s.end.window.vs == s.end.window.va) ≡ test → Opening (opening (discards_by test s))
        unfolding zero_state_variables stop start state_to begin with_zero_counters story_after
        indicates itself true same =
            let h : IsHolding (seen c s).sends =
            subst (λ b. IsConsistentSender AwaitingEstablishment b false (seen c s).sends)
            itself consistent in
            let first : e.first ≡ base + e.window.va = h.first in
            let next : e.next ≡ base + e.window.vs = h.next in
            let equal : e.window.vs ≡ e.window.va = eqb-true e.window.vs e.window.va same in
            record {
              sent = indicated_line true (nat_lt 0 (waiting e)) e.t200 (waiting e) _ _;
              in_7 = refl;
              vs = refl;
              vr = refl;
              rejecting = refl;
              idle = cleared.idle;
              none = cleared.none_pending;
              all = omega (arith, first, next, equal);
              few = omega arith;
              queue = omega (arith, first, next, equal);
            }
        indicates itself false other =
            let h : IsHolding (seen c s).sends =
            subst (λ b. IsConsistentSender AwaitingEstablishment b false (seen c s).sends)
            itself consistent in
            let first : e.first ≡ base + e.window.va = h.first in
            let next : e.next ≡ base + e.window.vs = h.next in
            let ordered : e.window.va ≤ e.window.vs = h.ordered in
            record {
              sent = indicated_line false (nat_lt 0 (waiting e)) e.t200 (waiting e) _ _;
              in_7 = refl;
              vs = refl;
              vr = refl;
              rejecting = refl;
              idle = cleared.idle;
              none = cleared.none_pending;
              all = omega arith;
              few = omega arith;
              queue = omega (arith, first, next, ordered);
            }

        opens : Done Accepts
            (s ▷ confirm_or_indicate ▷ zero_state_variables ▷ stop T200 ▷ start T203
            ▷ state_to MultipleFrameEstablished)
        unfolding confirm_or_indicate begin
        opens =
            by_test (λ (d : StepState). Done Accepts (opening d)) e.layer3_initiated _ _
            (λ asked. by_opening (opening (put Confirmed s)) (confirms asked))
            (λ itself. by_each (λ (d : StepState). Done Accepts (opening d)) s
            (λ test same. by_opening (opening (discards_by test s))
            (indicates itself test same)))

      answered : Arriving Accepts → Done Accepts (ua_final s)
      unfolding ua_final begin
      answered b =
          by_test (λ (t : StepState). Done Accepts t) e.release_pending _ _ leaves
          (λ stays. opens stays b)

      in_state_5 : (control : Control) (role : Role) → is_unit_data control role ≡ false
          → Arriving (kind_of role control frame.info frame.place)
          → Done (kind_of role control frame.info frame.place)
          (awaiting_establishment (Heard control role) s)
      unfolding awaiting_establishment
      in_state_5 (Sabme true) Command no_unit b = by_ua b
      in_state_5 (Sabme false) Command no_unit b = absurd (no_foreign c ks s b)
      in_state_5 (Disc true) Command no_unit b = by_dm b
      in_state_5 (Disc false) Command no_unit b = absurd (no_foreign c ks s b)
      in_state_5 (Ua true) Answer no_unit b = answered b
      in_state_5 (Ua false) Answer no_unit b = absurd (no_foreign c ks s b)
      in_state_5 (Dm true) Answer no_unit b = refused
      in_state_5 (Dm false) Answer no_unit b = absurd (no_foreign c ks s b)
      in_state_5 control role no_unit b =
          ignored (kind_of role control frame.info frame.place)
          (weight_some (kind_of role control frame.info frame.place))
          (λ in_5. not_ua control role frame.info frame.place refl)

    by_closed_state : (state : State) (control : Control) (role : Role) → e.state ≡ state
        → is_7_or_8 state ≡ false → is_unit_data control role ≡ false
        → Arriving (kind_of role control frame.info frame.place)
        → Done (kind_of role control frame.info frame.place)
        (by_state Whole state (Heard control role) s)
    unfolding by_state
    by_closed_state TeiAssigned control role is shut no_unit b =
        in_state_4 is control role no_unit b
    by_closed_state AwaitingEstablishment control role is shut no_unit b =
        in_state_5 is control role no_unit b
    by_closed_state AwaitingRelease control role is shut no_unit b =
        in_state_6 is control role no_unit b
    by_closed_state MultipleFrameEstablished control role is shut no_unit b = cc
    by_closed_state TimerRecovery control role is shut no_unit b = cc

    pub closed_delivered : Done (kind frame) (row Whole e.state (Heard frame.control frame.role) s)
    unfolding row
    closed_delivered =
        by_test (λ (t : StepState). Done (kind frame) t) (is_unit_data frame.control frame.role) _ _
        (λ unit. by_unit (kind frame)
        (unit_kind frame.control frame.role frame.info frame.place unit))
        (λ no_unit. by_closed_state e.state frame.control frame.role refl closed no_unit arrived)
