-- Any frame is delivered to an end in state 7 or 8.
use Rattle.std.proofs.Common.{◌≡◌, ◌⊎◌, inl, inr, ℕ, ◌+◌, ◌-◌, ◌*◌, ◌≤◌, ◌==◌, nat_lt, if◌then◌else◌, Bool, true, false, List, [], ◌∷◌, ◌++◌, length, option_map, append_assoc, append-nil, refl, sym, ap, subst, ◌∙◌, arith}
use Rattle.std.proofs.lemmas.Bool.{eqb-true}
use Rattle.lapd_timers.specs.declared.timer.Timer.TheVariants.{T200, T203}
use Rattle.lapd_frame.specs.declared.Role.{Role}
use Rattle.lapd_frame.specs.declared.Role.TheVariants.{Command, Answer}
use Rattle.lapd_frame.specs.declared.Control.{Control}
use Rattle.lapd_frame.specs.declared.Control.TheVariants.{I, Rr, Rnr, Rej, Sabme, Dm, Ui, Disc, Ua}
use Rattle.lapd_mod128.specs.Counting.{Whole}
use Rattle.lapd_supervision.specs.StateVariables.{without_exceptions, with_zero_counters}
use Rattle.lapd_link_definition.specs.declared.state.State.{State}
use Rattle.lapd_link_definition.specs.declared.state.State.TheVariants.{TeiAssigned, AwaitingEstablishment, AwaitingRelease, MultipleFrameEstablished, TimerRecovery}
use Rattle.lapd_link_definition.specs.declared.out.Letter.TheVariants as letter
use Rattle.lapd_link_definition.specs.declared.out.Out.TheVariants.{Send, Start, Stop, Report, Dropped, Released, Established, UnitUp}
use Rattle.lapd_link_definition.specs.EndOfStep.{is_7_or_8, end_step}
use Rattle.lapd_link_definition.specs.End.{End, StepState, ◌▷◌, begin, unsent, waiting}
use Rattle.lapd_link_definition.specs.Established.{in_7_and_8, multiple_frame_established}
use Rattle.lapd_link_definition.specs.Input.{Heard}
use Rattle.lapd_link_definition.specs.Procedures.{out_where, put, state_to, start, stop, clear_exception_conditions, zero_state_variables, discard_i_queue}
use Rattle.lapd_link_definition.specs.Table.{by_state, row, is_unit_data}
use Rattle.lapd_link_definition.specs.TimerRecovery.{timer_recovery}
use Rattle.lapd_pair_laws.specs.Histories.{Occasion, Story, after_outputs}
use Rattle.lapd_pair_laws.specs.Line.{Flight, without_info}
use Rattle.lapd_pair_laws.specs.Move.{Station, View, story_after}
use Rattle.lapd_pair_laws.specs.Kinds.{Kind, Asks, Accepts, Refuses, Unnumbered, kind, kind_of, kinds, messages, rejections, tally, ask_of, answer_of, poll_of, final_of}
use Rattle.lapd_pair_laws.specs.Parties.{party, next_reception, received_in, OnReception}
use Rattle.lapd_pair_laws.specs.Conjuncts.{IsNumbering, most_asks}
use Rattle.lapd_pair_laws.specs.Invariant.{Both}
use Rattle.lapd_pair_laws.specs.Timed.{IsSettledEnd}
use Rattle.lapd_pair_laws.proofs.ActionEffects.{Context, story, seen, line, HoldsMid}
use Rattle.lapd_pair_laws.proofs.ClosedActions.{closes_nothing}
use Rattle.lapd_pair_laws.proofs.Flow.{IsWhole, fresh}
use Rattle.lapd_pair_laws.proofs.Lists.{by_test, tally_append}
use Rattle.lapd_pair_laws.proofs.MidSteps.{enter, numbering, open_asks_none}
use Rattle.lapd_pair_laws.proofs.OpenRows.{no_foreign}
use Rattle.lapd_pair_laws.proofs.Steps.{context, begun}
use Rattle.lapd_pair_laws.proofs.Closed.{unsaid_rejections}
use Rattle.lapd_pair_laws.proofs.Closings.{most_is_one}
use Rattle.lapd_recovery_laws.proofs.EndSends.{Unsending, pending_in, pending, kinds_append, end_closes}
use Rattle.lapd_recovery_laws.proofs.LoneSteps.{is_ignored}
use Rattle.lapd_recovery_laws.proofs.OpenDelivers.{Delivered, by_answer, answered_so, by_back}
use Rattle.lapd_recovery_laws.proofs.Proceeding.{weigh, plain_of, heard, extra, extra_few, extra_open, extra_first, Arrives, behind_first, missing_in, missing, load, load_open, load_closed, once_more, none_more, Share, Pays}
use Rattle.lapd_recovery_laws.proofs.Replies.{Sending, Keeps, Replies, Backs, Turns, passes}
use Rattle.lapd_recovery_laws.proofs.RepliesOfRows.{i_in_7, i_in_8, rr_in_7, rr_in_8, rnr_in_7, rnr_in_8, rej_in_7, rej_in_8}
use Rattle.lapd_recovery_laws.proofs.SendsOn.{discards_by, by_each}

-- the frames but for the messages, of each case
reset_line : (test c b : Bool) (n : ℕ) (o : Occasion) (t : Story)
    → (after_outputs o (((Send Answer (Ua true) ∷ Report letter.F ∷ [])
    ++ (if test then [] else out_where c (Dropped n) ++ Established ∷ []))
    ++ out_where b (Stop T200) ++ Start T203 ∷ []) t).line ≡ t.line
    ++ without_info Answer (Ua true) ∷ []
reset_line true c true n o t = refl
reset_line true c false n o t = refl
reset_line false true true n o t = refl
reset_line false true false n o t = refl
reset_line false false true n o t = refl
reset_line false false false n o t = refl

released_line : (c b d : Bool) (n : ℕ) (o : Occasion) (t : Story)
    → (after_outputs o ((((out_where c (Dropped n) ++ Send Answer (Ua true) ∷ []) ++ Released ∷ [])
    ++ out_where b (Stop T200)) ++ out_where d (Stop T203)) t).line ≡ t.line
    ++ without_info Answer (Ua true) ∷ []
released_line true true true n o t = refl
released_line true true false n o t = refl
released_line true false true n o t = refl
released_line true false false n o t = refl
released_line false true true n o t = refl
released_line false true false n o t = refl
released_line false false true n o t = refl
released_line false false false n o t = refl

-- the peer establishes: messages from 0 on follow the UA
pub reset_arrives : (state : State) (leaving : Bool) (vs va vr end : ℕ) (rejecting : Bool)
    (out fs : List Kind) → is_7_or_8 state ≡ false → tally answer_of out ≡ 0
    → IsWhole 0 end (messages fs)
    → OnReception (Arrives end) (received_in state leaving
    (record {
      vs = vs;
      va = va;
      vr = vr;
      rejecting = rejecting;
      frames = out ++ Accepts ∷ fs;
    }) (out ++ Accepts ∷ fs))
reset_arrives TeiAssigned leaving vs va vr end rejecting out fs closed none w = tt
reset_arrives AwaitingEstablishment true vs va vr end rejecting out fs closed none w = tt
reset_arrives AwaitingEstablishment false vs va vr end rejecting out fs closed none w =
    subst (λ o. OnReception (Arrives end) (option_map next_reception o))
    (sym (behind_first out fs none)) w
reset_arrives AwaitingRelease leaving vs va vr end rejecting out fs closed none w = tt
reset_arrives MultipleFrameEstablished leaving vs va vr end rejecting out fs closed none w = cc
reset_arrives TimerRecovery leaving vs va vr end rejecting out fs closed none w = cc

pub asks_closed : (state : State) → 1 ≤ most_asks state → is_7_or_8 state ≡ false
asks_closed MultipleFrameEstablished some = absurd (omega (arith, some))
asks_closed TimerRecovery some = absurd (omega (arith, some))
asks_closed state some = refl

pub unit_kind : (control : Control) (role : Role) (octets : List ℕ) (place : ℕ)
    → is_unit_data control role ≡ true → kind_of role control octets place ≡ Unnumbered
unit_kind (Ui p) Command octets place is = refl
unit_kind control role octets place is = cc

-- a SABME, a DISC, or no request
abbrev pub IsSabme : Control → Role → Type 0
IsSabme control role = (control ≡ Sabme true) × (role ≡ Command)

abbrev pub IsDisc : Control → Role → Type 0
IsDisc control role = (control ≡ Disc true) × (role ≡ Command)

pub requested : (control : Control) (role : Role) (info : List ℕ) (place : ℕ)
    → IsSabme control role ⊎ (IsDisc control role ⊎ (ask_of (kind_of role control info place) ≡ 0))
requested (Sabme true) Command info place = inl (refl, refl)
requested (Disc true) Command info place = inr (inl (refl, refl))
requested (Rr nr true) Command info place = inr (inr refl)
requested (Rnr nr true) Command info place = inr (inr refl)
requested (Rr nr true) Answer info place = inr (inr refl)
requested (Rnr nr true) Answer info place = inr (inr refl)
requested (Rej nr true) Answer info place = inr (inr refl)
requested (Rr nr false) Answer info place = inr (inr refl)
requested (Rnr nr false) Answer info place = inr (inr refl)
requested (Rej nr false) Answer info place = inr (inr refl)
requested (Ua true) Answer info place = inr (inr refl)
requested (Dm true) Answer info place = inr (inr refl)
requested control Command info place = inr (inr refl)
requested control Answer info place = inr (inr refl)

no_request : (control : Control) (role : Role) (info : List ℕ) (place : ℕ)
    → is_ignored control ≡ true → ask_of (kind_of role control info place) ≡ 0
no_request control role info place ignored = by_request (requested control role info place)
  where
    by_request : IsSabme control role
        ⊎ (IsDisc control role ⊎ (ask_of (kind_of role control info place) ≡ 0))
        → ask_of (kind_of role control info place) ≡ 0
    by_request (inl is) =
        absurd (let impossible : is_ignored control ≡ false = ap is_ignored is.0 in cc)
    by_request (inr (inl is)) =
        absurd (let impossible : is_ignored control ≡ false = ap is_ignored is.0 in cc)
    by_request (inr (inr none)) = none

-- DM frames
abbrev pub refuse_of : Kind → ℕ
refuse_of Refuses = 1
refuse_of k = 0

refused_one : (k : Kind) → refuse_of k ≤ answer_of k
refused_one Refuses = omega arith
refused_one k = omega arith

pub refused_few : (ks : List Kind) → tally refuse_of ks ≤ tally answer_of ks
refused_few [] = omega arith
refused_few (k ∷ ks) =
    let one = refused_one k in let rest = refused_few ks in omega (arith, one, rest)

-- An end in state 7 or 8 stays so, drops no message, keeps RC while it is in state 8, and answers a
-- poll by a final.
pub record Stays (before : End) (dropped_before : List ℕ) (k : Kind) (outgoing : List Flight)
    (x : End) (dropped : List ℕ) (line : List Flight) : Type 0 where
  pub open_state : is_7_or_8 x.state ≡ true
  pub none_dropped : dropped ≡ dropped_before
  pub in_8 : x.state ≡ TimerRecovery
      → (before.state ≡ TimerRecovery) × (x.rc ≡ before.rc) × (final_of k ≡ 0)
  pub finals : poll_of k + tally final_of (kinds outgoing) ≤ tally final_of (kinds line)
  pub polls : tally poll_of (kinds outgoing) ≤ tally poll_of (kinds line)

tally_line : (f : Kind → ℕ) (line outgoing fs gs : List Flight) → line ≡ outgoing ++ (fs ++ gs)
    → tally f (kinds line) ≡ tally f (kinds outgoing) + (tally f (kinds fs) + tally f (kinds gs))
tally_line f line outgoing fs gs is =
    let all : tally f (kinds line) ≡ tally f (kinds (outgoing ++ (fs ++ gs))) =
    ap (λ l. tally f (kinds l)) is in
    let one : tally f (kinds (outgoing ++ (fs ++ gs))) ≡ tally f
    (kinds outgoing ++ kinds (fs ++ gs)) =
    ap (λ l. tally f l) (kinds_append outgoing (fs ++ gs)) in
    let two = tally_append f (kinds outgoing) (kinds (fs ++ gs)) in
    let three : tally f (kinds (fs ++ gs)) ≡ tally f (kinds fs ++ kinds gs) =
    ap (λ l. tally f l) (kinds_append fs gs) in
    let four = tally_append f (kinds fs) (kinds gs) in
    omega (arith, all, one, two, three, four)

module _ (station peer : Station) (frame : Flight) (rest outgoing : List Flight) (base its_base : ℕ)
    (settled : IsSettledEnd station.end) (opened : is_7_or_8 station.end.state ≡ true)
    (both : Both (party base station) (party its_base peer) (kinds outgoing) (kinds (frame ∷ rest)))
  where
    abbrev v : View
    v = record { station = station; incoming = frame ∷ rest; outgoing = outgoing }

    abbrev c : Context
    c = context base frame.info frame.place v rest peer its_base

    abbrev e : End
    e = station.end

    abbrev s : StepState
    s = begin e

    abbrev ks : List Kind
    ks = kinds rest

    abbrev out : List Kind
    out = kinds outgoing

    abbrev Open : Kind → StepState → Type 0
    Open k t =
        Stays e station.history.dropped k outgoing (end_step Whole t).end
        (story c (end_step Whole t)).history.dropped (story c (end_step Whole t)).line

    -- no DM is sent, and a SABME or DISC is answered
    abbrev Unrefused : Kind → StepState → Type 0
    Unrefused k t =
        (tally refuse_of (kinds (story c t).line) ≡ tally refuse_of out)
        × (ask_of k + tally answer_of out ≤ tally answer_of (kinds (story c t).line))
        × (tally ask_of out ≤ tally ask_of (kinds (story c t).line))

    abbrev Done : Kind → StepState → Type 0
    Done k t =
        Delivered e peer.end k ks outgoing (end_step Whole t).end (story c (end_step Whole t)).line
        × ((ask_of k ≡ 0 → Open k t × Turns c k ks s t) × Unrefused k (end_step Whole t))

    abbrev Arriving : Kind → Type 0
    Arriving k = HoldsMid c (k ∷ ks) s

    arrived : Arriving (kind frame)
    unfolding story_after begin
    arrived =
        enter (seen c s) c.peer (line c s) (kind frame ∷ ks) opened (begun c (kind frame ∷ ks) both)

    none_pending : e.window.ack_pending ≡ false
    none_pending = settled.closed.acknowledged opened

    open_answer : (k : Kind) (t : StepState) → Replies c k s t → Open k t
    unfolding begin story_after
    open_answer k t r =
        let cl = end_closes c t in
        let u = end_step Whole t in
        let state : u.end.state ≡ e.state =
        ap (λ (v : Unsending). v.state) cl.same
        ∙ ap (λ (v : Sending). v.state) r.sending_same in
        let line : (story c u).line ≡ outgoing ++ (r.frames ++ cl.frames) =
        cl.line ∙ ap (λ l. l ++ cl.frames) r.line
        ∙ append_assoc outgoing r.frames cl.frames in
        let f = tally_line final_of (story c u).line outgoing r.frames cl.frames line in
        let p = tally_line poll_of (story c u).line outgoing r.frames cl.frames line in
        let answered = r.finals in
        record {
          open_state = ap is_7_or_8 state ∙ opened;
          none_dropped = cl.calm.dropped ∙ r.calm.dropped;
          in_8 = λ is. (sym state ∙ is, cl.calm.rc ∙ r.calm.rc, r.no_final);
          finals = omega (arith, f, answered);
          polls = omega (arith, p);
        }

    open_back : (k : Kind) (t : StepState) → Backs c k ks s t → Open k t
    unfolding begin story_after
    open_back k t b =
        let cl = end_closes c t in
        let u = end_step Whole t in
        let state : u.end.state ≡ MultipleFrameEstablished =
        ap (λ (v : Unsending). v.state) cl.same ∙ b.in_7 in
        let line : (story c u).line ≡ outgoing ++ ([] ++ cl.frames) =
        cl.line ∙ ap (λ l. l ++ cl.frames) b.line in
        let f = tally_line final_of (story c u).line outgoing [] cl.frames line in
        let p = tally_line poll_of (story c u).line outgoing [] cl.frames line in
        let none = b.no_poll in
        record {
          open_state = ap is_7_or_8 state;
          none_dropped = cl.calm.dropped ∙ b.calm.dropped;
          in_8 =
              λ is. let impossible : MultipleFrameEstablished ≡ TimerRecovery = sym state ∙ is in
              cc;
          finals = omega (arith, f, none);
          polls = omega (arith, p);
        }

    unrefused : (k : Kind) (t : StepState) (frames : List Flight)
        → (story c t).line ≡ outgoing ++ frames → tally refuse_of (kinds frames) ≡ 0
        → ask_of k ≤ tally answer_of (kinds frames) → Unrefused k (end_step Whole t)
    unrefused k t frames sent none answers =
        let cl = end_closes c t in
        let line : (story c (end_step Whole t)).line ≡ outgoing ++ (frames ++ cl.frames) =
        cl.line ∙ ap (λ l. l ++ cl.frames) sent ∙ append_assoc outgoing frames cl.frames in
        let all =
        tally_line refuse_of (story c (end_step Whole t)).line outgoing frames cl.frames
        line in
        let few = refused_few (kinds cl.frames) in
        let nothing = cl.no_answer in
        let answered =
        tally_line answer_of (story c (end_step Whole t)).line outgoing frames cl.frames line in
        let asked =
        tally_line ask_of (story c (end_step Whole t)).line outgoing frames cl.frames line in
        (omega (arith, all, none, few, nothing), omega (arith, answered, answers), omega (arith, asked))

    answer_unrefused : (k : Kind) (t : StepState) → ask_of k ≡ 0 → Replies c k s t
        → Unrefused k (end_step Whole t)
    unfolding begin story_after
    answer_unrefused k t no_ask r =
        unrefused k t r.frames r.line
        (let few = refused_few (kinds r.frames) in
        let none = r.no_answer in omega (arith, few, none)) (omega (arith, no_ask))

    back_unrefused : (k : Kind) (t : StepState) → ask_of k ≡ 0 → Backs c k ks s t
        → Unrefused k (end_step Whole t)
    unfolding begin story_after
    back_unrefused k t no_ask b =
        unrefused k t [] (b.line ∙ sym (append-nil outgoing)) refl (omega (arith, no_ask))

    by_turn : (k : Kind) (t : StepState) → ask_of k ≡ 0 → Turns c k ks s t → Done k t
    unfolding begin story_after
    by_turn k t no_ask (inl r) = (
      by_answer e
          (end_step Whole t).end peer.end k ks outgoing (story c (end_step Whole t)).line opened
          (answered_so c k s t outgoing refl r),
      (λ _. (open_answer k t r, inl r), answer_unrefused k t no_ask r),
    )
    by_turn k t no_ask (inr b) = (
      by_back c peer.end k ks s t outgoing refl opened b b.arrives b.awaited
          (ap pending_in none_pending) (λ p. b.unwanted p.in_7 p.wanted),
      (λ _. (open_back k t b, inr b), back_unrefused k t no_ask b),
    )

    queue : unsent e ≤ waiting e
    unfolding begin
    queue =
        let n : IsNumbering (seen c s).sends = numbering arrived in
        let first : e.first ≡ base + e.window.va = n.first in
        let next : e.next ≡ base + e.window.vs = n.next in
        let ordered : e.window.va ≤ e.window.vs = n.ordered in
        omega (arith, first, next, ordered)

    -- ---- A SABME or DISC arrives.

    module _ (m : Arriving Asks) where
      asks_one : 1 + tally answer_of out ≤ most_asks peer.end.state
      unfolding begin story_after
      asks_one = let one = m.its.exchange.one in omega (arith, one)

      no_ua : tally answer_of out ≡ 0
      no_ua =
          let one = asks_one in let most = most_is_one peer.end.state in omega (arith, one, most)

      peer_asks : 1 ≤ most_asks peer.end.state
      peer_asks = let one = asks_one in omega (arith, one)

      nothing_behind : rejections ks ≡ []
      nothing_behind = unsaid_rejections ks (m.its.exchange.behind.0 (omega arith))

      not_in_7 : peer.end.state ≡ MultipleFrameEstablished → ⊥
      not_in_7 is =
          let none : most_asks peer.end.state ≡ 0 = ap most_asks is in
          let some = peer_asks in omega (arith, none, some)

      -- the end before its messages are sent
      record Resets (t : StepState) : Type 0 where
        sent : (story c t).line ≡ outgoing ++ without_info Answer (Ua true) ∷ []
        in_7 : t.end.state ≡ MultipleFrameEstablished
        vs : t.end.window.vs ≡ 0
        idle : t.end.window.own_busy ≡ false
        none : t.end.window.ack_pending ≡ false
        all : waiting t.end ≡ unsent t.end
        few : unsent t.end ≤ unsent e

      closed : is_7_or_8 peer.end.state ≡ false
      closed = asks_closed peer.end.state peer_asks

      pays : (u : End) (frames : List Flight) (queued count : ℕ)
          → u.state ≡ MultipleFrameEstablished
          → waiting u ≡ queued → unsent u + count ≡ queued → weigh (kinds frames) ≤ count
          → queued ≤ unsent e
          → OnReception (Arrives u.window.vs) (heard peer.end (out ++ Accepts ∷ kinds frames))
          → (n : ℕ) → Share e peer.end out (Asks ∷ ks) n
          → Pays u peer.end (out ++ Accepts ∷ kinds frames) ks
          (n + 2 + 0 - (1 + weigh (kinds frames)))
      pays u frames queued count in_7 all fewer light few arrives n (inl enough) =
          let f = fresh peer.end.window.rejecting in
          let was : load e peer.end out ≡ 3 * unsent e + 2 * missing e peer.end + f + once_more
          e.state (missing e peer.end) =
          load_open e.state e.release_pending (unsent e) (missing e peer.end) f
          (extra peer.end out) opened in
          let now : load u peer.end (out ++ Accepts ∷ kinds frames) ≡ 3 * unsent u + 2 * missing u
          peer.end + f + once_more u.state (missing u peer.end) =
          load_open u.state u.release_pending (unsent u) (missing u peer.end) f
          (extra peer.end (out ++ Accepts ∷ kinds frames)) (ap is_7_or_8 in_7) in
          let lacks : missing u peer.end ≡ waiting u - unsent u =
          ap (λ b. missing_in b u.window.vs peer.end.window.vr (waiting u) (unsent u))
          closed in
          record {
            a = load u peer.end (out ++ Accepts ∷ kinds frames);
            share = inl (omega arith);
            most =
                let none = none_more u.state (missing u peer.end) in_7 in
                omega (arith, was, now, none, lacks, all, fewer, light, few, enough);
          }
      pays u frames queued count in_7 all fewer light few arrives n (inr p) =
          let enough = p.1 in
          let lacks : missing u peer.end ≡ waiting u - unsent u =
          ap (λ b. missing_in b u.window.vs peer.end.window.vr (waiting u) (unsent u))
          closed in
          record {
            a = 3 * unsent u + missing u peer.end;
            share =
                inr
                (record { in_7 = in_7; wanted = nothing_behind; hears = inr arrives }, omega arith);
            most = omega (arith, lacks, all, fewer, light, few, enough);
          }

      -- the peer is closed
      closed_falls : (x : End) → extra x ks ≤ tally plain_of ks
          → load peer.end x ks + 0 ≤ load peer.end e (Asks ∷ ks)
      closed_falls x some =
          let all = extra_open e (Asks ∷ ks) opened in
          load_closed peer.end.state peer.end.release_pending (unsent peer.end) (missing peer.end e)
          (fresh e.window.rejecting) (extra e (Asks ∷ ks)) (missing peer.end x)
          (fresh x.window.rejecting) (extra x ks) closed (omega (arith, some, all))

      by_reset : (t : StepState) → Resets t → Done Asks t
      by_reset t r =
          let u = end_step Whole t in
          let cl = end_closes c t in
          let fs = kinds cl.frames in
          let given = ap length (ap (λ (v : Unsending). v.given) cl.same) in
          let first = ap (λ (v : Unsending). v.first) cl.same in
          let none : pending t.end ≡ 0 = ap pending_in r.none in
          let all = r.all in
          let few = r.few in
          let l = cl.light in
          let fewer = cl.fewer in
          let q = queue in
          let whole : IsWhole 0 u.end.window.vs (messages fs) =
          subst (λ n. IsWhole n u.end.window.vs (messages fs)) r.vs cl.whole in
          let arrives : OnReception (Arrives u.end.window.vs)
          (heard peer.end (out ++ Accepts ∷ fs)) =
          reset_arrives peer.end.state peer.end.release_pending peer.end.window.vs
          peer.end.window.va peer.end.window.vr u.end.window.vs peer.end.window.rejecting out
          fs closed no_ua whole in (
            record {
              new = without_info Answer (Ua true) ∷ cl.frames;
              sent =
                  cl.line ∙ ap (λ l. l ++ cl.frames) r.sent
                  ∙ append_assoc outgoing (without_info Answer (Ua true) ∷ []) cl.frames;
              advances = record {
                relief = 0;
                mine =
                    pays u.end cl.frames (unsent t.end) cl.sent
                    (ap (λ (v : Unsending). v.state) cl.same ∙ r.in_7)
                    (omega (arith, given, first, all)) fewer (omega (arith, l, none)) few arrives;
                its_load = closed_falls u.end (extra_few u.end ks);
                its = λ p. absurd (not_in_7 p.in_7);
              };
              fewer = omega (arith, given, first, all, few, q);
              free = λ was o. ap (λ (v : Unsending). v.own_busy) cl.same ∙ r.idle;
            },
            (
              λ asked. cc,
              unrefused Asks t (without_info Answer (Ua true) ∷ []) r.sent refl (omega arith),
            ),
          )

      abbrev reset : StepState → StepState
      reset d =
          d ▷ stop T200 ▷ start T203 ▷ zero_state_variables ▷ state_to MultipleFrameEstablished

      abbrev answered : StepState
      answered =
          s ▷ put (Send Answer (Ua true)) ▷ clear_exception_conditions ▷ put (Report letter.F)

      resets : (test : Bool) → (answered.end.window.vs == answered.end.window.va) ≡ test
          → Resets (reset (discards_by test answered))
      unfolding put clear_exception_conditions stop start zero_state_variables state_to begin
          without_exceptions with_zero_counters story_after
      resets true same =
          let n : IsNumbering (seen c s).sends = numbering arrived in
          let first : e.first ≡ base + e.window.va = n.first in
          let next : e.next ≡ base + e.window.vs = n.next in
          let equal : e.window.vs ≡ e.window.va = eqb-true e.window.vs e.window.va same in
          record {
            sent = reset_line true (nat_lt 0 (waiting e)) e.t200 (waiting e) _ _;
            in_7 = refl;
            vs = refl;
            idle = refl;
            none = refl;
            all = omega (arith, first, next, equal);
            few = omega arith;
          }
      resets false other = record {
        sent =
            reset_line false (nat_lt 0 (waiting e)) e.t200 (waiting e) _ _;
        in_7 = refl;
        vs = refl;
        idle = refl;
        none = refl;
        all = omega arith;
        few = omega arith;
      }

      by_sabme : Done Asks (in_7_and_8 (Heard (Sabme true) Command) s)
      unfolding in_7_and_8
      by_sabme =
          by_each (λ (d : StepState). Done Asks (reset d)) answered
          (λ test same. by_reset (reset (discards_by test answered)) (resets test same))

      by_disc : Done Asks (in_7_and_8 (Heard (Disc true) Command) s)
      unfolding in_7_and_8 discard_i_queue put stop state_to begin story_after
      by_disc =
          let t = in_7_and_8 (Heard (Disc true) Command) s in (
            subst (λ (u : StepState). Delivered e peer.end Asks ks outgoing u.end (story c u).line)
                (sym (closes_nothing t refl)) (record {
                  new = without_info Answer (Ua true) ∷ [];
                  sent = released_line (nat_lt 0 (waiting e)) e.t200 e.t203 (waiting e) _ _;
                  advances = record {
                    relief = 0;
                    mine =
                        λ n share. record {
                          a = 0;
                          share =
                              inl (let none = extra_first peer.end out closed no_ua in
                              omega (arith, none));
                          most = omega arith;
                        };
                    its_load = closed_falls t.end (omega arith);
                    its = λ p. absurd (not_in_7 p.in_7);
                  };
                  fewer = omega arith;
                  free = λ was o. cc;
                }),
            (
              λ asked. cc,
              unrefused Asks t (without_info Answer (Ua true) ∷ [])
                  (released_line (nat_lt 0 (waiting e)) e.t200 e.t203 (waiting e) _ _) refl
                  (omega arith),
            ),
          )

    -- ---- Frames that do not arrive, and unit data.

    no_reply : (k : Kind) → answer_of k ≡ 1 → Arriving k → ⊥
    unfolding begin
    no_reply k is m =
        let one = m.mine.exchange.one in
        let none : most_asks e.state ≡ 0 = open_asks_none e.state opened in
        omega (arith, one, none, is)

    none_now : s.end.window.ack_pending ≡ false
    unfolding begin
    none_now = none_pending

    unit_keeps : Keeps c s (put UnitUp s)
    unfolding put story_after begin
    unit_keeps = record {
      line = refl;
      sending_same = refl;
      receiving_same = refl;
      first = omega arith;
      calm = record { rc = refl; dropped = refl };
    }

    by_unit : Done Unnumbered (put UnitUp s)
    by_unit =
        by_turn Unnumbered (put UnitUp s) refl
        (inl (passes Unnumbered refl refl refl none_now (omega arith) unit_keeps))

    -- ---- All frames.

    abbrev Frame : Control → Role → Kind
    Frame control role = kind_of role control frame.info frame.place

    same_state : {state : State} → e.state ≡ state → s.end.state ≡ state
    unfolding begin
    same_state is = is

    in_both : (control : Control) (role : Role) → is_ignored control ≡ false
        → is_unit_data control role ≡ false → Arriving (Frame control role)
        → Done (Frame control role) (in_7_and_8 (Heard control role) s)
    in_both (I ns nr p) role no_number no_unit m = cc
    in_both (Rr nr pf) role no_number no_unit m = cc
    in_both (Rnr nr pf) role no_number no_unit m = cc
    in_both (Rej nr pf) role no_number no_unit m = cc
    in_both (Ui p) Command no_number no_unit m = cc
    in_both (Sabme true) Command no_number no_unit m = by_sabme m
    in_both (Sabme false) Command no_number no_unit m = absurd (no_foreign c ks s m)
    in_both (Disc true) Command no_number no_unit m = by_disc m
    in_both (Disc false) Command no_number no_unit m = absurd (no_foreign c ks s m)
    in_both (Ua true) Answer no_number no_unit m = absurd (no_reply Accepts refl m)
    in_both (Ua false) Answer no_number no_unit m = absurd (no_foreign c ks s m)
    in_both (Dm true) Answer no_number no_unit m = absurd (no_reply Refuses refl m)
    in_both (Dm false) Answer no_number no_unit m = absurd (no_foreign c ks s m)
    in_both control Command no_number no_unit m = absurd (no_foreign c ks s m)
    in_both control Answer no_number no_unit m = absurd (no_foreign c ks s m)

    in_state_7 : (control : Control) (role : Role) → e.state ≡ MultipleFrameEstablished
        → is_unit_data control role ≡ false → Arriving (Frame control role)
        → Done (Frame control role) (multiple_frame_established Whole (Heard control role) s)
    unfolding multiple_frame_established
    in_state_7 (I ns nr p) Command is no_unit m =
        by_turn (Frame (I ns nr p) Command) _ (no_request (I ns nr p) Command frame.info frame.place refl)
        (i_in_7 c ks s none_now ns nr p m)
    in_state_7 (I ns nr p) Answer is no_unit m = absurd (no_foreign c ks s m)
    in_state_7 (Rr nr pf) role is no_unit m =
        by_turn (Frame (Rr nr pf) role) _ (no_request (Rr nr pf) role frame.info frame.place refl)
        (rr_in_7 c ks s none_now role nr pf (same_state is) m)
    in_state_7 (Rnr nr pf) role is no_unit m =
        by_turn (Frame (Rnr nr pf) role) _ (no_request (Rnr nr pf) role frame.info frame.place refl)
        (rnr_in_7 c ks s none_now role nr pf (same_state is) m)
    in_state_7 (Rej nr pf) role is no_unit m =
        by_turn (Frame (Rej nr pf) role) _ (no_request (Rej nr pf) role frame.info frame.place refl)
        (rej_in_7 c ks s none_now role nr pf (same_state is) m)
    in_state_7 (Dm true) Answer is no_unit m = absurd (no_reply Refuses refl m)
    in_state_7 (Dm false) Answer is no_unit m = absurd (no_foreign c ks s m)
    in_state_7 control role is no_unit m = in_both control role refl no_unit m

    in_state_8 : (control : Control) (role : Role) → e.state ≡ TimerRecovery
        → is_unit_data control role ≡ false → Arriving (Frame control role)
        → Done (Frame control role) (timer_recovery Whole (Heard control role) s)
    unfolding timer_recovery
    in_state_8 (I ns nr p) Command is no_unit m =
        by_turn (Frame (I ns nr p) Command) _ (no_request (I ns nr p) Command frame.info frame.place refl)
        (i_in_8 c ks s none_now ns nr p m)
    in_state_8 (I ns nr p) Answer is no_unit m = absurd (no_foreign c ks s m)
    in_state_8 (Rr nr pf) role is no_unit m =
        by_turn (Frame (Rr nr pf) role) _ (no_request (Rr nr pf) role frame.info frame.place refl)
        (rr_in_8 c ks s none_now role nr pf (same_state is) m)
    in_state_8 (Rnr nr pf) role is no_unit m =
        by_turn (Frame (Rnr nr pf) role) _ (no_request (Rnr nr pf) role frame.info frame.place refl)
        (rnr_in_8 c ks s none_now role nr pf (same_state is) m)
    in_state_8 (Rej nr pf) role is no_unit m =
        by_turn (Frame (Rej nr pf) role) _ (no_request (Rej nr pf) role frame.info frame.place refl)
        (rej_in_8 c ks s none_now role nr pf (same_state is) m)
    in_state_8 (Dm true) Answer is no_unit m = absurd (no_reply Refuses refl m)
    in_state_8 (Dm false) Answer is no_unit m = absurd (no_foreign c ks s m)
    in_state_8 control role is no_unit m = in_both control role refl no_unit m

    by_open_state : (state : State) (control : Control) (role : Role) → e.state ≡ state
        → is_7_or_8 state ≡ true → is_unit_data control role ≡ false → Arriving (Frame control role)
        → Done (Frame control role) (by_state Whole state (Heard control role) s)
    unfolding by_state
    by_open_state MultipleFrameEstablished control role is o no_unit m =
        in_state_7 control role is no_unit m
    by_open_state TimerRecovery control role is o no_unit m = in_state_8 control role is no_unit m
    by_open_state state control role is o no_unit m = cc

    pub open_delivered : Done (kind frame) (row Whole e.state (Heard frame.control frame.role) s)
    unfolding row
    open_delivered =
        by_test (λ (t : StepState). Done (kind frame) t) (is_unit_data frame.control frame.role) _ _
        (λ unit. subst (λ k. Done k (put UnitUp s))
        (sym (unit_kind frame.control frame.role frame.info frame.place unit)) by_unit)
        (λ no_unit. by_open_state e.state frame.control frame.role refl opened no_unit arrived)

    -- ---- The state after any frame.

    in_7_by_sabme : (in_7_and_8 (Heard (Sabme true) Command) s).end.state ≡ MultipleFrameEstablished
    unfolding in_7_and_8 state_to
    in_7_by_sabme = refl

    in_4_by_disc : (in_7_and_8 (Heard (Disc true) Command) s).end.state ≡ TeiAssigned
    unfolding in_7_and_8 state_to
    in_4_by_disc = refl

    abbrev state_after : State → Control → Role → State
    state_after state control role =
        (end_step Whole (row Whole state (Heard control role) s)).end.state

    by_sabme_7 : (state : State) → is_7_or_8 state ≡ true
        → state_after state (Sabme true) Command ≡ MultipleFrameEstablished
    unfolding row by_state multiple_frame_established timer_recovery
    by_sabme_7 MultipleFrameEstablished o =
        ap (λ (v : Unsending). v.state)
        (end_closes c (in_7_and_8 (Heard (Sabme true) Command) s)).same ∙ in_7_by_sabme
    by_sabme_7 TimerRecovery o =
        ap (λ (v : Unsending). v.state)
        (end_closes c (in_7_and_8 (Heard (Sabme true) Command) s)).same ∙ in_7_by_sabme
    by_sabme_7 state o = cc

    by_disc_4 : (state : State) → is_7_or_8 state ≡ true
        → state_after state (Disc true) Command ≡ TeiAssigned
    unfolding row by_state multiple_frame_established timer_recovery
    by_disc_4 MultipleFrameEstablished o =
        ap (λ (v : Unsending). v.state)
        (end_closes c (in_7_and_8 (Heard (Disc true) Command) s)).same
        ∙ in_4_by_disc
    by_disc_4 TimerRecovery o =
        ap (λ (v : Unsending). v.state)
        (end_closes c (in_7_and_8 (Heard (Disc true) Command) s)).same
        ∙ in_4_by_disc
    by_disc_4 state o = cc

    pub open_by_request : IsSabme frame.control frame.role ⊎ (ask_of (kind frame) ≡ 0)
        → is_7_or_8 (state_after e.state frame.control frame.role) ≡ true
    open_by_request (inl is) =
        subst (λ control. is_7_or_8 (state_after e.state control frame.role) ≡ true) (sym is.0)
        (subst (λ role. is_7_or_8 (state_after e.state (Sabme true) role) ≡ true) (sym is.1)
        (ap is_7_or_8 (by_sabme_7 e.state opened)))
    open_by_request (inr none) = (open_delivered.1.0 none).0.open_state

    -- it does not enter state 5
    pub never_5 : state_after e.state frame.control frame.role ≡ AwaitingEstablishment → ⊥
    never_5 in_5 = by_request (requested frame.control frame.role frame.info frame.place)
      where
        not_open : is_7_or_8 (state_after e.state frame.control frame.role) ≡ true → ⊥
        not_open o =
            let impossible : is_7_or_8 (state_after e.state frame.control frame.role) ≡ false =
            ap is_7_or_8 in_5 in
            cc

        by_request : IsSabme frame.control frame.role
            ⊎ (IsDisc frame.control frame.role ⊎ (ask_of (kind frame) ≡ 0)) → ⊥
        by_request (inl sabme) = not_open (open_by_request (inl sabme))
        by_request (inr (inl is)) =
            let in_4 : state_after e.state frame.control frame.role ≡ TeiAssigned =
            subst (λ control. state_after e.state control frame.role ≡ TeiAssigned) (sym is.0)
            (subst (λ role. state_after e.state (Disc true) role ≡ TeiAssigned) (sym is.1)
            (by_disc_4 e.state opened)) in
            let impossible : TeiAssigned ≡ AwaitingEstablishment = sym in_4 ∙ in_5 in
            cc
        by_request (inr (inr none)) = not_open (open_by_request (inr none))
