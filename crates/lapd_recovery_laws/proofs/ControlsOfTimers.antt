-- T200 or T203 expires, beside frames in transit or not, without losses: what is still to come
-- falls, or T200 expires less often until then.
use Rattle.std.proofs.Common.{◌≡◌, ◌⊎◌, inl, inr, ℕ, zero, suc, ◌+◌, ◌-◌, ◌*◌, ◌≤◌, nat_lt, Bool, true, false, List, [], ◌∷◌, ◌++◌, is_ok, refl, sym, ap, subst, ◌∙◌, arith}
use Rattle.std.proofs.lemmas.Bool.Decides.{nat_tests}
use Rattle.lapd_frame.specs.declared.Side.TheVariants as side
use Rattle.lapd_mod128.specs.Counting.{Whole}
use Rattle.lapd_supervision.specs.StateVariables.{StateVariables, without_ack_pending, without_exceptions}
use Rattle.lapd_link_definition.specs.declared.state.State.{State}
use Rattle.lapd_link_definition.specs.declared.state.State.TheVariants.{TeiAssigned, AwaitingEstablishment, AwaitingRelease, MultipleFrameEstablished, TimerRecovery}
use Rattle.lapd_link_definition.specs.EndOfStep.{is_7_or_8}
use Rattle.lapd_link_definition.specs.End.{End, waiting}
use Rattle.lapd_pair_laws.specs.Conjuncts.{most_asks}
use Rattle.lapd_pair_laws.specs.Invariant.{IsInvariant}
use Rattle.lapd_pair_laws.specs.Kinds.{Kind, kind, kinds, tally, ask_of, answer_of, final_of}
use Rattle.lapd_pair_laws.specs.Line.{Flight}
use Rattle.lapd_pair_laws.specs.Move.{PairEvent, Expire200, Expire203, Station, View, acts}
use Rattle.lapd_pair_laws.proofs.Closings.{most_is_one}
use Rattle.lapd_pair_laws.proofs.Lists.{tally_append}
use Rattle.lapd_pair_laws.proofs.Worlds.{left_by}
use Rattle.lapd_recovery_laws.specs.Own.{IsFree}
use Rattle.lapd_recovery_laws.proofs.ClosedSteps.{Sees, seen_after_t200, retried, released, retry_in_6, give_up_in_6}
use Rattle.lapd_recovery_laws.proofs.Controls.{Controls, vain_in, vain, Rest}
use Rattle.lapd_recovery_laws.proofs.EndSends.{kinds_append}
use Rattle.lapd_recovery_laws.proofs.Expiries.{Expiries}
use Rattle.lapd_recovery_laws.proofs.ExpiriesOfTimers.{polled_expiries, quiet_200, waits_200}
use Rattle.lapd_recovery_laws.proofs.HalfSteps.{disc, asked_again, abandoned, retry_in_5, give_up_in_5}
use Rattle.lapd_recovery_laws.proofs.LoneSteps.{Polls, sabme, asking, last_try_in_8, polls_by_t200, polls_again, polls_by_t203}
use Rattle.lapd_recovery_laws.proofs.Lost.{at}
use Rattle.lapd_recovery_laws.proofs.OneMoreFrame.{seeing}
use Rattle.lapd_recovery_laws.proofs.OutageWorlds.{Facts}
use Rattle.lapd_recovery_laws.proofs.OwnBySide.{t200_runs, t203_runs}
use Rattle.lapd_recovery_laws.proofs.Renewals.{halting, halting_append, none_halting, Renews, shut_renews, IsCounted, counted, request_in, under_way, request, request_falls, open_requests_none}
use Rattle.lapd_recovery_laws.proofs.StaysOpen.{SendsPoll, AwaitsNone, awaits_none}
use Rattle.lapd_recovery_laws.proofs.TimersBeside.{IsBeside, t200_beside, t203_beside}
use Rattle.lapd_recovery_laws.proofs.Transitions.{timers_in, in_7_if_t203}

-- one less is to come, or T200 expires once less until then
abbrev pub Goes200 : ℕ → ℕ → ℕ → ℕ → End → End → List Flight → List Flight → Type 0
Goes200 N U p n x y to_user to_network =
    ((1 ≤ p) × Controls U (p - 1) x y to_user to_network)
    ⊎ ((1 ≤ n) × Controls U p x y to_user to_network × Rest N (n - 1) x y to_user to_network)

-- the peer accounts for no more
pub after_timer : (x y : Station) (to_user to_network : List Flight)
    → IsInvariant (at x y to_user to_network) → (sent : List Flight)
    → request y.end (kinds to_user) (kinds (to_network ++ sent))
    ≤ request y.end (kinds to_user) (kinds to_network)
after_timer x y to_user to_network i sent =
    let out = kinds to_network in
    let back = kinds to_user in
    let same = ap (λ l. tally answer_of l) (kinds_append to_network sent) in
    let sum = tally_append answer_of out (kinds sent) in
    let all = i.both.its.exchange.one in
    let most = most_is_one y.end.state in
    let le =
    request_falls y.end.state y.end.release_pending (under_way back out)
    (under_way back (kinds (to_network ++ sent))) 0 (omega (arith, same, sum)) (omega arith)
    (omega (arith, all, most)) in
    omega (arith, le)

-- the step of the end on an empty line tells what it does beside frames
module _ (x : Station) (to_user to_network : List Flight) where
  abbrev pub alone : PairEvent → View
  alone event = left_by (seeing x [] []) (acts Whole side.User event (seeing x [] []))

  abbrev pub here : PairEvent → View
  here event =
      left_by (seeing x to_user to_network)
      (acts Whole side.User event (seeing x to_user to_network))

  pub placed : (C : End → List Flight → List Flight → Type 0) (event : PairEvent) (z : End)
      (sent : List Flight) → IsBeside to_user to_network (alone event) (here event)
      → (alone event).station.end ≡ z → (alone event).outgoing ≡ sent
      → C z to_user (to_network ++ sent)
      → C (here event).station.end (here event).incoming (here event).outgoing
  placed C event z sent b end_is sent_is there =
      let v = here event in
      subst (λ d. C d v.incoming v.outgoing) (sym (b.end ∙ end_is))
      (subst (λ l. C z l v.outgoing) (sym b.incoming_is)
      (subst (λ l. C z to_user l)
      (sym (b.outgoing_is ∙ ap (λ l. to_network ++ l) sent_is)) there))

at_least : (a b : ℕ) → nat_lt a b ≡ true → a + 1 ≤ b
at_least a b less = grind (arith, nat_tests, less)

module _ (N U p n : ℕ) (some : 1 ≤ N) (x y : Station) (to_user to_network : List Flight)
    (f : Facts N (at x y to_user to_network)) (free : IsFree x.end)
    (c : Controls U p x.end y.end to_user to_network)
    (r : Rest N n x.end y.end to_user to_network) where
  abbrev out : List Kind
  out = kinds to_network

  abbrev back : List Kind
  back = kinds to_user

  abbrev seen : View
  seen = seeing x to_user to_network

  abbrev by : PairEvent → View
  by event = left_by (seeing x [] []) (acts Whole side.User event (seeing x [] []))

  abbrev beside : PairEvent → View
  beside event = left_by seen (acts Whole side.User event seen)

  -- ---- A poll.

  module _ (event : PairEvent) (rc : ℕ) (opened : is_7_or_8 x.end.state ≡ true)
      (polls : Polls x rc (by event)) where
    abbrev z : End
    z = (by event).station.end

    z_open : is_7_or_8 z.state ≡ true
    z_open = ap is_7_or_8 polls.polled.in_8

    level_same : z.window.vs ≡ z.window.va → x.end.window.vs ≡ x.end.window.va
    unfolding without_ack_pending
    level_same level =
        let vs : z.window.vs ≡ x.end.window.vs =
        ap (λ (w : StateVariables). w.vs) polls.polled.window in
        let va : z.window.va ≡ x.end.window.va =
        ap (λ (w : StateVariables). w.va) polls.polled.window in
        sym vs ∙ level ∙ va

    -- a + j where none is outstanding
    renews : (j : ℕ) → (x.end.window.vs ≡ x.end.window.va → waiting x.end + 1 ≤ c.a + j)
        → Renews z (c.a + j)
    renews j enough = record {
      left = λ o.
          let few = c.mine.left opened in
          let same = polls.polled.waiting_is in
          omega (arith, few, same);
      idle = λ o waits level.
          let few = enough (level_same level) in
          let same = polls.polled.waiting_is in
          omega (arith, few, same);
      kept = λ in_5 level.
          let is = polls.polled.in_8 in
          absurd (let impossible : TimerRecovery ≡ AwaitingEstablishment = sym is ∙ in_5 in cc);
    }

    polled_controls : (j : ℕ) → (x.end.window.vs ≡ x.end.window.va → waiting x.end + 1 ≤ c.a + j)
        → Controls U (p + 3 * j) z y.end to_user (to_network ++ polls.frame ∷ [])
    polled_controls j enough =
        let was =
        open_requests_none x.end.state x.end.release_pending (under_way out back) opened in
        let now =
        open_requests_none z.state z.release_pending
        (under_way (kinds (to_network ++ polls.frame ∷ [])) back) z_open in
        let its = after_timer x y to_user to_network f.holds (polls.frame ∷ []) in
        let ready = none_halting (polls.frame ∷ []) (polls.ready (free opened), tt) in
        let sum = halting_append to_network (polls.frame ∷ []) in
        let most = c.most in
        let few = c.few in
        record {
          a = c.a + j;
          b = c.b;
          mine = renews j enough;
          its = c.its;
          few = omega (arith, few, ready, sum);
          most = omega (arith, was, now, its, ready, sum, most);
        }

  -- T200 sends a poll
  module _ (ok : is_ok (acts Whole side.User Expire200 seen) ≡ true) (rc : ℕ)
      (opened : is_7_or_8 x.end.state ≡ true) (polls : Polls x rc (by Expire200))
      (waiting_for : (x.end.state ≡ TimerRecovery) ⊎ (x.end.t200 ≡ true))
      (fewer : (N - rc) + 1 ≤ vain N x.end back) where
    abbrev e : End
    e = (by Expire200).station.end

    b : IsBeside to_user to_network (by Expire200) (beside Expire200)
    b = t200_beside x to_user to_network ok

    sends : SendsPoll 0 rc x to_user to_network Expire200
    sends =
        record { rc = rc; enough = omega arith; alone = by Expire200; polls = polls; beside = b }

    e_open : is_7_or_8 e.state ≡ true
    e_open = ap is_7_or_8 polls.polled.in_8

    no_final : tally final_of back ≡ 0
    no_final = (awaits_none seen ok).1

    controls : Controls U p e y.end to_user (to_network ++ polls.frame ∷ [])
    controls =
        let all =
        polled_controls Expire200 rc opened polls 0
        (λ level. let enough = c.mine.idle opened waiting_for level in omega (arith, enough)) in
        subst (λ j. Controls U j e y.end to_user (to_network ++ polls.frame ∷ []))
        (let same : p + 3 * 0 ≡ p = omega arith in same) all

    vain_now : vain N e back + 1 ≤ vain N x.end back
    vain_now =
        let none = no_final in
        let now : vain N e back ≡ N - rc =
        ap (λ st. vain_in N st e.rc (tally final_of back)) polls.polled.in_8
        ∙ ap (λ i. vain_in N TimerRecovery i (tally final_of back)) polls.polled.rc_is
        ∙ ap (λ j. vain_in N TimerRecovery rc j) none in
        let le = fewer in
        omega (arith, now, le)

    abbrev now : List Flight
    now = to_network ++ polls.frame ∷ []

    open_peer : is_7_or_8 y.end.state ≡ true
        → (1 ≤ n) × Expiries e y.end to_user now (n - 1)
    open_peer y_opened =
        let all =
        polled_expiries 0 rc x y to_user to_network Expire200 sends (free opened)
        (λ is. quiet_200 (at x y to_user to_network) ok) n (r.both opened y_opened) in
        let one = waits_200 (at x y to_user to_network) ok opened in
        let enough = all.some in
        let v = beside Expire200 in
        let moved : Expiries v.station.end y.end v.incoming v.outgoing (n - 1) =
        subst (λ j. Expiries v.station.end y.end v.incoming v.outgoing (n - j)) one all.expiries in (
          omega (arith, one, enough),
          subst (λ l. Expiries e y.end to_user l (n - 1))
              (b.outgoing_is ∙ ap (λ l. to_network ++ l) polls.outgoing)
              (subst (λ l. Expiries e y.end l v.outgoing (n - 1)) b.incoming_is
              (subst (λ d. Expiries d y.end v.incoming v.outgoing (n - 1)) b.end moved)),
        )

    rest_so : (peer : Bool) → is_7_or_8 y.end.state ≡ peer
        → (1 ≤ n) × Rest N (n - 1) e y.end to_user now
    rest_so true y_opened =
        let all = open_peer y_opened in (
          all.0,
          record {
            both = λ o p. all.1;
            mine = λ o shut. cc;
            its = λ o shut. absurd (let open_ = e_open in cc);
          },
        )
    rest_so false y_shut =
        let few = r.mine opened y_shut in
        let le = vain_now in (
          omega (arith, few, le),
          record {
            both = λ o p. cc;
            mine = λ o shut. omega (arith, few, le);
            its = λ o shut. absurd (let open_ = e_open in cc);
          },
        )

    pub polled_200 : Goes200 N U p n (beside Expire200).station.end y.end
        (beside Expire200).incoming (beside Expire200).outgoing
    polled_200 =
        let all = rest_so (is_7_or_8 y.end.state) refl in
        placed x to_user to_network (λ d l m. Goes200 N U p n d y.end l m) Expire200 e
        (polls.frame ∷ []) b refl polls.outgoing (inr (all.0, controls, all.1))

  -- ---- A request, or none is left.

  -- one less is to come
  falls_200 : is_ok (acts Whole side.User Expire200 seen) ≡ true → (z : End) (sent : List Flight)
      (a : ℕ) → Sees (by Expire200) z [] sent → Renews z a → halting sent ≡ 0
      → 3 * a + request z (kinds (to_network ++ sent)) back + 1
      ≤ 3 * c.a + request x.end out back
      → Goes200 N U p n (beside Expire200).station.end y.end (beside Expire200).incoming
      (beside Expire200).outgoing
  falls_200 ok z sent a s mine ready less =
      let its = after_timer x y to_user to_network f.holds sent in
      let sum = halting_append to_network sent in
      let most = c.most in
      let few = c.few in
      placed x to_user to_network (λ d l m. Goes200 N U p n d y.end l m) Expire200 z sent
      (t200_beside x to_user to_network ok) s.end s.outgoing (inl (
        omega (arith, less, most),
        record {
          a = a;
          b = c.b;
          mine = mine;
          its = c.its;
          few = omega (arith, few, sum, ready);
          most = omega (arith, less, its, sum, ready, most);
        },
      ))

  module _ (ok : is_ok (acts Whole side.User Expire200 seen) ≡ true) where
    on : x.end.t200 ≡ true
    on = t200_runs seen ok

    none : AwaitsNone seen
    none = awaits_none seen ok

    abbrev Done : Type 0
    Done =
        Goes200 N U p n (beside Expire200).station.end y.end (beside Expire200).incoming
        (beside Expire200).outgoing

    asks_now : (f : Flight) → ask_of (kind f) ≡ 1
        → tally ask_of (kinds (to_network ++ f ∷ [])) ≡ 1
    asks_now f one =
        let same = ap (λ l. tally ask_of l) (kinds_append to_network (f ∷ [])) in
        let sum = tally_append ask_of out (kinds (f ∷ [])) in
        let no_ask = none.2 in
        omega (arith, same, sum, no_ask, one)

    in_7 : x.end.state ≡ MultipleFrameEstablished → Done
    in_7 is =
        polled_200 ok 1 (ap is_7_or_8 is) (polls_by_t200 x is on) (inr on)
        (let now : vain N x.end back ≡ N =
        ap (λ st. vain_in N st x.end.rc (tally final_of back)) is in
        omega (arith, now, some))

    in_8 : x.end.state ≡ TimerRecovery → (b : Bool) → nat_lt x.end.rc x.end.parameters.n200 ≡ b
        → Done
    unfolding without_exceptions
    in_8 is true more =
        polled_200 ok (x.end.rc + 1) (ap is_7_or_8 is) (polls_again x is on more) (inl is)
        (let no_final = none.1 in
        let now : vain N x.end back ≡ N - x.end.rc =
        ap (λ st. vain_in N st x.end.rc (tally final_of back)) is
        ∙ ap (λ j. vain_in N TimerRecovery x.end.rc j) no_final in
        let le = at_least x.end.rc x.end.parameters.n200 more in
        let few = f.few_user in
        omega (arith, now, le, few))
    in_8 is false last =
        let opened = ap is_7_or_8 is in
        let all = asks_now sabme refl in
        let no_answer = none.3 in
        let was =
        open_requests_none x.end.state x.end.release_pending (under_way out back) opened in
        let some_left = one_left opened (inl is) in
        falls_200 ok (asking x.end) (sabme ∷ []) (c.a - 1)
        (seen_after_t200 x (asking x.end) (sabme ∷ []) on (last_try_in_8 x.end is on last))
        (renews_5 opened (inl is)) refl (omega (arith, all, no_answer, was, some_left))
      where
        one_left : is_7_or_8 x.end.state ≡ true
            → (x.end.state ≡ TimerRecovery) ⊎ (x.end.t200 ≡ true) → 1 ≤ c.a
        one_left opened waits = by_level (x.end.window.vs - x.end.window.va) refl
          where
            was : IsCounted x.end
            was =
                counted x y f.holds.user_base f.holds.network_base out back f.holds.both opened

            by_level : (d : ℕ) → x.end.window.vs - x.end.window.va ≡ d → 1 ≤ c.a
            by_level zero is =
                let ordered = was.ordered in
                let enough = c.mine.idle opened waits (omega (arith, is, ordered)) in
                omega (arith, enough)
            by_level (suc d) is =
                let all = was.all in
                let few = c.mine.left opened in
                omega (arith, is, all, few)

        renews_5 : is_7_or_8 x.end.state ≡ true
            → (x.end.state ≡ TimerRecovery) ⊎ (x.end.t200 ≡ true)
            → Renews (asking x.end) (c.a - 1)
        renews_5 opened waits = record {
          left = λ o. cc;
          idle = λ o waits_ level. cc;
          kept = λ in_5 level.
              let enough = c.mine.idle opened waits level in omega (arith, enough);
        }

    -- nothing is in transit
    nothing_yet : under_way out back ≡ 0
    nothing_yet =
        let no_ask = none.2 in let no_answer = none.3 in omega (arith, no_ask, no_answer)

    in_5 : x.end.state ≡ AwaitingEstablishment → (b : Bool)
        → nat_lt x.end.rc x.end.parameters.n200 ≡ b → Done
    in_5 is true more =
        let z = asked_again x.end is in
        let all = asks_now sabme refl in
        let no_answer = none.3 in
        let nothing = nothing_yet in
        let most : most_asks x.end.state ≡ 1 = ap most_asks is in
        let falls =
        request_falls x.end.state x.end.release_pending (under_way out back)
        (under_way (kinds (to_network ++ sabme ∷ [])) back) 1 (omega (arith, all, nothing))
        (omega (arith, most)) (omega (arith, nothing)) in
        falls_200 ok z (sabme ∷ []) c.a
        (seen_after_t200 x z (sabme ∷ []) on (retry_in_5 x.end is on more))
        (record {
          left = λ o. absurd (let shut : is_7_or_8 x.end.state ≡ false = ap is_7_or_8 is in cc);
          idle = λ o waits level.
              absurd (let shut : is_7_or_8 x.end.state ≡ false = ap is_7_or_8 is in cc);
          kept = λ in_5 level. c.mine.kept in_5 level;
        }) refl (omega (arith, falls))
    in_5 is false last =
        let z = abandoned x.end is in
        let before = left_in_5 x.end.release_pending refl in
        falls_200 ok z [] 0 (seen_after_t200 x z [] on (give_up_in_5 x.end is on last))
        (shut_renews z 0 refl (λ in_5. cc)) refl (omega (arith, before))
      where
        left_in_5 : (waits : Bool) → x.end.release_pending ≡ waits → 1 ≤ request x.end out back
        left_in_5 true pending =
            let now : request x.end out back ≡ 6 - under_way out back =
            ap (λ st. request_in st x.end.release_pending (under_way out back)) is
            ∙ ap (λ b. request_in AwaitingEstablishment b (under_way out back)) pending in
            let nothing = nothing_yet in
            omega (arith, now, nothing)
        left_in_5 false stays =
            let now : request x.end out back ≡ 3 - under_way out back =
            ap (λ st. request_in st x.end.release_pending (under_way out back)) is
            ∙ ap (λ b. request_in AwaitingEstablishment b (under_way out back)) stays in
            let nothing = nothing_yet in
            omega (arith, now, nothing)

    in_6 : x.end.state ≡ AwaitingRelease → (b : Bool)
        → nat_lt x.end.rc x.end.parameters.n200 ≡ b → Done
    in_6 is true more =
        let z = retried x.end is in
        let all = asks_now disc refl in
        let nothing = nothing_yet in
        let most : most_asks x.end.state ≡ 1 = ap most_asks is in
        let falls =
        request_falls x.end.state x.end.release_pending (under_way out back)
        (under_way (kinds (to_network ++ disc ∷ [])) back) 1 (omega (arith, all, nothing))
        (omega (arith, most)) (omega (arith, nothing)) in
        falls_200 ok z (disc ∷ []) 0
        (seen_after_t200 x z (disc ∷ []) on (retry_in_6 x.end is on more))
        (shut_renews z 0 (ap is_7_or_8 is)
        (λ in_5. let impossible : AwaitingRelease ≡ AwaitingEstablishment = sym is ∙ in_5 in cc))
        refl (omega (arith, falls))
    in_6 is false last =
        let z = released x.end is in
        let now : request x.end out back ≡ 3 - under_way out back =
        ap (λ st. request_in st x.end.release_pending (under_way out back)) is in
        let nothing = nothing_yet in
        falls_200 ok z [] 0 (seen_after_t200 x z [] on (give_up_in_6 x.end is on last))
        (shut_renews z 0 refl (λ in_5. cc)) refl (omega (arith, now, nothing))

    pub expires_200 : Done
    expires_200 = by_state x.end.state refl
      where
        by_state : (state : State) → x.end.state ≡ state → Done
        by_state TeiAssigned is =
            let off = (timers_in TeiAssigned x.end f.have.user is).0 in let runs = on in cc
        by_state AwaitingEstablishment is = in_5 is (nat_lt x.end.rc x.end.parameters.n200) refl
        by_state AwaitingRelease is = in_6 is (nat_lt x.end.rc x.end.parameters.n200) refl
        by_state MultipleFrameEstablished is = in_7 is
        by_state TimerRecovery is = in_8 is (nat_lt x.end.rc x.end.parameters.n200) refl

  -- ---- T203.

  pub expires_203 : is_ok (acts Whole side.User Expire203 seen) ≡ true
      → Controls U (p + 3) (beside Expire203).station.end y.end (beside Expire203).incoming
      (beside Expire203).outgoing
  expires_203 ok =
      let runs = t203_runs seen ok in
      let is = in_7_if_t203 x.end f.have.user runs in
      let opened = ap is_7_or_8 is in
      let polls = polls_by_t203 x is runs in
      let all =
      polled_controls Expire203 0 opened polls 1
      (λ level. let few = c.mine.left opened in omega (arith, few)) in
      placed x to_user to_network (λ d l m. Controls U (p + 3) d y.end l m) Expire203
      (by Expire203).station.end (polls.frame ∷ []) (t203_beside x to_user to_network ok) refl
      polls.outgoing
      (subst (λ j. Controls U j (by Expire203).station.end y.end to_user
      (to_network ++ polls.frame ∷ []))
      (let same : p + 3 * 1 ≡ p + 3 = omega arith in same) all)
