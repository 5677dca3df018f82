-- Any frame is delivered, in any state: how often the end may still establish anew by itself, and
-- which requests and responses are still to come.
use Rattle.std.proofs.Common.{◌≡◌, ◌⊎◌, inl, inr, ℕ, ◌+◌, ◌-◌, ◌≤◌, ◌==◌, Bool, true, false, List, [], ◌∷◌, ◌++◌, length, append_assoc, append-nil, refl, sym, ap, subst, ◌∙◌, arith}
use Rattle.std.proofs.lemmas.Bool.{eqb-true}
use Rattle.lapd_frame.specs.declared.Role.{Role}
use Rattle.lapd_frame.specs.declared.Role.TheVariants.{Command, Answer}
use Rattle.lapd_frame.specs.declared.Side.TheVariants as side
use Rattle.lapd_frame.specs.declared.Control.{Control}
use Rattle.lapd_frame.specs.declared.Control.TheVariants.{I, Rr, Rnr, Rej, Sabme, Dm, Ui, Disc, Ua}
use Rattle.lapd_mod128.specs.Counting.{Whole}
use Rattle.lapd_link_definition.specs.declared.state.State.{State}
use Rattle.lapd_link_definition.specs.declared.state.State.TheVariants.{TeiAssigned, AwaitingEstablishment, AwaitingRelease, MultipleFrameEstablished, TimerRecovery}
use Rattle.lapd_link_definition.specs.EndOfStep.{is_7_or_8, end_step}
use Rattle.lapd_link_definition.specs.End.{End, StepState, begin, unsent}
use Rattle.lapd_link_definition.specs.Input.{Heard}
use Rattle.lapd_link_definition.specs.Procedures.{put}
use Rattle.lapd_link_definition.specs.RunningTimers.{HasTimersOfState}
use Rattle.lapd_link_definition.specs.Table.{row, is_unit_data}
use Rattle.lapd_link_definition.specs.declared.out.Out.TheVariants.{UnitUp}
use Rattle.lapd_pair_laws.specs.Conjuncts.{IsEmpty, IsConsistentSender, most_asks}
use Rattle.lapd_pair_laws.specs.Invariant.{IsInvariant}
use Rattle.lapd_pair_laws.specs.Kinds.{Kind, Asks, Accepts, kind, kind_of, kinds, tally, ask_of, answer_of, foreign_of}
use Rattle.lapd_pair_laws.specs.Line.{Flight}
use Rattle.lapd_pair_laws.specs.Move.{Deliver, Station, View, acts, story_after}
use Rattle.lapd_pair_laws.specs.Parties.{party}
use Rattle.lapd_pair_laws.specs.Timed.{IsSettledEnd, IsTimedIn}
use Rattle.lapd_pair_laws.specs.World.{with_view}
use Rattle.lapd_pair_laws.proofs.ClosedActions.{closes_nothing}
use Rattle.lapd_pair_laws.proofs.Closings.{most_is_one}
use Rattle.lapd_pair_laws.proofs.Lists.{by_test, tally_append}
use Rattle.lapd_pair_laws.proofs.MidSteps.{open_asks_none}
use Rattle.lapd_pair_laws.proofs.Stepping.{user_move}
use Rattle.lapd_pair_laws.proofs.Whole.{each_move_preserves}
use Rattle.lapd_pair_laws.proofs.Worlds.{left_by}
use Rattle.lapd_recovery_laws.specs.EarlyTimers.{is_message, messages_in}
use Rattle.lapd_recovery_laws.specs.Losses.{one_if}
use Rattle.lapd_recovery_laws.proofs.Cleared.{AreClear, IsClearIn5}
use Rattle.lapd_recovery_laws.proofs.ClosedSteps.{Yields, seen_after_frame, disc_in_4, disc_in_6, ua_in_6, dm_in_6, released}
use Rattle.lapd_recovery_laws.proofs.EndSends.{kinds_append}
use Rattle.lapd_recovery_laws.proofs.HalfSteps.{dm, disc, sabme_in_5, disc_in_5, dm_in_5, ua_in_5, abandoned, leaving, sabme_in_6, ignored_if_closed, disconnected, disc_in_7_8}
use Rattle.lapd_recovery_laws.proofs.LoneSteps.{is_ignored, ua, established, sabme_in_4}
use Rattle.lapd_recovery_laws.proofs.Lost.{at}
use Rattle.lapd_recovery_laws.proofs.LostMoves.{moved_user}
use Rattle.lapd_recovery_laws.proofs.OneMoreFrame.{seeing}
use Rattle.lapd_recovery_laws.proofs.OpenFrames.{IsSabme, IsDisc, requested, unit_kind}
use Rattle.lapd_recovery_laws.proofs.OutageWorlds.{empty_5}
use Rattle.lapd_recovery_laws.proofs.RunsEmpty.{in_queue}
use Rattle.lapd_recovery_laws.proofs.Transitions.{timers_in}
use Rattle.lapd_recovery_laws.proofs.SendsOn.{IsCleared, sabme_opens, sendable_in, sendable, opens_by_ua}
use Rattle.lapd_recovery_laws.proofs.Renewals.{halting_of, halting, none_halting, Renews, renews_more, shut_renews, IsCounted, counted, request_in, under_way, request, request_falls, open_requests_none, Handles, HandlesIn, by_sees, open_handles_in, opens_renews}

cleared_so : (e : End) → AreClear e
    → IsTimedIn e.state e.t200 e.window.vs e.window.va e.window.peer_busy
    → e.state ≡ AwaitingEstablishment → e.release_pending ≡ false → IsCleared e
cleared_so e clear timed is stays = record {
  in_5 = is;
  stays = stays;
  idle = clear.idle;
  free = subst (λ st. IsTimedIn st e.t200 e.window.vs e.window.va e.window.peer_busy) is timed;
  none_pending = clear.none_pending;
}

not_in_8 : {state : State} → state ≡ MultipleFrameEstablished → state ≡ TimerRecovery → ⊥
not_in_8 in_7 in_8 =
    let impossible : MultipleFrameEstablished ≡ TimerRecovery = sym in_7 ∙ in_8 in cc

ask_few : (k : Kind) → ask_of k ≤ 1
ask_few Asks = omega arith
ask_few k = omega arith

kind_so : (frame : Flight) (control : Control) (role : Role) → frame.control ≡ control
    → frame.role ≡ role → kind frame ≡ kind_of role control frame.info frame.place
kind_so frame control role is by =
    ap (λ c. kind_of frame.role c frame.info frame.place) is
    ∙ ap (λ r. kind_of r control frame.info frame.place) by

pub yields_so : (e : End) (frame : Flight) (control : Control) (role : Role) (z : End)
    (new : List Flight) → frame.control ≡ control → frame.role ≡ role
    → Yields e (end_step Whole (row Whole e.state (Heard control role) (begin e))) z new
    → Yields e (end_step Whole (row Whole e.state (Heard frame.control frame.role) (begin e))) z new
yields_so e frame control role z new is by y =
    subst (λ c. Yields e (end_step Whole (row Whole e.state (Heard c frame.role) (begin e))) z new)
    (sym is)
    (subst (λ r. Yields e (end_step Whole (row Whole e.state (Heard control r) (begin e))) z new)
    (sym by) y)

module _ (x y : Station) (frame : Flight) (rest outgoing : List Flight)
    (i : IsInvariant (at x y (frame ∷ rest) outgoing)) where
  abbrev z : View
  z =
      left_by (seeing x (frame ∷ rest) outgoing)
      (acts Whole side.User Deliver (seeing x (frame ∷ rest) outgoing))

  abbrev k : Kind
  k = kind frame

  abbrev ks : List Kind
  ks = kinds rest

  abbrev out : List Kind
  out = kinds outgoing

  one_asked : tally ask_of out + (answer_of k + tally answer_of ks) ≤ most_asks x.end.state
  one_asked = let one = i.both.mine.exchange.one in omega (arith, one)

  in_queue_so : x.end.first ≤ x.end.next
  in_queue_so =
      let p = party i.user_base x in
      in_queue p.state p.asked p.leaving p.sends i.both.mine.preserved

  module _ (opened : is_7_or_8 x.end.state ≡ true) (now : IsCounted z.station.end) where
    no_answer_here : answer_of k ≡ 0
    no_answer_here =
        let one = one_asked in
        let most : most_asks x.end.state ≡ 0 = open_asks_none x.end.state opened in
        omega (arith, one, most)

    by_sabme : frame.control ≡ Sabme true → frame.role ≡ Command
        → HandlesIn x.end frame rest outgoing z
    by_sabme is by =
        let o = sabme_opens x frame rest outgoing is by opened in
        let kind_is : k ≡ Asks = kind_so frame (Sabme true) Command is by in
        let asks = ap ask_of kind_is in
        let quiet = no_answer_here in
        let was = counted x y i.user_base i.network_base out (k ∷ ks) i.both opened in
        let all = was.all in
        let ready = none_halting o.frames o.up.messages_are.ready in
        let zero_ : request z.station.end (kinds (outgoing ++ (ua ∷ o.frames))) ks ≡ 0 =
        open_requests_none z.station.end.state z.station.end.release_pending
        (under_way (kinds (outgoing ++ (ua ∷ o.frames))) ks) (ap is_7_or_8 o.up.in_7) in
        record {
          new = ua ∷ o.frames;
          sent = o.outgoing ∙ append_assoc outgoing (ua ∷ []) o.frames;
          incoming = o.incoming;
          handles = record {
            answers = let few = ask_few k in omega (arith, few);
            falls = omega (arith, zero_, quiet);
            renews = λ n r.
                let few = r.left opened in
                opens_renews (unsent x.end) (n + halting_of frame) (outgoing ++ ua ∷ []) rest z o
                now (omega (arith, few, all));
            ready = λ free. omega (arith, ready);
            quiet = λ in_8. absurd (not_in_8 o.up.in_7 in_8);
            calm = λ none none_too. absurd (omega (arith, asks, none));
          };
        }

  by_disc : is_7_or_8 x.end.state ≡ true → frame.control ≡ Disc true → frame.role ≡ Command
      → HandlesIn x.end frame rest outgoing z
  by_disc opened is by =
      let kind_is : k ≡ Asks = kind_so frame (Disc true) Command is by in
      let asks = ap ask_of kind_is in
      let quiet = ap answer_of kind_is in
      by_sees x.end frame rest outgoing z (disconnected x.end) (ua ∷ [])
      (seen_after_frame x frame rest outgoing (disconnected x.end) (ua ∷ [])
      (yields_so x.end frame (Disc true) Command (disconnected x.end) (ua ∷ []) is by
      (disc_in_7_8 x.end opened)))
      (record {
        answers = let few = ask_few k in omega (arith, few);
        falls = omega (arith, quiet);
        renews = λ n r. shut_renews (disconnected x.end) (n + halting_of frame) refl (λ in_5. cc);
        ready = λ free. refl;
        quiet = λ in_8. cc;
        calm = λ none none_too. absurd (omega (arith, asks, none));
      })

  -- ---- States 4, 5 and 6.

  asks_more : (new : List Flight) → tally ask_of out ≤ tally ask_of (kinds (outgoing ++ new))
  asks_more new =
      let same = ap (λ l. tally ask_of l) (kinds_append outgoing new) in
      let sum = tally_append ask_of out (kinds new) in
      omega (arith, same, sum)

  few_under_way : under_way out (k ∷ ks) ≤ 2
  few_under_way =
      let one = one_asked in
      let most = most_is_one x.end.state in omega (arith, one, most)

  -- the end stays as it is
  unchanged : (new : List Flight) → answer_of k ≡ 0 → ask_of k ≤ tally answer_of (kinds new)
      → halting new ≡ 0 → messages_in new ≡ 0 → (ask_of k ≡ 0 → new ≡ [])
      → Handles x.end frame rest outgoing x.end new
  unchanged new quiet answers ready silent none = record {
    answers = answers;
    falls =
        let more = asks_more new in
        let few = few_under_way in
        let le =
        request_falls x.end.state x.end.release_pending (under_way out (k ∷ ks))
        (under_way (kinds (outgoing ++ new)) ks) 0 (omega (arith, more, quiet)) (omega arith)
        (omega (arith, few)) in
        omega (arith, le, quiet);
    renews = λ n r. renews_more x.end n (n + halting_of frame) (omega arith) r;
    ready = λ free. ready;
    quiet = λ in_8. (in_8, silent);
    calm = λ asks no_answers. inr (refl, none asks);
  }

  abbrev Yields_ : Control → Role → End → List Flight → Type 0
  Yields_ control role e new =
      Yields x.end (end_step Whole (row Whole x.end.state (Heard control role) (begin x.end))) e new

  seen_so : (control : Control) (role : Role) (e : End) (new : List Flight)
      → frame.control ≡ control → frame.role ≡ role → Yields_ control role e new
      → Handles x.end frame rest outgoing e new → HandlesIn x.end frame rest outgoing z
  seen_so control role e new is by yields h =
      by_sees x.end frame rest outgoing z e new
      (seen_after_frame x frame rest outgoing e new
      (yields_so x.end frame control role e new is by yields)) h

  -- a SABME or DISC is answered
  answered : (control : Control) (answer : Flight)
      → kind_of Command control frame.info frame.place ≡ Asks
      → frame.control ≡ control → frame.role ≡ Command → answer_of (kind answer) ≡ 1
      → halting_of answer ≡ 0 → is_message answer.control ≡ false
      → Yields_ control Command x.end (answer ∷ []) → HandlesIn x.end frame rest outgoing z
  answered control answer asks_so is by one ready silent yields =
      let kind_is : k ≡ Asks = kind_so frame control Command is by ∙ asks_so in
      let asks = ap ask_of kind_is in
      let quiet = ap answer_of kind_is in
      let few = ask_few k in
      seen_so control Command x.end (answer ∷ []) is by yields
      (unchanged (answer ∷ []) quiet (omega (arith, one, few)) (omega (arith, ready))
      (let none = ap one_if silent in omega (arith, none))
      (λ none. absurd (omega (arith, asks, none))))

  -- the response arrives
  parts : (control : Control) (e : End) (new : List Flight)
      → answer_of (kind_of Answer control frame.info frame.place) ≡ 1
      → ask_of (kind_of Answer control frame.info frame.place) ≡ 0 → frame.control ≡ control
      → frame.role ≡ Answer → Yields_ control Answer e new → halting new ≡ 0
      → is_7_or_8 e.state ≡ false → (e.state ≡ AwaitingEstablishment → ⊥)
      → request e (kinds (outgoing ++ new)) ks + 1 ≤ request x.end out (k ∷ ks)
      → HandlesIn x.end frame rest outgoing z
  parts control e new answers no_ask is by yields ready shut other falls =
      let kind_is = kind_so frame control Answer is by in
      let one = ap answer_of kind_is ∙ answers in
      let asks = ap ask_of kind_is ∙ no_ask in
      seen_so control Answer e new is by yields (record {
        answers = omega (arith, asks);
        falls = omega (arith, falls, one);
        renews = λ n r. shut_renews e (n + halting_of frame) shut other;
        ready = λ free. ready;
        quiet = λ in_8.
            absurd (let opened : is_7_or_8 e.state ≡ true = ap is_7_or_8 in_8 in cc);
        calm = λ none none_too. absurd (omega (arith, one, none_too));
      })

  request_some : (state : State) (waits : Bool) (n : ℕ) → 1 ≤ most_asks state → n ≤ 2
      → 1 ≤ request_in state waits n
  request_some AwaitingEstablishment true n some few = omega (arith, few)
  request_some AwaitingEstablishment false n some few = omega (arith, few)
  request_some AwaitingRelease waits n some few = omega (arith, few)
  request_some TeiAssigned waits n some few = omega (arith, some)
  request_some MultipleFrameEstablished waits n some few = omega (arith, some)
  request_some TimerRecovery waits n some few = omega (arith, some)

  some_before : answer_of k ≡ 1 → 1 ≤ request x.end out (k ∷ ks)
  some_before one =
      let all = one_asked in
      let few = few_under_way in
      request_some x.end.state x.end.release_pending (under_way out (k ∷ ks))
      (omega (arith, all, one)) few

  -- state 5: the UA arrives
  module _ (settled : IsSettledEnd x.end) (clear : IsClearIn5 x.end)
      (is_5 : x.end.state ≡ AwaitingEstablishment) (is : frame.control ≡ Ua true)
      (by : frame.role ≡ Answer) where
    kind_ua : k ≡ Accepts
    kind_ua = kind_so frame (Ua true) Answer is by

    leaves_5 : x.end.release_pending ≡ true → HandlesIn x.end frame rest outgoing z
    leaves_5 pending =
        parts (Ua true) (leaving x.end is_5) (disc ∷ []) refl refl is by (ua_in_5 x.end is_5 pending)
        refl refl (λ in_5. cc)
        (let one = ap answer_of kind_ua in
        let all = one_asked in
        let most = most_is_one x.end.state in
        let asks = ap (λ l. tally ask_of l) (kinds_append outgoing (disc ∷ [])) in
        let sum = tally_append ask_of out (kinds (disc ∷ [])) in
        let before : request x.end out (k ∷ ks) ≡ 6 - under_way out (k ∷ ks) =
        ap (λ st. request_in st x.end.release_pending (under_way out (k ∷ ks))) is_5
        ∙ ap (λ b. request_in AwaitingEstablishment b (under_way out (k ∷ ks))) pending in
        omega (arith, one, all, most, asks, sum, before))

    opens_5 : x.end.release_pending ≡ false → IsCounted z.station.end
        → HandlesIn x.end frame rest outgoing z
    opens_5 stays now =
        let o =
        opens_by_ua x (cleared_so x.end (clear is_5) settled.timed is_5 stays)
        (empty_5 (at x y (frame ∷ rest) outgoing) i is_5) frame rest outgoing is by in
        let one = ap answer_of kind_ua in
        let asks = ap ask_of kind_ua in
        let some = some_before one in
        let ready = none_halting o.frames o.up.messages_are.ready in
        let zero_ : request z.station.end (kinds (outgoing ++ o.frames)) ks ≡ 0 =
        open_requests_none z.station.end.state z.station.end.release_pending
        (under_way (kinds (outgoing ++ o.frames)) ks) (ap is_7_or_8 o.up.in_7) in
        record {
          new = o.frames;
          sent = o.outgoing;
          incoming = o.incoming;
          handles = record {
            answers = omega (arith, asks);
            falls = omega (arith, zero_, one, some);
            renews = λ n r.
                opens_renews (sendable x.end) (n + halting_of frame) outgoing rest z o now
                (by_level n r (x.end.window.vs == x.end.window.va) refl);
            ready = λ free. ready;
            quiet = λ in_8. absurd (not_in_8 o.up.in_7 in_8);
            calm = λ none none_too. absurd (omega (arith, one, none_too));
          };
        }
      where
        by_level : (n : ℕ) → Renews x.end n → (same : Bool)
            → (x.end.window.vs == x.end.window.va) ≡ same → sendable x.end ≤ n + halting_of frame
        by_level n r true same =
            let equal = eqb-true x.end.window.vs x.end.window.va same in
            let few = r.kept is_5 equal in
            let all : sendable x.end ≡ unsent x.end =
            ap (λ b. sendable_in b (unsent x.end)) same in
            let order = in_queue_so in
            omega (arith, few, all, order)
        by_level n r false other =
            let none : sendable x.end ≡ 0 = ap (λ b. sendable_in b (unsent x.end)) other in
            omega (arith, none)

  -- state 4: the SABME arrives
  opens_4 : HasTimersOfState x.end → x.end.state ≡ TeiAssigned → frame.control ≡ Sabme true
      → frame.role ≡ Command → HandlesIn x.end frame rest outgoing z
  opens_4 has is_4 is by =
      let p = party i.user_base x in
      let none : IsEmpty p.sends =
      subst (λ st. IsConsistentSender st p.asked p.leaving p.sends) is_4
      i.both.mine.preserved in
      let first : x.end.first ≡ length x.end.given = none.first in
      let next : x.end.next ≡ length x.end.given = none.next in
      let kind_is : k ≡ Asks = kind_so frame (Sabme true) Command is by in
      let asks = ap ask_of kind_is in
      let quiet = ap answer_of kind_is in
      let few = ask_few k in
      let off = (timers_in TeiAssigned x.end has is_4).0 in
      seen_so (Sabme true) Command (established x.end) (ua ∷ []) is by
      (sabme_in_4 x.end is_4 (sym next))
      (record {
        answers = omega (arith, few);
        falls = omega (arith, quiet);
        renews = λ n r. record {
          left = λ o. omega (arith, first);
          idle = λ o waits level. absurd (by_waits off waits);
          kept = λ in_5 level. cc;
        };
        ready = λ free. refl;
        quiet = λ in_8. cc;
        calm = λ no_ask none_too. absurd (omega (arith, asks, no_ask));
      })
    where
      by_waits : x.end.t200 ≡ false
          → (MultipleFrameEstablished ≡ TimerRecovery) ⊎ (x.end.t200 ≡ true) → ⊥
      by_waits off (inl in_8) = cc
      by_waits off (inr on) = cc

-- ---- Which frames arrive.

abbrev Sorts : Control → Role → Type 0
Sorts control role =
    (is_ignored control ≡ true)
    ⊎ ((is_unit_data control role ≡ true)
    ⊎ (((control ≡ Sabme true) × (role ≡ Command))
    ⊎ (((control ≡ Disc true) × (role ≡ Command))
    ⊎ (((control ≡ Ua true) × (role ≡ Answer)) ⊎ ((control ≡ Dm true) × (role ≡ Answer))))))

sorts : (control : Control) (role : Role) (info : List ℕ) (place : ℕ)
    → foreign_of (kind_of role control info place) ≡ 0 → Sorts control role
sorts (I ns nr p) role info place known = inl refl
sorts (Rr nr pf) role info place known = inl refl
sorts (Rnr nr pf) role info place known = inl refl
sorts (Rej nr pf) role info place known = inl refl
sorts (Ui p) Command info place known = inr (inl refl)
sorts (Sabme true) Command info place known = inr (inr (inl (refl, refl)))
sorts (Disc true) Command info place known = inr (inr (inr (inl (refl, refl))))
sorts (Ua true) Answer info place known = inr (inr (inr (inr (inl (refl, refl)))))
sorts (Dm true) Answer info place known = inr (inr (inr (inr (inr (refl, refl)))))
sorts (Sabme false) Command info place known = cc
sorts (Disc false) Command info place known = cc
sorts (Ua false) Answer info place known = cc
sorts (Dm false) Answer info place known = cc
sorts control Command info place known = cc
sorts control Answer info place known = cc

-- no request, and no response to one
abbrev IsPlain : Kind → Type 0
IsPlain k = (ask_of k ≡ 0) × (answer_of k ≡ 0)

ignored_plain : (control : Control) (role : Role) (info : List ℕ) (place : ℕ)
    → is_ignored control ≡ true → IsPlain (kind_of role control info place)
ignored_plain (I ns nr p) Command info place ignored = (refl, refl)
ignored_plain (I ns nr p) Answer info place ignored = (refl, refl)
ignored_plain (Rr nr true) Command info place ignored = (refl, refl)
ignored_plain (Rr nr false) Command info place ignored = (refl, refl)
ignored_plain (Rr nr true) Answer info place ignored = (refl, refl)
ignored_plain (Rr nr false) Answer info place ignored = (refl, refl)
ignored_plain (Rnr nr true) Command info place ignored = (refl, refl)
ignored_plain (Rnr nr false) Command info place ignored = (refl, refl)
ignored_plain (Rnr nr true) Answer info place ignored = (refl, refl)
ignored_plain (Rnr nr false) Answer info place ignored = (refl, refl)
ignored_plain (Rej nr pf) Command info place ignored = (refl, refl)
ignored_plain (Rej nr true) Answer info place ignored = (refl, refl)
ignored_plain (Rej nr false) Answer info place ignored = (refl, refl)
ignored_plain control role info place ignored = cc

unit_passes : (e : End) (control : Control) (role : Role) → is_7_or_8 e.state ≡ false
    → is_unit_data control role ≡ true
    → Yields e (end_step Whole (row Whole e.state (Heard control role) (begin e))) e []
unfolding row put begin story_after
unit_passes e control role shut unit =
    by_test (λ (t : StepState). Yields e (end_step Whole t) e []) (is_unit_data control role) _ _
    (λ _. subst (λ (t : StepState). Yields e t e [])
    (sym (closes_nothing (put UnitUp (begin e)) shut))
    (record { end = refl; line = λ octets place v same. sym (append-nil v.outgoing) }))
    (λ other. cc)

-- ---- Any frame.

module _ (x y : Station) (frame : Flight) (rest outgoing : List Flight)
    (i : IsInvariant (at x y (frame ∷ rest) outgoing)) (settled : IsSettledEnd x.end)
    (has : HasTimersOfState x.end) (clear : IsClearIn5 x.end) where
  abbrev after : View
  after =
      left_by (seeing x (frame ∷ rest) outgoing)
      (acts Whole side.User Deliver (seeing x (frame ∷ rest) outgoing))

  known : foreign_of (kind frame) ≡ 0
  known = let none = i.both.its.exchange.clean in omega (arith, none)

  abbrev Done : Type 0
  Done = HandlesIn x.end frame rest outgoing after

  counted_after : is_7_or_8 after.station.end.state ≡ true → IsCounted after.station.end
  counted_after o =
      let w = at x y (frame ∷ rest) outgoing in
      let now : IsInvariant (with_view side.User after w) =
      subst IsInvariant (moved_user Deliver w) (each_move_preserves (user_move Deliver) w i) in
      counted after.station y now.user_base now.network_base (kinds after.outgoing)
      (kinds after.incoming) now.both o

  clean_after : tally foreign_of (kinds after.outgoing) ≡ 0
  clean_after =
      let w = at x y (frame ∷ rest) outgoing in
      let now : IsInvariant (with_view side.User after w) =
      subst IsInvariant (moved_user Deliver w) (each_move_preserves (user_move Deliver) w i) in
      now.both.mine.exchange.clean

  passed : is_7_or_8 x.end.state ≡ false → IsPlain (kind frame)
      → Yields x.end (end_step Whole (row Whole x.end.state (Heard frame.control frame.role)
      (begin x.end))) x.end [] → Done
  passed shut plain yields =
      let none = plain.0 in
      seen_so x y frame rest outgoing i frame.control frame.role x.end [] refl refl yields
      (unchanged x y frame rest outgoing i [] plain.1 (omega (arith, none)) refl refl
      (λ asks. refl))

  no_answer_in_4 : x.end.state ≡ TeiAssigned → answer_of (kind frame) ≡ 1 → ⊥
  no_answer_in_4 is one =
      let all = one_asked x y frame rest outgoing i in
      let most = ap most_asks is in omega (arith, all, most, one)

  in_4 : x.end.state ≡ TeiAssigned → is_7_or_8 x.end.state ≡ false
      → Sorts frame.control frame.role → Done
  in_4 is shut (inl ignored) =
      passed shut (ignored_plain frame.control frame.role frame.info frame.place ignored)
      (ignored_if_closed x.end frame.control frame.role shut ignored)
  in_4 is shut (inr (inl unit)) =
      let same = unit_kind frame.control frame.role frame.info frame.place unit in
      passed shut (ap ask_of same, ap answer_of same)
      (unit_passes x.end frame.control frame.role shut unit)
  in_4 is shut (inr (inr (inl sabme))) = opens_4 x y frame rest outgoing i has is sabme.0 sabme.1
  in_4 is shut (inr (inr (inr (inl it)))) =
      answered x y frame rest outgoing i (Disc true) dm refl it.0 it.1 refl refl refl
      (disc_in_4 x.end is)
  in_4 is shut (inr (inr (inr (inr (inl it))))) =
      absurd (no_answer_in_4 is (ap answer_of (kind_so frame (Ua true) Answer it.0 it.1)))
  in_4 is shut (inr (inr (inr (inr (inr it))))) =
      absurd (no_answer_in_4 is (ap answer_of (kind_so frame (Dm true) Answer it.0 it.1)))

  in_5 : x.end.state ≡ AwaitingEstablishment → is_7_or_8 x.end.state ≡ false
      → Sorts frame.control frame.role → Done
  in_5 is shut (inl ignored) =
      passed shut (ignored_plain frame.control frame.role frame.info frame.place ignored)
      (ignored_if_closed x.end frame.control frame.role shut ignored)
  in_5 is shut (inr (inl unit)) =
      let same = unit_kind frame.control frame.role frame.info frame.place unit in
      passed shut (ap ask_of same, ap answer_of same)
      (unit_passes x.end frame.control frame.role shut unit)
  in_5 is shut (inr (inr (inl it))) =
      answered x y frame rest outgoing i (Sabme true) ua refl it.0 it.1 refl refl refl
      (sabme_in_5 x.end is)
  in_5 is shut (inr (inr (inr (inl it)))) =
      answered x y frame rest outgoing i (Disc true) dm refl it.0 it.1 refl refl refl
      (disc_in_5 x.end is)
  in_5 is shut (inr (inr (inr (inr (inl it))))) = by_pending x.end.release_pending refl
    where
      by_pending : (b : Bool) → x.end.release_pending ≡ b → Done
      by_pending true pending =
          leaves_5 x y frame rest outgoing i settled clear is it.0 it.1 pending
      by_pending false stays =
          opens_5 x y frame rest outgoing i settled clear is it.0 it.1 stays
          (counted_after (opened_so stays))
        where
          opened_so : x.end.release_pending ≡ false
              → is_7_or_8 after.station.end.state ≡ true
          opened_so stays =
              let o =
              opens_by_ua x (cleared_so x.end (clear is) settled.timed is stays)
              (empty_5 (at x y (frame ∷ rest) outgoing) i is) frame rest outgoing it.0 it.1 in
              ap is_7_or_8 o.up.in_7
  in_5 is shut (inr (inr (inr (inr (inr it))))) =
      let one = ap answer_of (kind_so frame (Dm true) Answer it.0 it.1) in
      let some = some_before x y frame rest outgoing i one in
      parts x y frame rest outgoing i (Dm true) (abandoned x.end is) [] refl refl it.0 it.1
      (dm_in_5 x.end is) refl refl (λ in_5. cc) some

  in_6 : x.end.state ≡ AwaitingRelease → is_7_or_8 x.end.state ≡ false
      → Sorts frame.control frame.role → Done
  in_6 is shut (inl ignored) =
      passed shut (ignored_plain frame.control frame.role frame.info frame.place ignored)
      (ignored_if_closed x.end frame.control frame.role shut ignored)
  in_6 is shut (inr (inl unit)) =
      let same = unit_kind frame.control frame.role frame.info frame.place unit in
      passed shut (ap ask_of same, ap answer_of same)
      (unit_passes x.end frame.control frame.role shut unit)
  in_6 is shut (inr (inr (inl it))) =
      answered x y frame rest outgoing i (Sabme true) dm refl it.0 it.1 refl refl refl
      (sabme_in_6 x.end is)
  in_6 is shut (inr (inr (inr (inl it)))) =
      answered x y frame rest outgoing i (Disc true) ua refl it.0 it.1 refl refl refl
      (disc_in_6 x.end is)
  in_6 is shut (inr (inr (inr (inr (inl it))))) =
      let one = ap answer_of (kind_so frame (Ua true) Answer it.0 it.1) in
      let some = some_before x y frame rest outgoing i one in
      parts x y frame rest outgoing i (Ua true) (released x.end is) [] refl refl it.0 it.1
      (ua_in_6 x.end is) refl refl (λ in_5. cc) some
  in_6 is shut (inr (inr (inr (inr (inr it))))) =
      let one = ap answer_of (kind_so frame (Dm true) Answer it.0 it.1) in
      let some = some_before x y frame rest outgoing i one in
      parts x y frame rest outgoing i (Dm true) (released x.end is) [] refl refl it.0 it.1
      (dm_in_6 x.end is) refl refl (λ in_5. cc) some

  in_7_8 : is_7_or_8 x.end.state ≡ true → Done
  in_7_8 opened = by_request (requested frame.control frame.role frame.info frame.place)
    where
      by_request : IsSabme frame.control frame.role
          ⊎ (IsDisc frame.control frame.role ⊎ (ask_of (kind frame) ≡ 0)) → Done
      by_request (inl it) =
          by_sabme x y frame rest outgoing i opened
          (counted_after (ap is_7_or_8
          (sabme_opens x frame rest outgoing it.0 it.1 opened).up.in_7)) it.0 it.1
      by_request (inr (inl it)) = by_disc x y frame rest outgoing i opened it.0 it.1
      by_request (inr (inr none)) =
          open_handles_in x y frame rest outgoing i settled opened none counted_after clean_after

  in_state : (state : State) → x.end.state ≡ state → Done
  in_state TeiAssigned is =
      in_4 is (ap is_7_or_8 is) (sorts frame.control frame.role frame.info frame.place known)
  in_state AwaitingEstablishment is =
      in_5 is (ap is_7_or_8 is) (sorts frame.control frame.role frame.info frame.place known)
  in_state AwaitingRelease is =
      in_6 is (ap is_7_or_8 is) (sorts frame.control frame.role frame.info frame.place known)
  in_state MultipleFrameEstablished is = in_7_8 (ap is_7_or_8 is)
  in_state TimerRecovery is = in_7_8 (ap is_7_or_8 is)

  pub delivery_handles : Done
  delivery_handles = in_state x.end.state refl
