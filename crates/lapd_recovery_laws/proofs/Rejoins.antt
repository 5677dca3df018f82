-- After a T203 that was due, none is due again, without losses.
use Rattle.std.proofs.Common.{◌≡◌, ◌⊎◌, inl, inr, ℕ, zero, suc, ◌+◌, ◌-◌, ◌<◌, ◌≤◌, not, if◌then◌else◌, ◌&&◌, ◌||◌, nat_lt, Bool, true, false, List, [], ◌∷◌, ◌++◌, append-nil, length, is_ok, refl, sym, ap, subst, ◌∙◌, arith}
use Rattle.lapd_frame.specs.declared.Control.TheVariants.{Sabme}
use Rattle.lapd_frame.specs.declared.Role.TheVariants.{Command}
use Rattle.lapd_frame.specs.declared.Side.{Side}
use Rattle.lapd_frame.specs.declared.Side.TheVariants as side
use Rattle.lapd_mod128.specs.Counting.{Whole}
use Rattle.lapd_link_definition.specs.declared.state.State.{State}
use Rattle.lapd_link_definition.specs.declared.state.State.TheVariants.{TeiAssigned, AwaitingEstablishment, AwaitingRelease, MultipleFrameEstablished, TimerRecovery}
use Rattle.lapd_link_definition.specs.EndOfStep.{is_7_or_8}
use Rattle.lapd_link_definition.specs.End.{End}
use Rattle.lapd_pair_laws.specs.Conjuncts.{IsEmpty, IsConsistentSender, most_asks}
use Rattle.lapd_pair_laws.specs.Kinds.{Kind, kind, kinds, tally, ask_of, answer_of, final_of}
use Rattle.lapd_pair_laws.specs.Line.{Flight}
use Rattle.lapd_pair_laws.specs.Move.{PairEvent, Deliver, Lose, Expire200, Expire203, Move, Station, View, acts}
use Rattle.lapd_pair_laws.specs.Parties.{party}
use Rattle.lapd_pair_laws.specs.World.{World, swapped, view_of, happens, world_after}
use Rattle.lapd_pair_laws.proofs.Lists.{tally_append}
use Rattle.lapd_pair_laws.proofs.Swaps.{network_alike}
use Rattle.lapd_pair_laws.proofs.Worlds.{left_by}
use Rattle.lapd_recovery_laws.specs.EarlyTimers.{IsLineMove, AreLineMoves}
use Rattle.lapd_recovery_laws.specs.FewLosses.{is_t203, t203s}
use Rattle.lapd_recovery_laws.specs.FreeTimers.{is_early_t203, early_t203s, is_idle_out_of_step, t203s_out_of_step}
use Rattle.lapd_recovery_laws.specs.KeptAgreement.{are_in_step}
use Rattle.lapd_recovery_laws.specs.Losses.{is_loss, one_if, losses}
use Rattle.lapd_recovery_laws.specs.Own.{are_apart, is_empty, is_line_empty, is_due}
use Rattle.lapd_recovery_laws.proofs.AfterOutage.{facts_after}
use Rattle.lapd_recovery_laws.proofs.AnyOrder.{none_there, none_there_too}
use Rattle.lapd_recovery_laws.proofs.ClosedSteps.{seen_after_frame, seen_after_t200}
use Rattle.lapd_recovery_laws.proofs.Controls.{peer_request}
use Rattle.lapd_recovery_laws.proofs.ControlsOfTimers.{after_timer, alone, here, placed}
use Rattle.lapd_recovery_laws.proofs.CountedMoves.{after}
use Rattle.lapd_recovery_laws.proofs.EndSends.{kinds_append}
use Rattle.lapd_recovery_laws.proofs.Expiries.{one_if_few}
use Rattle.lapd_recovery_laws.proofs.Handles.{yields_so, delivery_handles}
use Rattle.lapd_recovery_laws.proofs.KeepsWanted.{is_release, NoneReleased, Keeps, IsUndisturbed, undisturbed_swapped, delivery_keeps, open_is_kept, view_keeps}
use Rattle.lapd_recovery_laws.proofs.LoneSteps.{ua, sabme, established, sabme_in_4, asking, last_try_in_8, Polls, polls_by_t200, polls_again, polls_by_t203}
use Rattle.lapd_recovery_laws.proofs.Lost.{at}
use Rattle.lapd_recovery_laws.proofs.LostMoves.{moved_user}
use Rattle.lapd_recovery_laws.proofs.OneMoreFrame.{seeing}
use Rattle.lapd_recovery_laws.proofs.OpenFrames.{IsSabme, IsDisc, requested}
use Rattle.lapd_recovery_laws.proofs.OutageWorlds.{Facts, facts_swapped, first_of, second_of, released_is_kept}
use Rattle.lapd_recovery_laws.proofs.OwnBySide.{t200_runs, t203_runs, ok_of_side, last_of}
use Rattle.lapd_recovery_laws.proofs.Renewals.{request_in, under_way, request, open_requests_none, HasStayed, HandlesIn}
use Rattle.lapd_recovery_laws.proofs.StaysOpen.{AwaitsNone, awaits_none}
use Rattle.lapd_recovery_laws.proofs.TimersBeside.{t200_beside, t203_beside}
use Rattle.lapd_recovery_laws.proofs.TimersWanted.{t200_keeps, t203_keeps}
use Rattle.lapd_recovery_laws.proofs.Transitions.{timers_in, in_7_if_t203}

-- in state 8 or 5, and neither a final nor the response to a request is in transit
pub record IsRejoining (x : End) (back : List Kind) : Type 0 where
  pub states : (x.state ≡ TimerRecovery) ⊎ (x.state ≡ AwaitingEstablishment)
  pub finals : tally final_of back ≡ 0
  pub answers : tally answer_of back ≡ 0

-- each request or its response is in transit, and the peer of an end in state 4 establishes
pub record Rejoins (x y : End) (to_user to_network : List Flight) : Type 0 where
  pub mine : request x (kinds to_network) (kinds to_user) ≤ 2
  pub its : request y (kinds to_user) (kinds to_network) ≤ 2
  pub alone_ : y.state ≡ TeiAssigned → IsRejoining x (kinds to_user)
  pub its_alone : x.state ≡ TeiAssigned → IsRejoining y (kinds to_network)

rejoins_turned : {x y : End} {to_user to_network : List Flight} → Rejoins x y to_user to_network
    → Rejoins y x to_network to_user
rejoins_turned r =
    record { mine = r.its; its = r.mine; alone_ = r.its_alone; its_alone = r.alone_ }

-- ---- A frame is delivered.

module _ (N : ℕ) (x y : Station) (frame : Flight) (rest to_network : List Flight)
    (f : Facts N (at x y (frame ∷ rest) to_network))
    (u : IsUndisturbed (at x y (frame ∷ rest) to_network))
    (r : Rejoins x.end y.end (frame ∷ rest) to_network) where
  abbrev z : View
  z =
      left_by (seeing x (frame ∷ rest) to_network)
      (acts Whole side.User Deliver (seeing x (frame ∷ rest) to_network))

  abbrev e : End
  e = z.station.end

  abbrev k : Kind
  k = kind frame

  abbrev ks : List Kind
  ks = kinds rest

  abbrev out : List Kind
  out = kinds to_network

  h : HandlesIn x.end frame rest to_network z
  h =
      delivery_handles x y frame rest to_network f.holds f.settled.user f.have.user
      f.clear.user

  abbrev line : List Flight
  line = to_network ++ h.new

  -- no end enters state 4
  was_4 : e.state ≡ TeiAssigned → x.end.state ≡ TeiAssigned
  was_4 in_4 = by_state x.end.state refl
    where
      kept : Keeps x y frame rest to_network f.holds.user_base f.holds.network_base u.mine
          u.to_user.0 u.to_network k e z.outgoing
      kept = (view_keeps N x y frame rest to_network f u).0

      not_open : is_7_or_8 e.state ≡ true → ⊥
      not_open o = let shut : is_7_or_8 e.state ≡ false = ap is_7_or_8 in_4 in cc

      not_5 : e.state ≡ AwaitingEstablishment → ⊥
      not_5 is = let impossible : TeiAssigned ≡ AwaitingEstablishment = sym in_4 ∙ is in cc

      from_open : is_7_or_8 x.end.state ≡ true → ⊥
      from_open opened = by_wanting (kept.wanting (inl opened))
        where
          by_wanting : (is_7_or_8 e.state ≡ true)
              ⊎ ((e.state ≡ AwaitingEstablishment) × (e.rc < e.parameters.n200)) → ⊥
          by_wanting (inl o) = not_open o
          by_wanting (inr is) = not_5 is.0

      from_5 : (is_7_or_8 e.state ≡ true)
          ⊎ ((e.state ≡ AwaitingEstablishment) × (answer_of k ≡ 0)) → ⊥
      from_5 (inl o) = not_open o
      from_5 (inr is) = not_5 is.0

      by_state : (state : State) → x.end.state ≡ state → x.end.state ≡ TeiAssigned
      by_state TeiAssigned is = is
      by_state AwaitingEstablishment is = absurd (from_5 (kept.still_5 is))
      by_state AwaitingRelease is = absurd (u.mine.not_releasing is)
      by_state MultipleFrameEstablished is = absurd (from_open (ap is_7_or_8 is))
      by_state TimerRecovery is = absurd (from_open (ap is_7_or_8 is))

  alone_now : y.end.state ≡ TeiAssigned → IsRejoining e ks
  alone_now is_4 = by_calm (h.handles.calm no_ask no_answer)
    where
      was : IsRejoining x.end (k ∷ ks)
      was = r.alone_ is_4

      no_ask : ask_of k ≡ 0
      no_ask =
          let all = f.holds.both.its.exchange.one in
          let none : most_asks y.end.state ≡ 0 = ap most_asks is_4 in omega (arith, all, none)

      no_answer : answer_of k ≡ 0
      no_answer = let none = was.answers in omega (arith, none)

      not_7 : x.end.state ≡ MultipleFrameEstablished → ⊥
      not_7 is = by_states was.states
        where
          by_states : (x.end.state ≡ TimerRecovery) ⊎ (x.end.state ≡ AwaitingEstablishment) → ⊥
          by_states (inl in_8) =
              let impossible : MultipleFrameEstablished ≡ TimerRecovery = sym is ∙ in_8 in cc
          by_states (inr in_5) =
              let impossible : MultipleFrameEstablished ≡ AwaitingEstablishment = sym is ∙ in_5 in
              cc

      in_8 : HasStayed x.end e k → (state : State) → e.state ≡ state → is_7_or_8 state ≡ true
          → e.state ≡ TimerRecovery
      in_8 s TimerRecovery is o = is
      in_8 s MultipleFrameEstablished is o = absurd (by_before (s.in_7 is))
        where
          by_before : (x.end.state ≡ MultipleFrameEstablished) ⊎ (final_of k ≡ 1) → ⊥
          by_before (inl before) = not_7 before
          by_before (inr final) = let none = was.finals in omega (arith, none, final)
      in_8 s state is o = cc

      by_calm : HasStayed x.end e k ⊎ ((e ≡ x.end) × (h.new ≡ [])) → IsRejoining e ks
      by_calm (inl s) =
          let finals = was.finals in
          let answers = was.answers in
          record {
            states = inl (in_8 s e.state refl s.still);
            finals = omega (arith, finals);
            answers = omega (arith, answers);
          }
      by_calm (inr same) =
          let finals = was.finals in
          let answers = was.answers in
          record {
            states = subst (λ (d : End). (d.state ≡ TimerRecovery)
                ⊎ (d.state ≡ AwaitingEstablishment)) (sym same.0) was.states;
            finals = omega (arith, finals);
            answers = omega (arith, answers);
          }

  -- a SABME opens state 4
  leaves_4 : x.end.state ≡ TeiAssigned → 1 ≤ ask_of k → e.state ≡ TeiAssigned → ⊥
  leaves_4 is_4 asks still = by_request (requested frame.control frame.role frame.info frame.place)
    where
      next : x.end.next ≡ length x.end.given
      next =
          let p = party f.holds.user_base x in
          let none : IsEmpty p.sends =
          subst (λ st. IsConsistentSender st p.asked p.leaving p.sends) is_4
          f.holds.both.mine.preserved in
          none.next

      by_request : IsSabme frame.control frame.role
          ⊎ (IsDisc frame.control frame.role ⊎ (ask_of k ≡ 0)) → ⊥
      by_request (inl it) =
          let s =
          seen_after_frame x frame rest to_network (established x.end) (ua ∷ [])
          (yields_so x.end frame (Sabme true) Command (established x.end) (ua ∷ []) it.0 it.1
          (sabme_in_4 x.end is_4 (sym next))) in
          let now : e.state ≡ MultipleFrameEstablished = ap (λ (d : End). d.state) s.end in
          let impossible : MultipleFrameEstablished ≡ TeiAssigned = sym now ∙ still in
          cc
      by_request (inr (inl it)) =
          let calm = u.to_user.0 in
          let release : is_release frame.control ≡ true = ap is_release it.0 in cc
      by_request (inr (inr none)) = omega (arith, asks, none)

  its_alone_now : e.state ≡ TeiAssigned → IsRejoining y.end (kinds line)
  its_alone_now still = by_asks (ask_of k) refl
    where
      is_4 : x.end.state ≡ TeiAssigned
      is_4 = was_4 still

      was : IsRejoining y.end out
      was = r.its_alone is_4

      no_answer : answer_of k ≡ 0
      no_answer =
          let all = f.holds.both.mine.exchange.one in
          let none : most_asks x.end.state ≡ 0 = ap most_asks is_4 in omega (arith, all, none)

      same_line : h.new ≡ [] → kinds line ≡ out
      same_line none =
          ap (λ l. kinds (to_network ++ l)) none ∙ ap kinds (append-nil to_network)

      by_calm : HasStayed x.end e k ⊎ ((e ≡ x.end) × (h.new ≡ [])) → IsRejoining y.end (kinds line)
      by_calm (inl s) =
          let o = s.was in
          absurd (let shut : is_7_or_8 x.end.state ≡ false = ap is_7_or_8 is_4 in cc)
      by_calm (inr same) = subst (λ l. IsRejoining y.end l) (sym (same_line same.1)) was

      by_asks : (j : ℕ) → ask_of k ≡ j → IsRejoining y.end (kinds line)
      by_asks zero none = by_calm (h.handles.calm none no_answer)
      by_asks (suc j) some = absurd (leaves_4 is_4 (omega (arith, some)) still)

  pub user_rejoins : Rejoins e y.end z.incoming z.outgoing
  user_rejoins =
      let falls = h.handles.falls in
      let mine = r.mine in
      let all = r.its in
      let its = peer_request x y frame rest to_network h.new f.holds h.handles.answers in
      let there : Rejoins e y.end rest line = record {
        mine = omega (arith, falls, mine);
        its = omega (arith, its, all);
        alone_ = alone_now;
        its_alone = its_alone_now;
      } in
      subst (λ l. Rejoins e y.end l z.outgoing) (sym h.incoming)
      (subst (λ l. Rejoins e y.end rest l) (sym h.sent) there)

-- ---- A timer expires.

module _ (N : ℕ) (x y : Station) (to_user to_network : List Flight)
    (f : Facts N (at x y to_user to_network)) (u : IsUndisturbed (at x y to_user to_network))
    (r : Rejoins x.end y.end to_user to_network) where
  abbrev seen : View
  seen = seeing x to_user to_network

  abbrev Done : PairEvent → Type 0
  Done event =
      Rejoins (here x to_user to_network event).station.end y.end
      (here x to_user to_network event).incoming (here x to_user to_network event).outgoing

  -- to state 8 or 5
  rejoined : (z : End) (sent : List Flight)
      → (z.state ≡ TimerRecovery) ⊎ (z.state ≡ AwaitingEstablishment)
      → request z (kinds (to_network ++ sent)) (kinds to_user) ≤ 2
      → (y.end.state ≡ TeiAssigned → (tally final_of (kinds to_user) ≡ 0)
      × (tally answer_of (kinds to_user) ≡ 0))
      → Rejoins z y.end to_user (to_network ++ sent)
  rejoined z sent states mine none = record {
    mine = mine;
    its = (let le = after_timer x y to_user to_network f.holds sent in
        let all = r.its in omega (arith, le, all));
    alone_ = λ is_4. let both = none is_4 in
        record { states = states; finals = both.0; answers = both.1 };
    its_alone = λ is_4. absurd (by_states states is_4);
  }
    where
      by_states : (z.state ≡ TimerRecovery) ⊎ (z.state ≡ AwaitingEstablishment)
          → z.state ≡ TeiAssigned → ⊥
      by_states (inl is) is_4 = let impossible : TimerRecovery ≡ TeiAssigned = sym is ∙ is_4 in cc
      by_states (inr is) is_4 =
          let impossible : AwaitingEstablishment ≡ TeiAssigned = sym is ∙ is_4 in cc

  polled : (rc : ℕ) (event : PairEvent) (p : Polls x rc (alone x to_user to_network event))
      → (y.end.state ≡ TeiAssigned → (tally final_of (kinds to_user) ≡ 0)
      × (tally answer_of (kinds to_user) ≡ 0))
      → Rejoins (alone x to_user to_network event).station.end y.end to_user
      (to_network ++ p.frame ∷ [])
  polled rc event p none =
      let z = (alone x to_user to_network event).station.end in
      let zero_ =
      open_requests_none z.state z.release_pending
      (under_way (kinds (to_network ++ p.frame ∷ [])) (kinds to_user))
      (ap is_7_or_8 p.polled.in_8) in
      rejoined z (p.frame ∷ []) (inl p.polled.in_8) (omega (arith, zero_)) none

  module _ (ok : is_ok (acts Whole side.User Expire200 seen) ≡ true) where
    on : x.end.t200 ≡ true
    on = t200_runs seen ok

    none : AwaitsNone seen
    none = awaits_none seen ok

    nothing : y.end.state ≡ TeiAssigned → (tally final_of (kinds to_user) ≡ 0)
        × (tally answer_of (kinds to_user) ≡ 0)
    nothing is_4 = (none.1, none.3)

    by_poll : (rc : ℕ) → Polls x rc (alone x to_user to_network Expire200) → Done Expire200
    by_poll rc p =
        placed x to_user to_network (λ d l m. Rejoins d y.end l m) Expire200
        (alone x to_user to_network Expire200).station.end (p.frame ∷ [])
        (t200_beside x to_user to_network ok) refl p.outgoing (polled rc Expire200 p nothing)

    in_8 : x.end.state ≡ TimerRecovery → (b : Bool) → nat_lt x.end.rc x.end.parameters.n200 ≡ b
        → Done Expire200
    in_8 is true more = by_poll (x.end.rc + 1) (polls_again x is on more)
    in_8 is false last =
        let s =
        seen_after_t200 x (asking x.end) (sabme ∷ []) on (last_try_in_8 x.end is on last) in
        let same = ap (λ l. tally ask_of l) (kinds_append to_network (sabme ∷ [])) in
        let sum = tally_append ask_of (kinds to_network) (kinds (sabme ∷ [])) in
        placed x to_user to_network (λ d l m. Rejoins d y.end l m) Expire200 (asking x.end)
        (sabme ∷ []) (t200_beside x to_user to_network ok) s.end s.outgoing
        (rejoined (asking x.end) (sabme ∷ []) (inr refl) (omega (arith, same, sum)) nothing)

    not_in_5 : x.end.state ≡ AwaitingEstablishment → ⊥
    not_in_5 is =
        let no_ask = none.2 in
        let no_answer = none.3 in
        let mine = r.mine in
        let now : request x.end (kinds to_network) (kinds to_user)
        ≡ 3 - under_way (kinds to_network) (kinds to_user) =
        ap (λ st. request_in st x.end.release_pending
        (under_way (kinds to_network) (kinds to_user))) is
        ∙ ap (λ b. request_in AwaitingEstablishment b
        (under_way (kinds to_network) (kinds to_user))) (u.mine.none_pending is) in
        omega (arith, no_ask, no_answer, mine, now)

    pub rejoins_200 : Done Expire200
    rejoins_200 = by_state x.end.state refl
      where
        by_state : (state : State) → x.end.state ≡ state → Done Expire200
        by_state TeiAssigned is =
            let off = (timers_in TeiAssigned x.end f.have.user is).0 in let runs = on in cc
        by_state AwaitingEstablishment is = absurd (not_in_5 is)
        by_state AwaitingRelease is = absurd (u.mine.not_releasing is)
        by_state MultipleFrameEstablished is = by_poll 1 (polls_by_t200 x is on)
        by_state TimerRecovery is = in_8 is (nat_lt x.end.rc x.end.parameters.n200) refl

-- T203 expires in state 7
module _ (N : ℕ) (x y : Station) (to_user to_network : List Flight)
    (f : Facts N (at x y to_user to_network))
    (ok : is_ok (acts Whole side.User Expire203 (seeing x to_user to_network)) ≡ true) where
  pub in_7 : x.end.state ≡ MultipleFrameEstablished
  in_7 = in_7_if_t203 x.end f.have.user (t203_runs (seeing x to_user to_network) ok)

  -- the peer is not in state 4, or nothing is in transit to x
  pub rejoins_203 : request y.end (kinds to_user) (kinds to_network) ≤ 2
      → (y.end.state ≡ TeiAssigned → (tally final_of (kinds to_user) ≡ 0)
      × (tally answer_of (kinds to_user) ≡ 0))
      → Rejoins (here x to_user to_network Expire203).station.end y.end
      (here x to_user to_network Expire203).incoming
      (here x to_user to_network Expire203).outgoing
  rejoins_203 its none =
      let p = polls_by_t203 x in_7 (t203_runs (seeing x to_user to_network) ok) in
      let z = (alone x to_user to_network Expire203).station.end in
      let zero_ =
      open_requests_none z.state z.release_pending
      (under_way (kinds (to_network ++ p.frame ∷ [])) (kinds to_user))
      (ap is_7_or_8 p.polled.in_8) in
      let le = after_timer x y to_user to_network f.holds (p.frame ∷ []) in
      placed x to_user to_network (λ d l m. Rejoins d y.end l m) Expire203 z (p.frame ∷ [])
      (t203_beside x to_user to_network ok) refl p.outgoing (record {
        mine = omega (arith, zero_);
        its = omega (arith, le, its);
        alone_ = λ is_4. let both = none is_4 in
            record { states = inl p.polled.in_8; finals = both.0; answers = both.1 };
        its_alone = λ is_4.
            let is = p.polled.in_8 in
            absurd (let impossible : TimerRecovery ≡ TeiAssigned = sym is ∙ is_4 in cc);
      })

  -- a T203 that is due: the peer is in state 4, and nothing is in transit
  pub record IsAlone : Type 0 where
    pub peer : y.end.state ≡ TeiAssigned
    pub to_user_none : to_user ≡ []
    pub to_network_none : to_network ≡ []

  pub due_alone : is_due Expire203 (at x y to_user to_network) ≡ true → IsAlone
  due_alone due =
      let lines = both_empty to_user to_network
      (first_of (is_line_empty (at x y to_user to_network)) (not (x.end.t200 || y.end.t200)) _ due)
      in
      record {
        peer = by_state y.end.state refl;
        to_user_none = lines.0;
        to_network_none = lines.1;
      }
    where
      both_empty : (a b : List Flight) → (is_empty a && is_empty b) ≡ true → (a ≡ []) × (b ≡ [])
      both_empty [] [] all = (refl, refl)
      both_empty [] (g ∷ gs) all = cc
      both_empty (g ∷ gs) b all = cc

      off : not (x.end.t200 || y.end.t200) ≡ true
      off =
          second_of (is_line_empty (at x y to_user to_network)) _
          (are_apart (at x y to_user to_network)) due

      apart : are_apart (at x y to_user to_network) ≡ true
      apart =
          last_of (is_line_empty (at x y to_user to_network)) (not (x.end.t200 || y.end.t200)) _
          due

      its_off : (a c : Bool) → not (a || c) ≡ true → c ≡ true → ⊥
      its_off true c is on = cc
      its_off false true is on = cc
      its_off false false is on = cc

      by_state : (state : State) → y.end.state ≡ state → y.end.state ≡ TeiAssigned
      by_state TeiAssigned is = is
      by_state AwaitingEstablishment is =
          absurd (its_off x.end.t200 y.end.t200 off
          (timers_in AwaitingEstablishment y.end f.have.network is).0)
      by_state AwaitingRelease is =
          absurd (its_off x.end.t200 y.end.t200 off
          (timers_in AwaitingRelease y.end f.have.network is).0)
      by_state TimerRecovery is =
          absurd (its_off x.end.t200 y.end.t200 off
          (timers_in TimerRecovery y.end f.have.network is).0)
      by_state MultipleFrameEstablished is =
          let one = in_7 in
          absurd (let impossible : are_apart (at x y to_user to_network) ≡ false =
          rw (one, is) refl in let yes_ = apart in cc)

-- ---- The world.

abbrev RejoinsIn : World → Type 0
RejoinsIn w = Rejoins w.user.end w.network.end w.to_user w.to_network

-- an end wants the link, and none is due
record IsRejoined (N : ℕ) (w : World) : Type 0 where
  undisturbed : IsUndisturbed w
  rejoins : RejoinsIn w

user_delivers : (N : ℕ) (x y : Station) (frame : Flight) (rest to_network : List Flight)
    → Facts N (at x y (frame ∷ rest) to_network)
    → IsUndisturbed (at x y (frame ∷ rest) to_network)
    → RejoinsIn (at x y (frame ∷ rest) to_network)
    → RejoinsIn (after side.User Deliver (at x y (frame ∷ rest) to_network))
user_delivers N x y frame rest to_network f u r =
    subst RejoinsIn (sym (moved_user Deliver (at x y (frame ∷ rest) to_network)))
    (user_rejoins N x y frame rest to_network f u r)

delivers : (N : ℕ) (s : Side) (x y : Station) (to_user to_network : List Flight)
    → Facts N (at x y to_user to_network) → IsUndisturbed (at x y to_user to_network)
    → RejoinsIn (at x y to_user to_network)
    → is_ok (happens Whole (record { side = s; event = Deliver }) (at x y to_user to_network))
    ≡ true → RejoinsIn (after s Deliver (at x y to_user to_network))
delivers N side.User x y [] to_network f u r ok = let none = none_there x y to_network in cc
delivers N side.User x y (frame ∷ rest) to_network f u r ok =
    user_delivers N x y frame rest to_network f u r
delivers N side.Network x y to_user [] f u r ok = let none = none_there_too x y to_user in cc
delivers N side.Network x y to_user (frame ∷ rest) f u r ok =
    let w = at x y to_user (frame ∷ rest) in
    subst RejoinsIn (sym (network_alike Whole Deliver w))
    (rejoins_turned (user_delivers N y x frame rest to_user (facts_swapped N w f)
    (undisturbed_swapped w u) (rejoins_turned r)))

user_200 : (N : ℕ) (w : World) → Facts N w → IsUndisturbed w → RejoinsIn w
    → is_ok (acts Whole side.User Expire200 (view_of side.User w)) ≡ true
    → RejoinsIn (after side.User Expire200 w)
user_200 N w f u r ok =
    subst RejoinsIn (sym (moved_user Expire200 w))
    (rejoins_200 N w.user w.network w.to_user w.to_network f u r ok)

expire_200 : (N : ℕ) (s : Side) (w : World) → Facts N w → IsUndisturbed w → RejoinsIn w
    → is_ok (happens Whole (record { side = s; event = Expire200 }) w) ≡ true
    → RejoinsIn (after s Expire200 w)
expire_200 N side.User w f u r ok = user_200 N w f u r (ok_of_side side.User Expire200 w ok)
expire_200 N side.Network w f u r ok =
    subst RejoinsIn (sym (network_alike Whole Expire200 w))
    (rejoins_turned (user_200 N (swapped w) (facts_swapped N w f) (undisturbed_swapped w u)
    (rejoins_turned r) (ok_of_side side.Network Expire200 w ok)))

-- in state 7 the peer is not in state 4
not_alone : (N : ℕ) (w : World) → Facts N w → RejoinsIn w
    → is_ok (acts Whole side.User Expire203 (view_of side.User w)) ≡ true
    → w.network.end.state ≡ TeiAssigned → ⊥
not_alone N w f r ok is_4 = by_states (r.alone_ is_4).states
  where
    is : w.user.end.state ≡ MultipleFrameEstablished
    is = in_7 N w.user w.network w.to_user w.to_network f ok

    by_states : (w.user.end.state ≡ TimerRecovery) ⊎ (w.user.end.state ≡ AwaitingEstablishment)
        → ⊥
    by_states (inl in_8) =
        let impossible : MultipleFrameEstablished ≡ TimerRecovery = sym is ∙ in_8 in cc
    by_states (inr in_5) =
        let impossible : MultipleFrameEstablished ≡ AwaitingEstablishment = sym is ∙ in_5 in cc

user_203 : (N : ℕ) (w : World) → Facts N w → RejoinsIn w
    → is_ok (acts Whole side.User Expire203 (view_of side.User w)) ≡ true
    → RejoinsIn (after side.User Expire203 w)
user_203 N w f r ok =
    subst RejoinsIn (sym (moved_user Expire203 w))
    (rejoins_203 N w.user w.network w.to_user w.to_network f ok r.its
    (λ is_4. absurd (not_alone N w f r ok is_4)))

expire_203 : (N : ℕ) (s : Side) (w : World) → Facts N w → RejoinsIn w
    → is_ok (happens Whole (record { side = s; event = Expire203 }) w) ≡ true
    → RejoinsIn (after s Expire203 w)
expire_203 N side.User w f r ok = user_203 N w f r (ok_of_side side.User Expire203 w ok)
expire_203 N side.Network w f r ok =
    subst RejoinsIn (sym (network_alike Whole Expire203 w))
    (rejoins_turned (user_203 N (swapped w) (facts_swapped N w f) (rejoins_turned r)
    (ok_of_side side.Network Expire203 w ok)))

-- none is due
user_not_due : (N : ℕ) (w : World) → Facts N w → RejoinsIn w
    → is_ok (acts Whole side.User Expire203 (view_of side.User w)) ≡ true
    → is_due Expire203 w ≡ true → ⊥
user_not_due N w f r ok due =
    not_alone N w f r ok
    (due_alone N w.user w.network w.to_user w.to_network f ok due).peer

-- the same of the sides exchanged
due_swapped : (w : World) → is_due Expire203 w ≡ true → is_due Expire203 (swapped w) ≡ true
due_swapped w due =
    by_bools (is_empty w.to_user) (is_empty w.to_network) w.user.end.t200 w.network.end.t200
    (is_7 w.user.end.state) (is_7 w.network.end.state) due
  where
    is_7 : State → Bool
    is_7 MultipleFrameEstablished = true
    is_7 state = false

    by_bools : (a b c d e g : Bool)
        → ((a && b) && not (c || d) && (if e then not g else g)) ≡ true
        → ((b && a) && not (d || c) && (if g then not e else e)) ≡ true
    by_bools true true false false true false all = refl
    by_bools true true false false false true all = refl
    by_bools true true false false true true all = cc
    by_bools true true false false false false all = cc
    by_bools true true true d e g all = cc
    by_bools true true false true e g all = cc
    by_bools true false c d e g all = cc
    by_bools false b c d e g all = cc

not_due : (N : ℕ) (s : Side) (w : World) → Facts N w → RejoinsIn w
    → is_ok (happens Whole (record { side = s; event = Expire203 }) w) ≡ true
    → is_due Expire203 w ≡ true → ⊥
not_due N side.User w f r ok due =
    user_not_due N w f r (ok_of_side side.User Expire203 w ok) due
not_due N side.Network w f r ok due =
    user_not_due N (swapped w) (facts_swapped N w f) (rejoins_turned r)
    (ok_of_side side.Network Expire203 w ok) (due_swapped w due)

-- after a T203 that is due
user_begins : (N : ℕ) (x y : Station) (to_user to_network : List Flight)
    → Facts N (at x y to_user to_network)
    → is_ok (acts Whole side.User Expire203 (seeing x to_user to_network)) ≡ true
    → is_due Expire203 (at x y to_user to_network) ≡ true
    → IsUndisturbed (at x y to_user to_network)
    × RejoinsIn (after side.User Expire203 (at x y to_user to_network))
user_begins N x y to_user to_network f ok due =
    let w = at x y to_user to_network in
    let a = due_alone N x y to_user to_network f ok due in
    let is = in_7 N x y to_user to_network f ok in
    let peer = a.peer in
    let none : tally final_of (kinds to_user) ≡ 0 =
    ap (λ l. tally final_of (kinds l)) a.to_user_none in
    let none_too : tally answer_of (kinds to_user) ≡ 0 =
    ap (λ l. tally answer_of (kinds l)) a.to_user_none in
    let zero_ : request y.end (kinds to_user) (kinds to_network) ≡ 0 =
    ap (λ st. request_in st y.end.release_pending
    (under_way (kinds to_user) (kinds to_network))) peer in (
      record {
        mine = open_is_kept x.end (ap is_7_or_8 is);
        its = released_is_kept y.end peer;
        either = inl (inl (inl (ap is_7_or_8 is)));
        to_user = subst NoneReleased (sym a.to_user_none) tt;
        to_network = subst NoneReleased (sym a.to_network_none) tt;
      },
      subst RejoinsIn (sym (moved_user Expire203 w))
          (rejoins_203 N x y to_user to_network f ok (omega (arith, zero_))
          (λ is_4. (none, none_too))),
    )

begins : (N : ℕ) (s : Side) (w : World) → Facts N w
    → is_ok (happens Whole (record { side = s; event = Expire203 }) w) ≡ true
    → is_due Expire203 w ≡ true → IsUndisturbed w × RejoinsIn (after s Expire203 w)
begins N side.User w f ok due =
    user_begins N w.user w.network w.to_user w.to_network f
    (ok_of_side side.User Expire203 w ok) due
begins N side.Network w f ok due =
    let b =
    user_begins N w.network w.user w.to_network w.to_user (facts_swapped N w f)
    (ok_of_side side.Network Expire203 w ok) (due_swapped w due) in (
      undisturbed_swapped (swapped w) b.0,
      subst RejoinsIn (sym (network_alike Whole Expire203 w)) (rejoins_turned b.1),
    )

-- ---- All moves.

-- T203 expires while the ends are not in step, early or not
abbrev pub is_apart_t203 : PairEvent → World → Bool
is_apart_t203 event w = is_t203 event && not (are_in_step w)

abbrev pub apart_t203s : List Move → World → ℕ
apart_t203s [] w = 0
apart_t203s (move ∷ moves) w = one_if (is_apart_t203 move.event w)
    + apart_t203s moves (world_after w (happens Whole move w))

-- at most n of them are due
pub record AreFew (n : ℕ) (moves : List Move) (w : World) : Type 0 where
  pub all : t203s moves ≤ early_t203s Whole moves w + n
  pub apart : apart_t203s moves w ≤ t203s_out_of_step Whole moves w + n

module _ (N : ℕ) where
  early_one : (w : World) → is_due Expire203 w ≡ false → one_if (is_early_t203 Expire203 w) ≡ 1
  early_one w not_due = ap (λ b. one_if (not b)) not_due

  out_one : (w : World) → is_due Expire203 w ≡ false
      → one_if (is_idle_out_of_step Expire203 w) ≡ one_if (is_apart_t203 Expire203 w)
  out_one w not_due = ap (λ b. one_if (not b && not (are_in_step w))) not_due

  apart_few : (w : World) → one_if (is_apart_t203 Expire203 w) ≤ 1
  apart_few w = one_if_few (not (are_in_step w))

  -- from a world in which none is due
  rejoined_few : (moves : List Move) (w : World) → Facts N w → IsRejoined N w
      → AreLineMoves Whole moves w → losses moves ≡ 0 → AreFew 0 moves w
  rejoined_few [] w f j own lossless = record { all = omega arith; apart = omega arith }
  rejoined_few (move ∷ moves) w f j own lossless =
      first move.side move.event own.0 (omega (arith, lossless))
      (λ now. rejoined_few moves (after move.side move.event w)
      (facts_after N move w f) now own.1 (omega (arith, lossless)))
    where
      first : (s : Side) (event : PairEvent)
          → IsLineMove Whole (record { side = s; event = event }) w
          → one_if (is_loss event) ≡ 0
          → (IsRejoined N (after s event w) → AreFew 0 moves (after s event w))
          → AreFew 0 (record { side = s; event = event } ∷ moves) w
      first s Deliver one quiet rest =
          let few = rest (record {
            undisturbed = delivery_keeps N s w f j.undisturbed one.admitted;
            rejoins =
                delivers N s w.user w.network w.to_user w.to_network f j.undisturbed j.rejoins
                one.admitted;
          }) in
          let all = few.all in
          let apart = few.apart in
          record { all = omega (arith, all); apart = omega (arith, apart) }
      first s (Lose i) one quiet rest = absurd (omega (arith, quiet))
      first s Expire200 one quiet rest =
          let few = rest (record {
            undisturbed = t200_keeps s w f.have j.undisturbed one.admitted;
            rejoins = expire_200 N s w f j.undisturbed j.rejoins one.admitted;
          }) in
          let all = few.all in
          let apart = few.apart in
          record { all = omega (arith, all); apart = omega (arith, apart) }
      first s Expire203 one quiet rest = by_due (is_due Expire203 w) refl
        where
          by_due : (b : Bool) → is_due Expire203 w ≡ b
              → AreFew 0 (record { side = s; event = Expire203 } ∷ moves) w
          by_due true due = absurd (not_due N s w f j.rejoins one.admitted due)
          by_due false early =
              let few = rest (record {
                undisturbed = t203_keeps s w f.have j.undisturbed one.admitted;
                rejoins = expire_203 N s w f j.rejoins one.admitted;
              }) in
              let all = few.all in
              let apart = few.apart in
              let one_ = early_one w early in
              let out = out_one w early in
              record { all = omega (arith, all, one_); apart = omega (arith, apart, out) }
      first s event one quiet rest = let impossible = one.of_line in cc

  -- from any world
  pub few_due : (moves : List Move) (w : World) → Facts N w → AreLineMoves Whole moves w
      → losses moves ≡ 0 → AreFew 1 moves w
  few_due [] w f own lossless = record { all = omega arith; apart = omega arith }
  few_due (move ∷ moves) w f own lossless =
      first move.side move.event own.0 own.1 (omega (arith, lossless))
      (few_due moves (after move.side move.event w) (facts_after N move w f) own.1
      (omega (arith, lossless)))
    where
      first : (s : Side) (event : PairEvent)
          → IsLineMove Whole (record { side = s; event = event }) w
          → AreLineMoves Whole moves (after s event w) → one_if (is_loss event) + losses moves ≡ 0
          → AreFew 1 moves (after s event w)
          → AreFew 1 (record { side = s; event = event } ∷ moves) w
      first s Deliver one rest quiet few =
          let all = few.all in
          let apart = few.apart in
          record { all = omega (arith, all); apart = omega (arith, apart) }
      first s (Lose i) one rest quiet few = absurd (omega (arith, quiet))
      first s Expire200 one rest quiet few =
          let all = few.all in
          let apart = few.apart in
          record { all = omega (arith, all); apart = omega (arith, apart) }
      first s Expire203 one rest quiet few = by_due (is_due Expire203 w) refl
        where
          by_due : (b : Bool) → is_due Expire203 w ≡ b
              → AreFew 1 (record { side = s; event = Expire203 } ∷ moves) w
          by_due true due =
              let b = begins N s w f one.admitted due in
              let now =
              rejoined_few moves (after s Expire203 w)
              (facts_after N (record { side = s; event = Expire203 }) w f)
              (record {
                undisturbed = t203_keeps s w f.have b.0 one.admitted;
                rejoins = b.1;
              }) rest (omega (arith, quiet)) in
              let all = now.all in
              let apart = now.apart in
              let le = apart_few w in
              record { all = omega (arith, all); apart = omega (arith, apart, le) }
          by_due false early =
              let all = few.all in
              let apart = few.apart in
              let one_ = early_one w early in
              let out = out_one w early in
              record { all = omega (arith, all, one_); apart = omega (arith, apart, out) }
      first s event one rest quiet few = let impossible = one.of_line in cc
