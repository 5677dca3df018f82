-- The own moves of a line after an outage, in any order.
use Rattle.std.proofs.Common.{◌≡◌, inl, inr, ℕ, ◌+◌, ◌*◌, ◌-◌, ◌≤◌, not, ◌||◌, Bool, true, false, List, ◌∷◌, length, is_ok, refl, sym, ap, subst, ◌∙◌, arith, []}
use Rattle.lapd_frame.specs.declared.Side.{Side}
use Rattle.lapd_frame.specs.declared.Side.TheVariants as side
use Rattle.lapd_mod128.specs.Counting.{Whole}
use Rattle.lapd_link_definition.specs.declared.state.State.{State}
use Rattle.lapd_link_definition.specs.declared.state.State.TheVariants.{TeiAssigned, AwaitingEstablishment, AwaitingRelease, MultipleFrameEstablished, TimerRecovery}
use Rattle.lapd_link_definition.specs.EndOfStep.{is_7_or_8}
use Rattle.lapd_link_definition.specs.End.{End, unsent}
use Rattle.lapd_link_definition.specs.RunningTimers.{HasTimersOfState}
use Rattle.lapd_pair_laws.specs.Invariant.{IsInvariant}
use Rattle.lapd_pair_laws.specs.Line.{Flight}
use Rattle.lapd_pair_laws.specs.Move.{PairEvent, Deliver, Expire200, Expire203, Station, View, acts}
use Rattle.lapd_pair_laws.specs.Timed.{AreSettledEnds}
use Rattle.lapd_pair_laws.specs.World.{World, swapped, view_of, world_after, happens}
use Rattle.lapd_pair_laws.specs.Kinds.{Final}
use Rattle.lapd_pair_laws.proofs.Flow.{source, sink}
use Rattle.lapd_pair_laws.proofs.SettledEnds.{move_settles}
use Rattle.lapd_pair_laws.proofs.Stepping.{user_move, network_move}
use Rattle.lapd_pair_laws.proofs.Swaps.{network_alike}
use Rattle.lapd_pair_laws.proofs.Whole.{each_move_preserves}
use Rattle.lapd_pair_laws.proofs.Worlds.{left_by}
use Rattle.lapd_recovery_laws.specs.Own.{are_apart, is_line_empty, is_due, IsOwn}
use Rattle.lapd_recovery_laws.proofs.AnyOrder.{Draining, draining_swapped, MayRetry, own_moves_on, in_state_7}
use Rattle.lapd_recovery_laws.proofs.OneMoreFrame.{seeing}
use Rattle.lapd_recovery_laws.proofs.ClosedSteps.{Sees, seen_after_t200, retry_in_6, give_up_in_6, released, retried}
use Rattle.lapd_recovery_laws.proofs.HalfSteps.{dm, disc, retry_in_5, give_up_in_5, asked_again, abandoned}
use Rattle.lapd_recovery_laws.proofs.OwnBySide.{no_delivery, t200_runs, t203_runs, ok_of_side, due_swapped}
use Rattle.lapd_recovery_laws.proofs.LoneSteps.{sabme, ua, asking, last_try_in_8}
use Rattle.lapd_recovery_laws.proofs.Lost.{at}
use Rattle.lapd_recovery_laws.proofs.LostExpires.{stream}
use Rattle.lapd_recovery_laws.proofs.LostMoves.{moved_user, moved_network, weight_in_8}
use Rattle.lapd_recovery_laws.proofs.SendsOn.{AreIgnored}
use Rattle.lapd_recovery_laws.proofs.Situations.{Asks6, Crossed, Refused, Parting, tries, twice, attempt_in, attempt, gone, again, Alone4, Alone5, Alone6, by_peer_5, Closed, Half, alone_4, alone_5, alone_6, asks_5, asks_6, accepted, crossed, refused, parting, closed, Coming, ComesOn}
use Rattle.lapd_recovery_laws.proofs.Transitions.{literally, timers_in, attempt_is, state_of, by_user, by_network, open_peer_5, closed_peer_6, none_left, alone4_t200, alone5_t200, alone6_t200, alone4_t203, alone5_peer, alone6_peer, alone4_ignores, alone5_ignores, alone6_ignores, in_7_if_t203}
use Rattle.lapd_recovery_laws.proofs.Exchanges.{asks5_delivered, asks6_delivered, asks6_ignores, parting_moves, refused_moves, accepted_moves, crossed_moves}
use Rattle.lapd_recovery_laws.proofs.OutageWorlds.{Facts, facts_swapped, empty_5, empty_6, empty_6_too, first_of, second_of, neither_on, stream_unsent, no_t203_if_closed, user_ok}

module _ (N : ℕ) (some_retries : 1 ≤ N) where
  -- ---- Both ends are closed: T200 of the user expires.

  peer_few : (state : State) (a g r sends leaves : ℕ)
      → (state ≡ AwaitingEstablishment → (g ≤ leaves) × (r ≤ sends))
      → by_peer_5 N state (a + g + r) a ≤ a + sends + leaves
  peer_few TeiAssigned a g r sends leaves both = omega arith
  peer_few AwaitingEstablishment a g r sends leaves both =
      let b = both refl in let p = b.0 in let q = b.1 in omega (arith, p, q)
  peer_few AwaitingRelease a g r sends leaves both = omega arith
  peer_few MultipleFrameEstablished a g r sends leaves both = omega arith
  peer_few TimerRecovery a g r sends leaves both = omega arith

  peer_bound : (n : ℕ) (x y : Station) (s : Closed N n (at x y [] []))
      → x.end.state ≡ AwaitingEstablishment
      → by_peer_5 N y.end.state (attempt y.end + gone N y.end + again N x.end) (attempt y.end)
      ≤ attempt y.end + s.sends + s.leaves
  peer_bound n x y s is =
      peer_few y.end.state (attempt y.end) (gone N y.end) (again N x.end) s.sends s.leaves
      (λ its_is. let b = s.both is its_is in (b.3, b.0))

  module _ (n : ℕ) (x y : Station) (s : Closed N n (at x y [] []))
      (on : x.end.t200 ≡ true) where
    abbrev now : World
    now = by_user Expire200 x y [] []

    abbrev v : View
    v = left_by (seeing x [] []) (acts Whole side.User Expire200 (seeing x [] []))

    gives_up : (e : End) → Sees v e [] [] → e.state ≡ TeiAssigned → unsent e ≤ unsent x.end
        → 1 ≤ attempt x.end → ComesOn N n now
    gives_up e seen is few some =
        let le = s.most in
        let none : attempt now.user.end ≡ 0 =
        ap attempt seen.end ∙ ap (λ st. attempt_in st (tries e) e.release_pending) is in
        let same : unsent now.user.end ≡ unsent e = ap unsent seen.end in
        let in_4 : now.user.end.state ≡ TeiAssigned = ap state_of seen.end ∙ is in
        record {
          some = omega (arith, le, some);
          arriving = inr (inl (closed (record {
            user = ap is_7_or_8 in_4;
            network = s.network;
            to_user = seen.incoming;
            to_network = seen.outgoing;
            sends = 0;
            leaves = 0;
            both =
                λ in_5 its_in_5. absurd
                (let impossible : TeiAssigned ≡ AwaitingEstablishment = sym in_4 ∙ in_5 in cc);
            most = omega (arith, le, some, none, same, few);
          })));
        }

    from_5 : x.end.state ≡ AwaitingEstablishment → ComesOn N n now
    from_5 is = by_tries (tries x.end) refl
      where
        by_tries : (b : Bool) → tries x.end ≡ b → ComesOn N n now
        by_tries true more =
            let seen =
            seen_after_t200 x (asked_again x.end is) (sabme ∷ []) on
            (retry_in_5 x.end is on more) in
            let le = s.most in
            let three = attempt_is AwaitingEstablishment true x.end is more in
            let bit : twice now.user.end.release_pending ≡ twice x.end.release_pending =
            ap (λ (e : End). twice e.release_pending) seen.end in
            let same : unsent now.user.end ≡ unsent x.end = ap unsent seen.end in
            let same_again : again N now.user.end ≡ again N x.end = ap (again N) seen.end in
            let bound = peer_bound n x y s is in
            let peer : by_peer_5 N y.end.state (attempt y.end + gone N y.end + again N now.user.end)
            (attempt y.end)
            ≡ by_peer_5 N y.end.state (attempt y.end + gone N y.end + again N x.end)
            (attempt y.end)
            =
            ap (λ a. by_peer_5 N y.end.state (attempt y.end + gone N y.end + a) (attempt y.end))
            same_again in
            record {
              some = omega (arith, le, three);
              arriving =
                  inr (inl (asks_5 (record {
                    user = ap state_of seen.end ∙ is;
                    to_user = seen.incoming;
                    to_network = seen.outgoing;
                    most = omega (arith, le, three, bit, same, peer, bound);
                  })));
            }
        by_tries false last =
            let one = attempt_is AwaitingEstablishment false x.end is last in
            gives_up (abandoned x.end is)
            (seen_after_t200 x (abandoned x.end is) [] on (give_up_in_5 x.end is on last)) refl
            (omega arith) (omega (arith, one))

    from_6 : x.end.state ≡ AwaitingRelease → ComesOn N n now
    from_6 is = by_tries (tries x.end) refl
      where
        by_tries : (b : Bool) → tries x.end ≡ b → ComesOn N n now
        by_tries true more =
            let seen =
            seen_after_t200 x (retried x.end is) (disc ∷ []) on
            (retry_in_6 x.end is on more) in
            let le = s.most in
            let three = attempt_is AwaitingRelease true x.end is more in
            let len : length now.to_user ≡ 0 = ap (λ fs. length fs) seen.incoming in
            let all =
            closed_peer_6 N some_retries y.end.state (attempt y.end + 2 * unsent y.end)
            s.network in
            record {
              some = omega (arith, le, three);
              arriving =
                  inr (inl (asks_6 (record {
                    user = ap state_of seen.end ∙ is;
                    ignored = subst AreIgnored (sym seen.incoming) tt;
                    to_network = seen.outgoing;
                    most = omega (arith, le, three, len, all);
                  })));
            }
        by_tries false last =
            let one = attempt_is AwaitingRelease false x.end is last in
            gives_up (released x.end is)
            (seen_after_t200 x (released x.end is) [] on (give_up_in_6 x.end is on last)) refl
            (omega arith) (omega (arith, one))

    closed_t200 : HasTimersOfState x.end → ComesOn N n now
    closed_t200 has = by_state x.end.state refl s.user
      where
        by_state : (state : State) → x.end.state ≡ state → is_7_or_8 state ≡ false
            → ComesOn N n now
        by_state TeiAssigned is c = let off = (timers_in TeiAssigned x.end has is).0 in cc
        by_state AwaitingEstablishment is c = from_5 is
        by_state AwaitingRelease is c = from_6 is
        by_state MultipleFrameEstablished is c = cc
        by_state TimerRecovery is c = cc

  closed_swapped : (n : ℕ) (w : World) → Closed N n w → Closed N n (swapped w)
  closed_swapped n w s = record {
    user = s.network;
    network = s.user;
    to_user = s.to_network;
    to_network = s.to_user;
    sends = s.sends;
    leaves = s.leaves;
    both = λ a b. let q = s.both b a in (q.1, q.0, q.3, q.2);
    most = let le = s.most in omega (arith, le);
  }

  -- ---- Any own event, by the situation.

  module _ (n : ℕ) (x y : Station) where
    abbrev Admits : PairEvent → Station → List Flight → List Flight → Type 0
    Admits event s incoming outgoing =
        is_ok (acts Whole side.User event (seeing s incoming outgoing)) ≡ true

    abbrev ByUser : PairEvent → List Flight → List Flight → Type 0
    ByUser event to_user to_network =
        is_due event (at x y to_user to_network) ≡ true → Admits event x to_user to_network
        → ComesOn N n (by_user event x y to_user to_network)

    abbrev ByNetwork : PairEvent → List Flight → List Flight → Type 0
    ByNetwork event to_user to_network =
        is_due event (at x y to_user to_network) ≡ true → Admits event y to_network to_user
        → ComesOn N n (by_network event x y to_user to_network)

    holds_after : (to_user to_network : List Flight) → IsInvariant (at x y to_user to_network)
        → IsInvariant (by_user Deliver x y to_user to_network)
    holds_after to_user to_network i =
        subst IsInvariant (moved_user Deliver (at x y to_user to_network))
        (each_move_preserves (user_move Deliver) (at x y to_user to_network) i)

    settled_after : (to_user to_network : List Flight) → AreSettledEnds (at x y to_user to_network)
        → AreSettledEnds (by_user Deliver x y to_user to_network)
    settled_after to_user to_network s =
        subst AreSettledEnds (moved_user Deliver (at x y to_user to_network))
        (move_settles (user_move Deliver) (at x y to_user to_network) s)

    none_to_user : (to_user to_network : List Flight) → to_user ≡ []
        → ByUser Deliver to_user to_network
    none_to_user to_user to_network none =
        literally (ByUser Deliver) to_user to_network [] to_network none refl
        (λ due ok. absurd (no_delivery x to_network ok))

    none_to_network : (to_user to_network : List Flight) → to_network ≡ []
        → ByNetwork Deliver to_user to_network
    none_to_network to_user to_network none =
        literally (ByNetwork Deliver) to_user to_network to_user [] refl none
        (λ due ok. absurd (no_delivery y to_user ok))

    user_delivers : (to_user to_network : List Flight) → Half N n (at x y to_user to_network)
        → Facts N (at x y to_user to_network) → ByUser Deliver to_user to_network
    user_delivers to_user to_network (alone_4 s) f = none_to_user to_user to_network s.to_user
    user_delivers to_user to_network (alone_5 s) f = none_to_user to_user to_network s.to_user
    user_delivers to_user to_network (alone_6 s) f = none_to_user to_user to_network s.to_user
    user_delivers to_user to_network (asks_5 s) f = none_to_user to_user to_network s.to_user
    user_delivers [] to_network (asks_6 s) f = none_to_user [] to_network refl
    user_delivers (frame ∷ rest) to_network (asks_6 s) f =
        literally (λ a b. Asks6 N n (at x y a b) → ByUser Deliver a b) (frame ∷ rest) to_network
        (frame ∷ rest) (disc ∷ []) refl s.to_network
        (λ s due ok. asks6_ignores N some_retries n x y frame rest s) s
    user_delivers to_user to_network (accepted s) f =
        literally (λ a b. Facts N (at x y a b) → ByUser Deliver a b) to_user to_network
        (ua ∷ s.frames) [] s.to_user s.to_network
        (λ f due ok. accepted_moves N some_retries n
        x y s.frames (record {
          user = s.user;
          frames = s.frames;
          network = s.network;
          to_user = refl;
          to_network = refl;
          most = s.most;
        }) refl
        (λ is asked. empty_5 (at x y (ua ∷ s.frames) []) f.holds is asked) (f.clear.user s.user)
        f.settled.user.timed (holds_after (ua ∷ s.frames) [] f.holds)
        (settled_after (ua ∷ s.frames) [] f.settled)) f
    user_delivers to_user to_network (crossed s) f =
        literally (λ a b. Crossed N n (at x y a b) → Facts N (at x y a b) → ByUser Deliver a b)
        to_user to_network (ua ∷ []) [] s.to_user s.to_network
        (λ s f due ok. crossed_moves N some_retries n
        x y s (λ is asked. empty_5 (at x y (ua ∷ []) []) f.holds is asked) (f.clear.user s.user)
        f.settled.user.timed (settled_after (ua ∷ []) [] f.settled)) s f
    user_delivers to_user to_network (refused s) f =
        let none =
        none_left y.end
        (empty_6_too (at x y to_user to_network) f.holds s.network) in
        literally (λ a b. Refused N n (at x y a b) → ByUser Deliver a b) to_user to_network
        (dm ∷ []) [] s.to_user s.to_network
        (λ s due ok. refused_moves N some_retries n x y s none) s
    user_delivers [] to_network (parting s) f = absurd s.to_user
    user_delivers (frame ∷ rest) to_network (parting s) f =
        let none = empty_6 (at x y (frame ∷ rest) to_network) f.holds s.user in
        literally (λ a b. Parting N n (at x y a b) → ByUser Deliver a b) (frame ∷ rest) to_network
        (frame ∷ rest) [] refl s.to_network
        (λ s due ok. parting_moves N some_retries n x y frame rest s none) s
    user_delivers to_user to_network (closed s) f = none_to_user to_user to_network s.to_user

    network_delivers : (to_user to_network : List Flight) → Half N n (at x y to_user to_network)
        → Facts N (at x y to_user to_network) → ByNetwork Deliver to_user to_network
    network_delivers to_user [] (alone_4 s) f = none_to_network to_user [] refl
    network_delivers to_user [] (alone_5 s) f = none_to_network to_user [] refl
    network_delivers to_user [] (alone_6 s) f = none_to_network to_user [] refl
    network_delivers to_user (frame ∷ rest) (alone_4 s) f =
        literally (λ a b. Alone4 N n (at x y a b) → ByNetwork Deliver a b) to_user (frame ∷ rest)
        [] (frame ∷ rest) s.to_user refl
        (λ s due ok. alone4_ignores N some_retries n x y frame rest s) s
    network_delivers to_user (frame ∷ rest) (alone_5 s) f =
        literally (λ a b. Alone5 N n (at x y a b) → ByNetwork Deliver a b) to_user (frame ∷ rest)
        [] (frame ∷ rest) s.to_user refl
        (λ s due ok. alone5_ignores N some_retries n x y frame rest s) s
    network_delivers to_user (frame ∷ rest) (alone_6 s) f =
        literally (λ a b. Alone6 N n (at x y a b) → ByNetwork Deliver a b) to_user (frame ∷ rest)
        [] (frame ∷ rest) s.to_user refl
        (λ s due ok. alone6_ignores N some_retries n x y frame rest s) s
    network_delivers to_user to_network (asks_5 s) f =
        literally (λ a b. Facts N (at x y a b) → ByNetwork Deliver a b) to_user to_network []
        (sabme ∷ []) s.to_user s.to_network
        (λ f due ok. asks5_delivered N some_retries n
        x y (record { user = s.user; to_user = refl; to_network = refl; most = s.most })
        f.holds f.have.network) f
    network_delivers to_user to_network (asks_6 s) f =
        literally (ByNetwork Deliver) to_user to_network to_user (disc ∷ []) refl s.to_network
        (λ due ok. asks6_delivered N some_retries n
        x y to_user
        (record { user = s.user; ignored = s.ignored; to_network = refl; most = s.most }))
    network_delivers to_user to_network (accepted s) f =
        none_to_network to_user to_network s.to_network
    network_delivers to_user to_network (crossed s) f =
        none_to_network to_user to_network s.to_network
    network_delivers to_user to_network (refused s) f =
        none_to_network to_user to_network s.to_network
    network_delivers to_user to_network (parting s) f =
        none_to_network to_user to_network s.to_network
    network_delivers to_user to_network (closed s) f =
        none_to_network to_user to_network s.to_network

    -- only these situations have an empty line
    data Quiet : Type 0 where
      quiet_4 : Alone4 N n (at x y [] []) → Quiet
      quiet_5 : Alone5 N n (at x y [] []) → Quiet
      quiet_6 : Alone6 N n (at x y [] []) → Quiet
      quiet_closed : Closed N n (at x y [] []) → Quiet

    quiet_of : Half N n (at x y [] []) → Quiet
    quiet_of (alone_4 s) = quiet_4 s
    quiet_of (alone_5 s) = quiet_5 s
    quiet_of (alone_6 s) = quiet_6 s
    quiet_of (closed s) = quiet_closed s
    quiet_of (asks_5 s) = let some = s.to_network in cc
    quiet_of (asks_6 s) = let some = s.to_network in cc
    quiet_of (accepted s) = let some = s.to_user in cc
    quiet_of (crossed s) = let some = s.to_user in cc
    quiet_of (refused s) = let some = s.to_user in cc
    quiet_of (parting s) = absurd s.to_user

    on_empty_line : (P : List Flight → List Flight → Type 0) (to_user to_network : List Flight)
        → is_line_empty (at x y to_user to_network) ≡ true
        → (Quiet → Facts N (at x y [] []) → P [] []) → Half N n (at x y to_user to_network)
        → Facts N (at x y to_user to_network) → P to_user to_network
    on_empty_line P [] [] empty p h f = p (quiet_of h) f
    on_empty_line P (frame ∷ rest) to_network empty p h f = cc
    on_empty_line P [] (frame ∷ rest) empty p h f = cc

    -- T200 of the user
    user_t200 : Quiet → Facts N (at x y [] []) → ByUser Expire200 [] []
    user_t200 (quiet_4 s) f =
        λ due ok. alone4_t200 N some_retries n x y f.few_user (t200_runs (seeing x [] []) ok) s
    user_t200 (quiet_5 s) f =
        λ due ok. alone5_t200 N some_retries n x y f.few_user (t200_runs (seeing x [] []) ok) s
    user_t200 (quiet_6 s) f =
        λ due ok. alone6_t200 N some_retries n x y f.few_user (t200_runs (seeing x [] []) ok) s
    user_t200 (quiet_closed s) f =
        λ due ok. closed_t200 n x y s (t200_runs (seeing x [] []) ok) f.have.user

    -- T200 of the network, but for two closed ends
    network_t200 : (Closed N n (at x y [] []) → ByNetwork Expire200 [] []) → Quiet
        → Facts N (at x y [] []) → ByNetwork Expire200 [] []
    network_t200 other (quiet_4 s) f =
        λ due ok. absurd (let off = (timers_in TeiAssigned y.end f.have.network s.network).0 in
        let on = t200_runs (seeing y [] []) ok in cc)
    network_t200 other (quiet_5 s) f =
        λ due ok. alone5_peer N some_retries n x y s f.few_user (t200_runs (seeing y [] []) ok)
    network_t200 other (quiet_6 s) f =
        λ due ok. alone6_peer N some_retries n x y s (empty_6_too (at x y [] []) f.holds s.network)
        (t200_runs (seeing y [] []) ok)
    network_t200 other (quiet_closed s) f = other s

    both_off : is_due Expire203 (at x y [] []) ≡ true → not (x.end.t200 || y.end.t200) ≡ true
    both_off due =
        second_of true (not (x.end.t200 || y.end.t200)) (are_apart (at x y [] [])) due

    -- T203 of the user: only if its peer is in state 4
    user_t203 : Quiet → Facts N (at x y [] []) → ByUser Expire203 [] []
    user_t203 (quiet_4 s) f =
        λ due ok. let on = t203_runs (seeing x [] []) ok in
        alone4_t203 N some_retries n x y s (in_7_if_t203 x.end f.have.user on) on
    user_t203 (quiet_5 s) f =
        λ due ok. absurd (neither_on x.end.t200 y.end.t200 (both_off due)
        (timers_in AwaitingEstablishment y.end f.have.network s.network).0)
    user_t203 (quiet_6 s) f =
        λ due ok. absurd (neither_on x.end.t200 y.end.t200 (both_off due)
        (timers_in AwaitingRelease y.end f.have.network s.network).0)
    user_t203 (quiet_closed s) f =
        λ due ok. absurd (let off = no_t203_if_closed x.end f.have.user s.user in
        let on = t203_runs (seeing x [] []) ok in cc)

    network_t203 : Quiet → Facts N (at x y [] []) → ByNetwork Expire203 [] []
    network_t203 q f =
        λ due ok. absurd
        (let off = no_t203_if_closed y.end f.have.network (closed_peer q) in
        let on = t203_runs (seeing y [] []) ok in cc)
      where
        closed_peer : Quiet → is_7_or_8 y.end.state ≡ false
        closed_peer (quiet_4 s) = ap is_7_or_8 s.network
        closed_peer (quiet_5 s) = ap is_7_or_8 s.network
        closed_peer (quiet_6 s) = ap is_7_or_8 s.network
        closed_peer (quiet_closed s) = s.network

  -- ---- The two sides exchanged.

  abbrev after : Side → PairEvent → World → World
  after s event w = world_after w (happens Whole (record { side = s; event = event }) w)

  coming_swapped : (n : ℕ) (w : World) → ComesOn N n w → ComesOn N n (swapped w)
  coming_swapped n w c = record { some = c.some; arriving = by_coming c.arriving }
    where
      by_coming : Coming N (n - 1) w → Coming N (n - 1) (swapped w)
      by_coming (inl d) = inl (draining_swapped (n - 1) w d)
      by_coming (inr (inl l)) = inr (inr l)
      by_coming (inr (inr l)) = inr (inl l)

  to_network_of : (n : ℕ) (event : PairEvent) (w : World)
      → ComesOn N n (after side.User event (swapped w))
      → ComesOn N n (after side.Network event w)
  to_network_of n event w c =
      subst (λ v. ComesOn N n v) (sym (network_alike Whole event w))
      (coming_swapped n (after side.User event (swapped w)) c)

  to_user_of : (n : ℕ) (event : PairEvent) (w : World)
      → ComesOn N n (after side.Network event (swapped w))
      → ComesOn N n (after side.User event w)
  to_user_of n event w c =
      subst (λ v. ComesOn N n v) (ap swapped (network_alike Whole event (swapped w)))
      (coming_swapped n (after side.Network event (swapped w)) c)

  -- T200 of the network, with both ends closed
  closed_network_t200 : (n : ℕ) (x y : Station) → Closed N n (at x y [] [])
      → HasTimersOfState y.end
      → is_ok (acts Whole side.User Expire200 (seeing y [] [])) ≡ true
      → ComesOn N n (by_network Expire200 x y [] [])
  closed_network_t200 n x y s has ok =
      let w = at x y [] [] in
      let here : ComesOn N n (by_user Expire200 y x [] []) =
      closed_t200 n y x (closed_swapped n w s) (t200_runs (seeing y [] []) ok) has in
      coming_swapped n (by_user Expire200 y x [] []) here

  half_moves : (n : ℕ) (s : Side) (event : PairEvent) (w : World) → Half N n w → Facts N w
      → is_due event w ≡ true → is_ok (acts Whole side.User event (view_of s w)) ≡ true
      → ComesOn N n (after s event w)
  half_moves n side.User Deliver w l f due ok =
      subst (λ v. ComesOn N n v) (sym (moved_user Deliver w))
      (user_delivers n w.user w.network w.to_user w.to_network l f due ok)
  half_moves n side.Network Deliver w l f due ok =
      subst (λ v. ComesOn N n v) (sym (moved_network Deliver w))
      (network_delivers n w.user w.network w.to_user w.to_network l f due ok)
  half_moves n side.User Expire200 w l f due ok =
      subst (λ v. ComesOn N n v) (sym (moved_user Expire200 w)) (on_empty_line n
      w.user w.network (ByUser n w.user w.network Expire200) w.to_user w.to_network due
      (user_t200 n w.user w.network) l f due ok)
  half_moves n side.Network Expire200 w l f due ok =
      subst (λ v. ComesOn N n v) (sym (moved_network Expire200 w)) (on_empty_line n
      w.user w.network (ByNetwork n w.user w.network Expire200) w.to_user w.to_network due
      (network_t200 n w.user w.network (λ s due ok. closed_network_t200 n
      w.user w.network s f.have.network ok)) l f due ok)
  half_moves n side.User Expire203 w l f due ok =
      subst (λ v. ComesOn N n v) (sym (moved_user Expire203 w)) (on_empty_line n
      w.user w.network (ByUser n w.user w.network Expire203) w.to_user w.to_network
      (first_of (is_line_empty w) _ _ due) (user_t203 n w.user w.network) l f due ok)
  half_moves n side.Network Expire203 w l f due ok =
      subst (λ v. ComesOn N n v) (sym (moved_network Expire203 w)) (on_empty_line n
      w.user w.network (ByNetwork n w.user w.network Expire203) w.to_user w.to_network
      (first_of (is_line_empty w) _ _ due) (network_t203 n w.user w.network) l f due ok)
  half_moves n s event w l f due ok = cc

  -- ---- Both ends are open, and T200 expires at the last try.

  module _ (n : ℕ) (x y : Station) (is : x.end.state ≡ TimerRecovery) (on : x.end.t200 ≡ true)
      (last : tries x.end ≡ false) where
    abbrev then : World
    then = by_user Expire200 x y [] []

    asks : is_7_or_8 y.end.state ≡ true → 2 + 2 * unsent x.end + 2 * unsent y.end + 1 ≤ n
        → ComesOn N n then
    asks opened most =
        let seen =
        seen_after_t200 x (asking x.end) (sabme ∷ []) on (last_try_in_8 x.end is on last) in
        let same : unsent then.user.end ≡ unsent x.end = ap unsent seen.end in
        let bit : twice then.user.end.release_pending ≡ 0 =
        ap (λ (e : End). twice e.release_pending) seen.end in
        let none =
        open_peer_5 N some_retries y.end.state
        (attempt y.end + gone N y.end + again N then.user.end) (attempt y.end) opened in
        record {
          some = omega (arith, most);
          arriving =
              inr (inl (asks_5 (record {
                user = ap state_of seen.end;
                to_user = seen.incoming;
                to_network = seen.outgoing;
                most = omega (arith, most, same, bit, none);
              })));
        }

    last_try : Draining n (at x y [] []) → ComesOn N n then
    last_try (inl d) =
        let in_7 = in_state_7 (source x.end) (sink y.end) d.sees.flow.a d.sees.flow.mine in
        absurd (let impossible : TimerRecovery ≡ MultipleFrameEstablished = sym is ∙ in_7 in cc)
    last_try (inr (inl l)) =
        let flow = l.drains.sees.flow in
        let le = flow.most in
        let two = l.two in
        let heavy =
        weight_in_8 (source x.end) (sink y.end) [] (Final y.end.window.vr ∷ []) flow.a is
        refl flow.mine in
        let its =
        stream_unsent (source y.end) (sink x.end) (Final y.end.window.vr ∷ []) [] flow.b
        flow.its in
        let in_7 = in_state_7 (source y.end) (sink x.end) flow.b (stream n x y l) in
        asks (ap is_7_or_8 in_7) (omega (arith, le, two, heavy, its))
    last_try (inr (inr (inl l))) =
        let in_7 =
        in_state_7 (source x.end) (sink y.end) l.drains.sees.flow.b (stream n y x l) in
        absurd (let impossible : TimerRecovery ≡ MultipleFrameEstablished = sym is ∙ in_7 in cc)
    last_try (inr (inr (inr l))) =
        let le = l.most in asks (ap is_7_or_8 l.network_in_8) (omega (arith, le))

  last_try_at : (n : ℕ) (x y : Station) (to_user to_network : List Flight)
      → Draining n (at x y to_user to_network)
      → is_line_empty (at x y to_user to_network) ≡ true → x.end.state ≡ TimerRecovery
      → tries x.end ≡ false → x.end.t200 ≡ true
      → ComesOn N n (by_user Expire200 x y to_user to_network)
  last_try_at n x y [] [] d empty is last on = last_try n x y is on last d
  last_try_at n x y (f ∷ fs) to_network d empty is last on = cc
  last_try_at n x y [] (f ∷ fs) d empty is last on = cc

  -- ---- Any own move.

  from_draining : (n : ℕ) (s : Side) (event : PairEvent) (w : World) → Draining n w
      → (event ≡ Expire200 → MayRetry (view_of s w).station.end) → Facts N w
      → IsOwn Whole (record { side = s; event = event }) w → ComesOn N n (after s event w)
  from_draining n s event w d may f own =
      let m = own_moves_on n (record { side = s; event = event }) w d may f.have own in
      record { some = m.some; arriving = inl m.draining }

  user_t200_open : (n : ℕ) (w : World) → Draining n w → Facts N w
      → IsOwn Whole (user_move Expire200) w → ComesOn N n (after side.User Expire200 w)
  user_t200_open n w d f own = by_tries (tries w.user.end) refl
    where
      by_state : (state : State) → w.user.end.state ≡ state → tries w.user.end ≡ false
          → ComesOn N n (after side.User Expire200 w)
      by_state TimerRecovery is last = subst (λ v. ComesOn N n v) (sym (moved_user Expire200 w))
          (last_try_at n w.user w.network w.to_user w.to_network d
          own.due is last
          (t200_runs (view_of side.User w) (ok_of_side side.User Expire200 w own.admitted)))
      by_state MultipleFrameEstablished is last =
          from_draining n side.User Expire200 w d
          (λ _ in_8. absurd
          (let impossible : MultipleFrameEstablished ≡ TimerRecovery = sym is ∙ in_8 in cc)) f own
      by_state TeiAssigned is last =
          from_draining n side.User Expire200 w d
          (λ _ in_8. absurd (let impossible : TeiAssigned ≡ TimerRecovery =
          sym is ∙ in_8 in cc)) f own
      by_state AwaitingEstablishment is last =
          from_draining n side.User Expire200 w d
          (λ _ in_8. absurd
          (let impossible : AwaitingEstablishment ≡ TimerRecovery = sym is ∙ in_8 in cc)) f own
      by_state AwaitingRelease is last =
          from_draining n side.User Expire200 w d
          (λ _ in_8. absurd (let impossible : AwaitingRelease ≡ TimerRecovery =
          sym is ∙ in_8 in cc)) f
          own

      by_tries : (b : Bool) → tries w.user.end ≡ b → ComesOn N n (after side.User Expire200 w)
      by_tries true more = from_draining n side.User Expire200 w d (λ _ _. more) f own
      by_tries false last = by_state w.user.end.state refl last

  own_of_swapped : (w : World) → IsOwn Whole (network_move Expire200) w
      → IsOwn Whole (user_move Expire200) (swapped w)
  own_of_swapped w own = record {
    due = sym (due_swapped Expire200 w) ∙ own.due;
    admitted = ok_swapped w (ok_of_side side.Network Expire200 w own.admitted);
  }
    where
      ok_swapped : (w : World)
          → is_ok (acts Whole side.User Expire200 (view_of side.Network w)) ≡ true
          → is_ok (happens Whole (user_move Expire200) (swapped w)) ≡ true
      ok_swapped w ok = user_ok Expire200 (swapped w) ∙ ok

  pub coming_moves : (n : ℕ) (s : Side) (event : PairEvent) (w : World) → Coming N n w
      → Facts N w → IsOwn Whole (record { side = s; event = event }) w
      → ComesOn N n (after s event w)
  coming_moves n side.User Expire200 w (inl d) f own = user_t200_open n w d f own
  coming_moves n side.Network Expire200 w (inl d) f own =
      to_network_of n Expire200 w (user_t200_open n
      (swapped w) (draining_swapped n w d) (facts_swapped N w f) (own_of_swapped w own))
  coming_moves n s Deliver w (inl d) f own = from_draining n s Deliver w d (λ is. cc) f own
  coming_moves n s Expire203 w (inl d) f own = from_draining n s Expire203 w d (λ is. cc) f own
  coming_moves n s event w (inl d) f own = let due = own.due in cc
  coming_moves n s event w (inr (inl l)) f own =
      half_moves n s event w l f own.due (ok_of_side s event w own.admitted)
  coming_moves n side.User event w (inr (inr l)) f own =
      to_user_of n event w (half_moves n
      side.Network event (swapped w) l (facts_swapped N w f)
      (sym (due_swapped event w) ∙ own.due) (ok_of_side side.User event w own.admitted))
  coming_moves n side.Network event w (inr (inr l)) f own =
      to_network_of n event w (half_moves n
      side.User event (swapped w) l (facts_swapped N w f) (sym (due_swapped event w) ∙ own.due)
      (ok_of_side side.Network event w own.admitted))
