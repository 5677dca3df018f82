-- A line with both ends in states 4 and 6 is released by its own moves, in any order.
use Rattle.std.proofs.Common.{◌≡◌, ◌⊎◌, inl, inr, ℕ, ◌+◌, ◌-◌, ◌≤◌, nat_lt, not, ◌&&◌, ◌||◌, Bool, true, false, List, [], ◌∷◌, length, is_ok, refl, sym, ap, subst, ◌∙◌, arith}
use Rattle.lapd_frame.specs.declared.Side.{Side}
use Rattle.lapd_frame.specs.declared.Side.TheVariants as side
use Rattle.lapd_frame.specs.declared.Role.TheVariants.{Command, Answer}
use Rattle.lapd_frame.specs.declared.Control.TheVariants.{Dm, Disc, Ua}
use Rattle.lapd_mod128.specs.Counting.{Whole, Reading, Tagged}
use Rattle.lapd_link_definition.specs.declared.state.State.{State}
use Rattle.lapd_link_definition.specs.declared.state.State.TheVariants.{TeiAssigned, AwaitingRelease}
use Rattle.lapd_link_definition.specs.EndOfStep.{is_established}
use Rattle.lapd_link_definition.specs.End.{End}
use Rattle.lapd_link_definition.specs.RunningTimers.{AreTimersOf, HasTimersOfState}
use Rattle.lapd_pair_laws.specs.Consistent.{IsConsistentWorld}
use Rattle.lapd_pair_laws.specs.Invariant.{IsInvariant}
use Rattle.lapd_pair_laws.specs.Line.{Flight, without_info}
use Rattle.lapd_pair_laws.specs.Move.{PairEvent, Deliver, Expire200, Expire203, Move, Station, acts}
use Rattle.lapd_pair_laws.specs.Parties.{party}
use Rattle.lapd_pair_laws.specs.World.{World, swapped, view_of, with_view, world_after, happens, run, new_world}
use Rattle.lapd_pair_laws.proofs.Consistency.{run_consistent}
use Rattle.lapd_pair_laws.proofs.Settles.{IsStill}
use Rattle.lapd_pair_laws.proofs.Stepping.{user_move, network_move}
use Rattle.lapd_pair_laws.proofs.Swaps.{network_alike}
use Rattle.lapd_pair_laws.proofs.Whole.{each_run_preserves}
use Rattle.lapd_pair_laws.proofs.Worlds.{left_by}
use Rattle.lapd_recovery_laws.proofs.AfterOutage.{empty_in_4}
use Rattle.lapd_recovery_laws.specs.Agreed.{AreReleased}
use Rattle.lapd_recovery_laws.specs.Own.{are_apart, is_line_empty, is_due, AreOwn}
use Rattle.lapd_recovery_laws.specs.ReleasedLine.{IsReleasing, IsReleasedLine, IsDown, ComesDown}
use Rattle.lapd_recovery_laws.specs.Timers.{HaveTimersOfStates}
use Rattle.lapd_recovery_laws.proofs.AnyOrder.{none_there, ok_in_world, runs_if_expires, rests_still}
use Rattle.lapd_recovery_laws.proofs.OneMoreFrame.{seeing}
use Rattle.lapd_recovery_laws.proofs.ClosedSteps.{Sees, seen_after_t200, seen_after_frame, disc_in_4, disc_in_6, ua_in_6, dm_in_6, retry_in_6, give_up_in_6, released, retried}
use Rattle.lapd_recovery_laws.proofs.Lost.{at}
use Rattle.lapd_recovery_laws.proofs.LostMoves.{moved_user}
use Rattle.lapd_recovery_laws.proofs.TimersOfRuns.{timers_after_move}
use Rattle.lapd_recovery_laws.proofs.Transitions.{literally}
use Rattle.lapd_link_definition.specs.Parameters.{Parameters}
use Rattle.lapd_link_definition.specs.Tagging.{tag_end}
use Rattle.lapd_pair_laws.specs.Tagged.{tag_world}
use Rattle.lapd_pair_laws.proofs.DrainsAfterRuns.{unmapped}
use Rattle.lapd_recovery_laws.proofs.OwnOnTags.{are_own_by_tags, agreed_on_tags, at_rest_on_tags}
use Rattle.lapd_recovery_laws.proofs.RunsEmpty as runs

-- ---- Situations.

-- what T200 can still do: an exchange of three moves, or to give up
abbrev attempts_in : State → Bool → ℕ
attempts_in AwaitingRelease true = 3
attempts_in AwaitingRelease false = 1
attempts_in state tries = 0

abbrev attempts : End → ℕ
attempts e = attempts_in e.state (nat_lt e.rc e.parameters.n200)

abbrev disc : Flight
disc = without_info Command (Disc true)

abbrev IsAnswer : Flight → Type 0
IsAnswer f = (f ≡ without_info Answer (Ua true)) ⊎ (f ≡ without_info Answer (Dm true))

-- the line is empty
record Still (n : ℕ) (w : World) : Type 0 where
  user : IsReleasing w.user.end
  network : IsReleasing w.network.end
  to_user : w.to_user ≡ []
  to_network : w.to_network ≡ []
  most : attempts w.user.end + attempts w.network.end ≤ n

-- the DISC of the user is in transit
record Asked (n : ℕ) (w : World) : Type 0 where
  user : w.user.end.state ≡ AwaitingRelease
  network : IsReleasing w.network.end
  to_user : w.to_user ≡ []
  to_network : w.to_network ≡ disc ∷ []
  most : 2 + attempts w.network.end ≤ n

-- its answer is
record Answered (n : ℕ) (w : World) : Type 0 where
  user : w.user.end.state ≡ AwaitingRelease
  network : IsReleasing w.network.end
  frame : Flight
  answer : IsAnswer frame
  to_user : w.to_user ≡ frame ∷ []
  to_network : w.to_network ≡ []
  most : 1 + attempts w.network.end ≤ n

abbrev Releasing : ℕ → World → Type 0
Releasing n w =
    Still n w ⊎ ((Asked n w ⊎ Asked n (swapped w)) ⊎ (Answered n w ⊎ Answered n (swapped w)))

releasing_swapped : (n : ℕ) (w : World) → Releasing n w → Releasing n (swapped w)
releasing_swapped n w (inl s) =
    inl (record {
      user = s.network;
      network = s.user;
      to_user = s.to_network;
      to_network = s.to_user;
      most = let le = s.most in omega (arith, le);
    })
releasing_swapped n w (inr (inl (inl a))) = inr (inl (inr a))
releasing_swapped n w (inr (inl (inr a))) = inr (inl (inl a))
releasing_swapped n w (inr (inr (inl a))) = inr (inr (inr a))
releasing_swapped n w (inr (inr (inr a))) = inr (inr (inl a))

record MovesOn (n : ℕ) (now : World) : Type 0 where
  some : 1 ≤ n
  releasing : Releasing (n - 1) now

-- ---- A step of the user.

abbrev After : PairEvent → ℕ → Station → Station → List Flight → List Flight → Type 0
After event n x y to_user to_network =
    is_ok (happens Whole (user_move event) (at x y to_user to_network)) ≡ true
    → MovesOn n (world_after (at x y to_user to_network)
    (happens Whole (user_move event) (at x y to_user to_network)))

off_in_4 : (e : End) → HasTimersOfState e → e.state ≡ TeiAssigned → e.t200 ≡ false
off_in_4 e has is =
    let t : AreTimersOf TeiAssigned e.t200 e.t203 (e.window.vs ≡ e.window.va) =
    subst (λ s. AreTimersOf s e.t200 e.t203 (e.window.vs ≡ e.window.va)) is has in
    t.0

on_in_6 : (e : End) → HasTimersOfState e → e.state ≡ AwaitingRelease → e.t200 ≡ true
on_in_6 e has is =
    let t : AreTimersOf AwaitingRelease e.t200 e.t203 (e.window.vs ≡ e.window.va) =
    subst (λ s. AreTimersOf s e.t200 e.t203 (e.window.vs ≡ e.window.va)) is has in
    t.0

-- the weight of an end by its state
in_6 : (e : End) (tries : Bool) → e.state ≡ AwaitingRelease → nat_lt e.rc e.parameters.n200 ≡ tries
    → attempts e ≡ attempts_in AwaitingRelease tries
in_6 e tries is some =
    ap (λ st. attempts_in st (nat_lt e.rc e.parameters.n200)) is
    ∙ ap (λ b. attempts_in AwaitingRelease b) some

at_most_three : (e : End) → IsReleasing e → attempts e ≤ 3
at_most_three e (inl is) =
    let none : attempts e ≡ 0 = ap (λ st. attempts_in st (nat_lt e.rc e.parameters.n200)) is in
    omega (arith, none)
at_most_three e (inr is) = by_tries (nat_lt e.rc e.parameters.n200) refl
  where
    by_tries : (b : Bool) → nat_lt e.rc e.parameters.n200 ≡ b → attempts e ≤ 3
    by_tries true some = let three = in_6 e true is some in omega (arith, three)
    by_tries false none = let one = in_6 e false is none in omega (arith, one)

module _ (n : ℕ) (x y : Station) where
  abbrev now : PairEvent → List Flight → List Flight → World
  now event to_user to_network =
      with_view side.User (left_by (seeing x to_user to_network)
      (acts Whole side.User event (seeing x to_user to_network))) (at x y to_user to_network)

  moved_to : (event : PairEvent) (to_user to_network : List Flight)
      → MovesOn n (now event to_user to_network)
      → MovesOn n (world_after (at x y to_user to_network)
      (happens Whole (user_move event) (at x y to_user to_network)))
  moved_to event to_user to_network m =
      subst (λ v. MovesOn n v) (sym (moved_user event (at x y to_user to_network))) m

  -- T200 of the user expires
  expires : Still n (at x y [] []) → HasTimersOfState x.end → x.end.t200 ≡ true
      → MovesOn n (now Expire200 [] [])
  expires s has on = by_state s.user
    where
      by_tries : (b : Bool) → nat_lt x.end.rc x.end.parameters.n200 ≡ b
          → x.end.state ≡ AwaitingRelease → MovesOn n (now Expire200 [] [])
      by_tries true some is =
          let three = in_6 x.end true is some in
          let le = s.most in
          let v =
          seen_after_t200 x (retried x.end is) (disc ∷ []) on
          (retry_in_6 x.end is on some) in
          record {
            some = omega (arith, three, le);
            releasing =
                inr (inl (inl (record {
                  user = ap (λ (e : End). e.state) v.end ∙ is;
                  network = s.network;
                  to_user = v.incoming;
                  to_network = v.outgoing;
                  most = omega (arith, three, le);
                })));
          }
      by_tries false none is =
          let one = in_6 x.end false is none in
          let le = s.most in
          let v = seen_after_t200 x (released x.end is) [] on (give_up_in_6 x.end is on none) in
          let over : attempts (now Expire200 [] []).user.end ≡ 0 = ap attempts v.end in
          record {
            some = omega (arith, one, le);
            releasing =
                inl (record {
                  user = inl (ap (λ (e : End). e.state) v.end);
                  network = s.network;
                  to_user = v.incoming;
                  to_network = v.outgoing;
                  most = omega (arith, one, le, over);
                });
          }

      by_state : IsReleasing x.end → MovesOn n (now Expire200 [] [])
      by_state (inl is) = let off = off_in_4 x.end has is in cc
      by_state (inr is) = by_tries (nat_lt x.end.rc x.end.parameters.n200) refl is

  -- the DISC of the network is delivered to the user
  answers : Asked n (at y x [] (disc ∷ [])) → MovesOn n (now Deliver (disc ∷ []) [])
  answers a = by_state a.network
    where
      done : (f : Flight) → IsAnswer f
          → Sees (left_by (seeing x (disc ∷ []) [])
          (acts Whole side.User Deliver (seeing x (disc ∷ []) []))) x.end [] (f ∷ [])
          → MovesOn n (now Deliver (disc ∷ []) [])
      done f is v =
          let le = a.most in
          let same : attempts (now Deliver (disc ∷ []) []).user.end ≡ attempts x.end =
          ap attempts v.end in
          record {
            some = omega (arith, le);
            releasing =
                inr (inr (inr (record {
                  user = a.user;
                  network = subst IsReleasing (sym v.end) a.network;
                  frame = f;
                  answer = is;
                  to_user = v.outgoing;
                  to_network = v.incoming;
                  most = omega (arith, le, same);
                })));
          }

      by_state : IsReleasing x.end → MovesOn n (now Deliver (disc ∷ []) [])
      by_state (inl is) =
          done (without_info Answer (Dm true)) (inr refl)
          (seen_after_frame x disc [] [] x.end (without_info Answer (Dm true) ∷ [])
          (disc_in_4 x.end is))
      by_state (inr is) =
          done (without_info Answer (Ua true)) (inl refl)
          (seen_after_frame x disc [] [] x.end (without_info Answer (Ua true) ∷ [])
          (disc_in_6 x.end is))

  -- the answer is delivered to the user
  ends : (f : Flight) → IsAnswer f → Answered n (at x y (f ∷ []) [])
      → MovesOn n (now Deliver (f ∷ []) [])
  ends f answer a = by_answer answer
    where
      done : Sees
          (left_by (seeing x (f ∷ []) []) (acts Whole side.User Deliver (seeing x (f ∷ []) [])))
          (released x.end a.user) [] [] → MovesOn n (now Deliver (f ∷ []) [])
      done v =
          let le = a.most in
          let over : attempts (now Deliver (f ∷ []) []).user.end ≡ 0 = ap attempts v.end in
          record {
            some = omega (arith, le);
            releasing =
                inl (record {
                  user = inl (ap (λ (e : End). e.state) v.end);
                  network = a.network;
                  to_user = v.incoming;
                  to_network = v.outgoing;
                  most = omega (arith, le, over);
                });
          }

      by_answer : IsAnswer f → MovesOn n (now Deliver (f ∷ []) [])
      by_answer (inl ua) =
          done (subst (λ g. Sees (left_by (seeing x (g ∷ []) [])
          (acts Whole side.User Deliver (seeing x (g ∷ []) []))) (released x.end a.user)
          [] []) (sym ua) (seen_after_frame x (without_info Answer (Ua true)) [] []
          (released x.end a.user) [] (ua_in_6 x.end a.user)))
      by_answer (inr dm) =
          done (subst (λ g. Sees (left_by (seeing x (g ∷ []) [])
          (acts Whole side.User Deliver (seeing x (g ∷ []) []))) (released x.end a.user)
          [] []) (sym dm) (seen_after_frame x (without_info Answer (Dm true)) [] []
          (released x.end a.user) [] (dm_in_6 x.end a.user)))

  -- ---- The user delivers, or its T200 expires.

  user_delivers : (to_user to_network : List Flight) → Releasing n (at x y to_user to_network)
      → After Deliver n x y to_user to_network
  user_delivers to_user to_network (inl s) =
      literally (After Deliver n x y) to_user to_network [] to_network s.to_user refl
      (λ ok. let impossible = none_there x y to_network in cc)
  user_delivers to_user to_network (inr (inl (inl a))) =
      literally (After Deliver n x y) to_user to_network [] to_network a.to_user refl
      (λ ok. let impossible = none_there x y to_network in cc)
  user_delivers to_user to_network (inr (inl (inr a))) =
      literally (After Deliver n x y) to_user to_network (disc ∷ []) [] a.to_network a.to_user
      (λ ok. moved_to Deliver (disc ∷ []) []
      (answers (record {
        user = a.user;
        network = a.network;
        to_user = refl;
        to_network = refl;
        most = a.most;
      })))
  user_delivers to_user to_network (inr (inr (inl a))) =
      literally (After Deliver n x y) to_user to_network (a.frame ∷ []) [] a.to_user a.to_network
      (λ ok. moved_to Deliver (a.frame ∷ []) []
      (ends a.frame a.answer (record {
        user = a.user;
        network = a.network;
        frame = a.frame;
        answer = a.answer;
        to_user = refl;
        to_network = refl;
        most = a.most;
      })))
  user_delivers to_user to_network (inr (inr (inr a))) =
      literally (After Deliver n x y) to_user to_network [] to_network a.to_network refl
      (λ ok. let impossible = none_there x y to_network in cc)

  abbrev AfterT200 : List Flight → List Flight → Type 0
  AfterT200 to_user to_network =
      is_line_empty (at x y to_user to_network) ≡ true
      → MovesOn n (world_after (at x y to_user to_network)
      (happens Whole (user_move Expire200) (at x y to_user to_network)))

  user_expires : (to_user to_network : List Flight) → Releasing n (at x y to_user to_network)
      → HasTimersOfState x.end → x.end.t200 ≡ true → AfterT200 to_user to_network
  user_expires to_user to_network (inl s) has on =
      literally AfterT200 to_user to_network [] [] s.to_user s.to_network
      (λ empty. moved_to Expire200 [] []
      (expires (record {
        user = s.user;
        network = s.network;
        to_user = refl;
        to_network = refl;
        most = s.most;
      }) has on))
  user_expires to_user to_network (inr (inl (inl a))) has on =
      literally AfterT200 to_user to_network [] (disc ∷ []) a.to_user a.to_network (λ empty. cc)
  user_expires to_user to_network (inr (inl (inr a))) has on =
      literally AfterT200 to_user to_network (disc ∷ []) [] a.to_network a.to_user (λ empty. cc)
  user_expires to_user to_network (inr (inr (inl a))) has on =
      literally AfterT200 to_user to_network (a.frame ∷ []) [] a.to_user a.to_network (λ empty. cc)
  user_expires to_user to_network (inr (inr (inr a))) has on =
      literally AfterT200 to_user to_network [] (a.frame ∷ []) a.to_network a.to_user (λ empty. cc)

-- ---- Any own move.

not_in_7 : (e : End) → IsReleasing e → is_established e.state ≡ false
not_in_7 e (inl is) = ap is_established is
not_in_7 e (inr is) = ap is_established is

releasing_ends : (n : ℕ) (w : World) → Releasing n w
    → IsReleasing w.user.end × IsReleasing w.network.end
releasing_ends n w (inl s) = (s.user, s.network)
releasing_ends n w (inr (inl (inl a))) = (inr a.user, a.network)
releasing_ends n w (inr (inl (inr a))) = (a.network, inr a.user)
releasing_ends n w (inr (inr (inl a))) = (inr a.user, a.network)
releasing_ends n w (inr (inr (inr a))) = (a.network, inr a.user)

never_203 : (n : ℕ) (w : World) → Releasing n w → is_due Expire203 w ≡ true → ⊥
never_203 n w r due =
    let e = releasing_ends n w r in
    let apart : are_apart w ≡ true =
    last (is_line_empty w) (not (w.user.end.t200 || w.network.end.t200)) (are_apart w)
    due in
    let together : are_apart w ≡ false =
    rw (not_in_7 w.user.end e.0, not_in_7 w.network.end e.1) refl in
    cc
  where
    last : (a b c : Bool) → (a && b && c) ≡ true → c ≡ true
    last true true c all = all
    last false b c all = cc
    last true false c all = cc

empty_swapped : (w : World) → is_line_empty w ≡ true → is_line_empty (swapped w) ≡ true
empty_swapped w empty = by_lists w.to_user w.to_network empty
  where
    by_lists : (a b : List Flight) → (is_line_empty (at w.user w.network a b)) ≡ true
        → is_line_empty (at w.network w.user b a) ≡ true
    by_lists [] [] empty = refl
    by_lists (f ∷ fs) b empty = cc
    by_lists [] (f ∷ fs) empty = cc

by_network : (n : ℕ) (event : PairEvent) (w : World)
    → MovesOn n (world_after (swapped w) (happens Whole (user_move event) (swapped w)))
    → MovesOn n (world_after w (happens Whole (network_move event) w))
by_network n event w m =
    subst (λ v. MovesOn n v) (sym (network_alike Whole event w))
    (record {
      some = m.some;
      releasing =
          releasing_swapped (n - 1)
          (world_after (swapped w) (happens Whole (user_move event) (swapped w))) m.releasing;
    })

delivers_alike : (w : World)
    → is_ok (happens Whole (user_move Deliver) (swapped w))
    ≡ is_ok (happens Whole (network_move Deliver) w)
unfolding happens acts
delivers_alike w =
    ok_in_world side.User (swapped w) (acts Whole side.User Deliver (view_of side.User (swapped w)))
    ∙ sym (ok_in_world side.Network w (acts Whole side.Network Deliver (view_of side.Network w)))

own_event : (n : ℕ) (s : Side) (event : PairEvent) (w : World) → Releasing n w
    → HaveTimersOfStates w → is_due event w ≡ true
    → is_ok (happens Whole (record { side = s; event = event }) w) ≡ true
    → MovesOn n (world_after w (happens Whole (record { side = s; event = event }) w))
own_event n side.User Deliver w r have due ok =
    user_delivers n w.user w.network w.to_user w.to_network r ok
own_event n side.User Expire200 w r have due ok =
    user_expires n w.user w.network w.to_user w.to_network r have.user
    (runs_if_expires side.User w ok) due
own_event n side.Network Deliver w r have due ok =
    by_network n Deliver w (user_delivers n
    w.network w.user w.to_network w.to_user (releasing_swapped n w r) (delivers_alike w ∙ ok))
own_event n side.Network Expire200 w r have due ok =
    by_network n Expire200 w (user_expires n
    w.network w.user w.to_network w.to_user (releasing_swapped n w r) have.network
    (runs_if_expires side.Network w ok) (empty_swapped w due))
own_event n s Expire203 w r have due ok = absurd (never_203 n w r due)
own_event n s event w r have due ok = cc

-- ---- All of them.

record Reaches (n : ℕ) (moves : List Move) (now : World) : Type 0 where
  few : length moves ≤ n
  releasing : Releasing (n - length moves) now
  have : HaveTimersOfStates now

own_moves_reach : (n : ℕ) (w : World) (moves : List Move) → Releasing n w → HaveTimersOfStates w
    → AreOwn Whole moves w → Reaches n moves (run Whole moves w)
own_moves_reach n w [] r have own =
    let same : n ≡ n - 0 = omega arith in
    record { few = omega arith; releasing = subst (λ m. Releasing m w) same r; have = have }
own_moves_reach n w (move ∷ moves) r have own =
    let one = own_event n move.side move.event w r have own.0.due own.0.admitted in
    let now = world_after w (happens Whole move w) in
    let rest =
    own_moves_reach (n - 1) now moves one.releasing (timers_after_move move w have) own.1 in
    let fewer : n - 1 - length moves ≡ n - length (move ∷ moves) = omega arith in
    record {
      few = let some = one.some in let few = rest.few in omega (arith, some, few);
      releasing = subst (λ m. Releasing m (run Whole moves now)) fewer rest.releasing;
      have = rest.have;
    }

-- ---- Where no own move is possible.

at_rest : (n : ℕ) (w : World) → Releasing n w → IsStill w → Still n w
at_rest n w (inl s) still = s
at_rest n w (inr (inl (inl a))) still = let none = still.to_network in let some = a.to_network in cc
at_rest n w (inr (inl (inr a))) still = let none = still.to_user in let some = a.to_network in cc
at_rest n w (inr (inr (inl a))) still = let none = still.to_user in let some = a.to_user in cc
at_rest n w (inr (inr (inr a))) still = let none = still.to_network in let some = a.to_user in cc

released_so : (e : End) → HasTimersOfState e → e.t200 ≡ false → IsReleasing e
    → e.state ≡ TeiAssigned
released_so e has off (inl is) = is
released_so e has off (inr is) = let on = on_in_6 e has is in cc

down_at : (x y : Station) (n : ℕ) → Still n (at x y [] []) → IsInvariant (at x y [] [])
    → IsConsistentWorld Whole (at x y [] []) → HaveTimersOfStates (at x y [] [])
    → x.end.t200 ≡ false → y.end.t200 ≡ false → IsDown (at x y [] [])
down_at x y n s i preserved have off none =
    let mine = released_so x.end have.user off s.user in
    let its = released_so y.end have.network none s.network in
    let left_x =
    empty_in_4 x (party i.user_base x) refl refl refl mine i.both.mine.preserved
    i.both.mine.passed preserved.user.settled in
    let left_y =
    empty_in_4 y (party i.network_base y) refl refl refl its i.both.its.preserved
    i.both.its.passed preserved.network.settled in
    let released : AreReleased x.end y.end = record { mine = mine; its = its } in
    record {
      agreed = record {
        to_user = refl;
        to_network = refl;
        empty = omega (arith, left_x, left_y);
        user_stopped = off;
        network_stopped = none;
        ends = inl released;
      };
      released = released;
    }

down_so : (x y : Station) (to_user to_network : List Flight) (n : ℕ)
    → Still n (at x y to_user to_network) → IsInvariant (at x y to_user to_network)
    → IsConsistentWorld Whole (at x y to_user to_network)
    → HaveTimersOfStates (at x y to_user to_network) → IsStill (at x y to_user to_network)
    → IsDown (at x y to_user to_network)
down_so x y [] [] n s i preserved have still =
    down_at x y n s i preserved have still.user still.network
down_so x y (f ∷ fs) to_network n s i preserved have still = let none = still.to_user in cc
down_so x y [] (f ∷ fs) n s i preserved have still = let none = still.to_network in cc

begins : (w : World) → IsReleasedLine w → Releasing 6 w
begins w l =
    let a = at_most_three w.user.end l.user in
    let b = at_most_three w.network.end l.network in
    inl (record {
      user = l.user;
      network = l.network;
      to_user = l.to_user;
      to_network = l.to_network;
      most = omega (arith, a, b);
    })

pub released_line_comes_down : (w : World) → IsInvariant w → IsConsistentWorld Whole w
    → HaveTimersOfStates w → IsReleasedLine w → ComesDown Whole w
released_line_comes_down w i preserved have l = record {
  few = λ moves own. (own_moves_reach 6 w moves (begins w l) have own).few;
  down = λ moves own rests.
      let now = run Whole moves w in
      let reached = own_moves_reach 6 w moves (begins w l) have own in
      let still = rests_still now.user now.network now.to_user now.to_network rests in
      down_so now.user now.network now.to_user now.to_network (6 - length moves)
      (at_rest (6 - length moves) now reached.releasing still) (each_run_preserves moves w i)
      (run_consistent Whole moves w preserved) reached.have still;
}

-- ---- After every run, on whole numbers and on tags.

down_on_tags : (w : World) → IsDown w → IsDown (tag_world w)
down_on_tags w d = record {
  agreed = agreed_on_tags w d.agreed;
  released = record { mine = d.released.mine; its = d.released.its };
}

comes_down_on_tags : (w : World) → IsInvariant w → IsConsistentWorld Whole w → ComesDown Whole w
    → ComesDown Tagged (tag_world w)
comes_down_on_tags w i preserved c = record {
  few = λ moves own. c.few moves (are_own_by_tags moves w i preserved own);
  down = λ moves own rests.
      at_rest_on_tags (λ v. IsDown v) (λ v. IsDown v) down_on_tags moves w i preserved
      (c.down moves (are_own_by_tags moves w i preserved own)) rests;
}

releasing_by_tags : (e : End) → IsReleasing (tag_end e) → IsReleasing e
releasing_by_tags e (inl is) = inl is
releasing_by_tags e (inr is) = inr is

released_line_by_tags : (w : World) → IsReleasedLine (tag_world w) → IsReleasedLine w
released_line_by_tags w l = record {
  user = releasing_by_tags w.user.end l.user;
  network = releasing_by_tags w.network.end l.network;
  to_user = unmapped w.to_user l.to_user;
  to_network = unmapped w.to_network l.to_network;
}

pub every_released_line_comes_down : (r : Reading) (user network : Parameters) → user.k ≤ 127
    → network.k ≤ 127 → (moves : List Move) → IsReleasedLine (run r moves (new_world user network))
    → ComesDown r (run r moves (new_world user network))
every_released_line_comes_down r user network u n moves l =
    runs.by_readings user network u n moves (λ w. IsReleasedLine w) (λ r w. ComesDown r w)
    released_line_by_tags comes_down_on_tags
    (λ l. released_line_comes_down (run Whole moves (new_world user network))
    (runs.holds user network u n moves) (runs.preserved user network u n moves)
    (runs.have_timers user network u n moves) l) r l
