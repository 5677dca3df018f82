-- T200 or T203 expires, beside frames in transit or not: it keeps a line wanted.
use Rattle.std.proofs.Common.{◌≡◌, ◌⊎◌, inl, inr, ℕ, ◌+◌, ◌≤◌, nat_lt, Bool, true, false, List, [], ◌∷◌, ◌++◌, is_ok, refl, sym, ap, subst, ◌∙◌, arith}
use Rattle.std.proofs.lemmas.Bool.Decides.{nat_tests}
use Rattle.lapd_frame.specs.declared.Control.{Control}
use Rattle.lapd_frame.specs.declared.Control.TheVariants.{Dm, Disc}
use Rattle.lapd_frame.specs.declared.Side.{Side}
use Rattle.lapd_frame.specs.declared.Side.TheVariants as side
use Rattle.lapd_mod128.specs.Counting.{Whole}
use Rattle.lapd_link_definition.specs.declared.state.State.{State}
use Rattle.lapd_link_definition.specs.declared.state.State.TheVariants.{TeiAssigned, AwaitingEstablishment, AwaitingRelease, MultipleFrameEstablished, TimerRecovery}
use Rattle.lapd_link_definition.specs.EndOfStep.{is_7_or_8}
use Rattle.lapd_link_definition.specs.End.{End}
use Rattle.lapd_link_definition.specs.RunningTimers.{HasTimersOfState}
use Rattle.lapd_pair_laws.specs.Kinds.{kinds, tally, ask_of, answer_of}
use Rattle.lapd_pair_laws.specs.Line.{Flight}
use Rattle.lapd_pair_laws.specs.Move.{PairEvent, Expire200, Expire203, Station, View, acts}
use Rattle.lapd_pair_laws.specs.World.{World, swapped, view_of, happens}
use Rattle.lapd_pair_laws.proofs.Lists.{tally_append}
use Rattle.lapd_pair_laws.proofs.Swaps.{network_alike}
use Rattle.lapd_pair_laws.proofs.Worlds.{left_by}
use Rattle.lapd_recovery_laws.specs.WantedLine.{IsKept}
use Rattle.lapd_recovery_laws.specs.Timers.{HaveTimersOfStates}
use Rattle.lapd_recovery_laws.proofs.ClosedSteps.{Sees, seen_after_t200}
use Rattle.lapd_recovery_laws.proofs.CountedMoves.{after}
use Rattle.lapd_recovery_laws.proofs.EndSends.{kinds_append}
use Rattle.lapd_recovery_laws.proofs.HalfSteps.{asked_again, abandoned, retry_in_5, give_up_in_5}
use Rattle.lapd_recovery_laws.proofs.KeepsWanted.{is_release, NoneReleased, Wants, IsUndisturbed, undisturbed_swapped, released_append, open_is_kept}
use Rattle.lapd_recovery_laws.proofs.LoneSteps.{Polls, is_ignored, polls_by_t200, polls_by_t203, polls_again, sabme, asking, last_try_in_8}
use Rattle.lapd_recovery_laws.proofs.LostMoves.{moved_user}
use Rattle.lapd_recovery_laws.proofs.OneMoreFrame.{seeing}
use Rattle.lapd_recovery_laws.proofs.OutageWorlds.{released_is_kept}
use Rattle.lapd_recovery_laws.proofs.OwnBySide.{t200_runs, t203_runs, ok_of_side}
use Rattle.lapd_recovery_laws.proofs.StaysOpen.{awaits_none}
use Rattle.lapd_recovery_laws.proofs.TimersBeside.{IsBeside, t200_beside, t203_beside}
use Rattle.lapd_recovery_laws.proofs.Transitions.{timers_in, in_7_if_t203}

ignored_calm : (control : Control) → is_ignored control ≡ true → is_release control ≡ false
ignored_calm (Disc p) ignored = cc
ignored_calm (Dm f) ignored = cc
ignored_calm control ignored = refl

module _ (x : Station) (to_user to_network : List Flight) where
  abbrev seen : View
  seen = seeing x to_user to_network

  -- the end after the expiry, and the frames that it sends
  record Times (z : End) (sent : List Flight) : Type 0 where
    kept : IsKept z
    calm : NoneReleased sent
    wants : Wants x.end to_network to_user → Wants z (to_network ++ sent) to_user

  abbrev Timed : View → Type 0
  Timed v = Times v.station.end v.outgoing

  opened : (v : View) (rc : ℕ) → Polls x rc v → Timed v
  opened v rc p =
      let open_state : is_7_or_8 v.station.end.state ≡ true = ap is_7_or_8 p.polled.in_8 in
      record {
        kept = open_is_kept v.station.end open_state;
        calm =
            subst NoneReleased (sym p.outgoing) (ignored_calm p.frame.control p.ignored, tt);
        wants = λ was. inl (inl open_state);
      }

  closed : (v : View) (z : End) (sent : List Flight) → Sees v z [] sent → Times z sent → Timed v
  closed v z sent s t =
      subst (λ e. Times e v.outgoing) (sym s.end) (subst (λ l. Times z l) (sym s.outgoing) t)

  -- with the SABME in transit
  asks_now : (z : End) → z.state ≡ AwaitingEstablishment
      → Wants z (to_network ++ sabme ∷ []) to_user
  asks_now z is =
      let all = ap (λ ks. tally ask_of ks) (kinds_append to_network (sabme ∷ [])) in
      let sum = tally_append ask_of (kinds to_network) (kinds (sabme ∷ [])) in
      inr (is, omega (arith, all, sum))

  -- no retransmission is left, and no SABME or UA is in transit
  wants_none : x.end.state ≡ AwaitingEstablishment
      → nat_lt x.end.rc x.end.parameters.n200 ≡ false
      → tally ask_of (kinds to_network) ≡ 0 → tally answer_of (kinds to_user) ≡ 0
      → Wants x.end to_network to_user → ⊥
  wants_none is last no_ask no_answer (inl (inl opened)) =
      let shut : is_7_or_8 x.end.state ≡ false = ap is_7_or_8 is in cc
  wants_none is last no_ask no_answer (inl (inr waits)) =
      let more = waits.1 in
      absurd (let le : x.end.parameters.n200 ≤ x.end.rc = at_least x.end.rc x.end.parameters.n200
      last in omega (arith, more, le))
    where
      at_least : (a b : ℕ) → nat_lt a b ≡ false → b ≤ a
      at_least a b last = grind (arith, nat_tests, last)
  wants_none is last no_ask no_answer (inr asks) =
      let some = asks.1 in omega (arith, some, no_ask, no_answer)

  t200_times : HasTimersOfState x.end → IsKept x.end
      → is_ok (acts Whole side.User Expire200 seen) ≡ true
      → Timed (left_by (seeing x [] []) (acts Whole side.User Expire200 (seeing x [] [])))
  t200_times has kept ok = by_state x.end.state refl
    where
      v : View
      v = left_by (seeing x [] []) (acts Whole side.User Expire200 (seeing x [] []))

      on : x.end.t200 ≡ true
      on = t200_runs seen ok

      in_5 : x.end.state ≡ AwaitingEstablishment → (b : Bool)
          → nat_lt x.end.rc x.end.parameters.n200 ≡ b → Timed v
      in_5 is true more =
          let z = asked_again x.end is in
          closed v z (sabme ∷ []) (seen_after_t200 x z (sabme ∷ []) on (retry_in_5 x.end is on more))
          (record {
            kept = record { not_releasing = kept.not_releasing; none_pending = kept.none_pending };
            calm = (refl, tt);
            wants = λ was. asks_now z is;
          })
      in_5 is false last =
          let z = abandoned x.end is in
          let none = awaits_none seen ok in
          closed v z [] (seen_after_t200 x z [] on (give_up_in_5 x.end is on last)) (record {
            kept = released_is_kept z refl;
            calm = tt;
            wants = λ was. absurd (wants_none is last none.2 none.3 was);
          })

      in_8 : x.end.state ≡ TimerRecovery → (b : Bool) → nat_lt x.end.rc x.end.parameters.n200 ≡ b
          → Timed v
      in_8 is true more = opened v (x.end.rc + 1) (polls_again x is on more)
      in_8 is false last =
          let z = asking x.end in
          closed v z (sabme ∷ [])
          (seen_after_t200 x z (sabme ∷ []) on (last_try_in_8 x.end is on last)) (record {
            kept = record { not_releasing = λ in_6. cc; none_pending = λ in_5. refl };
            calm = (refl, tt);
            wants = λ was. asks_now z refl;
          })

      by_state : (state : State) → x.end.state ≡ state → Timed v
      by_state TeiAssigned is =
          let off = (timers_in TeiAssigned x.end has is).0 in let runs = on in cc
      by_state AwaitingEstablishment is = in_5 is (nat_lt x.end.rc x.end.parameters.n200) refl
      by_state AwaitingRelease is = absurd (kept.not_releasing is)
      by_state MultipleFrameEstablished is = opened v 1 (polls_by_t200 x is on)
      by_state TimerRecovery is = in_8 is (nat_lt x.end.rc x.end.parameters.n200) refl

  t203_times : HasTimersOfState x.end → is_ok (acts Whole side.User Expire203 seen) ≡ true
      → Timed (left_by (seeing x [] []) (acts Whole side.User Expire203 (seeing x [] [])))
  t203_times has ok =
      let on = t203_runs seen ok in
      opened (left_by (seeing x [] []) (acts Whole side.User Expire203 (seeing x [] []))) 0
      (polls_by_t203 x (in_7_if_t203 x.end has on) on)

-- ---- The world.

in_world : (w : World) (event : PairEvent) → IsUndisturbed w → (alone : View)
    → IsBeside w.to_user w.to_network alone
    (left_by (view_of side.User w) (acts Whole side.User event (view_of side.User w)))
    → Times w.user w.to_user w.to_network alone.station.end alone.outgoing
    → IsUndisturbed (after side.User event w)
in_world w event k alone b t =
    let v = left_by (view_of side.User w) (acts Whole side.User event (view_of side.User w)) in
    subst IsUndisturbed (sym (moved_user event w)) (record {
      mine = subst IsKept (sym b.end) t.kept;
      its = k.its;
      either = by_either k.either;
      to_user = subst NoneReleased (sym b.incoming_is) k.to_user;
      to_network =
          subst NoneReleased (sym b.outgoing_is)
          (released_append w.to_network alone.outgoing k.to_network t.calm);
    })
  where
    now : View
    now = left_by (view_of side.User w) (acts Whole side.User event (view_of side.User w))

    answers : tally answer_of (kinds w.to_network) ≤ tally answer_of (kinds now.outgoing)
    answers =
        let all =
        ap (λ l. tally answer_of (kinds l)) b.outgoing_is
        ∙ ap (λ ks. tally answer_of ks) (kinds_append w.to_network alone.outgoing) in
        let sum = tally_append answer_of (kinds w.to_network) (kinds alone.outgoing) in
        omega (arith, all, sum)

    by_either : Wants w.user.end w.to_network w.to_user ⊎ Wants w.network.end w.to_user w.to_network
        → Wants now.station.end now.outgoing now.incoming
        ⊎ Wants w.network.end now.incoming now.outgoing
    by_either (inl mine) =
        inl (subst (λ e. Wants e now.outgoing now.incoming) (sym b.end)
        (subst (λ l. Wants alone.station.end l now.incoming) (sym b.outgoing_is)
        (subst (λ l. Wants alone.station.end (w.to_network ++ alone.outgoing) l)
        (sym b.incoming_is) (t.wants mine))))
    by_either (inr (inl its)) = inr (inl its)
    by_either (inr (inr asks)) =
        let some = asks.1 in
        let more = answers in
        let same = ap (λ l. tally ask_of (kinds l)) b.incoming_is in
        inr (inr (asks.0, omega (arith, some, more, same)))

user_200 : (w : World) → IsUndisturbed w → HasTimersOfState w.user.end
    → is_ok (acts Whole side.User Expire200 (view_of side.User w)) ≡ true
    → IsUndisturbed (after side.User Expire200 w)
user_200 w k has ok =
    in_world w Expire200 k
    (left_by (seeing w.user [] []) (acts Whole side.User Expire200 (seeing w.user [] [])))
    (t200_beside w.user w.to_user w.to_network ok)
    (t200_times w.user w.to_user w.to_network has k.mine ok)

user_203 : (w : World) → IsUndisturbed w → HasTimersOfState w.user.end
    → is_ok (acts Whole side.User Expire203 (view_of side.User w)) ≡ true
    → IsUndisturbed (after side.User Expire203 w)
user_203 w k has ok =
    in_world w Expire203 k
    (left_by (seeing w.user [] []) (acts Whole side.User Expire203 (seeing w.user [] [])))
    (t203_beside w.user w.to_user w.to_network ok)
    (t203_times w.user w.to_user w.to_network has ok)

by_network : (event : PairEvent) (w : World) → IsUndisturbed (after side.User event (swapped w))
    → IsUndisturbed (after side.Network event w)
by_network event w k =
    subst IsUndisturbed (sym (network_alike Whole event w))
    (undisturbed_swapped (after side.User event (swapped w)) k)

pub t200_keeps : (s : Side) (w : World) → HaveTimersOfStates w → IsUndisturbed w
    → is_ok (happens Whole (record { side = s; event = Expire200 }) w) ≡ true
    → IsUndisturbed (after s Expire200 w)
t200_keeps side.User w have k ok =
    user_200 w k have.user (ok_of_side side.User Expire200 w ok)
t200_keeps side.Network w have k ok =
    by_network Expire200 w (user_200 (swapped w) (undisturbed_swapped w k) have.network
    (ok_of_side side.Network Expire200 w ok))

pub t203_keeps : (s : Side) (w : World) → HaveTimersOfStates w → IsUndisturbed w
    → is_ok (happens Whole (record { side = s; event = Expire203 }) w) ≡ true
    → IsUndisturbed (after s Expire203 w)
t203_keeps side.User w have k ok =
    user_203 w k have.user (ok_of_side side.User Expire203 w ok)
t203_keeps side.Network w have k ok =
    by_network Expire203 w (user_203 (swapped w) (undisturbed_swapped w k) have.network
    (ok_of_side side.Network Expire203 w ok))
