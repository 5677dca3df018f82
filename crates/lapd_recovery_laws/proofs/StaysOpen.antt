-- Fewer losses than retransmissions: both ends stay in states 7 and 8, and no message is dropped.
use Rattle.std.proofs.Common.{◌≡◌, ℕ, zero, suc, ◌+◌, ◌-◌, ◌≤◌, nat_lt, if◌then◌else◌, not, ◌||◌, Bool, true, false, List, [], ◌∷◌, ◌++◌, length, Option, Some, None, Result, Err, is_ok, refl, sym, ap, subst, ◌∙◌, arith}
use Rattle.std.proofs.lemmas.Bool.Decides.{nat_tests}
use Rattle.lapd_timers.specs.declared.timer.Timer.TheVariants.{T200}
use Rattle.lapd_frame.specs.declared.Side.{Side}
use Rattle.lapd_frame.specs.declared.Side.TheVariants as side
use Rattle.lapd_mod128.specs.Counting.{Whole}
use Rattle.lapd_link_definition.specs.declared.state.State.{State}
use Rattle.lapd_link_definition.specs.declared.state.State.TheVariants.{MultipleFrameEstablished, TimerRecovery}
use Rattle.lapd_link_definition.specs.EndOfStep.{is_7_or_8}
use Rattle.lapd_link_definition.specs.End.{End}
use Rattle.lapd_link_definition.specs.Input.{Expiry}
use Rattle.lapd_link_definition.specs.Parameters.{Parameters}
use Rattle.lapd_link_definition.specs.RunningTimers.{HasTimersOfState}
use Rattle.lapd_link_definition.specs.Table.{step}
use Rattle.lapd_pair_laws.specs.Conjuncts.{most_asks}
use Rattle.lapd_pair_laws.specs.Invariant.{IsInvariant}
use Rattle.lapd_pair_laws.specs.Kinds.{Kind, Numbered, Final, kind, kinds, tally, ask_of, answer_of, poll_of, final_of, bit}
use Rattle.lapd_pair_laws.specs.Line.{Flight, without_lost, first_poll, first_final}
use Rattle.lapd_pair_laws.specs.Move.{PairEvent, Deliver, Lose, Expire200, Expire203, NotRunning, Move, Station, View, ViewStep, Refusal, acts, takes, expires_200, unless_under_way, delivers, receives, view_after}
use Rattle.lapd_pair_laws.specs.Timed.{IsSettledEnd}
use Rattle.lapd_pair_laws.specs.World.{World, swapped, view_of, with_view, happens, run}
use Rattle.lapd_pair_laws.proofs.Lists.{tally_append}
use Rattle.lapd_pair_laws.proofs.MidSteps.{open_asks_none}
use Rattle.lapd_pair_laws.proofs.Stepping.{user_move}
use Rattle.lapd_pair_laws.proofs.Swaps.{network_alike}
use Rattle.lapd_pair_laws.proofs.UnderWay.{none_under_way, none_answered}
use Rattle.lapd_pair_laws.proofs.Worlds.{left_by, exchanged}
use Rattle.lapd_recovery_laws.specs.EarlyTimers.{IsLineMove, AreLineMoves}
use Rattle.lapd_recovery_laws.specs.Losses.{is_loss, one_if, losses}
use Rattle.lapd_recovery_laws.specs.Own.{are_apart, is_line_empty, is_due}
use Rattle.lapd_recovery_laws.specs.Timers.{HaveTimersOfStates}
use Rattle.lapd_recovery_laws.proofs.AfterOutage.{same_parameters, facts_after}
use Rattle.lapd_recovery_laws.proofs.AnyOrder.{none_there, none_there_too}
use Rattle.lapd_recovery_laws.proofs.OneMoreFrame.{seeing}
use Rattle.lapd_recovery_laws.proofs.CountedMoves.{after}
use Rattle.lapd_recovery_laws.proofs.EndSends.{kinds_append}
use Rattle.lapd_recovery_laws.proofs.LosesFrame.{user_loses}
use Rattle.lapd_recovery_laws.proofs.OwnBySide.{t200_runs, t203_runs, ok_of_side, last_of}
use Rattle.lapd_recovery_laws.proofs.LoneSteps.{Polls, polls_by_t200, polls_by_t203, polls_again}
use Rattle.lapd_recovery_laws.proofs.Lost.{at}
use Rattle.lapd_recovery_laws.proofs.LostMoves.{moved_user}
use Rattle.lapd_recovery_laws.proofs.OpenFrames.{Stays, open_delivered}
use Rattle.lapd_recovery_laws.proofs.OutageWorlds.{Facts, second_of}
use Rattle.lapd_recovery_laws.proofs.TimersBeside.{IsBeside, t200_beside, t203_beside}
use Rattle.lapd_recovery_laws.proofs.Transitions.{timers_in, in_7_if_t203}

-- b frames may still be lost. In state 8 a poll or its final is in transit, or RC is lower by one.
pub record Tries (b : ℕ) (x : End) (out back : List Kind) : Type 0 where
  pub open_state : is_7_or_8 x.state ≡ true
  pub spare : b + 1 ≤ x.parameters.n200
  pub tries : x.state ≡ TimerRecovery
      → x.rc + b + 1 ≤ x.parameters.n200 + tally poll_of out + tally final_of back

pub record Lasts (b : ℕ) (w : World) : Type 0 where
  pub user : Tries b w.user.end (kinds w.to_network) (kinds w.to_user)
  pub network : Tries b w.network.end (kinds w.to_user) (kinds w.to_network)

pub lasts_swapped : (b : ℕ) (w : World) → Lasts b w → Lasts b (swapped w)
lasts_swapped b w l = record { user = l.network; network = l.user }

-- one move
pub record Goes (b : ℕ) (w now : World) : Type 0 where
  pub lasts : Lasts b now
  pub user_dropped : now.user.history.dropped ≡ w.user.history.dropped
  pub network_dropped : now.network.history.dropped ≡ w.network.history.dropped

goes_swapped : (b : ℕ) (w now : World) → Goes b (swapped w) now → Goes b w (swapped now)
goes_swapped b w now g = record {
  lasts = lasts_swapped b now g.lasts;
  user_dropped = g.network_dropped;
  network_dropped = g.user_dropped;
}

by_swap : (b : ℕ) (event : PairEvent) (w : World)
    → Goes b (swapped w) (after side.User event (swapped w)) → Goes b w (after side.Network event w)
by_swap b event w g =
    subst (λ u. Goes b w u) (sym (network_alike Whole event w))
    (goes_swapped b w (after side.User event (swapped w)) g)

-- the values of an end that does not move
fewer_lost : (b : ℕ) (x : End) (out out_now back back_now : List Kind)
    → tally poll_of out + tally final_of back ≤ tally poll_of out_now + tally final_of back_now
    → Tries b x out back → Tries b x out_now back_now
fewer_lost b x out out_now back back_now le t = record {
  open_state = t.open_state;
  spare = t.spare;
  tries = λ is. let enough = t.tries is in omega (arith, enough, le);
}

-- ---- A frame is delivered.

module _ (x y : Station) (frame : Flight) (rest outgoing : List Flight)
    (i : IsInvariant (at x y (frame ∷ rest) outgoing)) (settled : IsSettledEnd x.end)
    (x_opened : is_7_or_8 x.end.state ≡ true) (y_opened : is_7_or_8 y.end.state ≡ true) where
  abbrev v : View
  v = seeing x (frame ∷ rest) outgoing

  pub no_ask : ask_of (kind frame) ≡ 0
  no_ask =
      let one = i.both.its.exchange.one in
      let none : most_asks y.end.state ≡ 0 = open_asks_none y.end.state y_opened in
      omega (arith, one, none)

  abbrev pub IsOpen : View → Type 0
  IsOpen u =
      Stays x.end x.history.dropped (kind frame) outgoing u.station.end u.station.history.dropped
      u.outgoing × (u.incoming ≡ rest)

  pub stays_open : IsOpen (left_by v (acts Whole side.User Deliver v))
  unfolding acts delivers receives step view_after
  stays_open = (
    ((open_delivered x y frame rest outgoing i.user_base i.network_base settled x_opened
        i.both).1.0 no_ask).0,
    refl,
  )

module _ (b : ℕ) (x y : Station) (frame : Flight) (rest outgoing : List Flight)
    (i : IsInvariant (at x y (frame ∷ rest) outgoing)) (settled : IsSettledEnd x.end)
    (l : Lasts b (at x y (frame ∷ rest) outgoing)) where
  goes_on : (u : View) → u.station.end.parameters ≡ x.end.parameters
      → IsOpen x y frame rest outgoing i settled l.user.open_state l.network.open_state u
      → Goes b (at x y (frame ∷ rest) outgoing)
      (with_view side.User u (at x y (frame ∷ rest) outgoing))
  goes_on u same o =
      let s = o.0 in
      let arriving = ap kinds o.1 in
      let n200 : u.station.end.parameters.n200 ≡ x.end.parameters.n200 =
      ap (λ (p : Parameters). p.n200) same in
      let spare = l.user.spare in
      let finals = s.finals in
      let polls = s.polls in
      record {
        lasts = record {
          user = subst (λ ks. Tries b u.station.end (kinds u.outgoing) ks) (sym arriving) (record {
            open_state = s.open_state;
            spare = omega (arith, n200, spare);
            tries =
                λ is. let was =
                s.in_8 is in let enough =
                l.user.tries was.0 in let rc =
                was.1 in let none = was.2 in omega (arith, n200, enough, rc, none, polls);
          });
          network =
              subst (λ ks. Tries b y.end ks (kinds u.outgoing)) (sym arriving)
              (fewer_lost b y.end (kinds (frame ∷ rest)) (kinds rest) (kinds outgoing)
              (kinds u.outgoing) (omega (arith, finals)) l.network);
        };
        user_dropped = s.none_dropped;
        network_dropped = refl;
      }

  user_delivered : Goes b (at x y (frame ∷ rest) outgoing)
      (after side.User Deliver (at x y (frame ∷ rest) outgoing))
  user_delivered =
      let w = at x y (frame ∷ rest) outgoing in
      let u =
      left_by (seeing x (frame ∷ rest) outgoing)
      (acts Whole side.User Deliver (seeing x (frame ∷ rest) outgoing)) in
      let same : u.station.end.parameters ≡ x.end.parameters =
      ap (λ (n : World). n.user.end.parameters) (sym (moved_user Deliver w))
      ∙ (same_parameters (user_move Deliver) w i).0 in
      subst (λ n. Goes b w n) (sym (moved_user Deliver w))
      (goes_on u same
      (stays_open x y frame rest outgoing i settled l.user.open_state l.network.open_state))

pub deliver : (N b : ℕ) (s : Side) (x y : Station) (to_user to_network : List Flight)
    → Facts N (at x y to_user to_network) → Lasts b (at x y to_user to_network)
    → is_ok (happens Whole (record { side = s; event = Deliver }) (at x y to_user to_network))
    ≡ true → Goes b (at x y to_user to_network) (after s Deliver (at x y to_user to_network))
deliver N b side.User x y [] to_network f l ok = let none = none_there x y to_network in cc
deliver N b side.User x y (frame ∷ rest) to_network f l ok =
    user_delivered b x y frame rest to_network f.holds f.settled.user l
deliver N b side.Network x y to_user [] f l ok = let none = none_there_too x y to_user in cc
deliver N b side.Network x y to_user (frame ∷ rest) f l ok =
    let w = at x y to_user (frame ∷ rest) in
    by_swap b Deliver w (user_delivered b y x frame rest to_user (exchanged w f.holds)
    f.settled.network (lasts_swapped b w l))

-- ---- T200 or T203 expires, beside frames in transit or not.

pub less : (a b : ℕ) → a + 1 ≤ b → nat_lt a b ≡ true
less a b le = grind (arith, nat_tests, le)

-- T200 waits for its poll and the final, and for its SABME or DISC and the response
abbrev pub AwaitsNone : View → Type 0
AwaitsNone v =
    (tally poll_of (kinds v.outgoing) ≡ 0) × (tally final_of (kinds v.incoming) ≡ 0)
    × (tally ask_of (kinds v.outgoing) ≡ 0) × (tally answer_of (kinds v.incoming) ≡ 0)

pub awaits_none : (v : View) → is_ok (acts Whole side.User Expire200 v) ≡ true → AwaitsNone v
unfolding acts expires_200
awaits_none v ok =
    by_tests v.station.end.t200 (first_poll v.outgoing) (first_final v.incoming) refl refl
    (takes Whole (Expiry T200) [] v) ok
  where
    by_tests : (on : Bool) (poll final : Option ℕ) → first_poll v.outgoing ≡ poll
        → first_final v.incoming ≡ final → (taken : Result ViewStep Refusal)
        → is_ok (if on then unless_under_way side.User poll final taken else Err NotRunning) ≡ true
        → AwaitsNone v
    by_tests true None None poll final taken ok =
        let out = none_under_way v.outgoing poll in
        let back = none_answered v.incoming final in
        (out.0, back.0, out.1, back.1)
    by_tests true None (Some at) poll final taken ok = cc
    by_tests true (Some at) other poll final taken ok = cc
    by_tests false one other poll final taken ok = cc

-- x sends a poll, beside the frames in transit
pub record SendsPoll (b most : ℕ) (x : Station) (to_user to_network : List Flight)
    (event : PairEvent) : Type 0 where
  pub rc : ℕ
  pub enough : rc + b ≤ most
  pub alone : View
  pub polls : Polls x rc alone
  pub beside : IsBeside to_user to_network alone
      (left_by (seeing x to_user to_network)
      (acts Whole side.User event (seeing x to_user to_network)))

module _ (b : ℕ) (x : Station) (to_user to_network : List Flight)
    (l : Tries b x.end (kinds to_network) (kinds to_user)) where
  abbrev seen : View
  seen = seeing x to_user to_network

  pub t200_polls : is_ok (acts Whole side.User Expire200 seen) ≡ true
      → SendsPoll b x.end.parameters.n200 x to_user to_network Expire200
  t200_polls ok = by_state x.end.state refl l.open_state
    where
      on : x.end.t200 ≡ true
      on = t200_runs seen ok

      by_state : (state : State) → x.end.state ≡ state → is_7_or_8 state ≡ true
          → SendsPoll b x.end.parameters.n200 x to_user to_network Expire200
      by_state MultipleFrameEstablished is o = record {
        rc = 1;
        enough = (let spare = l.spare in omega (arith, spare));
        alone = left_by (seeing x [] []) (acts Whole side.User Expire200 (seeing x [] []));
        polls = polls_by_t200 x is on;
        beside = t200_beside x to_user to_network ok;
      }
      by_state TimerRecovery is o =
          let enough = l.tries is in
          let none = awaits_none seen ok in
          let no_poll = none.0 in
          let no_final = none.1 in
          record {
            rc = x.end.rc + 1;
            enough = omega (arith, enough, no_poll, no_final);
            alone = left_by (seeing x [] []) (acts Whole side.User Expire200 (seeing x [] []));
            polls =
                polls_again x is on (less x.end.rc x.end.parameters.n200
                (omega (arith, enough, no_poll, no_final)));
            beside = t200_beside x to_user to_network ok;
          }
      by_state state is o = cc

  pub t203_polls : HasTimersOfState x.end → is_ok (acts Whole side.User Expire203 seen) ≡ true
      → SendsPoll b x.end.parameters.n200 x to_user to_network Expire203
  t203_polls has ok =
      let on = t203_runs seen ok in
      record {
        rc = 0;
        enough = (let spare = l.spare in omega (arith, spare));
        alone = left_by (seeing x [] []) (acts Whole side.User Expire203 (seeing x [] []));
        polls = polls_by_t203 x (in_7_if_t203 x.end has on) on;
        beside = t203_beside x to_user to_network ok;
      }

polled : (b : ℕ) (event : PairEvent) (x y : Station) (to_user to_network : List Flight)
    → Lasts b (at x y to_user to_network)
    → SendsPoll b x.end.parameters.n200 x to_user to_network event
    → Goes b (at x y to_user to_network) (after side.User event (at x y to_user to_network))
polled b event x y to_user to_network l sends =
    let w = at x y to_user to_network in
    let v =
    left_by (seeing x to_user to_network)
    (acts Whole side.User event (seeing x to_user to_network)) in
    let p = sends.polls in
    let same = sends.beside in
    let alone = sends.alone in
    let sent : kinds v.outgoing ≡ kinds to_network ++ kinds alone.outgoing =
    ap kinds same.outgoing_is ∙ kinds_append to_network alone.outgoing in
    let polls =
    ap (λ ks. tally poll_of ks) sent
    ∙ tally_append poll_of (kinds to_network) (kinds alone.outgoing) in
    let finals =
    ap (λ ks. tally final_of ks) sent
    ∙ tally_append final_of (kinds to_network) (kinds alone.outgoing) in
    let poll : tally poll_of (kinds alone.outgoing) ≡ poll_of (kind p.frame) + 0 =
    ap (λ fs. tally poll_of (kinds fs)) p.outgoing in
    let arriving = ap kinds same.incoming_is in
    let one = p.polls in
    let n200 : alone.station.end.parameters.n200 ≡ x.end.parameters.n200 =
    ap (λ (q : Parameters). q.n200) p.polled.parameters in
    let rc_is = p.polled.rc_is in
    let spare = l.user.spare in
    let enough = sends.enough in
    subst (λ n. Goes b w n) (sym (moved_user event w)) (record {
      lasts = record {
        user =
            subst (λ e. Tries b e (kinds v.outgoing) (kinds v.incoming)) (sym same.end) (record {
              open_state = ap is_7_or_8 p.polled.in_8;
              spare = omega (arith, n200, spare);
              tries = λ _. omega (arith, polls, poll, one, n200, rc_is, enough);
            });
        network =
            subst (λ ks. Tries b y.end ks (kinds v.outgoing)) (sym arriving)
            (fewer_lost b y.end (kinds to_user) (kinds to_user) (kinds to_network)
            (kinds v.outgoing) (omega (arith, finals)) l.network);
      };
      user_dropped = same.dropped ∙ p.none_dropped;
      network_dropped = refl;
    })

user_expires_200 : (b : ℕ) (w : World) → Lasts b w
    → is_ok (acts Whole side.User Expire200 (view_of side.User w)) ≡ true
    → Goes b w (after side.User Expire200 w)
user_expires_200 b w l ok =
    polled b Expire200 w.user w.network w.to_user w.to_network l
    (t200_polls b w.user w.to_user w.to_network l.user ok)

user_expires_203 : (b : ℕ) (w : World) → Lasts b w → HasTimersOfState w.user.end
    → is_ok (acts Whole side.User Expire203 (view_of side.User w)) ≡ true
    → Goes b w (after side.User Expire203 w)
user_expires_203 b w l has ok =
    polled b Expire203 w.user w.network w.to_user w.to_network l
    (t203_polls b w.user w.to_user w.to_network l.user has ok)

pub expire_200 : (b : ℕ) (s : Side) (w : World) → Lasts b w
    → is_ok (happens Whole (record { side = s; event = Expire200 }) w) ≡ true
    → Goes b w (after s Expire200 w)
expire_200 b side.User w l ok = user_expires_200 b w l (ok_of_side side.User Expire200 w ok)
expire_200 b side.Network w l ok =
    by_swap b Expire200 w (user_expires_200 b (swapped w) (lasts_swapped b w l)
    (ok_of_side side.Network Expire200 w ok))

pub expire_203 : (b : ℕ) (s : Side) (w : World) → HaveTimersOfStates w → Lasts b w
    → is_ok (happens Whole (record { side = s; event = Expire203 }) w) ≡ true
    → Goes b w (after s Expire203 w)
expire_203 b side.User w have l ok =
    user_expires_203 b w l have.user (ok_of_side side.User Expire203 w ok)
expire_203 b side.Network w have l ok =
    by_swap b Expire203 w (user_expires_203 b (swapped w) (lasts_swapped b w l) have.network
    (ok_of_side side.Network Expire203 w ok))

-- T203 does not: both ends are in state 7, or T200 runs
pub never_203 : (b : ℕ) (w : World) → Lasts b w → HaveTimersOfStates w → is_due Expire203 w ≡ true → ⊥
never_203 b w l have due =
    by_states w.user.end.state w.network.end.state refl refl l.user.open_state l.network.open_state
  where
    off : not (w.user.end.t200 || w.network.end.t200) ≡ true
    off = second_of (is_line_empty w) _ (are_apart w) due

    apart : are_apart w ≡ true
    apart = last_of (is_line_empty w) (not (w.user.end.t200 || w.network.end.t200)) _ due

    user_off : (a c : Bool) → not (a || c) ≡ true → a ≡ true → ⊥
    user_off true c is on = cc
    user_off false c is on = cc

    network_off : (a c : Bool) → not (a || c) ≡ true → c ≡ true → ⊥
    network_off true c is on = cc
    network_off false true is on = cc
    network_off false false is on = cc

    by_states : (one other : State) → w.user.end.state ≡ one → w.network.end.state ≡ other
        → is_7_or_8 one ≡ true → is_7_or_8 other ≡ true → ⊥
    by_states TimerRecovery other is its_is o p =
        user_off w.user.end.t200 w.network.end.t200 off
        (timers_in TimerRecovery w.user.end have.user is).0
    by_states MultipleFrameEstablished TimerRecovery is its_is o p =
        network_off w.user.end.t200 w.network.end.t200 off
        (timers_in TimerRecovery w.network.end have.network its_is).0
    by_states MultipleFrameEstablished MultipleFrameEstablished is its_is o p =
        let impossible : are_apart w ≡ false = rw (is, its_is) refl in let yes_ = apart in cc
    by_states one other is its_is o p = cc

-- ---- A frame is lost.

bit_few : (p : Bool) → bit p ≤ 1
bit_few true = omega arith
bit_few false = omega arith

-- a frame is at most one poll or final
one_poll : (k : Kind) → poll_of k ≤ 1
one_poll (Numbered m nr) = bit_few m.polled
one_poll k = omega arith

one_final : (k : Kind) → final_of k ≤ 1
one_final (Final nr) = omega arith
one_final k = omega arith

tally_lost : (f : Kind → ℕ) → ((k : Kind) → f k ≤ 1) → (at : ℕ) (line : List Flight)
    → at + 1 ≤ length line → tally f (kinds line) ≤ tally f (kinds (without_lost at line)) + 1
tally_lost f one at [] there = absurd (omega (arith, there))
tally_lost f one zero (g ∷ gs) there = let few = one (kind g) in omega (arith, few)
tally_lost f one (suc at) (g ∷ gs) there =
    let rest = tally_lost f one at gs (omega (arith, there)) in omega (arith, rest)

-- one loss less may follow
one_less : (b : ℕ) (x : End) (out out_now back back_now : List Kind)
    → tally poll_of out + tally final_of back ≤ tally poll_of out_now + tally final_of back_now + 1
    → Tries (b + 1) x out back → Tries b x out_now back_now
one_less b x out out_now back back_now le t = record {
  open_state = t.open_state;
  spare = (let spare = t.spare in omega (arith, spare));
  tries = λ is. let enough = t.tries is in omega (arith, enough, le);
}

user_lost : (b i : ℕ) (w : World) → Lasts (b + 1) w
    → is_ok (acts Whole side.User (Lose i) (view_of side.User w)) ≡ true
    → Goes b w (after side.User (Lose i) w)
user_lost b i w l ok =
    let v = view_of side.User w in
    let g = user_loses i v ok in
    let finals = tally_lost final_of one_final i w.to_user g.there in
    let polls = tally_lost poll_of one_poll i w.to_user g.there in
    let F : View → Type 0 = λ u. Goes b w (with_view side.User u w) in
    subst (λ u. Goes b w u) (sym (moved_user (Lose i) w)) (subst F (sym g.same) (record {
      lasts = record {
        user =
            one_less b w.user.end (kinds w.to_network) (kinds w.to_network) (kinds w.to_user)
            (kinds (without_lost i w.to_user)) (omega (arith, finals)) l.user;
        network =
            one_less b w.network.end (kinds w.to_user) (kinds (without_lost i w.to_user))
            (kinds w.to_network) (kinds w.to_network) (omega (arith, polls)) l.network;
      };
      user_dropped = refl;
      network_dropped = refl;
    }))

pub lose : (b i : ℕ) (s : Side) (w : World) → Lasts (b + 1) w
    → is_ok (happens Whole (record { side = s; event = Lose i }) w) ≡ true
    → Goes b w (after s (Lose i) w)
lose b i side.User w l ok = user_lost b i w l (ok_of_side side.User (Lose i) w ok)
lose b i side.Network w l ok =
    by_swap b (Lose i) w
    (user_lost b i (swapped w) (lasts_swapped (b + 1) w l) (ok_of_side side.Network (Lose i) w ok))

-- ---- All of them.

pub record Through (w now : World) : Type 0 where
  pub user : is_7_or_8 now.user.end.state ≡ true
  pub network : is_7_or_8 now.network.end.state ≡ true
  pub user_dropped : now.user.history.dropped ≡ w.user.history.dropped
  pub network_dropped : now.network.history.dropped ≡ w.network.history.dropped

module _ (N : ℕ) where
  abbrev Rest : List Move → Type 0
  Rest moves =
      (b : ℕ) (w : World) → Facts N w → Lasts b w → AreLineMoves Whole moves w → losses moves ≤ b
      → Through w (run Whole moves w)

  then_on : (b : ℕ) (s : Side) (event : PairEvent) (w : World) (moves : List Move) → Facts N w
      → Goes b w (after s event w) → Rest moves → AreLineMoves Whole moves (after s event w)
      → losses moves ≤ b → Through w (run Whole moves (after s event w))
  then_on b s event w moves f g rest own le =
      let r =
      rest b (after s event w) (facts_after N (record { side = s; event = event }) w f)
      g.lasts own le in
      record {
        user = r.user;
        network = r.network;
        user_dropped = r.user_dropped ∙ g.user_dropped;
        network_dropped = r.network_dropped ∙ g.network_dropped;
      }

  first : (b : ℕ) (s : Side) (event : PairEvent) (w : World) (moves : List Move) → Facts N w
      → Lasts b w → Rest moves → IsLineMove Whole (record { side = s; event = event }) w
      → AreLineMoves Whole moves (after s event w) → one_if (is_loss event) + losses moves ≤ b
      → Through w (run Whole moves (after s event w))
  first b s Deliver w moves f l rest one own le =
      then_on b s Deliver w moves f
      (deliver N b s w.user w.network w.to_user w.to_network f l one.admitted) rest own
      (omega (arith, le))
  first b s (Lose i) w moves f l rest one own le =
      let some : b ≡ (b - 1) + 1 = omega (arith, le) in
      then_on (b - 1) s (Lose i) w moves f
      (lose (b - 1) i s w (subst (λ n. Lasts n w) some l) one.admitted) rest own
      (omega (arith, le))
  first b s Expire200 w moves f l rest one own le =
      then_on b s Expire200 w moves f (expire_200 b s w l one.admitted) rest own (omega (arith, le))
  first b s Expire203 w moves f l rest one own le =
      then_on b s Expire203 w moves f (expire_203 b s w f.have l one.admitted) rest own
      (omega (arith, le))
  first b s event w moves f l rest one own le = let impossible = one.of_line in cc

  pub goes_through : (moves : List Move) (b : ℕ) (w : World) → Facts N w → Lasts b w
      → AreLineMoves Whole moves w → losses moves ≤ b → Through w (run Whole moves w)
  goes_through [] b w f l own le = record {
    user = l.user.open_state;
    network = l.network.open_state;
    user_dropped = refl;
    network_dropped = refl;
  }
  goes_through (move ∷ moves) b w f l own le =
      first b move.side move.event w moves f l
      (λ m v facts lasts rest few. goes_through moves m v facts lasts rest few) own.0 own.1 le
