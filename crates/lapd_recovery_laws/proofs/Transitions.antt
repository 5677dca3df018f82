-- The own moves of a line after an outage, situation by situation, seen from one side.
use Rattle.std.proofs.Common.{◌≡◌, inl, inr, ℕ, ◌+◌, ◌*◌, ◌-◌, ◌≤◌, Bool, true, false, List, [], ◌∷◌, length, refl, sym, ap, subst, ◌∙◌, arith}
use Rattle.lapd_frame.specs.declared.Side.TheVariants as side
use Rattle.lapd_mod128.specs.Counting.{Whole}
use Rattle.lapd_supervision.specs.StateVariables.{without_exceptions}
use Rattle.lapd_link_definition.specs.declared.state.State.{State}
use Rattle.lapd_link_definition.specs.declared.state.State.TheVariants.{TeiAssigned, AwaitingEstablishment, AwaitingRelease, MultipleFrameEstablished, TimerRecovery}
use Rattle.lapd_link_definition.specs.EndOfStep.{is_7_or_8}
use Rattle.lapd_link_definition.specs.End.{End, unsent}
use Rattle.lapd_link_definition.specs.RunningTimers.{AreTimersOf, HasTimersOfState}
use Rattle.lapd_pair_laws.specs.Conjuncts.{IsEmpty, IsConsistentSender}
use Rattle.lapd_pair_laws.specs.Invariant.{IsInvariant}
use Rattle.lapd_pair_laws.specs.Line.{Flight}
use Rattle.lapd_pair_laws.specs.Move.{PairEvent, Deliver, Expire200, Expire203, Station, View, acts}
use Rattle.lapd_pair_laws.specs.Parties.{Party, party}
use Rattle.lapd_pair_laws.specs.World.{World, with_view}
use Rattle.lapd_pair_laws.proofs.Worlds.{left_by}
use Rattle.lapd_recovery_laws.proofs.OneMoreFrame.{seeing}
use Rattle.lapd_recovery_laws.proofs.ClosedSteps.{Sees, seen_after_t200, seen_after_frame, retry_in_6, give_up_in_6, released, retried}
use Rattle.lapd_recovery_laws.proofs.HalfSteps.{disc, retry_in_5, give_up_in_5, asked_again, abandoned, ignored_if_closed}
use Rattle.lapd_recovery_laws.proofs.LoneSteps.{is_ignored, polls_by_t203, sabme, asking}
use Rattle.lapd_recovery_laws.proofs.Lost.{at}
use Rattle.lapd_recovery_laws.proofs.LostMoves.{seen_by_network}
use Rattle.lapd_recovery_laws.proofs.SendsOn.{AreIgnored}
use Rattle.lapd_recovery_laws.proofs.Situations.{tries, twice, attempt_in, attempt, gone_in, gone, again, finds_in, finds, polls_in, polls, Alone, Alone4, Alone5, Alone6, by_peer_5, Asks5, by_peer_6, alone_4, alone_5, alone_6, asks_5, asks_6, ComesOn, PollsOn, AsksAnew, t200_of_open}

pub literally : (P : List Flight → List Flight → Type 0) (a b c d : List Flight) → a ≡ c → b ≡ d
    → P c d → P a b
literally P a b c d is its_is p = subst (λ l. P l b) (sym is) (subst (λ l. P c l) (sym its_is) p)

pub timers_in : (state : State) (e : End) → HasTimersOfState e → e.state ≡ state
    → AreTimersOf state e.t200 e.t203 (e.window.vs ≡ e.window.va)
timers_in state e has is =
    subst (λ s. AreTimersOf s e.t200 e.t203 (e.window.vs ≡ e.window.va)) is has

-- T203 runs in state 7 alone
pub in_7_if_t203 : (e : End) → HasTimersOfState e → e.t203 ≡ true
    → e.state ≡ MultipleFrameEstablished
in_7_if_t203 e has on = by_state e.state refl
  where
    by_state : (state : State) → e.state ≡ state → e.state ≡ MultipleFrameEstablished
    by_state MultipleFrameEstablished is = is
    by_state TeiAssigned is = let off = (timers_in TeiAssigned e has is).1 in cc
    by_state AwaitingEstablishment is = let off = (timers_in AwaitingEstablishment e has is).1 in cc
    by_state AwaitingRelease is = let off = (timers_in AwaitingRelease e has is).1 in cc
    by_state TimerRecovery is = let off = (timers_in TimerRecovery e has is).1 in cc

-- an end in state 4 or 6 has no message
empty_in : (e : End) (x : Party) → x.sends.given ≡ e.given → x.sends.next ≡ e.next → IsEmpty x.sends
    → length e.given ≡ e.next
empty_in e x given next none =
    let all : x.sends.next ≡ length x.sends.given = none.next in
    let same : length x.sends.given ≡ length e.given = ap length given in
    omega (arith, all, same, next)

pub empty_4_too : (w : World) → IsInvariant w → w.network.end.state ≡ TeiAssigned
    → length w.network.end.given ≡ w.network.end.next
empty_4_too w i is =
    let y = party i.network_base w.network in
    empty_in w.network.end y refl refl
    (subst (λ st. IsConsistentSender st y.asked y.leaving y.sends) is i.both.its.preserved)

-- the weights of an end in a known state
pub attempt_is : (state : State) (tried : Bool) (e : End) → e.state ≡ state → tries e ≡ tried
    → attempt e ≡ attempt_in state tried e.release_pending
attempt_is state tried e is some =
    ap (λ st. attempt_in st (tries e) e.release_pending) is
    ∙ ap (λ b. attempt_in state b e.release_pending) some

abbrev pub state_of : End → State
state_of e = e.state

pub none_left : (e : End) → length e.given ≡ e.next → unsent e ≡ 0
none_left e all = omega (arith, all)

-- ---- A world after an event.

abbrev pub by_user : PairEvent → Station → Station → List Flight → List Flight → World
by_user event x y to_user to_network =
    with_view side.User (left_by (seeing x to_user to_network)
    (acts Whole side.User event (seeing x to_user to_network))) (at x y to_user to_network)

abbrev pub by_network : PairEvent → Station → Station → List Flight → List Flight → World
by_network event x y to_user to_network =
    seen_by_network (left_by (seeing y to_network to_user)
    (acts Whole side.User event (seeing y to_network to_user))) (at x y to_user to_network)

module _ (N : ℕ) (some_retries : 1 ≤ N) where
  pub gone_is : (tried : Bool) (e : End) → tries e ≡ tried → gone N e ≡ gone_in N tried
  gone_is tried e some = ap (λ b. gone_in N b) some

  again_of : (e : End) → again N (asking e) ≡ again N e
  unfolding without_exceptions
  again_of e = refl

  -- ---- An open end alone: T200 of the open end.

  module _ (n : ℕ) (x y : Station) (few : x.end.parameters.n200 ≤ N) (on : x.end.t200 ≡ true) where
    abbrev v : View
    v = left_by (seeing x [] []) (acts Whole side.User Expire200 (seeing x [] []))

    abbrev then : World
    then = by_user Expire200 x y [] []

    still_alone : (y_state : State) (rest m : ℕ) → y.end.state ≡ y_state → PollsOn N x v
        → 1 + 2 * unsent x.end + 2 * unsent y.end + rest ≤ m → Alone N y_state rest m then
    still_alone y_state rest m is p most = record {
      open_state = p.open_state;
      network = is;
      to_user = p.incoming;
      ignored = subst AreIgnored (sym p.outgoing) (p.ignored, tt);
      most =
          let len = ap (λ fs. length fs) p.outgoing in
          let same = p.same_unsent in omega (arith, most, len, same);
    }

    asks_anew : (m : ℕ) → AsksAnew N x v
        → 2 + 2 * unsent x.end + 2 * unsent y.end
        + by_peer_5 N y.end.state (attempt y.end + gone N y.end + again N x.end) (attempt y.end)
        ≤ m → Asks5 N m then
    asks_anew m p most =
        let v = p.sees in
        let same_unsent : unsent then.user.end ≡ unsent x.end = ap unsent v.end in
        let same_again : again N then.user.end ≡ again N x.end = again_of_asking v.end in
        let bit : twice then.user.end.release_pending ≡ 0 =
        ap (λ (e : End). twice e.release_pending) v.end in
        let peer : by_peer_5 N y.end.state (attempt y.end + gone N y.end + again N then.user.end)
        (attempt y.end)
        ≡ by_peer_5 N y.end.state (attempt y.end + gone N y.end + again N x.end) (attempt y.end)
        =
        ap (λ a. by_peer_5 N y.end.state (attempt y.end + gone N y.end + a) (attempt y.end))
        same_again in
        record {
          user = ap state_of v.end;
          to_user = v.incoming;
          to_network = v.outgoing;
          most = omega (arith, most, same_unsent, bit, peer);
        }
      where
        again_of_asking : then.user.end ≡ asking x.end → again N then.user.end ≡ again N x.end
        again_of_asking is = ap (again N) is ∙ again_of x.end

  -- ---- Weights by the state of the peer.

  pub open_peer_5 : (state : State) (w a : ℕ) → is_7_or_8 state ≡ true → by_peer_5 N state w a ≡ 0
  open_peer_5 MultipleFrameEstablished w a o = refl
  open_peer_5 TimerRecovery w a o = refl
  open_peer_5 state w a o = cc

  pub open_peer_6 : (state : State) (w : ℕ) → is_7_or_8 state ≡ true → by_peer_6 N state w ≡ 0
  open_peer_6 MultipleFrameEstablished w o = refl
  open_peer_6 TimerRecovery w o = refl
  open_peer_6 state w o = cc

  pub closed_peer_6 : (state : State) (w : ℕ) → is_7_or_8 state ≡ false → by_peer_6 N state w ≡ w
  closed_peer_6 MultipleFrameEstablished w o = cc
  closed_peer_6 TimerRecovery w o = cc
  closed_peer_6 state w o = refl

  finds_below : (e : End) → e.parameters.n200 ≤ N → is_7_or_8 e.state ≡ true
      → finds e ≤ polls N e + (2 * N + 5)
  finds_below e few opened = by_state e.state refl opened
    where
      by_state : (state : State) → e.state ≡ state → is_7_or_8 state ≡ true
          → finds e ≤ polls N e + (2 * N + 5)
      by_state MultipleFrameEstablished is o =
          let f = ap (λ st. finds_in st e.parameters.n200 (e.parameters.n200 - e.rc)) is in
          omega (arith, f, few)
      by_state TimerRecovery is o =
          let f = ap (λ st. finds_in st e.parameters.n200 (e.parameters.n200 - e.rc)) is in
          let p = ap (λ st. polls_in N st e.t200 (e.parameters.n200 - e.rc)) is in
          omega (arith, f, p)
      by_state state is o = cc

  -- ---- T200 of the open end.

  module _ (n : ℕ) (x y : Station) (few : x.end.parameters.n200 ≤ N) (on : x.end.t200 ≡ true) where
    abbrev after_t200 : World
    after_t200 = by_user Expire200 x y [] []

    pub alone4_t200 : Alone4 N n (at x y [] []) → ComesOn N n after_t200
    alone4_t200 s = elim (t200_of_open N some_retries x few on s.open_state) [
      | inl p ↦
          let le = s.most in let less = p.finds_less in
          record {
            some = omega (arith, le, less);
            arriving =
                inr (inl (alone_4 (still_alone n
                x y few on TeiAssigned (finds after_t200.user.end) (n - 1) s.network
                p (omega (arith, le, less)))));
          }
      | inr a ↦
          let le = s.most in let more = a.finds_some in
          let none =
          ap (λ st. by_peer_5 N st (attempt y.end + gone N y.end + again N x.end)
          (attempt y.end)) s.network in
          record {
            some = omega (arith, le, more);
            arriving =
                inr (inl (asks_5
                (asks_anew n x y few on (n - 1) a (omega (arith, le, more, none)))));
          }
    ]

    pub alone6_t200 : Alone6 N n (at x y [] []) → ComesOn N n after_t200
    alone6_t200 s = elim (t200_of_open N some_retries x few on s.open_state) [
      | inl p ↦
          let le = s.most in let less = p.finds_less in
          record {
            some = omega (arith, le, less);
            arriving =
                inr (inl (alone_6 (still_alone n
                x y few on AwaitingRelease
                (attempt y.end + finds after_t200.user.end) (n - 1) s.network p
                (omega (arith, le, less)))));
          }
      | inr a ↦
          let le = s.most in let more = a.finds_some in
          let only =
          ap (λ st. by_peer_5 N st (attempt y.end + gone N y.end + again N x.end)
          (attempt y.end)) s.network in
          record {
            some = omega (arith, le, more);
            arriving =
                inr (inl (asks_5
                (asks_anew n x y few on (n - 1) a (omega (arith, le, more, only)))));
          }
    ]

    pub alone5_t200 : Alone5 N n (at x y [] []) → ComesOn N n after_t200
    alone5_t200 s = elim (t200_of_open N some_retries x few on s.open_state) [
      | inl p ↦
          let le = s.most in let less = p.polls_less in let same = p.same_again in
          record {
            some = omega (arith, le, less);
            arriving =
                inr (inl (alone_5 (still_alone n
                x y few on AwaitingEstablishment
                (attempt y.end + gone N y.end + polls N after_t200.user.end
                + again N after_t200.user.end) (n - 1) s.network p
                (omega (arith, le, less, same)))));
          }
      | inr a ↦
          let le = s.most in let more = a.polls_some in
          let all =
          ap (λ st. by_peer_5 N st (attempt y.end + gone N y.end + again N x.end)
          (attempt y.end)) s.network in
          record {
            some = omega (arith, le, more);
            arriving =
                inr (inl (asks_5
                (asks_anew n x y few on (n - 1) a (omega (arith, le, more, all)))));
          }
    ]

  -- T203 of an open end that has found nothing yet
  pub alone4_t203 : (n : ℕ) (x y : Station) → Alone4 N n (at x y [] [])
      → x.end.state ≡ MultipleFrameEstablished → x.end.t203 ≡ true
      → ComesOn N n (by_user Expire203 x y [] [])
  alone4_t203 n x y s is on =
      let p = polls_by_t203 x is on in
      let then = by_user Expire203 x y [] [] in
      let le = s.most in
      let finds_is : finds x.end ≡ 2 * x.end.parameters.n200 + 5 =
      ap (λ st. finds_in st x.end.parameters.n200 (x.end.parameters.n200 - x.end.rc)) is in
      let left : then.user.end.parameters.n200 - then.user.end.rc ≡ x.end.parameters.n200 - 0 =
      ap (λ q. q.n200 - then.user.end.rc) p.polled.parameters
      ∙ ap (λ m. x.end.parameters.n200 - m) p.polled.rc_is in
      let finds_then : finds then.user.end ≡ 2 * (x.end.parameters.n200 - 0) + 3 =
      ap (λ st. finds_in st then.user.end.parameters.n200
      (then.user.end.parameters.n200 - then.user.end.rc)) p.polled.in_8 ∙ ap (λ l. 2 * l + 3) left in
      let len = ap (λ fs. length fs) p.outgoing in
      let same = p.polled.unsent_is in
      record {
        some = omega (arith, le, finds_is);
        arriving = inr (inl (alone_4 (record {
          open_state = ap is_7_or_8 p.polled.in_8;
          network = s.network;
          to_user = p.incoming;
          ignored = subst AreIgnored (sym p.outgoing) (p.ignored, tt);
          most = omega (arith, le, finds_is, finds_then, len, same);
        })));
      }

  -- ---- T200 of its closed peer.

  peer_in_4 : (n m : ℕ) (x y : Station) (e : End) → is_7_or_8 x.end.state ≡ true
      → e.state ≡ TeiAssigned → unsent e ≡ 0
      → Sees (left_by (seeing y [] []) (acts Whole side.User Expire200 (seeing y [] []))) e [] []
      → 2 * unsent x.end + finds x.end ≤ m → Alone4 N m (by_network Expire200 x y [] [])
  peer_in_4 n m x y e opened is none seen most = record {
    open_state = opened;
    network = ap state_of seen.end ∙ is;
    to_user = seen.outgoing;
    ignored = subst AreIgnored (sym seen.incoming) tt;
    most =
        let len = ap (λ fs. length fs) seen.incoming in
        let no = ap unsent seen.end in omega (arith, most, len, no, none);
  }

  pub alone5_peer : (n : ℕ) (x y : Station) → Alone5 N n (at x y [] [])
      → x.end.parameters.n200 ≤ N → y.end.t200 ≡ true
      → ComesOn N n (by_network Expire200 x y [] [])
  alone5_peer n x y s few on = by_tries (tries y.end) refl
    where
      is : y.end.state ≡ AwaitingEstablishment
      is = s.network

      by_tries : (b : Bool) → tries y.end ≡ b → ComesOn N n (by_network Expire200 x y [] [])
      by_tries true more =
          let v =
          seen_after_t200 y (asked_again y.end is) (sabme ∷ []) on
          (retry_in_5 y.end is on more) in
          let then = by_network Expire200 x y [] [] in
          let le = s.most in
          let three = attempt_is AwaitingEstablishment true y.end is more in
          let bit : twice then.network.end.release_pending ≡ twice y.end.release_pending =
          ap (λ (e : End). twice e.release_pending) v.end in
          let same : unsent then.network.end ≡ unsent y.end = ap unsent v.end in
          let none =
          open_peer_5 x.end.state (attempt x.end + gone N x.end + again N then.network.end)
          (attempt x.end) s.open_state in
          record {
            some = omega (arith, le, three);
            arriving =
                inr (inr (asks_5 (record {
                  user = ap state_of v.end ∙ is;
                  to_user = v.incoming;
                  to_network = v.outgoing;
                  most = omega (arith, le, three, bit, same, none);
                })));
          }
      by_tries false last =
          let v = seen_after_t200 y (abandoned y.end is) [] on (give_up_in_5 y.end is on last) in
          let le = s.most in
          let one = attempt_is AwaitingEstablishment false y.end is last in
          let left = gone_is false y.end last in
          let found = finds_below x.end few s.open_state in
          record {
            some = omega (arith, le, one);
            arriving =
                inr (inl (alone_4 (peer_in_4 n
                (n - 1) x y (abandoned y.end is) s.open_state refl (omega arith) v
                (omega (arith, le, one, left, found)))));
          }

  pub alone6_peer : (n : ℕ) (x y : Station) → Alone6 N n (at x y [] [])
      → length y.end.given ≡ y.end.next → y.end.t200 ≡ true
      → ComesOn N n (by_network Expire200 x y [] [])
  alone6_peer n x y s empty on = by_tries (tries y.end) refl
    where
      is : y.end.state ≡ AwaitingRelease
      is = s.network

      by_tries : (b : Bool) → tries y.end ≡ b → ComesOn N n (by_network Expire200 x y [] [])
      by_tries true more =
          let v =
          seen_after_t200 y (retried y.end is) (disc ∷ []) on
          (retry_in_6 y.end is on more) in
          let then = by_network Expire200 x y [] [] in
          let le = s.most in
          let three = attempt_is AwaitingRelease true y.end is more in
          let none = open_peer_6 x.end.state (attempt x.end + 2 * unsent x.end) s.open_state in
          let len = ap (λ fs. length fs) v.incoming in
          record {
            some = omega (arith, le, three);
            arriving =
                inr (inr (asks_6 (record {
                  user = ap state_of v.end ∙ is;
                  ignored = subst AreIgnored (sym v.incoming) tt;
                  to_network = v.outgoing;
                  most = omega (arith, le, three, none, len);
                })));
          }
      by_tries false last =
          let v = seen_after_t200 y (released y.end is) [] on (give_up_in_6 y.end is on last) in
          let le = s.most in
          let one = attempt_is AwaitingRelease false y.end is last in
          record {
            some = omega (arith, le, one);
            arriving =
                inr (inl (alone_4 (peer_in_4 n
                (n - 1) x y (released y.end is) s.open_state refl
                (none_left y.end empty) v (omega (arith, le, one)))));
          }

  -- ---- Its closed peer ignores a frame.

  module _ (n : ℕ) (x y : Station) (frame : Flight) (rest : List Flight) where
    abbrev after_ignored : World
    after_ignored = by_network Deliver x y [] (frame ∷ rest)

    abbrev Ignored : Type 0
    Ignored =
        Sees (left_by (seeing y (frame ∷ rest) [])
        (acts Whole side.User Deliver (seeing y (frame ∷ rest) []))) y.end rest []

    ignored_so : is_7_or_8 y.end.state ≡ false → is_ignored frame.control ≡ true → Ignored
    ignored_so closed_state ignored =
        seen_after_frame y frame rest [] y.end []
        (ignored_if_closed y.end frame.control frame.role closed_state ignored)

    still : (y_state : State) (before rest_after : ℕ)
        → Alone N y_state before n (at x y [] (frame ∷ rest)) → Ignored
        → length rest + 2 * unsent x.end + 2 * unsent y.end + rest_after ≤ n - 1
        → Alone N y_state rest_after (n - 1) after_ignored
    still y_state before rest_after a seen most = record {
      open_state = a.open_state;
      network = ap state_of seen.end ∙ a.network;
      to_user = seen.outgoing;
      ignored = subst AreIgnored (sym seen.incoming) a.ignored.1;
      most =
          let len = ap (λ fs. length fs) seen.incoming in
          let same = ap unsent seen.end in omega (arith, most, len, same);
    }

    pub alone4_ignores : Alone4 N n (at x y [] (frame ∷ rest)) → ComesOn N n after_ignored
    alone4_ignores s =
        let seen = ignored_so (ap is_7_or_8 s.network) s.ignored.0 in
        let le = s.most in
        record {
          some = omega (arith, le);
          arriving =
              inr (inl (alone_4 (still TeiAssigned _ (finds x.end) s seen (omega (arith, le)))));
        }

    pub alone6_ignores : Alone6 N n (at x y [] (frame ∷ rest)) → ComesOn N n after_ignored
    alone6_ignores s =
        let seen = ignored_so (ap is_7_or_8 s.network) s.ignored.0 in
        let le = s.most in
        let same : attempt after_ignored.network.end ≡ attempt y.end = ap attempt seen.end in
        record {
          some = omega (arith, le);
          arriving =
              inr (inl (alone_6 (still AwaitingRelease _
              (attempt after_ignored.network.end + finds x.end) s seen
              (omega (arith, le, same)))));
        }

    pub alone5_ignores : Alone5 N n (at x y [] (frame ∷ rest)) → ComesOn N n after_ignored
    alone5_ignores s =
        let seen = ignored_so (ap is_7_or_8 s.network) s.ignored.0 in
        let le = s.most in
        let same : attempt after_ignored.network.end ≡ attempt y.end = ap attempt seen.end in
        let same_gone : gone N after_ignored.network.end ≡ gone N y.end = ap (gone N) seen.end in
        record {
          some = omega (arith, le);
          arriving =
              inr (inl (alone_5 (still AwaitingEstablishment _
              (attempt after_ignored.network.end + gone N after_ignored.network.end
              + polls N x.end + again N x.end) s seen
              (omega (arith, le, same, same_gone)))));
        }
