-- The situations of a line after an outage, seen from one side, with bounds of what its own moves
-- can still do.
use Rattle.std.proofs.Common.{◌≡◌, ◌⊎◌, inl, inr, ℕ, zero, suc, ◌+◌, ◌*◌, ◌-◌, ◌<◌, ◌≤◌, ◌==◌, nat_lt, Bool, true, false, List, [], ◌∷◌, length, refl, sym, ap, subst, ◌∙◌, arith}
use Rattle.std.proofs.lemmas.Bool.Decides.{nat_tests}
use Rattle.lapd_frame.specs.declared.Side.TheVariants as side
use Rattle.lapd_mod128.specs.Counting.{Whole}
use Rattle.lapd_supervision.specs.StateVariables.{without_ack_pending}
use Rattle.lapd_link_definition.specs.declared.state.State.{State}
use Rattle.lapd_link_definition.specs.declared.state.State.TheVariants.{TeiAssigned, AwaitingEstablishment, AwaitingRelease, MultipleFrameEstablished, TimerRecovery}
use Rattle.lapd_link_definition.specs.EndOfStep.{is_7_or_8}
use Rattle.lapd_link_definition.specs.End.{End, unsent}
use Rattle.lapd_pair_laws.specs.Invariant.{IsInvariant}
use Rattle.lapd_pair_laws.specs.Line.{Flight}
use Rattle.lapd_pair_laws.specs.Move.{Expire200, Station, View, acts}
use Rattle.lapd_pair_laws.specs.Timed.{AreSettledEnds}
use Rattle.lapd_pair_laws.specs.World.{World, swapped}
use Rattle.lapd_pair_laws.specs.Kinds.{kinds, messages}
use Rattle.lapd_pair_laws.proofs.Drains.{Drains}
use Rattle.lapd_pair_laws.proofs.Flow.{source, sink, IsWhole, Clean, Stream}
use Rattle.lapd_pair_laws.proofs.Worlds.{left_by}
use Rattle.lapd_recovery_laws.proofs.AnyOrder.{Draining}
use Rattle.lapd_recovery_laws.proofs.OneMoreFrame.{seeing}
use Rattle.lapd_recovery_laws.proofs.ClosedSteps.{Sees, seen_after_t200}
use Rattle.lapd_recovery_laws.proofs.HalfSteps.{dm, disc}
use Rattle.lapd_recovery_laws.proofs.LoneSteps.{is_ignored, Polls, polls_by_t200, polls_again, sabme, ua, asking, last_try_in_8}
use Rattle.lapd_recovery_laws.proofs.Lost.{at, kinds_length}
use Rattle.lapd_recovery_laws.proofs.SendsOn.{AreIgnored, IsUpWith}
use Rattle.lapd_recovery_laws.proofs.Proceeding.{in_transit_of_whole}

-- ---- The expiries that one end still has.

abbrev pub tries : End → Bool
tries e = nat_lt e.rc e.parameters.n200

abbrev pub twice : Bool → ℕ
twice true = 2
twice false = 0

-- in states 5 and 6: one exchange more, and one for a pending release; or it gives up
abbrev pub attempt_in : State → Bool → Bool → ℕ
attempt_in AwaitingEstablishment true leaving = 3 + twice leaving
attempt_in AwaitingEstablishment false leaving = 1
attempt_in AwaitingRelease true leaving = 3
attempt_in AwaitingRelease false leaving = 1
attempt_in state tried leaving = 0

abbrev pub attempt : End → ℕ
attempt e = attempt_in e.state (tries e) e.release_pending

-- the polls of an open end whose peer is in state 4
abbrev pub finds_in : State → ℕ → ℕ → ℕ
finds_in TimerRecovery all left = 2 * left + 3
finds_in state all left = 2 * all + 5

abbrev pub finds : End → ℕ
finds e = finds_in e.state e.parameters.n200 (e.parameters.n200 - e.rc)

pub not_both : (b : Bool) → b ≡ false → b ≡ true → ⊥
not_both true off on = cc
not_both false off on = cc

module _ (N : ℕ) where
  -- after an end in state 5 has given up, an open peer finds it in state 4
  abbrev pub gone_in : Bool → ℕ
  gone_in true = 0
  gone_in false = 2 * N + 5

  abbrev pub gone : End → ℕ
  gone e = gone_in (tries e)

  -- messages that are sent again let the end poll again
  abbrev pub again_in : Bool → ℕ → ℕ
  again_in true zero = 0
  again_in true (suc u) = 2 * N + 3
  again_in false u = 0

  abbrev pub again : End → ℕ
  again e = again_in (e.window.vs == e.window.va) (unsent e)

  -- and in state 5
  abbrev pub polls_in : State → Bool → ℕ → ℕ
  polls_in TimerRecovery t200 left = 2 * left + 3
  polls_in state true left = 2 * N + 3
  polls_in state false left = 0

  abbrev pub polls : End → ℕ
  polls e = polls_in e.state e.t200 (e.parameters.n200 - e.rc)

  -- ---- Situations. x is the user, y the network.

  -- x is open, and y is in state 4, 5 or 6
  pub record Alone (y_state : State) (rest n : ℕ) (w : World) : Type 0 where
    pub open_state : is_7_or_8 w.user.end.state ≡ true
    pub network : w.network.end.state ≡ y_state
    pub to_user : w.to_user ≡ []
    pub ignored : AreIgnored w.to_network
    pub most : length w.to_network + 2 * unsent w.user.end + 2 * unsent w.network.end + rest ≤ n

  abbrev pub Alone4 : ℕ → World → Type 0
  Alone4 n w = Alone TeiAssigned (finds w.user.end) n w

  abbrev pub Alone5 : ℕ → World → Type 0
  Alone5 n w =
      Alone AwaitingEstablishment
      (attempt w.network.end + gone w.network.end + polls w.user.end + again w.user.end) n w

  abbrev pub Alone6 : ℕ → World → Type 0
  Alone6 n w = Alone AwaitingRelease (attempt w.network.end + finds w.user.end) n w

  -- the SABME of x is in transit
  abbrev pub by_peer_5 : State → ℕ → ℕ → ℕ
  by_peer_5 AwaitingEstablishment waits alone = waits
  by_peer_5 AwaitingRelease waits alone = alone
  by_peer_5 state waits alone = 0

  pub record Asks5 (n : ℕ) (w : World) : Type 0 where
    pub user : w.user.end.state ≡ AwaitingEstablishment
    pub to_user : w.to_user ≡ []
    pub to_network : w.to_network ≡ sabme ∷ []
    pub most : 2 + twice w.user.end.release_pending + 2 * unsent w.user.end
        + 2 * unsent w.network.end
        + by_peer_5 w.network.end.state
        (attempt w.network.end + gone w.network.end + again w.user.end) (attempt w.network.end)
        ≤ n

  -- the DISC of x is
  abbrev pub by_peer_6 : State → ℕ → ℕ
  by_peer_6 MultipleFrameEstablished waits = 0
  by_peer_6 TimerRecovery waits = 0
  by_peer_6 state waits = waits

  pub record Asks6 (n : ℕ) (w : World) : Type 0 where
    pub user : w.user.end.state ≡ AwaitingRelease
    pub ignored : AreIgnored w.to_user
    pub to_network : w.to_network ≡ disc ∷ []
    pub most : length w.to_user + 2
        + by_peer_6 w.network.end.state (attempt w.network.end + 2 * unsent w.network.end) ≤ n

  -- the UA to x is, and y has just established
  pub record Accepted (n : ℕ) (w : World) : Type 0 where
    pub user : w.user.end.state ≡ AwaitingEstablishment
    pub frames : List Flight
    pub network : IsUpWith frames w.network.end
    pub to_user : w.to_user ≡ ua ∷ frames
    pub to_network : w.to_network ≡ []
    pub most : 1 + length frames + twice w.user.end.release_pending + 2 * unsent w.user.end
        + 2 * unsent w.network.end + w.network.end.window.vs ≤ n

  -- the UA to x is, and y is in state 5 too
  pub record Crossed (n : ℕ) (w : World) : Type 0 where
    pub user : w.user.end.state ≡ AwaitingEstablishment
    pub network : w.network.end.state ≡ AwaitingEstablishment
    pub to_user : w.to_user ≡ ua ∷ []
    pub to_network : w.to_network ≡ []
    pub most : 1 + twice w.user.end.release_pending + 2 * unsent w.user.end
        + 2 * unsent w.network.end + attempt w.network.end + gone w.network.end + again w.user.end
        ≤ n

  -- the DM to x is, and y is in state 6
  pub record Refused (n : ℕ) (w : World) : Type 0 where
    pub user : w.user.end.state ≡ AwaitingEstablishment
    pub network : w.network.end.state ≡ AwaitingRelease
    pub to_user : w.to_user ≡ dm ∷ []
    pub to_network : w.to_network ≡ []
    pub most : 1 + attempt w.network.end ≤ n

  -- the answer to the DISC of x is
  abbrev pub IsAnswer : Flight → Type 0
  IsAnswer f = (f ≡ ua) ⊎ (f ≡ dm)

  abbrev pub IsLast : Flight → List Flight → Type 0 → Type 0
  IsLast f [] Rest = IsAnswer f
  IsLast f (g ∷ gs) Rest = (is_ignored f.control ≡ true) × Rest

  abbrev pub EndInAnswer : List Flight → Type 0
  EndInAnswer [] = ⊥
  EndInAnswer (f ∷ fs) = IsLast f fs (EndInAnswer fs)

  pub record Parting (n : ℕ) (w : World) : Type 0 where
    pub user : w.user.end.state ≡ AwaitingRelease
    pub network : is_7_or_8 w.network.end.state ≡ false
    pub to_user : EndInAnswer w.to_user
    pub to_network : w.to_network ≡ []
    pub most : length w.to_user + attempt w.network.end + 2 * unsent w.network.end ≤ n

  -- both are closed; `sends` and `leaves` bound what follows if both are in state 5
  pub record Closed (n : ℕ) (w : World) : Type 0 where
    pub user : is_7_or_8 w.user.end.state ≡ false
    pub network : is_7_or_8 w.network.end.state ≡ false
    pub to_user : w.to_user ≡ []
    pub to_network : w.to_network ≡ []
    pub sends : ℕ
    pub leaves : ℕ
    pub both : w.user.end.state ≡ AwaitingEstablishment
        → w.network.end.state ≡ AwaitingEstablishment
        → (again w.user.end ≤ sends) × (again w.network.end ≤ sends) × (gone w.user.end ≤ leaves)
        × (gone w.network.end ≤ leaves)
    pub most : attempt w.user.end + attempt w.network.end + 2 * unsent w.user.end
        + 2 * unsent w.network.end + sends + leaves ≤ n

  pub data Half (n : ℕ) (w : World) : Type 0 where
    alone_4 : Alone4 n w → Half n w
    alone_5 : Alone5 n w → Half n w
    alone_6 : Alone6 n w → Half n w
    asks_5 : Asks5 n w → Half n w
    asks_6 : Asks6 n w → Half n w
    accepted : Accepted n w → Half n w
    crossed : Crossed n w → Half n w
    refused : Refused n w → Half n w
    parting : Parting n w → Half n w
    closed : Closed n w → Half n w

  abbrev pub Coming : ℕ → World → Type 0
  Coming n w = Draining n w ⊎ (Half n w ⊎ Half n (swapped w))

  pub record ComesOn (n : ℕ) (now : World) : Type 0 where
    pub some : 1 ≤ n
    pub arriving : Coming (n - 1) now

  -- ---- T200 of an open end expires on an empty line: it polls, or establishes anew.

  pub record PollsOn (x : Station) (v : View) : Type 0 where
    pub open_state : is_7_or_8 v.station.end.state ≡ true
    pub frame : Flight
    pub ignored : is_ignored frame.control ≡ true
    pub outgoing : v.outgoing ≡ frame ∷ []
    pub incoming : v.incoming ≡ []
    pub same_unsent : unsent v.station.end ≡ unsent x.end
    pub same_again : again v.station.end ≡ again x.end
    pub finds_less : finds v.station.end + 2 ≤ finds x.end
    pub polls_less : polls v.station.end + 2 ≤ polls x.end

  pub record AsksAnew (x : Station) (v : View) : Type 0 where
    pub sees : Sees v (asking x.end) [] (sabme ∷ [])
    pub finds_some : 3 ≤ finds x.end
    pub polls_some : 3 ≤ polls x.end

  below : (a b : ℕ) → nat_lt a b ≡ true → a + 1 ≤ b
  below a b less = grind (arith, nat_tests, less)

  module _ (some : 1 ≤ N) (x : Station) (few : x.end.parameters.n200 ≤ N)
      (on : x.end.t200 ≡ true) where
    abbrev v : View
    v = left_by (seeing x [] []) (acts Whole side.User Expire200 (seeing x [] []))

    in_8 : (rc : ℕ) → Polls x rc v
        → (finds v.station.end ≡ 2 * (x.end.parameters.n200 - rc) + 3)
        × (polls v.station.end ≡ 2 * (x.end.parameters.n200 - rc) + 3)
    in_8 rc p =
        let left : v.station.end.parameters.n200 - v.station.end.rc ≡ x.end.parameters.n200 - rc =
        ap (λ q. q.n200 - v.station.end.rc) p.polled.parameters
        ∙ ap (λ m. x.end.parameters.n200 - m) p.polled.rc_is in (
          ap (λ st. finds_in st v.station.end.parameters.n200
              (v.station.end.parameters.n200 - v.station.end.rc)) p.polled.in_8
              ∙ ap (λ l. 2 * l + 3) left,
          ap (λ st. polls_in st v.station.end.t200
              (v.station.end.parameters.n200 - v.station.end.rc)) p.polled.in_8
              ∙ ap (λ l. 2 * l + 3) left,
        )

    same_windows : (rc : ℕ) → Polls x rc v → again v.station.end ≡ again x.end
    unfolding without_ack_pending
    same_windows rc p =
        ap (λ w. again_in (w.vs == w.va) (unsent v.station.end)) p.polled.window
        ∙ ap (λ u. again_in (x.end.window.vs == x.end.window.va) u) p.polled.unsent_is

    polled : (rc : ℕ) → Polls x rc v → 2 * (x.end.parameters.n200 - rc) + 5 ≤ finds x.end
        → 2 * (x.end.parameters.n200 - rc) + 5 ≤ polls x.end → PollsOn x v
    polled rc p finds_more polls_more =
        let e = in_8 rc p in
        record {
          open_state = ap is_7_or_8 p.polled.in_8;
          frame = p.frame;
          ignored = p.ignored;
          outgoing = p.outgoing;
          incoming = p.incoming;
          same_unsent = p.polled.unsent_is;
          same_again = same_windows rc p;
          finds_less = let f = e.0 in omega (arith, f, finds_more);
          polls_less = let f = e.1 in omega (arith, f, polls_more);
        }

    from_7 : x.end.state ≡ MultipleFrameEstablished → PollsOn x v
    from_7 is =
        let finds_is : finds x.end ≡ 2 * x.end.parameters.n200 + 5 =
        ap (λ st. finds_in st x.end.parameters.n200 (x.end.parameters.n200 - x.end.rc)) is in
        let polls_is : polls x.end ≡ 2 * N + 3 =
        ap (λ st. polls_in st x.end.t200 (x.end.parameters.n200 - x.end.rc)) is
        ∙ ap (λ b. polls_in MultipleFrameEstablished b (x.end.parameters.n200 - x.end.rc))
        on in
        polled 1 (polls_by_t200 x is on) (omega (arith, finds_is))
        (omega (arith, polls_is, few, some))

    from_8 : x.end.state ≡ TimerRecovery → PollsOn x v ⊎ AsksAnew x v
    from_8 is = by_tries (nat_lt x.end.rc x.end.parameters.n200) refl
      where
        finds_is : finds x.end ≡ 2 * (x.end.parameters.n200 - x.end.rc) + 3
        finds_is =
            ap (λ st. finds_in st x.end.parameters.n200 (x.end.parameters.n200 - x.end.rc)) is

        polls_is : polls x.end ≡ 2 * (x.end.parameters.n200 - x.end.rc) + 3
        polls_is = ap (λ st. polls_in st x.end.t200 (x.end.parameters.n200 - x.end.rc)) is

        by_tries : (b : Bool) → nat_lt x.end.rc x.end.parameters.n200 ≡ b
            → PollsOn x v ⊎ AsksAnew x v
        by_tries true less =
            let room = below x.end.rc x.end.parameters.n200 less in
            inl (polled (x.end.rc + 1) (polls_again x is on less) (omega (arith, finds_is, room))
            (omega (arith, polls_is, room)))
        by_tries false last =
            inr (record {
              sees =
                  seen_after_t200 x (asking x.end) (sabme ∷ []) on
                  (last_try_in_8 x.end is on last);
              finds_some = omega (arith, finds_is);
              polls_some = omega (arith, polls_is);
            })

    pub t200_of_open : is_7_or_8 x.end.state ≡ true → PollsOn x v ⊎ AsksAnew x v
    t200_of_open opened = by_state x.end.state refl opened
      where
        by_state : (state : State) → x.end.state ≡ state → is_7_or_8 state ≡ true
            → PollsOn x v ⊎ AsksAnew x v
        by_state MultipleFrameEstablished is o = inl (from_7 is)
        by_state TimerRecovery is o = from_8 is
        by_state state is o = cc

-- ---- Both ends are up: the line drains.

up_stream : (x y : End) (out back : List Flight) → IsUpWith out x → IsUpWith back y
    → Stream (source x) (sink y) (kinds out) (kinds back) (2 * unsent x + x.window.vs)
up_stream x y out back up peer = record {
  stage = Clean;
  so = record {
    in_7 = up.in_7;
    free = up.free;
    arriving =
        let sent = messages (kinds out) in
        in_transit_of_whole y.window.rejecting y.window.vr x.window.vs sent
        (subst (λ low. IsWhole low x.window.vs sent) (sym peer.vr) up.messages_are.whole);
    wanted = peer.messages_are.rejections_none;
    timed = λ off. elim up.on [
      | inl none ↦ let count = up.count in let va = up.va in omega (arith, count, none, va)
      | inr on ↦ cc
    ];
    stopped = λ on. inl (runs (length out) refl on);
  };
  most = omega arith;
}
  where
    runs : (n : ℕ) → length out ≡ n → x.t200 ≡ true → y.window.vr < x.window.vs
    runs zero none on = let off = up.off none in cc
    runs (suc n) some on =
        let count = up.count in let vr = peer.vr in omega (arith, count, some, vr)

pub up_drains : (x y : Station) (out back : List Flight) (n : ℕ) → IsInvariant (at x y back out)
    → AreSettledEnds (at x y back out) → IsUpWith out x.end → IsUpWith back y.end
    → length out + length back + 2 * unsent x.end + x.end.window.vs + 2 * unsent y.end
    + y.end.window.vs ≤ n → Drains n (at x y back out)
up_drains x y out back n i settled up peer most = record {
  holds = i;
  ends_settled = settled;
  sees = record {
    flow = record {
      a = 2 * unsent x.end + x.end.window.vs;
      b = 2 * unsent y.end + y.end.window.vs;
      mine = up_stream x.end y.end out back up peer;
      its = up_stream y.end x.end back out peer up;
      most = let l = kinds_length out in let k = kinds_length back in omega (arith, l, k, most);
    };
    idle = up.idle;
    its_idle = peer.idle;
    proceeding = up.messages_are.ready;
    arriving = peer.messages_are.ready;
  };
}
