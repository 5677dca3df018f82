-- Without losses T200 in state 8 overtakes no more messages than were in transit at the start.
use Rattle.std.proofs.Common.{◌≡◌, ℕ, ◌+◌, ◌*◌, ◌≤◌, nat_lt, Bool, true, false, List, [], ◌∷◌, ◌++◌, length, is_ok, refl, sym, ap, subst, ◌∙◌, arith}
use Rattle.lapd_frame.specs.declared.Side.{Side}
use Rattle.lapd_frame.specs.declared.Side.TheVariants as side
use Rattle.lapd_mod128.specs.Counting.{Whole}
use Rattle.lapd_link_definition.specs.declared.state.State.{State}
use Rattle.lapd_link_definition.specs.declared.state.State.TheVariants.{TeiAssigned, AwaitingEstablishment, AwaitingRelease, MultipleFrameEstablished, TimerRecovery}
use Rattle.lapd_link_definition.specs.End.{End}
use Rattle.lapd_pair_laws.specs.Kinds.{kind, kinds, tally, poll_of}
use Rattle.lapd_pair_laws.specs.Line.{Flight}
use Rattle.lapd_pair_laws.specs.Move.{PairEvent, Deliver, Lose, Expire200, Expire203, Move, Station, View, acts}
use Rattle.lapd_pair_laws.specs.World.{World, swapped, view_of, happens}
use Rattle.lapd_pair_laws.proofs.Lists.{tally_append}
use Rattle.lapd_pair_laws.proofs.Swaps.{network_alike}
use Rattle.lapd_pair_laws.proofs.Worlds.{left_by}
use Rattle.lapd_recovery_laws.specs.Deliveries.{frames}
use Rattle.lapd_recovery_laws.specs.EarlyTimers.{IsLineMove, AreLineMoves, is_message, messages_in, if_in_8, overtaken_by, overtaken}
use Rattle.lapd_recovery_laws.specs.FewLosses.{t200s}
use Rattle.lapd_recovery_laws.specs.Losses.{is_loss, one_if, losses}
use Rattle.lapd_recovery_laws.proofs.AfterOutage.{facts_after}
use Rattle.lapd_recovery_laws.proofs.AnyOrder.{none_there, none_there_too}
use Rattle.lapd_recovery_laws.proofs.ClosedSteps.{seen_after_t200, retried, released, retry_in_6, give_up_in_6}
use Rattle.lapd_recovery_laws.proofs.ControlsOfTimers.{alone, here, placed}
use Rattle.lapd_recovery_laws.proofs.CountedMoves.{after}
use Rattle.lapd_recovery_laws.proofs.EndSends.{kinds_append}
use Rattle.lapd_recovery_laws.proofs.Expiries.{one_if_few}
use Rattle.lapd_recovery_laws.proofs.Handles.{delivery_handles}
use Rattle.lapd_recovery_laws.proofs.HalfSteps.{disc, asked_again, abandoned, retry_in_5, give_up_in_5}
use Rattle.lapd_recovery_laws.proofs.LoneSteps.{sabme, asking, last_try_in_8, Polls, polls_by_t200, polls_again, polls_by_t203}
use Rattle.lapd_recovery_laws.proofs.Lost.{at}
use Rattle.lapd_recovery_laws.proofs.LostMoves.{moved_user}
use Rattle.lapd_recovery_laws.proofs.OneMoreFrame.{seeing}
use Rattle.lapd_recovery_laws.proofs.OutageWorlds.{Facts, facts_swapped}
use Rattle.lapd_recovery_laws.proofs.OwnBySide.{t200_runs, t203_runs, ok_of_side}
use Rattle.lapd_recovery_laws.proofs.Renewals.{HandlesIn}
use Rattle.lapd_recovery_laws.proofs.Rejoins.{in_7}
use Rattle.lapd_recovery_laws.proofs.StaysOpen.{awaits_none}
use Rattle.lapd_recovery_laws.proofs.TimersBeside.{t200_beside, t203_beside}
use Rattle.lapd_recovery_laws.proofs.Transitions.{timers_in}

-- ---- Frames behind the last poll.

-- at most F messages are behind the last poll
abbrev IsBehind : ℕ → List Flight → Type 0
IsBehind F [] = Unit {0}
IsBehind F (f ∷ fs) =
    (tally poll_of (kinds (f ∷ fs)) ≡ 0 → messages_in (f ∷ fs) ≤ F) × IsBehind F fs

messages_append : (fs gs : List Flight) → messages_in (fs ++ gs) ≡ messages_in fs + messages_in gs
messages_append [] gs = omega arith
messages_append (f ∷ fs) gs = let rest = messages_append fs gs in omega (arith, rest)

messages_length : (fs : List Flight) → messages_in fs ≤ length fs
messages_length [] = omega arith
messages_length (f ∷ fs) =
    let one = one_if_few (is_message f.control) in
    let rest = messages_length fs in omega (arith, one, rest)

behind_few : (F : ℕ) (fs : List Flight) → messages_in fs ≤ F → IsBehind F fs
behind_few F [] few = tt
behind_few F (f ∷ fs) few = (λ none. few, behind_few F fs (omega (arith, few)))

behind_more : (F : ℕ) (fs new : List Flight) → messages_in new ≡ 0 → IsBehind F fs
    → IsBehind F (fs ++ new)
behind_more F [] new none b = behind_few F new (omega (arith, none))
behind_more F (f ∷ fs) new none b = (
  λ no_poll.
      let same = ap (λ l. tally poll_of l) (kinds_append (f ∷ fs) new) in
      let sum = tally_append poll_of (kinds (f ∷ fs)) (kinds new) in
      let few = b.0 (omega (arith, no_poll, same, sum)) in
      let all = messages_append (f ∷ fs) new in
      omega (arith, few, all, none),
  behind_more F fs new none b.1,
)

behind_poll : (F : ℕ) (fs : List Flight) (g : Flight) → poll_of (kind g) ≡ 1
    → IsBehind F (fs ++ g ∷ [])
behind_poll F [] g polls = (λ none. absurd (omega (arith, none, polls)), tt)
behind_poll F (f ∷ fs) g polls = (
  λ none.
      let same = ap (λ l. tally poll_of l) (kinds_append (f ∷ fs) (g ∷ [])) in
      let sum = tally_append poll_of (kinds (f ∷ fs)) (kinds (g ∷ [])) in
      absurd (omega (arith, none, same, sum, polls)),
  behind_poll F fs g polls,
)

all_behind : (F : ℕ) (fs : List Flight) → tally poll_of (kinds fs) ≡ 0 → IsBehind F fs
    → messages_in fs ≤ F
all_behind F [] none b = omega arith
all_behind F (f ∷ fs) none b = b.0 none

-- of each end in state 8
record Behinds (F : ℕ) (x y : End) (to_user to_network : List Flight) : Type 0 where
  mine : x.state ≡ TimerRecovery → IsBehind F to_network
  its : y.state ≡ TimerRecovery → IsBehind F to_user

behinds_turned : {F : ℕ} {x y : End} {to_user to_network : List Flight}
    → Behinds F x y to_user to_network → Behinds F y x to_network to_user
behinds_turned b = record { mine = b.its; its = b.mine }

-- ---- A frame is delivered, or a timer expires.

module _ (N F : ℕ) (x y : Station) (frame : Flight) (rest to_network : List Flight)
    (f : Facts N (at x y (frame ∷ rest) to_network))
    (b : Behinds F x.end y.end (frame ∷ rest) to_network) where
  abbrev z : View
  z =
      left_by (seeing x (frame ∷ rest) to_network)
      (acts Whole side.User Deliver (seeing x (frame ∷ rest) to_network))

  delivered : Behinds F z.station.end y.end z.incoming z.outgoing
  delivered =
      let h : HandlesIn x.end frame rest to_network z =
      delivery_handles x y frame rest to_network f.holds f.settled.user f.have.user
      f.clear.user in
      let there : Behinds F z.station.end y.end rest (to_network ++ h.new) = record {
        mine = λ is.
            let q = h.handles.quiet is in behind_more F to_network h.new q.1 (b.mine q.0);
        its = λ is. (b.its is).1;
      } in
      subst (λ l. Behinds F z.station.end y.end l z.outgoing) (sym h.incoming)
      (subst (λ l. Behinds F z.station.end y.end rest l) (sym h.sent) there)

module _ (N F : ℕ) (x y : Station) (to_user to_network : List Flight)
    (f : Facts N (at x y to_user to_network)) (b : Behinds F x.end y.end to_user to_network) where
  abbrev seen : View
  seen = seeing x to_user to_network

  abbrev Done : PairEvent → Type 0
  Done event =
      Behinds F (here x to_user to_network event).station.end y.end
      (here x to_user to_network event).incoming (here x to_user to_network event).outgoing

  polled : (rc : ℕ) (event : PairEvent) (p : Polls x rc (alone x to_user to_network event))
      → Behinds F (alone x to_user to_network event).station.end y.end to_user
      (to_network ++ p.frame ∷ [])
  polled rc event p =
      record { mine = λ is. behind_poll F to_network p.frame p.polls; its = b.its }

  -- the end is in another state
  elsewhere : (z : End) (sent : List Flight) → (z.state ≡ TimerRecovery → ⊥)
      → Behinds F z y.end to_user (to_network ++ sent)
  elsewhere z sent other = record { mine = λ is. absurd (other is); its = b.its }

  module _ (ok : is_ok (acts Whole side.User Expire200 seen) ≡ true) where
    on : x.end.t200 ≡ true
    on = t200_runs seen ok

    by_poll : (rc : ℕ) → Polls x rc (alone x to_user to_network Expire200) → Done Expire200
    by_poll rc p =
        placed x to_user to_network (λ d l m. Behinds F d y.end l m) Expire200
        (alone x to_user to_network Expire200).station.end (p.frame ∷ [])
        (t200_beside x to_user to_network ok) refl p.outgoing (polled rc Expire200 p)

    in_8 : x.end.state ≡ TimerRecovery → (more : Bool)
        → nat_lt x.end.rc x.end.parameters.n200 ≡ more → Done Expire200
    in_8 is true more = by_poll (x.end.rc + 1) (polls_again x is on more)
    in_8 is false last =
        let s =
        seen_after_t200 x (asking x.end) (sabme ∷ []) on (last_try_in_8 x.end is on last) in
        placed x to_user to_network (λ d l m. Behinds F d y.end l m) Expire200 (asking x.end)
        (sabme ∷ []) (t200_beside x to_user to_network ok) s.end s.outgoing
        (elsewhere (asking x.end) (sabme ∷ []) (λ in_8. cc))

    in_5 : x.end.state ≡ AwaitingEstablishment → (more : Bool)
        → nat_lt x.end.rc x.end.parameters.n200 ≡ more → Done Expire200
    in_5 is true more =
        let z = asked_again x.end is in
        let s = seen_after_t200 x z (sabme ∷ []) on (retry_in_5 x.end is on more) in
        placed x to_user to_network (λ d l m. Behinds F d y.end l m) Expire200 z (sabme ∷ [])
        (t200_beside x to_user to_network ok) s.end s.outgoing
        (elsewhere z (sabme ∷ []) (λ in_8.
        let impossible : AwaitingEstablishment ≡ TimerRecovery = sym is ∙ in_8 in cc))
    in_5 is false last =
        let z = abandoned x.end is in
        let s = seen_after_t200 x z [] on (give_up_in_5 x.end is on last) in
        placed x to_user to_network (λ d l m. Behinds F d y.end l m) Expire200 z []
        (t200_beside x to_user to_network ok) s.end s.outgoing (elsewhere z [] (λ in_8. cc))

    in_6 : x.end.state ≡ AwaitingRelease → (more : Bool)
        → nat_lt x.end.rc x.end.parameters.n200 ≡ more → Done Expire200
    in_6 is true more =
        let z = retried x.end is in
        let s = seen_after_t200 x z (disc ∷ []) on (retry_in_6 x.end is on more) in
        placed x to_user to_network (λ d l m. Behinds F d y.end l m) Expire200 z (disc ∷ [])
        (t200_beside x to_user to_network ok) s.end s.outgoing
        (elsewhere z (disc ∷ []) (λ in_8.
        let impossible : AwaitingRelease ≡ TimerRecovery = sym is ∙ in_8 in cc))
    in_6 is false last =
        let z = released x.end is in
        let s = seen_after_t200 x z [] on (give_up_in_6 x.end is on last) in
        placed x to_user to_network (λ d l m. Behinds F d y.end l m) Expire200 z []
        (t200_beside x to_user to_network ok) s.end s.outgoing (elsewhere z [] (λ in_8. cc))

    expires_200 : Done Expire200
    expires_200 = by_state x.end.state refl
      where
        by_state : (state : State) → x.end.state ≡ state → Done Expire200
        by_state TeiAssigned is =
            let off = (timers_in TeiAssigned x.end f.have.user is).0 in let runs = on in cc
        by_state AwaitingEstablishment is = in_5 is (nat_lt x.end.rc x.end.parameters.n200) refl
        by_state AwaitingRelease is = in_6 is (nat_lt x.end.rc x.end.parameters.n200) refl
        by_state MultipleFrameEstablished is = by_poll 1 (polls_by_t200 x is on)
        by_state TimerRecovery is = in_8 is (nat_lt x.end.rc x.end.parameters.n200) refl

    overtakes_few : if_in_8 x.end.state (messages_in to_network) ≤ F
    overtakes_few = by_state x.end.state refl
      where
        by_state : (state : State) → x.end.state ≡ state
            → if_in_8 x.end.state (messages_in to_network) ≤ F
        by_state TimerRecovery is =
            let none = (awaits_none seen ok).0 in
            let few = all_behind F to_network none (b.mine is) in
            let same = ap (λ st. if_in_8 st (messages_in to_network)) is in
            omega (arith, few, same)
        by_state TeiAssigned is =
            let same = ap (λ st. if_in_8 st (messages_in to_network)) is in omega (arith, same)
        by_state AwaitingEstablishment is =
            let same = ap (λ st. if_in_8 st (messages_in to_network)) is in omega (arith, same)
        by_state AwaitingRelease is =
            let same = ap (λ st. if_in_8 st (messages_in to_network)) is in omega (arith, same)
        by_state MultipleFrameEstablished is =
            let same = ap (λ st. if_in_8 st (messages_in to_network)) is in omega (arith, same)

  expires_203 : is_ok (acts Whole side.User Expire203 seen) ≡ true → Done Expire203
  expires_203 ok =
      let p =
      polls_by_t203 x (in_7 N x y to_user to_network f ok) (t203_runs seen ok) in
      placed x to_user to_network (λ d l m. Behinds F d y.end l m) Expire203
      (alone x to_user to_network Expire203).station.end (p.frame ∷ [])
      (t203_beside x to_user to_network ok) refl p.outgoing (polled 0 Expire203 p)

-- ---- The world.

module _ (N F : ℕ) where
  abbrev BehindsIn : World → Type 0
  BehindsIn w = Behinds F w.user.end w.network.end w.to_user w.to_network

  user_delivers : (x y : Station) (frame : Flight) (rest to_network : List Flight)
      → Facts N (at x y (frame ∷ rest) to_network) → BehindsIn (at x y (frame ∷ rest) to_network)
      → BehindsIn (after side.User Deliver (at x y (frame ∷ rest) to_network))
  user_delivers x y frame rest to_network f b =
      subst BehindsIn (sym (moved_user Deliver (at x y (frame ∷ rest) to_network)))
      (delivered N F x y frame rest to_network f b)

  delivers : (s : Side) (x y : Station) (to_user to_network : List Flight)
      → Facts N (at x y to_user to_network) → BehindsIn (at x y to_user to_network)
      → is_ok (happens Whole (record { side = s; event = Deliver }) (at x y to_user to_network))
      ≡ true → BehindsIn (after s Deliver (at x y to_user to_network))
  delivers side.User x y [] to_network f b ok = let none = none_there x y to_network in cc
  delivers side.User x y (frame ∷ rest) to_network f b ok =
      user_delivers x y frame rest to_network f b
  delivers side.Network x y to_user [] f b ok = let none = none_there_too x y to_user in cc
  delivers side.Network x y to_user (frame ∷ rest) f b ok =
      let w = at x y to_user (frame ∷ rest) in
      subst BehindsIn (sym (network_alike Whole Deliver w))
      (behinds_turned (user_delivers y x frame rest to_user (facts_swapped N w f)
      (behinds_turned b)))

  user_200 : (w : World) → Facts N w → BehindsIn w
      → is_ok (acts Whole side.User Expire200 (view_of side.User w)) ≡ true
      → BehindsIn (after side.User Expire200 w)
  user_200 w f b ok =
      subst BehindsIn (sym (moved_user Expire200 w))
      (expires_200 N F w.user w.network w.to_user w.to_network f b ok)

  expire_200 : (s : Side) (w : World) → Facts N w → BehindsIn w
      → is_ok (happens Whole (record { side = s; event = Expire200 }) w) ≡ true
      → (overtaken_by Expire200 (view_of s w) ≤ F) × BehindsIn (after s Expire200 w)
  expire_200 side.User w f b ok =
      let user = ok_of_side side.User Expire200 w ok in (
        overtakes_few N F w.user w.network w.to_user w.to_network f b user,
        user_200 w f b user,
      )
  expire_200 side.Network w f b ok =
      let network = ok_of_side side.Network Expire200 w ok in (
        overtakes_few N F w.network w.user w.to_network w.to_user (facts_swapped N w f)
            (behinds_turned b) network,
        subst BehindsIn (sym (network_alike Whole Expire200 w))
            (behinds_turned (user_200 (swapped w) (facts_swapped N w f) (behinds_turned b)
            network)),
      )

  user_203 : (w : World) → Facts N w → BehindsIn w
      → is_ok (acts Whole side.User Expire203 (view_of side.User w)) ≡ true
      → BehindsIn (after side.User Expire203 w)
  user_203 w f b ok =
      subst BehindsIn (sym (moved_user Expire203 w))
      (expires_203 N F w.user w.network w.to_user w.to_network f b ok)

  expire_203 : (s : Side) (w : World) → Facts N w → BehindsIn w
      → is_ok (happens Whole (record { side = s; event = Expire203 }) w) ≡ true
      → BehindsIn (after s Expire203 w)
  expire_203 side.User w f b ok = user_203 w f b (ok_of_side side.User Expire203 w ok)
  expire_203 side.Network w f b ok =
      subst BehindsIn (sym (network_alike Whole Expire203 w))
      (behinds_turned (user_203 (swapped w) (facts_swapped N w f) (behinds_turned b)
      (ok_of_side side.Network Expire203 w ok)))

  -- ---- All moves.

  first : (s : Side) (event : PairEvent) (w : World) (moves : List Move) → Facts N w → BehindsIn w
      → IsLineMove Whole (record { side = s; event = event }) w → one_if (is_loss event) ≡ 0
      → (BehindsIn (after s event w) → overtaken Whole moves (after s event w) ≤ t200s moves * F)
      → overtaken Whole (record { side = s; event = event } ∷ moves) w
      ≤ t200s (record { side = s; event = event } ∷ moves) * F
  first s Deliver w moves f b one quiet rest =
      let few = rest (delivers s w.user w.network w.to_user w.to_network f b one.admitted) in
      omega (arith, few)
  first s (Lose i) w moves f b one quiet rest = absurd (omega (arith, quiet))
  first s Expire200 w moves f b one quiet rest =
      let now = expire_200 s w f b one.admitted in
      let few = rest now.1 in
      let le = now.0 in
      omega (arith, few, le)
  first s Expire203 w moves f b one quiet rest =
      let few = rest (expire_203 s w f b one.admitted) in omega (arith, few)
  first s event w moves f b one quiet rest = let impossible = one.of_line in cc

  counted : (moves : List Move) (w : World) → Facts N w → BehindsIn w → AreLineMoves Whole moves w
      → losses moves ≡ 0 → overtaken Whole moves w ≤ t200s moves * F
  counted [] w f b own lossless = omega arith
  counted (move ∷ moves) w f b own lossless =
      first move.side move.event w moves f b own.0 (omega (arith, lossless))
      (λ now. counted moves (after move.side move.event w) (facts_after N move w f) now own.1
      (omega (arith, lossless)))

pub overtaken_few : (N : ℕ) (moves : List Move) (w : World) → Facts N w
    → AreLineMoves Whole moves w → losses moves ≡ 0
    → overtaken Whole moves w ≤ t200s moves * frames w
overtaken_few N moves w f own lossless =
    let user = messages_length w.to_user in
    let network = messages_length w.to_network in
    counted N (frames w) moves w f (record {
      mine = λ is. behind_few (frames w) w.to_network (omega (arith, network));
      its = λ is. behind_few (frames w) w.to_user (omega (arith, user));
    }) own lossless
