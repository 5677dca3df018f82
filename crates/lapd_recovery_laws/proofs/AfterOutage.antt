-- A line recovers after an outage, by own moves in any order.
use Rattle.std.proofs.Common.{◌≡◌, ◌⊎◌, inl, inr, ℕ, zero, suc, ◌+◌, ◌*◌, ◌-◌, ◌≤◌, ◌==◌, not, Bool, true, false, List, [], ◌∷◌, length, refl, sym, ap, subst, ◌∙◌, arith}
use Rattle.lapd_frame.specs.declared.Side.{Side}
use Rattle.lapd_frame.specs.declared.Side.TheVariants as side
use Rattle.lapd_mod128.specs.Counting.{Whole}
use Rattle.lapd_supervision.specs.Tags.{tag_variables}
use Rattle.lapd_link_definition.specs.declared.state.State.{State}
use Rattle.lapd_link_definition.specs.declared.state.State.TheVariants.{TeiAssigned, AwaitingEstablishment, AwaitingRelease, MultipleFrameEstablished, TimerRecovery}
use Rattle.lapd_link_definition.specs.EndOfStep.{is_7_or_8}
use Rattle.lapd_link_definition.specs.End.{End, unsent}
use Rattle.lapd_link_definition.specs.RunningTimers.{HasTimersOfState}
use Rattle.lapd_link_definition.specs.Parameters.{Parameters}
use Rattle.lapd_link_definition.specs.Tagging.{tag_end}
use Rattle.lapd_pair_laws.specs.Consistent.{IsConsistentWorld, AreSettled}
use Rattle.lapd_pair_laws.specs.Invariant.{IsInvariant}
use Rattle.lapd_pair_laws.specs.Move.{PairEvent, Expire203, Move, Station}
use Rattle.lapd_pair_laws.specs.Parties.{party, Party}
use Rattle.lapd_pair_laws.specs.World.{World, swapped, view_of, world_after, happens, run, left, left_of}
use Rattle.lapd_pair_laws.proofs.Consistency.{run_consistent}
use Rattle.lapd_pair_laws.proofs.EndsPreserved.{stays_sound}
use Rattle.lapd_pair_laws.proofs.SettledEnds.{move_settles}
use Rattle.lapd_pair_laws.proofs.Settles.{IsStill}
use Rattle.lapd_pair_laws.proofs.Stepping.{user_move, network_move}
use Rattle.lapd_pair_laws.proofs.Whole.{each_move_preserves}
use Rattle.lapd_pair_laws.specs.Conjuncts.{IsEmpty, IsConsistentSender}
use Rattle.lapd_pair_laws.proofs.Settled.{left_settled}
use Rattle.lapd_recovery_laws.proofs.OpenLine.{drained_agree}
use Rattle.lapd_recovery_laws.specs.WantedLine.{IsKept, AreWanting}
use Rattle.lapd_recovery_laws.specs.Agreed.{AreAgreed}
use Rattle.lapd_recovery_laws.specs.Own.{IsOwn, AreOwn, Rests, IsFree}
use Rattle.lapd_recovery_laws.specs.Timers.{HaveTimersOfStates}
use Rattle.lapd_recovery_laws.proofs.AnyOrder.{rests_still, rests_drained}
use Rattle.lapd_recovery_laws.proofs.Cleared.{clear_after_move}
use Rattle.lapd_recovery_laws.proofs.OwnBySide.{expires_203_at, due_203, still_swapped, own_203_swapped}
use Rattle.lapd_recovery_laws.proofs.Lost.{at}
use Rattle.lapd_recovery_laws.proofs.LostMoves.{moved_user, moved_network}
use Rattle.lapd_recovery_laws.proofs.Outage.{coming_moves}
use Rattle.lapd_recovery_laws.proofs.OutageWorlds.{Facts}
use Rattle.lapd_recovery_laws.proofs.Situations.{tries, attempt_in, attempt, gone_in, gone, again_in, again, finds_in, finds, polls_in, polls, Closed, Half, alone_4, alone_5, alone_6, asks_5, asks_6, accepted, crossed, refused, parting, closed, Coming}
use Rattle.lapd_recovery_laws.proofs.TimersOfRuns.{timers_after_move}
use Rattle.lapd_recovery_laws.proofs.Transitions.{timers_in}

-- ---- Properties that each move keeps.

pub same_parameters : (move : Move) (w : World) → IsInvariant w
    → ((world_after w (happens Whole move w)).user.end.parameters ≡ w.user.end.parameters)
    × ((world_after w (happens Whole move w)).network.end.parameters ≡ w.network.end.parameters)
same_parameters move w i = by_side move.side move.event
  where
    by_side : (s : Side) (event : PairEvent)
        → ((world_after w
        (happens Whole (record { side = s; event = event }) w)).user.end.parameters
        ≡ w.user.end.parameters)
        × ((world_after w (happens Whole (record { side = s; event = event })
        w)).network.end.parameters ≡ w.network.end.parameters)
    by_side side.User event = (
      ap (λ (u : World). u.user.end.parameters) (moved_user event w)
          ∙ (stays_sound (view_of side.User w) i.user_window i.user_sound event).parameters,
      ap (λ (u : World). u.network.end.parameters) (moved_user event w),
    )
    by_side side.Network event = (
      ap (λ (u : World). u.user.end.parameters) (moved_network event w),
      ap (λ (u : World). u.network.end.parameters) (moved_network event w)
          ∙ (stays_sound (view_of side.User (swapped w)) i.network_window i.network_sound
          event).parameters,
    )

pub facts_after : (N : ℕ) (move : Move) (w : World) → Facts N w
    → Facts N (world_after w (happens Whole move w))
facts_after N move w f =
    let same = same_parameters move w f.holds in
    record {
      holds = each_move_preserves move w f.holds;
      settled = move_settles move w f.settled;
      have = timers_after_move move w f.have;
      clear = clear_after_move move w f.clear;
      few_user = subst (λ (p : Parameters). p.n200 ≤ N) (sym same.0) f.few_user;
      few_network = subst (λ (p : Parameters). p.n200 ≤ N) (sym same.1) f.few_network;
    }

record Reaches (N n : ℕ) (moves : List Move) (now : World) : Type 0 where
  few : length moves ≤ n
  arriving : Coming N (n - length moves) now
  facts : Facts N now

own_moves_reach : (N : ℕ) → 1 ≤ N → (n : ℕ) (w : World) (moves : List Move) → Coming N n w
    → Facts N w → AreOwn Whole moves w → Reaches N n moves (run Whole moves w)
own_moves_reach N some n w [] c f own =
    let same : n ≡ n - 0 = omega arith in
    record { few = omega arith; arriving = subst (λ m. Coming N m w) same c; facts = f }
own_moves_reach N some n w (move ∷ moves) c f own =
    let one = coming_moves N some n move.side move.event w c f own.0 in
    let now = world_after w (happens Whole move w) in
    let rest =
    own_moves_reach N some (n - 1) now moves one.arriving (facts_after N move w f) own.1 in
    let fewer : n - 1 - length moves ≡ n - length (move ∷ moves) = omega arith in
    record {
      few = let some_left = one.some in let few = rest.few in omega (arith, some_left, few);
      arriving = subst (λ m. Coming N m (run Whole moves now)) fewer rest.arriving;
      facts = rest.facts;
    }

-- ---- Where no own move is possible, the ends agree.

half_rests : (N n : ℕ) (w : World) → Half N n w → HaveTimersOfStates w → IsStill w
    → (IsOwn Whole (user_move Expire203) w → ⊥) → Closed N n w
half_rests N n w (alone_4 s) have still rests = by_state w.user.end.state refl s.open_state
  where
    by_state : (state : State) → w.user.end.state ≡ state → is_7_or_8 state ≡ true
        → Closed N n w
    by_state MultipleFrameEstablished is o =
        let on : w.user.end.t203 ≡ true =
        (timers_in MultipleFrameEstablished w.user.end have.user is).0
        ∙ ap not still.user in
        absurd (rests (record {
          due = due_203 w still is s.network;
          admitted = expires_203_at side.User w on;
        }))
    by_state TimerRecovery is o =
        let on = (timers_in TimerRecovery w.user.end have.user is).0 in let off = still.user in cc
    by_state state is o = cc
half_rests N n w (alone_5 s) have still rests =
    let on = (timers_in AwaitingEstablishment w.network.end have.network s.network).0 in
    let off = still.network in cc
half_rests N n w (alone_6 s) have still rests =
    let on = (timers_in AwaitingRelease w.network.end have.network s.network).0 in
    let off = still.network in cc
half_rests N n w (asks_5 s) have still rests =
    let none = still.to_network in let some = s.to_network in cc
half_rests N n w (asks_6 s) have still rests =
    let none = still.to_network in let some = s.to_network in cc
half_rests N n w (accepted s) have still rests =
    let none = still.to_user in let some = s.to_user in cc
half_rests N n w (crossed s) have still rests =
    let none = still.to_user in let some = s.to_user in cc
half_rests N n w (refused s) have still rests =
    let none = still.to_user in let some = s.to_user in cc
half_rests N n w (parting s) have still rests =
    let on = (timers_in AwaitingRelease w.user.end have.user s.user).0 in let off = still.user in cc
half_rests N n w (closed s) have still rests = s

in_state_4 : (e : End) → HasTimersOfState e → is_7_or_8 e.state ≡ false → e.t200 ≡ false
    → e.state ≡ TeiAssigned
in_state_4 e has c off = by_state e.state refl c
  where
    by_state : (state : State) → e.state ≡ state → is_7_or_8 state ≡ false → e.state ≡ TeiAssigned
    by_state TeiAssigned is c = is
    by_state AwaitingEstablishment is c =
        let on = (timers_in AwaitingEstablishment e has is).0 in cc
    by_state AwaitingRelease is c = let on = (timers_in AwaitingRelease e has is).0 in cc
    by_state MultipleFrameEstablished is c = cc
    by_state TimerRecovery is c = cc

pub empty_in_4 : (s : Station) (x : Party) → x.sends.given ≡ s.end.given
    → x.sends.first ≡ s.end.first → x.sends.passed ≡ s.history.passed → x.state ≡ TeiAssigned
    → IsConsistentSender x.state x.asked x.leaving x.sends → x.sends.passed ≡ x.sends.first
    → AreSettled s.history → left_of s ≡ 0
empty_in_4 s x given first gone is preserved passed settled =
    let none : IsEmpty x.sends =
    subst (λ st. IsConsistentSender st x.asked x.leaving x.sends) is preserved in
    let all : x.sends.first ≡ length x.sends.given = none.first in
    let same : length x.sends.given ≡ length s.end.given = ap length given in
    left_settled s settled ∙ omega (arith, all, same, passed, gone)

closed_agree : (w : World) → IsInvariant w → IsConsistentWorld Whole w → HaveTimersOfStates w
    → IsStill w → is_7_or_8 w.user.end.state ≡ false → is_7_or_8 w.network.end.state ≡ false
    → AreAgreed w
closed_agree w i preserved have still user network =
    let mine = in_state_4 w.user.end have.user user still.user in
    let its = in_state_4 w.network.end have.network network still.network in
    let left_x =
    empty_in_4 w.user (party i.user_base w.user) refl refl refl mine i.both.mine.preserved
    i.both.mine.passed preserved.user.settled in
    let left_y =
    empty_in_4 w.network (party i.network_base w.network) refl refl refl its
    i.both.its.preserved i.both.its.passed preserved.network.settled in
    record {
      to_user = still.to_user;
      to_network = still.to_network;
      empty = omega (arith, left_x, left_y);
      user_stopped = still.user;
      network_stopped = still.network;
      ends = inl (record { mine = mine; its = its });
    }

pub agreed_at_rest : (N n : ℕ) (w : World) → Coming N n w → Facts N w → IsConsistentWorld Whole w
    → Rests Whole w → AreAgreed w
agreed_at_rest N n w c f preserved rests = by_coming c
  where
    still : IsStill w
    still = rests_still w.user w.network w.to_user w.to_network rests

    by_coming : Coming N n w → AreAgreed w
    by_coming (inl d) =
        drained_agree n w.user w.network w.to_user w.to_network preserved
        (rests_drained n w d f.have still) still
    by_coming (inr (inl l)) =
        let s = half_rests N n w l f.have still (λ own. rests (user_move Expire203) own) in
        closed_agree w f.holds preserved f.have still s.user s.network
    by_coming (inr (inr l)) =
        let s =
        half_rests N n (swapped w) l
        (record { user = f.have.network; network = f.have.user }) (still_swapped w still)
        (λ own. rests (network_move Expire203) (own_203_swapped w own)) in
        closed_agree w f.holds preserved f.have still s.network s.user

-- ---- The start.

-- bounds of the weights
attempt_few : (state : State) (tried leaving : Bool) → attempt_in state tried leaving ≤ 5
attempt_few AwaitingEstablishment true true = omega arith
attempt_few AwaitingRelease true leaving = omega arith
attempt_few state tried leaving = omega arith

-- an end at its last try has one attempt, else it leaves nobody alone
last_few : (N : ℕ) (state : State) (tried leaving : Bool)
    → (gone_in N tried ≡ 0) ⊎ ((attempt_in state tried leaving ≤ 1) × (gone_in N tried ≡ 2 * N + 5))
last_few N state true leaving = inl refl
last_few N AwaitingEstablishment false leaving = inr (omega arith, refl)
last_few N AwaitingRelease false leaving = inr (omega arith, refl)
last_few N TeiAssigned false leaving = inr (omega arith, refl)
last_few N MultipleFrameEstablished false leaving = inr (omega arith, refl)
last_few N TimerRecovery false leaving = inr (omega arith, refl)

again_or_none : (N : ℕ) (same : Bool) (u : ℕ)
    → (again_in N same u ≡ 0) ⊎ ((again_in N same u ≡ 2 * N + 3) × (1 ≤ u))
again_or_none N true zero = inl refl
again_or_none N true (suc u) = inr (refl, omega arith)
again_or_none N false u = inl refl

pub finds_few : (state : State) (all left : ℕ) → left ≤ all → finds_in state all left ≤ 2 * all + 5
finds_few TimerRecovery all left few = omega (arith, few)
finds_few state all left few = omega arith

polls_few : (N : ℕ) (state : State) (t200 : Bool) (left : ℕ) → left ≤ N
    → polls_in N state t200 left ≤ 2 * N + 3
polls_few N TimerRecovery t200 left few = omega (arith, few)
polls_few N state true left few = omega arith
polls_few N state t200 left few = omega arith

-- a bound of two numbers that are 0, or k with what follows then
record Either (P : Type 0) (a b k : ℕ) : Type 0 where
  value : ℕ
  first : a ≤ value
  second : b ≤ value
  one : (value ≡ 0) ⊎ ((value ≡ k) × P)

at_most : (P : Type 0) (a k : ℕ) → (a ≡ 0) ⊎ ((a ≡ k) × P) → a ≤ k
at_most P a k (inl none) = omega (arith, none)
at_most P a k (inr some) = let e = some.0 in omega (arith, e)

either_of : {P : Type 0} (a b k : ℕ) → (a ≡ 0) ⊎ ((a ≡ k) × P) → (b ≡ 0) ⊎ ((b ≡ k) × P)
    → Either P a b k
either_of {P = P} a b k (inl x) (inl y) =
    record { value = 0; first = omega (arith, x); second = omega (arith, y); one = inl refl }
either_of {P = P} a b k (inl x) (inr y) =
    let f = at_most P a k (inl x) in
    let s = at_most P b k (inr y) in
    record { value = k; first = f; second = s; one = inr (refl, y.1) }
either_of {P = P} a b k (inr x) y =
    let f = at_most P a k (inr x) in
    let s = at_most P b k y in record { value = k; first = f; second = s; one = inr (refl, x.1) }

module _ (N : ℕ) (some : 1 ≤ N) (x y : Station) (few_x : x.end.parameters.n200 ≤ N)
    (few_y : y.end.parameters.n200 ≤ N) where
  abbrev w : World
  w = at x y [] []

  abbrev n : ℕ
  n = 3 * (unsent x.end + unsent y.end) + 6 * N + 11

  finds_x : finds x.end ≤ 2 * N + 5
  finds_x =
      let all =
      finds_few x.end.state x.end.parameters.n200 (x.end.parameters.n200 - x.end.rc)
      (omega arith) in
      omega (arith, all, few_x)

  polls_x : polls N x.end ≤ 2 * N + 3
  polls_x =
      polls_few N x.end.state x.end.t200 (x.end.parameters.n200 - x.end.rc) (omega (arith, few_x))

  attempt_x : attempt x.end ≤ 5
  attempt_x = attempt_few x.end.state (tries x.end) x.end.release_pending

  attempt_y : attempt y.end ≤ 5
  attempt_y = attempt_few y.end.state (tries y.end) y.end.release_pending

  weight_5 : 2 * unsent x.end + 2 * unsent y.end + attempt y.end + gone N y.end + polls N x.end
      + again N x.end ≤ n
  weight_5 =
      by_both (last_few N y.end.state (tries y.end) y.end.release_pending)
      (again_or_none N (x.end.window.vs == x.end.window.va) (unsent x.end))
    where
      by_both : (gone N y.end ≡ 0) ⊎ ((attempt y.end ≤ 1) × (gone N y.end ≡ 2 * N + 5))
          → (again N x.end ≡ 0) ⊎ ((again N x.end ≡ 2 * N + 3) × (1 ≤ unsent x.end))
          → 2 * unsent x.end + 2 * unsent y.end + attempt y.end + gone N y.end + polls N x.end
          + again N x.end ≤ n
      by_both (inl none) (inl nothing) =
          omega (arith, none, nothing, polls_x, attempt_y, some)
      by_both (inl none) (inr sends) =
          let a = sends.0 in omega (arith, none, a, polls_x, attempt_y, some)
      by_both (inr last) (inl nothing) =
          let a = last.0 in let g = last.1 in omega (arith, a, g, nothing, polls_x, some)
      by_both (inr last) (inr sends) =
          let a = last.0 in
          let g = last.1 in
          let b = sends.0 in let u = sends.1 in omega (arith, a, g, b, u, polls_x, some)

  alone_begins : is_7_or_8 x.end.state ≡ true → is_7_or_8 y.end.state ≡ false → Half N n w
  alone_begins opened c = by_state y.end.state refl c
    where
      by_state : (state : State) → y.end.state ≡ state → is_7_or_8 state ≡ false → Half N n w
      by_state TeiAssigned is c =
          alone_4 (record {
            open_state = opened;
            network = is;
            to_user = refl;
            ignored = tt;
            most = omega (arith, finds_x, some);
          })
      by_state AwaitingEstablishment is c =
          alone_5 (record {
            open_state = opened;
            network = is;
            to_user = refl;
            ignored = tt;
            most = let le = weight_5 in omega (arith, le);
          })
      by_state AwaitingRelease is c =
          alone_6 (record {
            open_state = opened;
            network = is;
            to_user = refl;
            ignored = tt;
            most = omega (arith, finds_x, attempt_y, some);
          })
      by_state MultipleFrameEstablished is c = cc
      by_state TimerRecovery is c = cc

  most_sends : Either (1 ≤ unsent x.end + unsent y.end) (again N x.end) (again N y.end) (2 * N + 3)
  most_sends =
      either_of (again N x.end) (again N y.end) (2 * N + 3)
      (elim (again_or_none N (x.end.window.vs == x.end.window.va) (unsent x.end)) [
        | inl none ↦ inl none
        | inr sends ↦ inr (sends.0, let u = sends.1 in omega (arith, u))
      ]) (elim (again_or_none N (y.end.window.vs == y.end.window.va) (unsent y.end)) [
        | inl none ↦ inl none
        | inr sends ↦ inr (sends.0, let u = sends.1 in omega (arith, u))
      ])

  most_leaves : Either (attempt x.end + attempt y.end ≤ 6) (gone N x.end) (gone N y.end) (2 * N + 5)
  most_leaves =
      either_of (gone N x.end) (gone N y.end) (2 * N + 5)
      (elim (last_few N x.end.state (tries x.end) x.end.release_pending) [
        | inl none ↦ inl none
        | inr last ↦ inr (last.1, let a = last.0 in omega (arith, a, attempt_y))
      ]) (elim (last_few N y.end.state (tries y.end) y.end.release_pending) [
        | inl none ↦ inl none
        | inr last ↦ inr (last.1, let a = last.0 in omega (arith, a, attempt_x))
      ])

  closed_begins : is_7_or_8 x.end.state ≡ false → is_7_or_8 y.end.state ≡ false → Half N n w
  closed_begins c d =
      closed (record {
        user = c;
        network = d;
        to_user = refl;
        to_network = refl;
        sends = most_sends.value;
        leaves = most_leaves.value;
        both =
            λ in_5 its_in_5. (
              most_sends.first,
              most_sends.second,
              most_leaves.first,
              most_leaves.second,
            );
        most = by_both most_sends.value most_leaves.value most_sends.one most_leaves.one;
      })
    where
      by_both : (sends leaves : ℕ)
          → (sends ≡ 0) ⊎ ((sends ≡ 2 * N + 3) × (1 ≤ unsent x.end + unsent y.end))
          → (leaves ≡ 0) ⊎ ((leaves ≡ 2 * N + 5) × (attempt x.end + attempt y.end ≤ 6))
          → attempt x.end + attempt y.end + 2 * unsent x.end + 2 * unsent y.end + sends + leaves ≤ n
      by_both sends leaves (inl none) (inl nothing) =
          omega (arith, none, nothing, attempt_x, attempt_y, some)
      by_both sends leaves (inl none) (inr last) =
          let l = last.0 in let a = last.1 in omega (arith, none, l, a, some)
      by_both sends leaves (inr again_) (inl nothing) =
          let s = again_.0 in omega (arith, s, nothing, attempt_x, attempt_y, some)
      by_both sends leaves (inr again_) (inr last) =
          let s = again_.0 in
          let u = again_.1 in
          let l = last.0 in let a = last.1 in omega (arith, s, u, l, a, some)

-- both ends are open, or one is closed
pub half_begins : {C : Type 0} (N : ℕ) → 1 ≤ N → (x y : Station) → x.end.parameters.n200 ≤ N
    → y.end.parameters.n200 ≤ N
    → (is_7_or_8 x.end.state ≡ true → is_7_or_8 y.end.state ≡ true → C)
    → (Coming N (3 * (unsent x.end + unsent y.end) + 6 * N + 11) (at x y [] []) → C) → C
half_begins {C = C} N some x y few_x few_y both half =
    by_open (is_7_or_8 x.end.state) (is_7_or_8 y.end.state) refl refl
  where
    turned_bound : 3 * (unsent y.end + unsent x.end) + 6 * N + 11
        ≡ 3 * (unsent x.end + unsent y.end) + 6 * N + 11
    turned_bound = omega arith

    by_open : (a b : Bool) → is_7_or_8 x.end.state ≡ a → is_7_or_8 y.end.state ≡ b → C
    by_open true true o p = both o p
    by_open true false o c = half (inr (inl (alone_begins N some x y few_x few_y o c)))
    by_open false true c o =
        half (inr (inr (subst (λ m. Half N m (swapped (at x y [] []))) turned_bound
        (alone_begins N some y x few_y few_x o c))))
    by_open false false c d = half (inr (inl (closed_begins N some x y few_x few_y c d)))

-- own moves are at most the weight of the start, and lead to ends that agree
pub record Returns (n : ℕ) (w : World) : Type 0 where
  pub few : (moves : List Move) → AreOwn Whole moves w → length moves ≤ n
  pub agreed : (moves : List Move) → AreOwn Whole moves w → Rests Whole (run Whole moves w)
      → AreAgreed (run Whole moves w)

pub returns_from : (N : ℕ) → 1 ≤ N → (n : ℕ) (w : World) → Coming N n w → Facts N w
    → IsConsistentWorld Whole w → Returns n w
returns_from N some n w c f preserved = record {
  few = λ moves own. (own_moves_reach N some n w moves c f own).few;
  agreed = λ moves own rests.
      let reached = own_moves_reach N some n w moves c f own in
      agreed_at_rest N (n - length moves) (run Whole moves w) reached.arriving reached.facts
      (run_consistent Whole moves w preserved) rests;
}

-- ---- On tags.

pub free_by_tags : (e : End) → IsFree (tag_end e) → IsFree e
unfolding tag_variables
free_by_tags e free = free

kept_by_tags : (e : End) → IsKept (tag_end e) → IsKept e
kept_by_tags e k = record { not_releasing = k.not_releasing; none_pending = k.none_pending }

pub wanting_by_tags : (x y : End) → AreWanting (tag_end x) (tag_end y) → AreWanting x y
wanting_by_tags x y w =
    record { mine = kept_by_tags x w.mine; its = kept_by_tags y w.its; either = w.either }
