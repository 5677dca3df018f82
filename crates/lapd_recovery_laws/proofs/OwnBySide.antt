-- A successful move of a side shows its state: which timer runs, that it is established. The same
-- holds with the sides exchanged.
use Rattle.std.proofs.Common.{◌≡◌, ℕ, not, ◌&&◌, ◌||◌, if◌then◌else◌, Bool, true, false, List, [], Option, Some, None, Result, Err, is_ok, refl, sym, ap, ◌∙◌}
use Rattle.lapd_timers.specs.declared.timer.Timer.TheVariants.{T200}
use Rattle.lapd_frame.specs.declared.Side.{Side}
use Rattle.lapd_frame.specs.declared.Side.TheVariants as side
use Rattle.lapd_mod128.specs.Counting.{Whole}
use Rattle.lapd_link_definition.specs.declared.state.State.TheVariants.{TeiAssigned, MultipleFrameEstablished}
use Rattle.lapd_link_definition.specs.EndOfStep.{is_established}
use Rattle.lapd_link_definition.specs.Input.{Expiry}
use Rattle.lapd_link_definition.specs.Table.{step}
use Rattle.lapd_pair_laws.specs.Line.{Flight, first_poll, first_final}
use Rattle.lapd_pair_laws.specs.Move.{PairEvent, Deliver, Expire200, Expire203, Station, View, ViewStep, Refusal, NotRunning, acts, takes, delivers, expires_200, expires_203, unless_under_way}
use Rattle.lapd_pair_laws.specs.World.{World, swapped, view_of, happens}
use Rattle.lapd_pair_laws.proofs.Settles.{IsStill}
use Rattle.lapd_pair_laws.proofs.Stepping.{user_move, network_move}
use Rattle.lapd_recovery_laws.specs.Own.{are_apart, is_empty, is_line_empty, is_due, IsOwn}
use Rattle.lapd_recovery_laws.proofs.AnyOrder.{ok_in_world}
use Rattle.lapd_recovery_laws.proofs.OneMoreFrame.{seeing}
use Rattle.lapd_recovery_laws.proofs.Lost.{at}

pub no_delivery : (s : Station) (outgoing : List Flight)
    → is_ok (acts Whole side.User Deliver (seeing s [] outgoing)) ≡ true → ⊥
unfolding acts delivers
no_delivery s outgoing ok = cc

pub t200_runs : (v : View) → is_ok (acts Whole side.User Expire200 v) ≡ true
    → v.station.end.t200 ≡ true
unfolding acts expires_200
t200_runs v ok = by_timer v.station.end.t200 refl
  where
    by_timer : (b : Bool) → v.station.end.t200 ≡ b → v.station.end.t200 ≡ true
    by_timer true on = on
    by_timer false off = let impossible : false ≡ true = rw off at ok in cc

pub t203_runs : (v : View) → is_ok (acts Whole side.User Expire203 v) ≡ true
    → v.station.end.t203 ≡ true
unfolding acts expires_203
t203_runs v ok = by_timer v.station.end.t203 refl
  where
    by_timer : (b : Bool) → v.station.end.t203 ≡ b → v.station.end.t203 ≡ true
    by_timer true on = on
    by_timer false off = let impossible : false ≡ true = rw off at ok in cc

pub last_of : (a b c : Bool) → (a && b && c) ≡ true → c ≡ true
last_of true true c all = all
last_of false b c all = cc
last_of true false c all = cc

pub ok_of_side : (s : Side) (event : PairEvent) (w : World)
    → is_ok (happens Whole (record { side = s; event = event }) w) ≡ true
    → is_ok (acts Whole side.User event (view_of s w)) ≡ true
unfolding happens acts expires_200
ok_of_side side.User event w ok =
    sym (ok_in_world side.User w (acts Whole side.User event (view_of side.User w))) ∙ ok
ok_of_side side.Network Expire200 w ok =
    by_timer w.network.end.t200 (first_poll w.to_user) (first_final w.to_network)
    (takes Whole (Expiry T200) [] (view_of side.Network w))
    (sym (ok_in_world side.Network w (acts Whole side.Network Expire200 (view_of side.Network w)))
    ∙ ok)
  where
    by_timer : (b : Bool) (poll final : Option ℕ) (o : Result ViewStep Refusal)
        → is_ok (if b then unless_under_way side.Network poll final o else Err NotRunning) ≡ true
        → is_ok (if b then unless_under_way side.User poll final o else Err NotRunning) ≡ true
    by_timer true None None o ok = ok
    by_timer true (Some at) final o ok = ok
    by_timer true None (Some at) o ok = ok
    by_timer false poll final o ok = ok
ok_of_side side.Network event w ok =
    sym (ok_in_world side.Network w (acts Whole side.Network event (view_of side.Network w))) ∙ ok

and_swap : (a b : Bool) → (a && b) ≡ (b && a)
and_swap true true = refl
and_swap true false = refl
and_swap false true = refl
and_swap false false = refl

or_swap : (a b : Bool) → (a || b) ≡ (b || a)
or_swap true true = refl
or_swap true false = refl
or_swap false true = refl
or_swap false false = refl

apart_swap : (a b : Bool) → (if a then not b else b) ≡ (if b then not a else a)
apart_swap true true = refl
apart_swap true false = refl
apart_swap false true = refl
apart_swap false false = refl

pub due_swapped : (event : PairEvent) (w : World) → is_due event w ≡ is_due event (swapped w)
due_swapped Deliver w = refl
due_swapped Expire200 w = and_swap (is_empty w.to_user) (is_empty w.to_network)
due_swapped Expire203 w =
    ap (λ b. b && not (w.user.end.t200 || w.network.end.t200) && are_apart w)
    (and_swap (is_empty w.to_user) (is_empty w.to_network))
    ∙ ap (λ b. is_line_empty (swapped w) && not b && are_apart w)
    (or_swap w.user.end.t200 w.network.end.t200)
    ∙ ap (λ b. is_line_empty (swapped w) && not (w.network.end.t200 || w.user.end.t200) && b)
    (apart_swap (is_established w.user.end.state) (is_established w.network.end.state))
due_swapped event w = refl

pub expires_203_at : (s : Side) (w : World) → (view_of s w).station.end.t203 ≡ true
    → is_ok (happens Whole (record { side = s; event = Expire203 }) w) ≡ true
unfolding happens acts takes expires_203 step
expires_203_at side.User w on = rw on refl
expires_203_at side.Network w on = rw on refl

pub due_203 : (w : World) → IsStill w → w.user.end.state ≡ MultipleFrameEstablished
    → w.network.end.state ≡ TeiAssigned → is_due Expire203 w ≡ true
due_203 w still is its_is =
    rw (still.to_user, still.to_network, still.user, still.network, is, its_is) refl

pub still_swapped : (w : World) → IsStill w → IsStill (swapped w)
still_swapped w s =
    record { to_user = s.to_network; to_network = s.to_user; user = s.network; network = s.user }

pub own_203_swapped : (w : World) → IsOwn Whole (user_move Expire203) (swapped w)
    → IsOwn Whole (network_move Expire203) w
own_203_swapped w own = record {
  due = due_swapped Expire203 w ∙ own.due;
  admitted =
      expires_203_at side.Network w (t203_runs (view_of side.User (swapped w))
      (ok_of_side side.User Expire203 (swapped w) own.admitted));
}
