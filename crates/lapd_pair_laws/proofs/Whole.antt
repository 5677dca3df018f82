-- Every move keeps the invariant, and reports only F, G, H and I; hence every run.
use Rattle.std.proofs.Common.{◌≡◌, ℕ, nat_lt, Bool, true, false, List, [], ◌∷◌, length, Option, Some, None, Result, Ok, Err, refl}
use Rattle.lapd_timers.specs.declared.timer.Timer.TheVariants.{T200, T203}
use Rattle.lapd_frame.specs.declared.Side.{Side}
use Rattle.lapd_frame.specs.declared.Side.TheVariants as side
use Rattle.lapd_mod128.specs.Counting.{Whole}
use Rattle.lapd_link_definition.specs.declared.event.LinkFault.{LinkFault}
use Rattle.lapd_link_definition.specs.End.{End, StepState}
use Rattle.lapd_link_definition.specs.Input as input
use Rattle.lapd_link_definition.specs.Input.{Input, Heard, Expiry}
use Rattle.lapd_link_definition.specs.Reports.{AreExpected, IsDue}
use Rattle.lapd_link_definition.specs.Table.{step}
use Rattle.lapd_link_definition.proofs.ReportsOfStep.{due_is_expected}
use Rattle.lapd_pair_laws.specs.Line.{Flight, first_poll, first_final}
use Rattle.lapd_pair_laws.specs.Move.{PairEvent, Give, Establish, Release, Deliver, Lose, Expire200, Expire203, Busy, UnitData, Restart, Move, View, ViewStep, Refusal, acts, stepped, takes, receives, delivers, loses, expires_200, expires_203, unless_under_way, busy_input}
use Rattle.lapd_pair_laws.specs.World.{World, view_of, in_world, world_after, happens, run}
use Rattle.lapd_pair_laws.specs.Invariant.{IsInvariant}
use Rattle.lapd_pair_laws.specs.Reports.{ReportsExpected, IsFirstDue}
use Rattle.lapd_pair_laws.proofs.Beginnings.{preserves_delivery}
use Rattle.lapd_pair_laws.proofs.EachEvent.{preserves_establish, preserves_release, preserves_busy, preserves_t200, preserves_t203}
use Rattle.lapd_pair_laws.proofs.NextDue.{due_by_invariant}
use Rattle.lapd_pair_laws.proofs.Gives.{preserves_give}
use Rattle.lapd_pair_laws.proofs.Lists.{by_test}
use Rattle.lapd_pair_laws.proofs.Moves.{preserves_lose, move_preserves, run_preserves}
use Rattle.lapd_pair_laws.proofs.Restarts.{preserves_restart}
use Rattle.lapd_pair_laws.proofs.Units.{preserves_unit_data}
use Rattle.lapd_pair_laws.proofs.Worlds.{Preserves}

-- ---- All moves.

pub each_event_preserves : (event : PairEvent) → Preserves event
each_event_preserves (Give message) = preserves_give message
each_event_preserves Establish = preserves_establish
each_event_preserves Release = preserves_release
each_event_preserves Deliver = preserves_delivery
each_event_preserves (Lose at) = preserves_lose at
each_event_preserves Expire200 = preserves_t200
each_event_preserves Expire203 = preserves_t203
each_event_preserves (Busy on) = preserves_busy on
each_event_preserves (UnitData octets) = preserves_unit_data octets
each_event_preserves Restart = preserves_restart

pub each_move_preserves : (move : Move) (w : World) → IsInvariant w
    → IsInvariant (world_after w (happens Whole move w))
each_move_preserves move w i =
    move_preserves move.side move.event (each_event_preserves move.event) w i

pub each_run_preserves : (moves : List Move) (w : World) → IsInvariant w
    → IsInvariant (run Whole moves w)
each_run_preserves moves w i = run_preserves each_event_preserves moves w i

-- ---- Reports.

-- of a move of a side
abbrev pub Expected : Result ViewStep Refusal → Type 0
Expected (Ok acted) = AreExpected acted.outs
Expected (Err refusal) = Unit {0}

-- a step on an input that is due
stepped_so : (octets : List ℕ) (place : ℕ) (v : View) (what : Input)
    (r : Result StepState LinkFault) → step Whole what v.station.end ≡ r
    → IsDue Whole what v.station.end → Expected (stepped octets place v r)
stepped_so octets place v what (Ok s) is due = due_is_expected Whole what v.station.end s due is
stepped_so octets place v what (Err fault) is due = tt

pub own_so : (what : Input) (octets : List ℕ) (v : View) → IsDue Whole what v.station.end
    → Expected (takes Whole what octets v)
unfolding takes
own_so what octets v due = stepped_so octets 0 v what (step Whole what v.station.end) refl due

delivered_so : (frames : List Flight) (v : View) → IsFirstDue Whole frames v.station.end
    → Expected (delivers Whole frames v)
unfolding delivers receives
delivered_so [] v due = tt
delivered_so (frame ∷ rest) v due =
    stepped_so frame.info frame.place (record v { incoming = rest })
    (Heard frame.control frame.role) (step Whole (Heard frame.control frame.role) v.station.end)
    refl due

admitted_so : (s : Side) (poll final : Option ℕ) (outcome : Result ViewStep Refusal)
    → Expected outcome → Expected (unless_under_way s poll final outcome)
admitted_so s (Some at) final outcome e = tt
admitted_so s None (Some at) outcome e = tt
admitted_so s None None outcome e = e

busy_is_due : (on : Bool) (e : End) → IsDue Whole (busy_input on) e
busy_is_due true e = tt
busy_is_due false e = tt

event_is_expected : (s : Side) (event : PairEvent) (v : View)
    → IsFirstDue Whole v.incoming v.station.end → Expected (acts Whole s event v)
unfolding acts loses expires_200 expires_203
event_is_expected s (Give message) v due = own_so (input.Give message) [] v tt
event_is_expected s Establish v due = own_so input.Establish [] v tt
event_is_expected s Release v due = own_so input.Release [] v tt
event_is_expected s Deliver v due = delivered_so v.incoming v due
event_is_expected s (Lose at) v due =
    by_test (λ (r : Result ViewStep Refusal). Expected r) (nat_lt at (length v.incoming)) _ _
    (λ _. tt) (λ _. tt)
event_is_expected s Expire200 v due =
    by_test (λ (r : Result ViewStep Refusal). Expected r) v.station.end.t200 _ _
    (λ _. admitted_so s (first_poll v.outgoing) (first_final v.incoming)
    (takes Whole (Expiry T200) [] v) (own_so (Expiry T200) [] v tt)) (λ _. tt)
event_is_expected s Expire203 v due =
    by_test (λ (r : Result ViewStep Refusal). Expected r) v.station.end.t203 _ _
    (λ _. own_so (Expiry T203) [] v tt) (λ _. tt)
event_is_expected s (Busy on) v due = own_so (busy_input on) [] v (busy_is_due on v.station.end)
event_is_expected s (UnitData octets) v due = own_so (input.UnitData (length octets)) octets v tt
event_is_expected s Restart v due = tt

pub in_world_so : (s : Side) (w : World) (r : Result ViewStep Refusal) → Expected r
    → ReportsExpected (in_world s w r)
in_world_so s w (Ok acted) e = e
in_world_so s w (Err refusal) e = tt

pub each_report_is_expected : (move : Move) (w : World) → IsInvariant w
    → ReportsExpected (happens Whole move w)
unfolding happens
each_report_is_expected move w i = by_side move.side
  where
    by_side : (s : Side) → ReportsExpected (in_world s w (acts Whole s move.event (view_of s w)))
    by_side side.User =
        in_world_so side.User w (acts Whole side.User move.event (view_of side.User w))
        (event_is_expected side.User move.event (view_of side.User w)
        (due_by_invariant w i).to_user)
    by_side side.Network =
        in_world_so side.Network w (acts Whole side.Network move.event (view_of side.Network w))
        (event_is_expected side.Network move.event (view_of side.Network w)
        (due_by_invariant w i).to_network)
