-- The two sides are alike: a move of the network equals that of the user with the sides exchanged
-- before and after.
use Rattle.std.proofs.Common.{◌≡◌, ℕ, Option, Some, None, Result, Ok, Err, Bool, true, false, [], ◌∷◌, ◌++◌, if◌then◌else◌, refl}
use Rattle.lapd_timers.specs.declared.timer.Timer.TheVariants.{T200}
use Rattle.lapd_frame.specs.declared.Side.{Side}
use Rattle.lapd_frame.specs.declared.Side.TheVariants as side
use Rattle.lapd_mod128.specs.Counting.{Reading}
use Rattle.lapd_link_definition.specs.Input as input
use Rattle.lapd_pair_laws.specs.Line.{first_poll, first_final}
use Rattle.lapd_pair_laws.specs.Move.{PairEvent, Expire200, View, ViewStep, Refusal, unless_under_way, takes, expires_200, acts}
use Rattle.lapd_pair_laws.specs.World.{World, swapped, view_of, with_view, in_world, world_after, happens}

-- the view of a side after its move
abbrev pub view_left : View → Result ViewStep Refusal → View
view_left v (Ok acted) = acted.view
view_left v (Err refusal) = v

-- the world after a move, from its side's view
pub after_by_view : (who : Side) (w : World) (outcome : Result ViewStep Refusal)
    → world_after w (in_world who w outcome) ≡ with_view who (view_left (view_of who w) outcome) w
after_by_view side.User w (Ok acted) = refl
after_by_view side.User w (Err refusal) = refl
after_by_view side.Network w (Ok acted) = refl
after_by_view side.Network w (Err refusal) = refl

under_way_alike : (poll final : Option ℕ) (v : View) (outcome : Result ViewStep Refusal)
    → view_left v (unless_under_way side.Network poll final outcome)
    ≡ view_left v (unless_under_way side.User poll final outcome)
under_way_alike (Some at) final v outcome = refl
under_way_alike None (Some at) v outcome = refl
under_way_alike None None v outcome = refl

runs_alike : (running : Bool) (v : View) (x y z : Result ViewStep Refusal)
    → view_left v x ≡ view_left v y
    → view_left v (if running then x else z) ≡ view_left v (if running then y else z)
runs_alike true v x y z alike = alike
runs_alike false v x y z alike = refl

-- a move does not depend on its side, but for the side that a refusal names
acts_alike : (r : Reading) (event : PairEvent) (v : View)
    → view_left v (acts r side.Network event v) ≡ view_left v (acts r side.User event v)
unfolding acts expires_200
acts_alike r Expire200 v =
    runs_alike v.station.end.t200 v _ _ _
    (under_way_alike (first_poll v.outgoing) (first_final v.incoming) v
    (takes r (input.Expiry T200) [] v))
acts_alike r event v = refl

pub network_alike : (r : Reading) (event : PairEvent) (w : World)
    → world_after w (happens r (record { side = side.Network; event = event }) w)
    ≡ swapped (world_after (swapped w)
    (happens r (record { side = side.User; event = event }) (swapped w)))
unfolding happens
network_alike r event w =
    let here : world_after w
    (in_world side.Network w (acts r side.Network event (view_of side.Network w)))
    ≡ with_view side.Network (view_left (view_of side.Network w)
    (acts r side.Network event (view_of side.Network w))) w
    = after_by_view side.Network w (acts r side.Network event (view_of side.Network w)) in
    let there : world_after (swapped w)
    (in_world side.User (swapped w) (acts r side.User event (view_of side.User (swapped w))))
    ≡ with_view side.User (view_left (view_of side.User (swapped w))
    (acts r side.User event (view_of side.User (swapped w)))) (swapped w)
    =
    after_by_view side.User (swapped w)
    (acts r side.User event (view_of side.User (swapped w))) in
    let alike : view_left (view_of side.Network w)
    (acts r side.Network event (view_of side.Network w))
    ≡ view_left (view_of side.Network w) (acts r side.User event (view_of side.Network w))
    = acts_alike r event (view_of side.Network w) in
    rw (here, there, alike) refl
