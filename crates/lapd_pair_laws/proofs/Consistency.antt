-- Every move keeps `IsConsistentWorld`.
use Rattle.std.proofs.Common.{◌≡◌, ◌⊎◌, inl, inr, ℕ, zero, suc, ◌+◌, ◌-◌, ◌≤◌, ◌==◌, nat_lt, if◌then◌else◌, Bool, true, false, List, [], ◌∷◌, ◌++◌, length, length-append, Option, Some, None, Result, Ok, Err, refl, subst, arith}
use Rattle.std.specs.List.{remove}
use Rattle.std.proofs.lemmas.Bool.Decides.{nat_tests}
use Rattle.lapd_timers.specs.declared.timer.Timer.TheVariants.{T200, T203}
use Rattle.lapd_frame.specs.declared.Side.{Side}
use Rattle.lapd_frame.specs.declared.Side.TheVariants as side
use Rattle.lapd_frame.specs.Frame.{n201, content_fault}
use Rattle.lapd_frame.proofs.Lengths.{content_is_short, where_long}
use Rattle.lapd_mod128.specs.Counting.{Reading, Whole, Tagged}
use Rattle.lapd_supervision.specs.StateVariables.{initial_variables}
use Rattle.lapd_supervision.proofs.Range.{initial_are_tags}
use Rattle.lapd_link_definition.specs.declared.event.LinkFault.{LinkFault}
use Rattle.lapd_link_definition.specs.declared.state.State.{State}
use Rattle.lapd_link_definition.specs.declared.state.State.TheVariants.{AwaitingEstablishment}
use Rattle.lapd_link_definition.specs.Begins.{begins}
use Rattle.lapd_link_definition.specs.EndOfStep.{end_step}
use Rattle.lapd_link_definition.specs.Counts.{ups, messages_of, accepts}
use Rattle.lapd_link_definition.specs.End.{End, StepState, begin}
use Rattle.lapd_link_definition.specs.Input as input
use Rattle.lapd_link_definition.specs.Input.{Input}
use Rattle.lapd_link_definition.specs.Numbers.{AreNumbers, CarriesNumbers, HasNumbers}
use Rattle.lapd_link_definition.specs.Parameters.{Parameters}
use Rattle.lapd_link_definition.specs.Refusal.{refused}
use Rattle.lapd_link_definition.specs.Sound.{AreAwaiting, IsSoundIn}
use Rattle.lapd_link_definition.specs.Table.{row, step}
use Rattle.lapd_link_definition.proofs.InputsThatCount.{begun_by_step, begun_by_no_step, given_after, ups_after}
use Rattle.lapd_link_definition.proofs.PreservedByStep.{taken, step_preserves_parameters, step_is_well_formed, step_is_short}
use Rattle.lapd_link_definition.proofs.MessagesThere.{messages_are_there}
use Rattle.lapd_link_definition.proofs.NumbersOfStep.{numbers_stay, numbers_are_sent}
use Rattle.lapd_link_definition.proofs.OrderOfStep.{order_of_step}
use Rattle.lapd_link_definition.proofs.PlacesOfStep.{first_after}
use Rattle.lapd_link_definition.proofs.Soundness.{sound_new, sound_step}
use Rattle.lapd_pair_laws.specs.Histories.{History, with_beginning}
use Rattle.lapd_pair_laws.specs.Consistent.{IsConsistent, AreProper, CarryNumbers, IsConsistentWorld, AreInOrder, is_frame}
use Rattle.lapd_pair_laws.specs.Line.{Flight, without_lost, first_poll, first_final}
use Rattle.lapd_pair_laws.specs.Move.{PairEvent, Give, Establish, Release, Deliver, Lose, Expire200, Expire203, Busy, UnitData, Restart, Move, Refusal, Station, View, ViewStep, story_after, view_after, stepped, receives, takes, quietly, delivers, loses, unless_under_way, expires_200, expires_203, restarts, busy_input, acts}
use Rattle.lapd_pair_laws.specs.World.{World, new_station, new_world, view_of, with_view, Happened, in_world, happens, world_after, run}
use Rattle.lapd_pair_laws.proofs.Settling.{dropped_settled}
use Rattle.lapd_pair_laws.proofs.Recording.{AreUnsentFrom, settled_alike, after_outputs_then}

-- ---- A step of a side.

-- the first waiting message is not past the end of the list
awaiting_within : (r : Reading) (asked leaving : Bool) (first next given va vs : ℕ)
    → AreAwaiting r asked leaving first next given va vs → first ≤ given
awaiting_within r true leaving first next given va vs h = omega (arith, h.places, h.within)
awaiting_within r false true first next given va vs h = omega (arith, h.places, h.within)
awaiting_within r false false first next given va vs h = omega (arith, h.places, h.within)

pub first_within : (r : Reading) (state : State) (e : End) → IsSoundIn r state e
    → e.first ≤ length e.given
first_within r AwaitingEstablishment e h =
    awaiting_within r e.layer3_initiated e.release_pending e.first e.next (length e.given)
    e.window.va e.window.vs h
first_within r state e h = omega (arith, h.places, h.within)

pub outputs_in_order : (r : Reading) (input : Input) (station : Station) (s : StepState)
    → IsConsistent r station → step r input station.end ≡ Ok s
    → AreInOrder s.end station.history.passed s.outs
outputs_in_order r input station s preserved done = record {
  first =
      omega (
        arith,
        preserved.first,
        first_after r input station.end s
            (first_within r station.end.state station.end preserved.sound) done,
      );
  counted = order_of_step r input station.end s done;
  spoken = step_is_well_formed r input station.end s done;
  placed =
      messages_are_there r input station.end s preserved.window preserved.sound preserved.numbers
      done;
}

at_most_one : (accepted : Bool) → (if accepted then 1 else 0) ≤ 1
at_most_one true = omega arith
at_most_one false = omega arith

pub one_is_delivered : (r : Reading) (input : Input) (e : End) (s : StepState)
    → step r input e ≡ Ok s → ups s.outs ≤ 1
one_is_delivered r input e s done = rw (ups_after r input e s done) (at_most_one (accepts input e))

unheard_is_not_accepted : (input : Input) (e : End) → is_frame input ≡ false
    → accepts input e ≡ false
unheard_is_not_accepted (input.Heard control role) e h = cc
unheard_is_not_accepted input e h = refl

pub none_is_delivered : (r : Reading) (input : Input) (e : End) (s : StepState)
    → is_frame input ≡ false → step r input e ≡ Ok s → ups s.outs ≡ 0
none_is_delivered r input e s unheard done =
    rw (ups_after r input e s done, unheard_is_not_accepted input e unheard) refl

-- an establishment begins, or none does
pub counted_by : (r : Reading) (input : Input) (e : End) (s : StepState) (test : Bool)
    → begins e.state e.release_pending input ≡ test → step r input e ≡ Ok s
    → (s.end.establishments ≡ e.establishments) ⊎ (s.end.establishments ≡ e.establishments + 1)
counted_by r input e s true is done = inr (begun_by_step r input e s is done).counted
counted_by r input e s false is done = inl (begun_by_no_step r input e s is done)

begun_where : (same : Bool) (before now : ℕ) (begun : List ℕ) (received : ℕ)
    → (before == now) ≡ same → length begun ≡ before → (now ≡ before) ⊎ (now ≡ before + 1)
    → length (if same then begun else begun ++ received ∷ []) ≡ now
begun_where true before now begun received is counted h = grind (arith, nat_tests)
begun_where false before now begun received is counted (inl h) = grind (arith, nat_tests)
begun_where false before now begun received is counted (inr h) =
    omega (arith, length-append begun (received ∷ []), counted, h)

pub begun_counted : (before now : ℕ) (h : History) → length h.begun ≡ before
    → (now ≡ before) ⊎ (now ≡ before + 1) → length (with_beginning before now h).begun ≡ now
begun_counted before now h counted either =
    begun_where (before == now) before now h.begun (length h.received) refl counted either

still_unsent : (few many : ℕ) (sent_in : ℕ → Option ℕ) → few ≤ many → AreUnsentFrom few sent_in
    → AreUnsentFrom many sent_in
still_unsent few many sent_in more unsent place beyond = unsent place (omega (arith, more, beyond))

more_given : (r : Reading) (input : Input) (e : End) (s : StepState) → step r input e ≡ Ok s
    → length e.given ≤ length s.end.given
more_given r input e s done =
    let more = given_after r input e s done in
    rw more (omega (arith, length-append e.given (messages_of input)))

-- ---- The view of a side.

pub record IsConsistentView (r : Reading) (v : View) : Type 0 where
  pub station : IsConsistent r v.station
  pub arriving : AreProper v.incoming
  pub numbers_arriving : CarryNumbers r v.incoming
  pub proceeding : AreProper v.outgoing
  pub numbers_leaving : CarryNumbers r v.outgoing

view_consistent : (r : Reading) (input : Input) (octets : List ℕ) (place : ℕ) (v : View)
    (s : StepState) → IsConsistentView r v → CarriesNumbers r input → length octets ≤ n201
    → step r input v.station.end ≡ Ok s → IsConsistentView r (view_after octets place v s)
unfolding view_after story_after
view_consistent r input octets place v s preserved reception few done =
    let e = v.station.end in
    let side = preserved.station in
    let before = with_beginning e.establishments s.end.establishments v.station.history in
    let small : s.end.parameters.k ≤ 127 =
    rw (step_preserves_parameters r input e s done) side.window in
    let all =
    after_outputs_then r s.end (record {
      given = s.end.given;
      establishment = s.end.establishments;
      octets = octets;
      place = place;
    }) before.begun
    s.outs (record { line = v.outgoing; history = before })
    (outputs_in_order r input v.station s side done)
    (numbers_are_sent r input e s side.numbers reception done)
    (step_is_short r input e s side.short done) few
    (record {
      settled = settled_alike v.station.history before refl refl refl side.settled;
      begins = refl;
      unsent =
          still_unsent (length e.given) (length s.end.given) v.station.history.sent_in
          (more_given r input e s done) side.unsent;
      proper = preserved.proceeding;
      carried = preserved.numbers_leaving;
    }) in
    record {
      station = record {
        sound = sound_step r input e s side.window side.sound done;
        window = small;
        numbers = numbers_stay r input e s side.numbers reception done;
        short = step_is_short r input e s side.short done;
        first = all.1;
        settled = all.0.settled;
        begun =
            rw (all.0.begins) (begun_counted e.establishments s.end.establishments v.station.history
            side.begun
            (counted_by r input e s (begins e.state e.release_pending input) refl done));
        unsent = all.0.unsent;
      };
      arriving = preserved.arriving;
      numbers_arriving = preserved.numbers_arriving;
      proceeding = all.0.proper;
      numbers_leaving = all.0.carried;
    }

abbrev Acts : ViewStep → Result ViewStep Refusal
Acts acted = Ok acted

same_acted : (a b : ViewStep) → Acts a ≡ Acts b → a ≡ b
same_acted a b h = cc

stepped_consistent : (r : Reading) (input : Input) (octets : List ℕ) (place : ℕ) (v : View)
    (acted : ViewStep) (result : Result StepState LinkFault) → IsConsistentView r v
    → CarriesNumbers r input
    → ((s : StepState) → step r input v.station.end ≡ Ok s → length octets ≤ n201)
    → step r input v.station.end ≡ result → stepped octets place v result ≡ Ok acted
    → IsConsistentView r acted.view
stepped_consistent r input octets place v acted (Ok s) preserved reception few done is =
    subst (λ a. IsConsistentView r a.view)
    (same_acted (record { view = view_after octets place v s; outs = s.outs }) acted is)
    (view_consistent r input octets place v s preserved reception (few s done) done)
stepped_consistent r input octets place v acted (Err fault) preserved reception few done is = cc

-- ---- The moves.

takes_consistent : (r : Reading) (input : Input) (v : View) (acted : ViewStep)
    → IsConsistentView r v → CarriesNumbers r input → takes r input [] v ≡ Ok acted
    → IsConsistentView r acted.view
unfolding takes
takes_consistent r input v acted preserved reception is =
    stepped_consistent r input [] 0 v acted (step r input v.station.end) preserved reception
    (λ s done. omega arith) refl is

busy_carries_none : (r : Reading) (on : Bool) → CarriesNumbers r (busy_input on)
busy_carries_none r true = tt
busy_carries_none r false = tt

receives_consistent : (r : Reading) (frame : Flight) (v : View) (acted : ViewStep)
    → IsConsistentView r v → content_fault frame.role frame.control (length frame.info) ≡ None
    → HasNumbers r frame.control
    → receives r frame v ≡ Ok acted → IsConsistentView r acted.view
unfolding receives
receives_consistent r frame v acted preserved proper has is =
    stepped_consistent r (input.Heard frame.control frame.role) frame.info frame.place v acted
    (step r (input.Heard frame.control frame.role) v.station.end) preserved has
    (λ s done. content_is_short frame.role frame.control (length frame.info) proper) refl is

delivers_consistent : (r : Reading) (frames : List Flight) (v : View) (acted : ViewStep)
    → AreProper frames → CarryNumbers r frames → IsConsistentView r v
    → delivers r frames v ≡ Ok acted → IsConsistentView r acted.view
unfolding delivers
delivers_consistent r [] v acted proper carried preserved is = cc
delivers_consistent r (frame ∷ rest) v acted proper carried preserved is =
    receives_consistent r frame (record v { incoming = rest }) acted
    (record {
      station = preserved.station;
      arriving = proper.1;
      numbers_arriving = carried.1;
      proceeding = preserved.proceeding;
      numbers_leaving = preserved.numbers_leaving;
    })
    proper.0 carried.0 is

proper_without : (at : ℕ) (frames : List Flight) → AreProper frames → AreProper (remove frames at)
proper_without zero [] proper = tt
proper_without (suc at) [] proper = tt
proper_without zero (frame ∷ frames) proper = proper.1
proper_without (suc at) (frame ∷ frames) proper = (proper.0, proper_without at frames proper.1)

carried_without : (r : Reading) (at : ℕ) (frames : List Flight) → CarryNumbers r frames
    → CarryNumbers r (remove frames at)
carried_without r zero [] carried = tt
carried_without r (suc at) [] carried = tt
carried_without r zero (frame ∷ frames) carried = carried.1
carried_without r (suc at) (frame ∷ frames) carried =
    (carried.0, carried_without r at frames carried.1)

quietly_consistent : (r : Reading) (now : View) (acted : ViewStep) → IsConsistentView r now
    → quietly now ≡ Ok acted → IsConsistentView r acted.view
quietly_consistent r now acted preserved is =
    subst (λ a. IsConsistentView r a.view) (same_acted (record { view = now; outs = [] }) acted is)
    preserved

where_there : (r : Reading) (there : Bool) (now : View) (other : Refusal) (acted : ViewStep)
    → IsConsistentView r now → (if there then quietly now else Err other) ≡ Ok acted
    → IsConsistentView r acted.view
where_there r true now other acted preserved is = quietly_consistent r now acted preserved is
where_there r false now other acted preserved is = cc

loses_consistent : (r : Reading) (at : ℕ) (v : View) (acted : ViewStep) → IsConsistentView r v
    → loses at v ≡ Ok acted → IsConsistentView r acted.view
unfolding loses
loses_consistent r at v acted preserved is =
    where_there r (nat_lt at (length v.incoming))
    (record v { incoming = without_lost at v.incoming }) _ acted
    (record {
      station = preserved.station;
      arriving = proper_without at v.incoming preserved.arriving;
      numbers_arriving = carried_without r at v.incoming preserved.numbers_arriving;
      proceeding = preserved.proceeding;
      numbers_leaving = preserved.numbers_leaving;
    }) is

not_under_way : (who : Side) (poll final : Option ℕ) (outcome : Result ViewStep Refusal)
    (acted : ViewStep) → unless_under_way who poll final outcome ≡ Ok acted → outcome ≡ Ok acted
not_under_way who (Some at) final outcome acted is = cc
not_under_way who None (Some at) outcome acted is = cc
not_under_way who None None outcome acted is = is

where_runs : (running : Bool) (outcome : Result ViewStep Refusal) (other : Refusal)
    (acted : ViewStep) → (if running then outcome else Err other) ≡ Ok acted → outcome ≡ Ok acted
where_runs true outcome other acted is = is
where_runs false outcome other acted is = cc

expires_200_consistent : (r : Reading) (who : Side) (v : View) (acted : ViewStep)
    → IsConsistentView r v → expires_200 r who v ≡ Ok acted → IsConsistentView r acted.view
unfolding expires_200
expires_200_consistent r who v acted preserved is =
    takes_consistent r (input.Expiry T200) v acted preserved tt
    (not_under_way who (first_poll v.outgoing) (first_final v.incoming)
    (takes r (input.Expiry T200) [] v) acted (where_runs v.station.end.t200 _ _ acted is))

expires_203_consistent : (r : Reading) (v : View) (acted : ViewStep) → IsConsistentView r v
    → expires_203 r v ≡ Ok acted → IsConsistentView r acted.view
unfolding expires_203
expires_203_consistent r v acted preserved is =
    takes_consistent r (input.Expiry T203) v acted preserved tt
    (where_runs v.station.end.t203 _ _ acted is)

unit_is_short : (r : Reading) (len : ℕ) (e : End) (s : StepState)
    → step r (input.UnitData len) e ≡ Ok s → len ≤ n201
unfolding step
unit_is_short r len e s done =
    where_long (nat_lt 260 len) len _ refl
    (taken (refused (input.UnitData len) e)
    (end_step r (row r e.state (input.UnitData len) (begin e))) s done).0

unit_consistent : (r : Reading) (octets : List ℕ) (v : View) (acted : ViewStep)
    → IsConsistentView r v → takes r (input.UnitData (length octets)) octets v ≡ Ok acted
    → IsConsistentView r acted.view
unfolding takes
unit_consistent r octets v acted preserved is =
    stepped_consistent r (input.UnitData (length octets)) octets 0 v acted
    (step r (input.UnitData (length octets)) v.station.end) preserved tt
    (λ s done. unit_is_short r (length octets) v.station.end s done) refl is

initial_numbers : (r : Reading) → AreNumbers r initial_variables
initial_numbers Whole = tt
initial_numbers Tagged = initial_are_tags

all_dropped : (passed given : ℕ) → passed ≤ given → passed + (given - passed) ≡ given
all_dropped passed given within = omega (arith, within)

restarts_consistent : (r : Reading) (v : View) → IsConsistentView r v
    → IsConsistentView r (restarts v)
unfolding restarts
restarts_consistent r v preserved =
    let side = preserved.station in
    let within : v.station.history.passed ≤ length v.station.end.given =
    omega
    (arith, side.first, first_within r v.station.end.state v.station.end side.sound) in
    record {
      station = record {
        sound = record { places = refl; within = omega arith };
        window = side.window;
        numbers = initial_numbers r;
        short = side.short;
        first = all_dropped v.station.history.passed (length v.station.end.given) within;
        settled =
            dropped_settled (length v.station.end.given - v.station.history.passed)
            v.station.history side.settled;
        begun = side.begun;
        unsent = side.unsent;
      };
      arriving = tt;
      numbers_arriving = tt;
      proceeding = tt;
      numbers_leaving = tt;
    }

acts_consistent : (r : Reading) (who : Side) (event : PairEvent) (v : View) (acted : ViewStep)
    → IsConsistentView r v → acts r who event v ≡ Ok acted → IsConsistentView r acted.view
unfolding acts
acts_consistent r who (Give message) v acted preserved is =
    takes_consistent r (input.Give message) v acted preserved tt is
acts_consistent r who Establish v acted preserved is =
    takes_consistent r input.Establish v acted preserved tt is
acts_consistent r who Release v acted preserved is =
    takes_consistent r input.Release v acted preserved tt is
acts_consistent r who Deliver v acted preserved is =
    delivers_consistent r v.incoming v acted preserved.arriving preserved.numbers_arriving preserved
    is
acts_consistent r who (Lose at) v acted preserved is = loses_consistent r at v acted preserved is
acts_consistent r who Expire200 v acted preserved is =
    expires_200_consistent r who v acted preserved is
acts_consistent r who Expire203 v acted preserved is = expires_203_consistent r v acted preserved is
acts_consistent r who (Busy on) v acted preserved is =
    takes_consistent r (busy_input on) v acted preserved (busy_carries_none r on) is
acts_consistent r who (UnitData octets) v acted preserved is =
    unit_consistent r octets v acted preserved is
acts_consistent r who Restart v acted preserved is =
    quietly_consistent r (restarts v) acted (restarts_consistent r v preserved) is

-- ---- The world.

pub view_of_consistent : (r : Reading) (who : Side) (w : World) → IsConsistentWorld r w
    → IsConsistentView r (view_of who w)
view_of_consistent r side.User w preserved = record {
  station = preserved.user;
  arriving = preserved.to_user;
  numbers_arriving = preserved.numbers_to_user;
  proceeding = preserved.to_network;
  numbers_leaving = preserved.numbers_to_network;
}
view_of_consistent r side.Network w preserved = record {
  station = preserved.network;
  arriving = preserved.to_network;
  numbers_arriving = preserved.numbers_to_network;
  proceeding = preserved.to_user;
  numbers_leaving = preserved.numbers_to_user;
}

with_view_consistent : (r : Reading) (who : Side) (v : View) (w : World) → IsConsistentWorld r w
    → IsConsistentView r v → IsConsistentWorld r (with_view who v w)
with_view_consistent r side.User v w preserved view = record {
  user = view.station;
  network = preserved.network;
  to_user = view.arriving;
  to_network = view.proceeding;
  numbers_to_user = view.numbers_arriving;
  numbers_to_network = view.numbers_leaving;
}
with_view_consistent r side.Network v w preserved view = record {
  user = preserved.user;
  network = view.station;
  to_user = view.proceeding;
  to_network = view.arriving;
  numbers_to_user = view.numbers_leaving;
  numbers_to_network = view.numbers_arriving;
}

abbrev Happens : Happened → Result Happened Refusal
Happens happened = Ok happened

same_happened : (a b : Happened) → Happens a ≡ Happens b → a ≡ b
same_happened a b h = cc

in_world_consistent : (r : Reading) (who : Side) (w : World) (outcome : Result ViewStep Refusal)
    (happened : Happened) → IsConsistentWorld r w
    → ((acted : ViewStep) → outcome ≡ Ok acted → IsConsistentView r acted.view)
    → in_world who w outcome ≡ Ok happened → IsConsistentWorld r happened.world
in_world_consistent r who w (Ok acted) happened preserved preserves is =
    subst (λ h. IsConsistentWorld r h.world)
    (same_happened (record { world = with_view who acted.view w; outs = acted.outs }) happened
    is) (with_view_consistent r who acted.view w preserved (preserves acted refl))
in_world_consistent r who w (Err refusal) happened preserved preserves is = cc

pub move_consistent : (r : Reading) (move : Move) (w : World) (happened : Happened)
    → IsConsistentWorld r w → happens r move w ≡ Ok happened → IsConsistentWorld r happened.world
unfolding happens
move_consistent r move w happened preserved is =
    in_world_consistent r move.side w (acts r move.side move.event (view_of move.side w)) happened
    preserved
    (λ acted done. acts_consistent r move.side move.event (view_of move.side w) acted
    (view_of_consistent r move.side w preserved) done) is

after_consistent : (r : Reading) (w : World) (outcome : Result Happened Refusal)
    → IsConsistentWorld r w
    → ((happened : Happened) → outcome ≡ Ok happened → IsConsistentWorld r happened.world)
    → IsConsistentWorld r (world_after w outcome)
after_consistent r w (Ok happened) preserved preserves = preserves happened refl
after_consistent r w (Err refusal) preserved preserves = preserved

pub run_consistent : (r : Reading) (moves : List Move) (w : World) → IsConsistentWorld r w
    → IsConsistentWorld r (run r moves w)
run_consistent r [] w preserved = preserved
run_consistent r (move ∷ moves) w preserved =
    run_consistent r moves (world_after w (happens r move w))
    (after_consistent r w (happens r move w) preserved
    (λ happened is. move_consistent r move w happened preserved is))

new_station_consistent : (r : Reading) (p : Parameters) → p.k ≤ 127 → IsConsistent r (new_station p)
new_station_consistent r p small = record {
  sound = sound_new r p;
  window = small;
  numbers = initial_numbers r;
  short = tt;
  first = refl;
  settled = record { counted = refl; settled = λ place. grind (arith, nat_tests) };
  begun = refl;
  unsent = λ place beyond. refl;
}

pub new_world_consistent : (r : Reading) (user network : Parameters) → user.k ≤ 127
    → network.k ≤ 127 → IsConsistentWorld r (new_world user network)
new_world_consistent r user network user_small network_small = record {
  user = new_station_consistent r user user_small;
  network = new_station_consistent r network network_small;
  to_user = tt;
  to_network = tt;
  numbers_to_user = tt;
  numbers_to_network = tt;
}
