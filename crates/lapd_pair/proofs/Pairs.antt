-- The world that a pair represents after a move of one of its sides.
use Rattle.std.proofs.Common.{◌≡◌, ◌≤◌, List, [], ◌∷◌, ◌++◌, Result, Ok, Err, IfOk, OnErr, refl, sym, ◌∙◌, subst}
use Rattle.std.proofs.Math.Logic.{∥∥₁_map}
use Rattle.arrayvec.specs.ArrayVec.{ArrayVec}
use Rattle.lapd_frame.specs.declared.Side.{Side}
use Rattle.lapd_frame.specs.declared.Side.TheVariants.{User, Network}
use Rattle.lapd_mod128.specs.Counting.{Tagged}
use Rattle.lapd_link_definition.specs.declared.out.Out.{Out}
use Rattle.lapd_link_definition.specs.Parameters.{Parameters}
use Rattle.lapd_pair_laws.specs.Move.{Move, Refusal, ViewStep, acts}
use Rattle.lapd_pair_laws.specs.World.{World, Happened, view_of, with_view, in_world, happens, world_after, new_station, new_world, run}
use Rattle.lapd_pair_laws.proofs.Consistency.{move_consistent, new_world_consistent}
use Rattle.lapd_pair.specs.declared.line.Line.{Line}
use Rattle.lapd_pair.specs.declared.pair_fault.PairFault.{PairFault}
use Rattle.lapd_pair.specs.declared.pair_fault.PairFault.TheVariants as fault
use Rattle.lapd_pair.specs.declared.recorded_link.RecordedLink.{RecordedLink}
use Rattle.lapd_pair.specs.Line.{IsOn}
use Rattle.lapd_pair.specs.Moves.{IsRefusedAs}
use Rattle.lapd_pair.specs.Pair.{RepresentWorld, IsReached}
use Rattle.lapd_pair.specs.Station.{IsStation, IsView, ActsInView, RefusesInView, ShowsViewAsBefore}

-- ---- A new pair.

pub new_represents : (user_parameters network_parameters : Parameters) (user network : RecordedLink)
    (to_user to_network : Line) → user_parameters.k ≤ 127 → network_parameters.k ≤ 127
    → IsStation User user (new_station user_parameters)
    → IsStation Network network (new_station network_parameters) → IsOn Network to_user []
    → IsOn User to_network []
    → RepresentWorld user network to_user to_network (new_world user_parameters network_parameters)
new_represents user_parameters network_parameters user network to_user to_network small_user
    small_network is_user is_network none_to_user none_to_network =
    record {
      user = is_user;
      network = is_network;
      to_user = none_to_user;
      to_network = none_to_network;
      preserved =
          new_world_consistent Tagged user_parameters network_parameters small_user small_network;
    }

-- ---- A move.

abbrev Happens : Happened → Result Happened Refusal
Happens happened = Ok happened

-- the world admits the move with these outputs; both sides and lines represent the world after it
pub record Did (user network : RecordedLink) (to_user to_network : Line)
    (outcome : Result Happened Refusal) (outs : List Out) : Type 0 where
  pub happened : Happened
  pub is : outcome ≡ Happens happened
  pub same : happened.outs ≡ outs
  pub represent : RepresentWorld user network to_user to_network happened.world

-- the views of the user and of the network
pub user_sees : {user network : RecordedLink} {to_user to_network : Line} {w : World}
    → RepresentWorld user network to_user to_network w
    → IsView User user to_user to_network (view_of User w)
user_sees s = record { station = s.user; incoming = s.to_user; outgoing = s.to_network }

pub network_sees : {user network : RecordedLink} {to_user to_network : Line} {w : World}
    → RepresentWorld user network to_user to_network w
    → IsView Network network to_network to_user (view_of Network w)
network_sees s = record { station = s.network; incoming = s.to_network; outgoing = s.to_user }

of_side : (m : Move) (w : World) (who : Side) → m.side ≡ who
    → happens Tagged m w ≡ in_world who w (acts Tagged who m.event (view_of who w))
unfolding happens
of_side m w who is = rw is refl

in_world_did : (who : Side) (w : World) (outcome : Result ViewStep Refusal) (acted : ViewStep)
    → outcome ≡ Ok acted
    → in_world who w outcome
    ≡ Happens (record { world = with_view who acted.view w; outs = acted.outs })
in_world_did who w outcome acted is = rw is refl

pub user_did : (m : Move) (w : World) (user network after : RecordedLink)
    (to_user to_network to_user_after to_network_after : Line) (outs : ArrayVec Out) → m.side ≡ User
    → RepresentWorld user network to_user to_network w
    → ActsInView user to_user to_network after to_user_after to_network_after
    (λ side v. acts Tagged side m.event v) outs
    → Did after network to_user_after to_network_after (happens Tagged m w) outs.items
user_did m w user network after to_user to_network to_user_after to_network_after outs is s
    acts_so =
    let d = acts_so User (view_of User w) s.preserved.user (user_sees s) in
    let happened : Happened =
    record { world = with_view User d.acted.view w; outs = d.acted.outs } in
    let it =
    of_side m w User is
    ∙ in_world_did User w (acts Tagged User m.event (view_of User w)) d.acted d.is in
    record {
      happened = happened;
      is = it;
      same = d.same;
      represent = record {
        user = d.view.station;
        network = s.network;
        to_user = d.view.incoming;
        to_network = d.view.outgoing;
        preserved = move_consistent Tagged m w happened s.preserved it;
      };
    }

pub network_did : (m : Move) (w : World) (user network after : RecordedLink)
    (to_user to_network to_user_after to_network_after : Line) (outs : ArrayVec Out)
    → m.side ≡ Network → RepresentWorld user network to_user to_network w
    → ActsInView network to_network to_user after to_network_after to_user_after
    (λ side v. acts Tagged side m.event v) outs
    → Did user after to_user_after to_network_after (happens Tagged m w) outs.items
network_did m w user network after to_user to_network to_user_after to_network_after outs is s
    acts_so =
    let d = acts_so Network (view_of Network w) s.preserved.network (network_sees s) in
    let happened : Happened =
    record { world = with_view Network d.acted.view w; outs = d.acted.outs } in
    let it =
    of_side m w Network is
    ∙ in_world_did Network w (acts Tagged Network m.event (view_of Network w)) d.acted
    d.is in
    record {
      happened = happened;
      is = it;
      same = d.same;
      represent = record {
        user = s.user;
        network = d.view.station;
        to_user = d.view.outgoing;
        to_network = d.view.incoming;
        preserved = move_consistent Tagged m w happened s.preserved it;
      };
    }

-- a refusal by the side refuses the move in the world
refused_so : (fault : PairFault) (who : Side) (w : World) (outcome : Result ViewStep Refusal)
    → IsRefusedAs fault outcome → IsRefusedAs fault (in_world who w outcome)
refused_so fault.NothingThere who w outcome h = rw h refl
refused_so fault.NotRunning who w outcome h = rw h refl
refused_so (fault.NotYet side at) who w outcome h = rw h refl
refused_so (fault.Refused why) who w outcome h = rw h refl
refused_so fault.Memory who w (Ok acted) h = refl
refused_so fault.Memory who w (Err refusal) h = cc

pub user_refused : (m : Move) (w : World) (user network : RecordedLink) (to_user to_network : Line)
    (fault : PairFault) → m.side ≡ User → RepresentWorld user network to_user to_network w
    → RefusesInView user to_user to_network (λ side v. acts Tagged side m.event v) fault
    → IsRefusedAs fault (happens Tagged m w)
user_refused m w user network to_user to_network fault is s refuses =
    subst (λ (x : Result Happened Refusal). IsRefusedAs fault x) (sym (of_side m w User is))
    (refused_so fault User w (acts Tagged User m.event (view_of User w))
    (refuses User (view_of User w) (user_sees s)))

pub network_refused : (m : Move) (w : World) (user network : RecordedLink)
    (to_user to_network : Line) (fault : PairFault) → m.side ≡ Network
    → RepresentWorld user network to_user to_network w
    → RefusesInView network to_network to_user (λ side v. acts Tagged side m.event v) fault
    → IsRefusedAs fault (happens Tagged m w)
network_refused m w user network to_user to_network fault is s refuses =
    subst (λ (x : Result Happened Refusal). IsRefusedAs fault x) (sym (of_side m w Network is))
    (refused_so fault Network w (acts Tagged Network m.event (view_of Network w))
    (refuses Network (view_of Network w) (network_sees s)))

pub user_still : (w : World) (user network after : RecordedLink)
    (to_user to_network to_user_after to_network_after : Line)
    → RepresentWorld user network to_user to_network w
    → ShowsViewAsBefore user to_user to_network after to_user_after to_network_after
    → RepresentWorld after network to_user_after to_network_after w
user_still w user network after to_user to_network to_user_after to_network_after s shows =
    let v = shows User (view_of User w) (user_sees s) in
    record {
      user = v.station;
      network = s.network;
      to_user = v.incoming;
      to_network = v.outgoing;
      preserved = s.preserved;
    }

pub network_still : (w : World) (user network after : RecordedLink)
    (to_user to_network to_user_after to_network_after : Line)
    → RepresentWorld user network to_user to_network w
    → ShowsViewAsBefore network to_network to_user after to_network_after to_user_after
    → RepresentWorld user after to_user_after to_network_after w
network_still w user network after to_user to_network to_user_after to_network_after s shows =
    let v = shows Network (view_of Network w) (network_sees s) in
    record {
      user = s.user;
      network = v.station;
      to_user = v.outgoing;
      to_network = v.incoming;
      preserved = s.preserved;
    }

-- ---- A pair that moves can reach stays one after a move.

pub run_more : (moves : List Move) (m : Move) (w : World)
    → run Tagged (moves ++ m ∷ []) w
    ≡ world_after (run Tagged moves w) (happens Tagged m (run Tagged moves w))
run_more [] m w = refl
run_more (first ∷ moves) m w = run_more moves m (world_after w (happens Tagged first w))

pub after_did : (w : World) (outcome : Result Happened Refusal) (happened : Happened)
    → outcome ≡ Happens happened → happened.world ≡ world_after w outcome
after_did w outcome happened is = rw is refl

reached_more : (user network user_after network_after : RecordedLink)
    (to_user to_network to_user_after to_network_after : Line) (m : Move) (outs : List Out)
    (x : IsReached user network to_user to_network)
    → Did user_after network_after to_user_after to_network_after
    (happens Tagged m (run Tagged x.moves (new_world x.user x.network))) outs
    → IsReached user_after network_after to_user_after to_network_after
reached_more user network user_after network_after to_user to_network to_user_after to_network_after
    m outs x d =
    let start = new_world x.user x.network in
    let there =
    after_did (run Tagged x.moves start) (happens Tagged m (run Tagged x.moves start))
    d.happened d.is ∙ sym (run_more x.moves m start) in
    record {
      user = x.user;
      network = x.network;
      few_of_user = x.few_of_user;
      few_of_network = x.few_of_network;
      some_of_user = x.some_of_user;
      some_of_network = x.some_of_network;
      moves = x.moves ++ m ∷ [];
      represent =
          subst (RepresentWorld user_after network_after to_user_after to_network_after) there
          d.represent;
    }

reached_still : (user network user_after network_after : RecordedLink)
    (to_user to_network to_user_after to_network_after : Line)
    (x : IsReached user network to_user to_network)
    → RepresentWorld user_after network_after to_user_after to_network_after
    (run Tagged x.moves (new_world x.user x.network))
    → IsReached user_after network_after to_user_after to_network_after
reached_still user network user_after network_after to_user to_network to_user_after
    to_network_after x represent =
    record {
      user = x.user;
      network = x.network;
      few_of_user = x.few_of_user;
      few_of_network = x.few_of_network;
      some_of_user = x.some_of_user;
      some_of_network = x.some_of_network;
      moves = x.moves;
      represent = represent;
    }

user_reaches : (m : Move) (user network after : RecordedLink)
    (to_user to_network to_user_after to_network_after : Line) (r : Result (ArrayVec Out) PairFault)
    → m.side ≡ User
    → IfOk r (ActsInView user to_user to_network after to_user_after to_network_after
    (λ side v. acts Tagged side m.event v))
    → OnErr r (ShowsViewAsBefore user to_user to_network after to_user_after to_network_after)
    → IsReached user network to_user to_network
    → IsReached after network to_user_after to_network_after
user_reaches m user network after to_user to_network to_user_after to_network_after (Ok outs) is
    acts_so shows x =
    reached_more user network after network to_user to_network to_user_after to_network_after m
    outs.items x (user_did m (run Tagged x.moves (new_world x.user x.network)) user network
    after to_user to_network to_user_after to_network_after outs is x.represent acts_so)
user_reaches m user network after to_user to_network to_user_after to_network_after (Err fault) is
    acts_so shows x =
    reached_still user network after network to_user to_network to_user_after to_network_after x
    (user_still (run Tagged x.moves (new_world x.user x.network)) user network after to_user
    to_network to_user_after to_network_after x.represent shows)

network_reaches : (m : Move) (user network after : RecordedLink)
    (to_user to_network to_user_after to_network_after : Line) (r : Result (ArrayVec Out) PairFault)
    → m.side ≡ Network
    → IfOk r (ActsInView network to_network to_user after to_network_after to_user_after
    (λ side v. acts Tagged side m.event v))
    → OnErr r
    (ShowsViewAsBefore network to_network to_user after to_network_after to_user_after)
    → IsReached user network to_user to_network
    → IsReached user after to_user_after to_network_after
network_reaches m user network after to_user to_network to_user_after to_network_after (Ok outs) is
    acts_so shows x =
    reached_more user network user after to_user to_network to_user_after to_network_after m
    outs.items x (network_did m (run Tagged x.moves (new_world x.user x.network)) user network
    after to_user to_network to_user_after to_network_after outs is x.represent acts_so)
network_reaches m user network after to_user to_network to_user_after to_network_after (Err fault)
    is acts_so shows x =
    reached_still user network user after to_user to_network to_user_after to_network_after x
    (network_still (run Tagged x.moves (new_world x.user x.network)) user network after to_user
    to_network to_user_after to_network_after x.represent shows)

pub user_reached : (m : Move) (user network after : RecordedLink)
    (to_user to_network to_user_after to_network_after : Line) (r : Result (ArrayVec Out) PairFault)
    → m.side ≡ User
    → IfOk r (ActsInView user to_user to_network after to_user_after to_network_after
    (λ side v. acts Tagged side m.event v))
    → OnErr r (ShowsViewAsBefore user to_user to_network after to_user_after to_network_after)
    → ∥ IsReached user network to_user to_network ∥₁
    → ∥ IsReached after network to_user_after to_network_after ∥₁
user_reached m user network after to_user to_network to_user_after to_network_after r is acts_so
    shows reached =
    ∥∥₁_map reached (λ x. user_reaches m user network after to_user to_network to_user_after
    to_network_after r is acts_so shows x)

pub network_reached : (m : Move) (user network after : RecordedLink)
    (to_user to_network to_user_after to_network_after : Line) (r : Result (ArrayVec Out) PairFault)
    → m.side ≡ Network
    → IfOk r (ActsInView network to_network to_user after to_network_after to_user_after
    (λ side v. acts Tagged side m.event v))
    → OnErr r
    (ShowsViewAsBefore network to_network to_user after to_network_after to_user_after)
    → ∥ IsReached user network to_user to_network ∥₁
    → ∥ IsReached user after to_user_after to_network_after ∥₁
network_reached m user network after to_user to_network to_user_after to_network_after r is acts_so
    shows reached =
    ∥∥₁_map reached (λ x. network_reaches m user network after to_user to_network to_user_after
    to_network_after r is acts_so shows x)

pub new_reached : (user_parameters network_parameters : Parameters) (user network : RecordedLink)
    (to_user to_network : Line) → user_parameters.k ≤ 127 → network_parameters.k ≤ 127
    → 1 ≤ user_parameters.k → 1 ≤ network_parameters.k
    → RepresentWorld user network to_user to_network (new_world user_parameters network_parameters)
    → ∥ IsReached user network to_user to_network ∥₁
new_reached user_parameters network_parameters user network to_user to_network few_of_user
    few_of_network some_of_user some_of_network represent =
    ∣ record {
      user = user_parameters;
      network = network_parameters;
      few_of_user = few_of_user;
      few_of_network = few_of_network;
      some_of_user = some_of_user;
      some_of_network = some_of_network;
      moves = [];
      represent = represent;
    } ∣₁
