-- A link after any moves of newly created sides: its world, its clock and its deadlines.
use Rattle.std.proofs.Common.{◌≡◌, ℕ, ◌≤◌, ◌<◌, ◌&&◌, List, [], ◌∷◌, Bool, true, false, if◌then◌else◌, Option, Some, None, refl, subst}
use Rattle.rand_pcg.specs.Lcg.{Lcg}
use Rattle.lapd_frame.specs.declared.Side.{Side}
use Rattle.lapd_frame.specs.declared.Side.TheVariants as side
use Rattle.lapd_tei.specs.Assigner.{known_held}
use Rattle.lapd_mod128.specs.Counting.{Tagged}
use Rattle.lapd_link_definition.specs.Parameters.{Parameters}
use Rattle.lapd_pair_laws.specs.World.{World, view_of}
use Rattle.lapd_pair_laws.proofs.Consistency.{view_of_consistent}
use Rattle.lapd_table.specs.declared.link_id.LinkId.{LinkId}
use Rattle.lapd_sides_links.specs.declared.config.Config.{Config}
use Rattle.lapd_sides_links.specs.Links.{Linked, is_held_below, is_link_of, is_served, links_below, no_links, parameters_for, with_tei}
use Rattle.lapd_sides.specs.Network.{Network, new_network}
use Rattle.lapd_sides.specs.User.{User, links_of_fixed, new_user}
use Rattle.lapd_side_events.specs.Interface.{Configs, Interface, Move, by_network, by_user, fresh_link, happens, network_behaviour, run, side_does, user_behaviour}
use Rattle.lapd_side_events.specs.SideView.{SideEvent, accepted, does, left, reaction}
use Rattle.lapd_two_side_laws.specs.Establishments.{LinkRecords, nothing_recorded, side_recorded}
use Rattle.lapd_two_side_laws.specs.Premises.{IsMoveGivingTeiOnce, IsMoveLeavingTeiTaken}
use Rattle.lapd_two_side_laws.proofs.AsMade.{given_once, new_are_held, new_are_own, new_of_network, new_of_user, preserves_held, preserves_own}
use Rattle.lapd_two_side_laws.proofs.Networks.{of_network}
use Rattle.lapd_two_side_laws.proofs.OneMove.{IsReached, one_move}
use Rattle.lapd_two_side_laws.proofs.OwnSides.{AreHeld, AreOwn}
use Rattle.lapd_two_side_laws.proofs.Users.{of_user}
use Rattle.lapd_two_side_laws.proofs.Whole.{IsOfRun, begins_in, runs_are_closed}
use Rattle.lapd_clock_laws.specs.Clock.{Clock, clock_after, moment_of, new_clock}
use Rattle.lapd_clock_laws.specs.InTime.{IsInTime, IsLongEnough, OfMove, OverhearsOthers}
use Rattle.lapd_clock_laws.proofs.EveryRun.{HoldsOfUser, move_keeps, move_timely, new_network_long, new_user_long, starts}
use Rattle.lapd_side_recovery_laws.specs.Counts.{is_t203_of}
use Rattle.lapd_side_recovery_laws.specs.Reached.{MeetPremises, RunAtMost, clock_of, created}
use Rattle.lapd_side_recovery_laws.proofs.Deadlines.{AreSet, IsSet, link_later, none_set, some_set}
use Rattle.lapd_side_recovery_laws.proofs.Fates.{Fate}
use Rattle.lapd_side_recovery_laws.proofs.FatesOfEvents.{Left, fate_of}
use Rattle.lapd_side_recovery_laws.proofs.Proceeding.{set_after}

-- ---- A link that joins.

pub fresh_set : (t200 t203 at : ℕ) (config : Config) (id : LinkId)
    → RunAtMost t200 t203 config.durations → AreSet t200 t203 at (fresh_link config id).timers
fresh_set t200 t203 at config id most = record {
  long_200 = most.of_200;
  long_203 = most.of_203;
  until_200 = λ deadline is. cc;
  until_203 = λ deadline is. cc;
}

set_if : (t200 t203 at : ℕ) (test : Bool) (a b : Option Linked) → IsSet t200 t203 at a
    → IsSet t200 t203 at b → IsSet t200 t203 at (if test then a else b)
set_if t200 t203 at true a b one other = one
set_if t200 t203 at false a b one other = other

with_its : (t200 t203 at : ℕ) (config : Config) (id : LinkId) (tei : ℕ)
    → RunAtMost t200 t203 config.durations
    → IsSet t200 t203 at (with_tei config tei no_links id)
unfolding with_tei
with_its t200 t203 at config id tei most =
    set_if t200 t203 at (is_link_of config tei id) (Some (fresh_link config id)) None
    (some_set t200 t203 at (fresh_link config id) (fresh_set t200 t203 at config id most))
    (none_set t200 t203 at)

new_user_set : (t200 t203 at : ℕ) (config : Config) (id : LinkId) (fixed : Option ℕ)
    (random : Lcg) → RunAtMost t200 t203 config.durations
    → IsSet t200 t203 at ((new_user config fixed random).served.links id)
new_user_set t200 t203 at config id fixed random most = by fixed
  where
    by : (fixed : Option ℕ) → IsSet t200 t203 at (links_of_fixed config fixed id)
    by None = none_set t200 t203 at
    by (Some tei) = with_its t200 t203 at config id tei most

new_network_set : (t200 t203 at : ℕ) (config : Config) (id : LinkId) (known : List ℕ)
    → RunAtMost t200 t203 config.durations
    → IsSet t200 t203 at ((new_network config known).served.links id)
unfolding links_below
new_network_set t200 t203 at config id known most =
    set_if t200 t203 at
    (is_served config id.sapi && is_held_below (known_held known).held 127 id.tei)
    (Some (fresh_link config id)) None
    (some_set t200 t203 at (fresh_link config id) (fresh_set t200 t203 at config id most))
    (none_set t200 t203 at)

-- ---- Every run.

module _ (c : Configs) (id : LinkId) (low : id.tei < 127) (longest : ℕ) (positive : 0 < longest)
    (user_long : IsLongEnough longest c.user.durations)
    (network_long : IsLongEnough longest c.network.durations) (t200 t203 : ℕ)
    (user_most : RunAtMost t200 t203 c.user.durations)
    (network_most : RunAtMost t200 t203 c.network.durations) (p q : Parameters)
    (small_p : p.k ≤ 127) (small_q : q.k ≤ 127) where
  abbrev pub Clocked : Interface → Clock → Type 0
  Clocked i k = HoldsOfUser c id low longest positive user_long network_long i k

  pub record Arrived (i : Interface) (k : Clock) : Type 0 where
    pub had : LinkRecords
    pub reached : IsReached c id (IsOfRun p q) (runs_are_closed p q small_p small_q) i had
    pub clocks : Clocked i k
    pub user_set : IsSet t200 t203 k.now (i.user.served.links id)
    pub network_set : IsSet t200 t203 k.now (i.network.served.links id)
    pub own : AreOwn i.user
    pub held : AreHeld i.network

  pub move_once : (who : Side) (event : SideEvent) (i : Interface) → AreOwn i.user
      → AreHeld i.network → IsMoveLeavingTeiTaken c id who event i
      → IsMoveGivingTeiOnce c id who event i
  move_once who event i own held taken =
      (given_once c id (record { side = who; event = event } ∷ []) i own held (taken, tt)).0

  -- the fate of the link at an event of the user, and of the network
  abbrev pub FateOfUser : SideEvent → Interface → Clock → World → Type 0
  FateOfUser event i k w = Fate (user_behaviour c.user) side.User id (by_user i)
      (view_of side.User w) (moment_of event k.now) (is_t203_of id event)
      (Left User (user_behaviour c.user) side.User id (of_user c.user id low) event (by_user i))
      (reaction (user_behaviour c.user) event (by_user i))
      (accepted (user_behaviour c.user) event (by_user i)) (left event i.to_user)

  abbrev pub FateOfNetwork : SideEvent → Interface → Clock → World → Type 0
  FateOfNetwork event i k w = Fate (network_behaviour c.network) side.Network id (by_network i)
      (view_of side.Network w) (moment_of event k.now) (is_t203_of id event)
      (Left Network (network_behaviour c.network) side.Network id (of_network c.network id low)
      event (by_network i))
      (reaction (network_behaviour c.network) event (by_network i))
      (accepted (network_behaviour c.network) event (by_network i)) (left event i.to_network)

  pub user_after : (event : SideEvent) (i : Interface) (k : Clock) (w : World)
      → FateOfUser event i k w → k.now ≤ moment_of event k.now
      → IsSet t200 t203 k.now (i.user.served.links id)
      → IsSet t200 t203 (moment_of event k.now)
      ((side_does c side.User event i).user.served.links id)
  unfolding does
  user_after event i k w fate later set =
      set_after User (user_behaviour c.user) side.User id t200 t203 k.now (moment_of event k.now)
      later (fresh_set t200 t203 (moment_of event k.now) c.user id user_most) (by_user i)
      (view_of side.User w) (is_t203_of id event) _
      (reaction (user_behaviour c.user) event (by_user i)) _ _ fate set

  pub network_after : (event : SideEvent) (i : Interface) (k : Clock) (w : World)
      → FateOfNetwork event i k w → k.now ≤ moment_of event k.now
      → IsSet t200 t203 k.now (i.network.served.links id)
      → IsSet t200 t203 (moment_of event k.now)
      ((side_does c side.Network event i).network.served.links id)
  unfolding does
  network_after event i k w fate later set =
      set_after Network (network_behaviour c.network) side.Network id t200 t203 k.now
      (moment_of event k.now) later
      (fresh_set t200 t203 (moment_of event k.now) c.network id network_most) (by_network i)
      (view_of side.Network w) (is_t203_of id event) _
      (reaction (network_behaviour c.network) event (by_network i)) _ _ fate set

  other_user : (event : SideEvent) (i : Interface) → i.user
      ≡ (side_does c side.Network event i).user
  unfolding does
  other_user event i = refl

  other_network : (event : SideEvent) (i : Interface) → i.network
      ≡ (side_does c side.User event i).network
  unfolding does
  other_network event i = refl

  one_arrived : (who : Side) (event : SideEvent) (i : Interface) (k : Clock)
      → OverhearsOthers id who event → OfMove (IsInTime longest id) who event i k
      → IsMoveLeavingTeiTaken c id who event i → Arrived i k
      → Arrived (side_does c who event i) (clock_after c who event i k)
  one_arrived side.User event i k others in_time taken h =
      let timely = move_timely c id low longest positive user_long network_long side.User event i k
      others in_time h.clocks in
      let once = move_once side.User event i h.own h.held taken in
      let r = h.reached in
      let w = r.represented in
      let preserved = view_of_consistent Tagged side.User w
      ((runs_are_closed p q small_p small_q).consistent w r.reached) in
      let fate = fate_of User (user_behaviour c.user) side.User id (of_user c.user id low) event
      (by_user i) (view_of side.User w) k.now timely once r.shows.user preserved in
      record {
        had = side_recorded c id side.User event i h.had;
        reached = one_move c id (IsOfRun p q) (runs_are_closed p q small_p small_q) low i h.had
            side.User event timely once r;
        clocks = move_keeps c id low longest positive user_long network_long side.User event i k
            others in_time h.clocks;
        user_set = user_after event i k w fate in_time.in_order h.user_set;
        network_set = subst (λ (n : Network). IsSet t200 t203 (moment_of event k.now)
            (n.served.links id)) (other_network event i)
            (link_later t200 t203 k.now (moment_of event k.now) (i.network.served.links id)
            in_time.in_order h.network_set);
        own = preserves_own c id side.User event i h.own;
        held = preserves_held c id side.User event i h.held;
      }
  one_arrived side.Network event i k others in_time taken h =
      let timely = move_timely c id low longest positive user_long network_long side.Network event
      i k others in_time h.clocks in
      let once = move_once side.Network event i h.own h.held taken in
      let r = h.reached in
      let w = r.represented in
      let preserved = view_of_consistent Tagged side.Network w
      ((runs_are_closed p q small_p small_q).consistent w r.reached) in
      let fate = fate_of Network (network_behaviour c.network) side.Network id
      (of_network c.network id low) event (by_network i) (view_of side.Network w) k.now timely
      once r.shows.network preserved in
      record {
        had = side_recorded c id side.Network event i h.had;
        reached = one_move c id (IsOfRun p q) (runs_are_closed p q small_p small_q) low i h.had
            side.Network event timely once r;
        clocks = move_keeps c id low longest positive user_long network_long side.Network event i
            k others in_time h.clocks;
        user_set = subst (λ (u : User). IsSet t200 t203 (moment_of event k.now)
            (u.served.links id)) (other_user event i)
            (link_later t200 t203 k.now (moment_of event k.now) (i.user.served.links id)
            in_time.in_order h.user_set);
        network_set = network_after event i k w fate in_time.in_order h.network_set;
        own = preserves_own c id side.Network event i h.own;
        held = preserves_held c id side.Network event i h.held;
      }

  pub all_arrived : (moves : List Move) (i : Interface) (k : Clock)
      → MeetPremises longest c id moves i k → Arrived i k
      → Arrived (run c moves i) (clock_of c moves i k)
  all_arrived [] i k premises h = h
  all_arrived (move ∷ moves) i k premises h =
      all_arrived moves (happens c move i) (clock_after c move.side move.event i k) (record {
        in_time = premises.in_time.1;
        taken = premises.taken.1;
        others = premises.others.1;
        octets = premises.octets.1;
      })
      (one_arrived move.side move.event i k premises.others.0 premises.in_time.0
      premises.taken.0 h)

module _ (c : Configs) (id : LinkId) (low : id.tei < 127) (longest : ℕ) (positive : 0 < longest)
    (user_long : IsLongEnough longest c.user.durations)
    (network_long : IsLongEnough longest c.network.durations) (t200 t203 : ℕ)
    (user_most : RunAtMost t200 t203 c.user.durations)
    (network_most : RunAtMost t200 t203 c.network.durations)
    (small_p : (parameters_for c.user id.sapi).k ≤ 127)
    (small_q : (parameters_for c.network id.sapi).k ≤ 127) where
  abbrev pub HasArrived : Interface → Clock → Type 0
  HasArrived i k = Arrived c id low longest positive user_long network_long t200 t203 user_most
      network_most (parameters_for c.user id.sapi) (parameters_for c.network id.sapi) small_p
      small_q i k

  pub created_arrived : (fixed : Option ℕ) (known : List ℕ) (random : Lcg) (start : ℕ)
      → HasArrived (created c fixed known random) (new_clock start)
  created_arrived fixed known random start =
      let p = parameters_for c.user id.sapi in
      let q = parameters_for c.network id.sapi in
      record {
        had = record { user = nothing_recorded; network = nothing_recorded };
        reached = begins_in c id low (IsOfRun p q) (runs_are_closed p q small_p small_q) p q
            (record { moves = []; is = refl }) (created c fixed known random)
            (new_of_user c.user id fixed random) (new_of_network c.network id known) refl refl;
        clocks = starts c id low longest positive user_long network_long
            (created c fixed known random) (new_clock start)
            (record { to_user = refl; to_network = refl })
            (record { to_user = refl; to_network = refl })
            (new_user_long c id low longest positive user_long network_long fixed random)
            (new_network_long c id low longest positive user_long network_long known);
        user_set = new_user_set t200 t203 start c.user id fixed random user_most;
        network_set = new_network_set t200 t203 start c.network id known network_most;
        own = new_are_own c.user fixed random;
        held = new_are_held c.network known;
      }

  pub arrives : (fixed : Option ℕ) (known : List ℕ) (random : Lcg) (start : ℕ)
      (before : List Move)
      → MeetPremises longest c id before (created c fixed known random) (new_clock start)
      → HasArrived (run c before (created c fixed known random))
      (clock_of c before (created c fixed known random) (new_clock start))
  arrives fixed known random start before premises =
      all_arrived c id low longest positive user_long network_long t200 t203 user_most
      network_most (parameters_for c.user id.sapi) (parameters_for c.network id.sapi) small_p
      small_q before (created c fixed known random) (new_clock start) premises
      (created_arrived fixed known random start)
