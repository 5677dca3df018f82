-- How a side's view represents, for one link, the view of a side in a world of two ends; and that
-- the link is safe.
use Rattle.std.specs.Prelude.{◌≡◌, ◌⊎◌, ℕ, true, List, map, Some, None, is_some}
use Rattle.std.specs.List.{list_any}
use Rattle.lapd_timers.specs.declared.timer.Timer.TheVariants.{T200, T203}
use Rattle.lapd_timers.specs.Due.{deadline_of}
use Rattle.lapd_frame.specs.declared.Side.{Side}
use Rattle.lapd_frame.specs.declared.Side.TheVariants as side
use Rattle.lapd_frame.specs.Address.{other_side}
use Rattle.lapd_mod128.specs.Counting.{Tagged}
use Rattle.lapd_link_definition.specs.End.{End}
use Rattle.lapd_link_definition.specs.Parameters.{Parameters}
use Rattle.lapd_pair_laws.specs.Histories.{History, Receipt}
use Rattle.lapd_pair_laws.specs.Move as world
use Rattle.lapd_pair_laws.specs.Safe.{AreSafe}
use Rattle.lapd_pair_laws.specs.World as world_of
use Rattle.lapd_pair_laws.specs.World.{World, view_of, new_world}
use Rattle.lapd_table.specs.declared.link_id.LinkId.{LinkId}
use Rattle.lapd_sides_links.specs.declared.primitive.Primitive.{Primitive}
use Rattle.lapd_sides_links.specs.Links.{Links, Linked}
use Rattle.lapd_two_side_laws.specs.Addressed.{those_for, all_spelled}
use Rattle.lapd_two_side_laws.specs.Establishments.{LinkRecord, LinkRecords, records_of, IsReceivedUnskipped}
use Rattle.lapd_side_events.specs.Interface.{Configs, Interface, Move, user_behaviour, network_behaviour, by_user, by_network, run}
use Rattle.lapd_two_side_laws.specs.Premises.{is_removal}
use Rattle.lapd_side_events.specs.SideView.{Behaviour, SideView}
use Rattle.lapd_two_side_laws.specs.Primitives.{Known, link_primitives, given_to, known_of, IsReceived, AreExpectedOfLink}

-- T200 and T203 of a link run only if its end says so
pub record IsTimed (l : Linked) : Type 0 where
  pub t200 : is_some (deadline_of T200 l.timers) ≡ true → l.end.t200 ≡ true
  pub t203 : is_some (deadline_of T203 l.timers) ≡ true → l.end.t203 ≡ true

-- what layer 3 knows by a history
abbrev pub known_by : History → Known
known_by h = record {
  received = map (λ (message : Receipt). message.octets) h.received;
  units = h.units;
  acked = h.acked;
  dropped = h.dropped;
  passed = h.passed;
}

-- the link exists, and this is its end
pub record HasLink (links : Links) (id : LinkId) (e : End) : Type 0 where
  pub linked : Linked
  pub there : links id ≡ Some linked
  pub end : linked.end ≡ e
  pub timed : IsTimed linked

-- the link does not exist yet, and this is the end that it will have
pub record AwaitsLink (fresh : Linked) (links : Links) (id : LinkId) (e : End) : Type 0 where
  pub absent : links id ≡ None
  pub end : e ≡ fresh.end

-- the link no longer exists, since its TEI was removed
pub record LacksLink (links : Links) (id : LinkId) (delivered : List Primitive) : Type 0 where
  pub absent : links id ≡ None
  pub removed : list_any (is_removal id.tei) delivered ≡ true

abbrev pub ShowsEnd : Linked → Links → LinkId → List Primitive → End → Type 0
ShowsEnd fresh links id delivered e =
    HasLink links id e ⊎ (AwaitsLink fresh links id e ⊎ LacksLink links id delivered)

-- The link's end is the one in the world, unless the link no longer exists. The octets in transit
-- for the link are the world's frames, spelled. Its primitives and accepted messages are those that
-- the world recorded.
pub record Projects {S : Type 0} (w : Behaviour S) (side : Side) (id : LinkId) (v : SideView S)
    (view : world.View) : Type 0 where
  pub link : ShowsEnd (w.fresh id) (w.served v.now).links id v.delivered view.station.end
  pub incoming : those_for (other_side side) id v.incoming
      ≡ all_spelled (other_side side) id view.incoming
  pub outgoing : those_for side id v.outgoing ≡ all_spelled side id view.outgoing
  pub known : known_of id v.delivered ≡ known_by view.station.history
  pub given : given_to id v.given ≡ view.station.end.given

-- on both sides
pub record ProjectsTo (c : Configs) (id : LinkId) (i : Interface) (w : World) : Type 0 where
  pub user : Projects (user_behaviour c.user) side.User id (by_user i) (view_of side.User w)
  pub network : Projects (network_behaviour c.network) side.Network id (by_network i)
      (view_of side.Network w)

-- what is recorded of a link at one side is what a history records of establishments
pub record ShowsRecord (r : LinkRecord) (h : History) : Type 0 where
  pub received_in : r.received_in ≡ map (λ (message : Receipt). message.establishment) h.received
  pub sent_in : (place : ℕ) → r.sent_in place ≡ h.sent_in place

-- on both sides
pub record ShowRecords (r : LinkRecords) (w : World) : Type 0 where
  pub user : ShowsRecord r.user w.user.history
  pub network : ShowsRecord r.network w.network.history

-- The messages received at one side are right: in order and once each, among those submitted at the
-- other; and each message that counts as acknowledged was received.
abbrev pub IsReceivedByNetwork : LinkId → Interface → Type 0
IsReceivedByNetwork id i = IsReceived (given_to id i.given_to_user)
    (known_of id i.delivered_to_user).acked (known_of id i.delivered_to_network).received

abbrev pub IsReceivedByUser : LinkId → Interface → Type 0
IsReceivedByUser id i = IsReceived (given_to id i.given_to_network)
    (known_of id i.delivered_to_network).acked (known_of id i.delivered_to_user).received

-- and within one establishment none is skipped; of the interface after these moves
abbrev pub IsUnskippedByNetwork : Configs → LinkId → List Move → Interface → Type 0
IsUnskippedByNetwork c id moves i = IsReceivedUnskipped (given_to id (run c moves i).given_to_user)
    (records_of c id moves i).user.sent_in
    (known_of id (run c moves i).delivered_to_user).acked
    (known_of id (run c moves i).delivered_to_network).received
    (records_of c id moves i).network.received_in

abbrev pub IsUnskippedByUser : Configs → LinkId → List Move → Interface → Type 0
IsUnskippedByUser c id moves i = IsReceivedUnskipped (given_to id (run c moves i).given_to_network)
    (records_of c id moves i).network.sent_in
    (known_of id (run c moves i).delivered_to_network).acked
    (known_of id (run c moves i).delivered_to_user).received
    (records_of c id moves i).user.received_in

-- After these moves the link's primitives and messages are right, in both directions, and no error
-- but F, G, H and I was reported.
pub record IsRight (c : Configs) (id : LinkId) (moves : List Move) (i : Interface) : Type 0 where
  pub to_network : IsUnskippedByNetwork c id moves i
  pub to_user : IsUnskippedByUser c id moves i
  pub reports_to_user : AreExpectedOfLink (link_primitives id (run c moves i).delivered_to_user)
  pub reports_to_network : AreExpectedOfLink
      (link_primitives id (run c moves i).delivered_to_network)

-- After these moves of the sides the interface represents, for the link, a world of two ends that
-- some moves lead to from a new world, and what is recorded of establishments is that world's. The
-- world is safe in both directions, so the link's primitives are right.
pub record IsSafeAt (c : Configs) (id : LinkId) (side_moves : List Move) (i : Interface) : Type 0
  where
    pub user : Parameters
    pub network : Parameters
    pub moves : List world.Move
    pub shows : ProjectsTo c id (run c side_moves i)
        (world_of.run Tagged moves (new_world user network))
    pub recorded : ShowRecords (records_of c id side_moves i)
        (world_of.run Tagged moves (new_world user network))
    pub safe : AreSafe (world_of.run Tagged moves (new_world user network))
    pub right : IsRight c id side_moves i
