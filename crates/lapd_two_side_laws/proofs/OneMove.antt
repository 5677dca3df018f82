-- Each move of an interface is nothing or one move to each of its links, in worlds of any kind that
-- the moves of two ends do not leave.
use Rattle.std.proofs.Common.{◌≡◌, inl, inr, ℕ, ◌<◌, List, ◌++◌, Ok, sym, ap, subst}
use Rattle.std.specs.List.{filter_map}
use Rattle.lapd_frame.specs.declared.Side.{Side}
use Rattle.lapd_frame.specs.declared.Side.TheVariants as side
use Rattle.lapd_mod128.specs.Counting.{Tagged}
use Rattle.lapd_link_definition.specs.Reports.{AreExpected}
use Rattle.lapd_pair_laws.specs.Consistent.{IsConsistentWorld}
use Rattle.lapd_pair_laws.specs.Move as world
use Rattle.lapd_pair_laws.specs.Move.{View}
use Rattle.lapd_pair_laws.specs.Safe.{AreSafe}
use Rattle.lapd_pair_laws.specs.World.{World, view_of, with_view}
use Rattle.lapd_pair_laws.proofs.Consistency.{view_of_consistent}
use Rattle.lapd_table.specs.declared.link_id.LinkId.{LinkId}
use Rattle.lapd_sides_links.specs.declared.primitive.What.{What}
use Rattle.lapd_sides_links.specs.Effects.{what_of}
use Rattle.lapd_sides.specs.Network.{Network}
use Rattle.lapd_sides.specs.User.{User}
use Rattle.lapd_two_side_laws.specs.Establishments.{LinkRecords, IsReceivedUnskipped, side_recorded}
use Rattle.lapd_side_events.specs.Interface.{Configs, Interface, user_behaviour, network_behaviour, by_user, by_network, with_user, with_network, side_does}
use Rattle.lapd_two_side_laws.specs.Premises.{IsTimelyMove, IsMoveGivingTeiOnce}
use Rattle.lapd_two_side_laws.specs.Projects.{ShowRecords, Projects, ProjectsTo}
use Rattle.lapd_side_events.specs.SideView.{SideEvent, SideView, does}
use Rattle.lapd_two_side_laws.specs.Primitives.{link_primitives, given_to, known_of, AreExpectedOfLink}
use Rattle.lapd_two_side_laws.proofs.SideEvents.{each_event}
use Rattle.lapd_two_side_laws.proofs.Frames.{delivered_is_expected}
use Rattle.lapd_two_side_laws.proofs.LinkParts.{expected_both}
use Rattle.lapd_two_side_laws.proofs.Networks.{of_network}
use Rattle.lapd_two_side_laws.proofs.Sendings.{AreSentNow}
use Rattle.lapd_two_side_laws.proofs.Unskipped.{nothing_recorded_more, move_recorded, safe_is_unskipped, unskipped_as}
use Rattle.lapd_two_side_laws.proofs.Users.{of_user}

-- Worlds of a kind are consistent, and each outstanding message was last sent in the present
-- establishment. Each move leads from one of them to another, and reports only expected errors.
pub record AreClosed (R : World → Type 0) : Type 0 where
  pub consistent : (w : World) → R w → IsConsistentWorld Tagged w
  pub user_sends : (w : World) → R w → AreSentNow w.user
  pub network_sends : (w : World) → R w → AreSentNow w.network
  pub moves : (w : World) (who : Side) (event : world.PairEvent) (side_step : world.ViewStep) → R w
      → world.acts Tagged who event (view_of who w) ≡ Ok side_step
      → R (with_view who side_step.view w)
  pub reports : (w : World) (who : Side) (event : world.PairEvent) (side_step : world.ViewStep)
      → R w
      → world.acts Tagged who event (view_of who w) ≡ Ok side_step → AreExpected side_step.outs

module _ (c : Configs) (id : LinkId) where
  -- ---- The other side, after an event of one side.

  network_beside : (v : SideView User) (i : Interface) (view : View) (w : World)
      → Projects (user_behaviour c.user) side.User id v view
      → Projects (network_behaviour c.network) side.Network id (by_network i)
      (view_of side.Network w)
      → Projects (network_behaviour c.network) side.Network id (by_network (with_user v i))
      (view_of side.Network (with_view side.User view w))
  network_beside v i view w acted other = record {
    link = other.link;
    known = other.known;
    given = other.given;
    incoming = acted.outgoing;
    outgoing = acted.incoming;
  }

  user_beside : (v : SideView Network) (i : Interface) (view : View) (w : World)
      → Projects (network_behaviour c.network) side.Network id v view
      → Projects (user_behaviour c.user) side.User id (by_user i) (view_of side.User w)
      → Projects (user_behaviour c.user) side.User id (by_user (with_network v i))
      (view_of side.User (with_view side.Network view w))
  user_beside v i view w acted other = record {
    link = other.link;
    known = other.known;
    given = other.given;
    incoming = acted.outgoing;
    outgoing = acted.incoming;
  }

  pub by_user_after : (v : SideView User) (i : Interface) (view : View) (w : World)
      → Projects (user_behaviour c.user) side.User id v view
      → Projects (network_behaviour c.network) side.Network id (by_network i)
      (view_of side.Network w)
      → ProjectsTo c id (with_user v i) (with_view side.User view w)
  by_user_after v i view w acted other =
      record { user = acted; network = network_beside v i view w acted other }

  pub by_network_after : (v : SideView Network) (i : Interface) (view : View) (w : World)
      → Projects (network_behaviour c.network) side.Network id v view
      → Projects (user_behaviour c.user) side.User id (by_user i) (view_of side.User w)
      → ProjectsTo c id (with_network v i) (with_view side.Network view w)
  by_network_after v i view w acted other =
      record { user = user_beside v i view w acted other; network = acted }

  -- ---- The messages received are right, and none is skipped.

  pub to_network_unskipped : (i : Interface) (r : LinkRecords) (w : World) → ProjectsTo c id i w
      → ShowRecords r w → AreSafe w
      → IsReceivedUnskipped (given_to id i.given_to_user) r.user.sent_in
      (known_of id i.delivered_to_user).acked (known_of id i.delivered_to_network).received
      r.network.received_in
  to_network_unskipped i r w shows noted safe =
      unskipped_as w.user.end.given _ _ w.user.history.acked _ _ _ _ _ shows.user.given
      (ap (λ k. k.acked) shows.user.known) (ap (λ k. k.received) shows.network.known)
      noted.network.received_in
      (safe_is_unskipped w.user.end.given w.user.history.sent_in r.user.sent_in w.user.history.acked
      w.network.history.received noted.user.sent_in safe.0)

  pub to_user_unskipped : (i : Interface) (r : LinkRecords) (w : World) → ProjectsTo c id i w
      → ShowRecords r w → AreSafe w
      → IsReceivedUnskipped (given_to id i.given_to_network) r.network.sent_in
      (known_of id i.delivered_to_network).acked (known_of id i.delivered_to_user).received
      r.user.received_in
  to_user_unskipped i r w shows noted safe =
      unskipped_as w.network.end.given _ _ w.network.history.acked _ _ _ _ _ shows.network.given
      (ap (λ k. k.acked) shows.network.known) (ap (λ k. k.received) shows.user.known)
      noted.user.received_in
      (safe_is_unskipped w.network.end.given w.network.history.sent_in r.network.sent_in
      w.network.history.acked w.user.history.received noted.network.sent_in safe.1)

  module _ (R : World → Type 0) (closed : AreClosed R) where
    -- ---- One move.

    -- the interface and the records represent a world of the kind, and the errors reported are
    -- expected
    pub record IsReached (i : Interface) (r : LinkRecords) : Type 0 where
      pub represented : World
      pub reached : R represented
      pub shows : ProjectsTo c id i represented
      pub noted : ShowRecords r represented
      pub reports_to_user : AreExpectedOfLink (link_primitives id i.delivered_to_user)
      pub reports_to_network : AreExpectedOfLink (link_primitives id i.delivered_to_network)

    -- a move of the link reports only expected errors for it
    still_expected : (w : World) (who : Side) (event : world.PairEvent) (side_step : world.ViewStep)
        (octets : List ℕ) (before now : List What) → R w
        → world.acts Tagged who event (view_of who w) ≡ Ok side_step
        → now ≡ before ++ filter_map (what_of octets) side_step.outs → AreExpectedOfLink before
        → AreExpectedOfLink now
    still_expected w who event side_step octets before now r is reporting h =
        subst AreExpectedOfLink (sym reporting)
        (expected_both before (filter_map (what_of octets) side_step.outs) h
        (delivered_is_expected octets side_step.outs
        (closed.reports w who event side_step r is)))

    pub one_move : id.tei < 127
        → (i : Interface) (had : LinkRecords) (who : Side) (event : SideEvent)
        → IsTimelyMove id who event i → IsMoveGivingTeiOnce c id who event i → IsReached i had
        → IsReached (side_does c who event i) (side_recorded c id who event i had)
    one_move low i had side.User event timely stays r =
        let w = r.represented in
        let v = does (user_behaviour c.user) event (by_user i) in
        elim (each_event User (user_behaviour c.user) side.User id (of_user c.user id low)
        (by_user i) (view_of side.User w) event timely stays r.shows.user
        (view_of_consistent Tagged side.User w (closed.consistent w r.reached))) [
          | inl n ↦ record {
            represented = w;
            reached = r.reached;
            shows = by_user_after v i (view_of side.User w) w n.shows r.shows.network;
            noted = record {
              user =
                  nothing_recorded_more User (user_behaviour c.user) side.User id event (by_user i)
                  (view_of side.User w) had.user r.shows.user n.shows
                  (closed.user_sends w r.reached) r.noted.user;
              network = r.noted.network;
            };
            reports_to_user = n.expected r.reports_to_user;
            reports_to_network = r.reports_to_network;
          }
          | inr m ↦
              let after = closed.moves w side.User m.event m.side_step r.reached m.is in
              record {
                represented = with_view side.User m.side_step.view w;
                reached = after;
                shows = by_user_after v i m.side_step.view w m.shows r.shows.network;
                noted = record {
                  user =
                      move_recorded User (user_behaviour c.user) side.User id event (by_user i)
                      (view_of side.User w) had.user m
                      (closed.user_sends (with_view side.User m.side_step.view w) after)
                      r.noted.user;
                  network = r.noted.network;
                };
                reports_to_user =
                    still_expected w side.User m.event m.side_step m.octets
                    (link_primitives id i.delivered_to_user) (link_primitives id v.delivered)
                    r.reached m.is m.reporting r.reports_to_user;
                reports_to_network = r.reports_to_network;
              }
        ]
    one_move low i had side.Network event timely stays r =
        let w = r.represented in
        let v = does (network_behaviour c.network) event (by_network i) in
        elim (each_event Network (network_behaviour c.network) side.Network id
        (of_network c.network id low) (by_network i) (view_of side.Network w) event timely
        stays r.shows.network
        (view_of_consistent Tagged side.Network w (closed.consistent w r.reached))) [
          | inl n ↦ record {
            represented = w;
            reached = r.reached;
            shows = by_network_after v i (view_of side.Network w) w n.shows r.shows.user;
            noted = record {
              user = r.noted.user;
              network =
                  nothing_recorded_more Network (network_behaviour c.network) side.Network id event
                  (by_network i) (view_of side.Network w) had.network r.shows.network n.shows
                  (closed.network_sends w r.reached) r.noted.network;
            };
            reports_to_user = r.reports_to_user;
            reports_to_network = n.expected r.reports_to_network;
          }
          | inr m ↦
              let after = closed.moves w side.Network m.event m.side_step r.reached m.is in
              record {
                represented = with_view side.Network m.side_step.view w;
                reached = after;
                shows = by_network_after v i m.side_step.view w m.shows r.shows.user;
                noted = record {
                  user = r.noted.user;
                  network =
                      move_recorded Network (network_behaviour c.network) side.Network id event
                      (by_network i) (view_of side.Network w) had.network m
                      (closed.network_sends (with_view side.Network m.side_step.view w) after)
                      r.noted.network;
                };
                reports_to_user = r.reports_to_user;
                reports_to_network =
                    still_expected w side.Network m.event m.side_step m.octets
                    (link_primitives id i.delivered_to_network) (link_primitives id v.delivered)
                    r.reached m.is m.reporting r.reports_to_network;
              }
        ]
