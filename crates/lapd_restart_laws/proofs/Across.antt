-- Each link is safe across restarts.
use Rattle.std.proofs.Common.{◌≡◌, inl, inr, ◌<◌, ◌≤◌, List, [], ◌∷◌, true, false, Some, refl, sym, ap, subst, ◌∙◌}
use Rattle.std.specs.Prelude.{is_some}
use Rattle.lapd_frame.specs.declared.Side.{Side}
use Rattle.lapd_frame.specs.declared.Side.TheVariants as side
use Rattle.lapd_mod128.specs.Counting.{Tagged}
use Rattle.lapd_link_definition.specs.Parameters.{Parameters}
use Rattle.lapd_pair_laws.specs.Move.{View, restarts}
use Rattle.lapd_pair_laws.specs.World.{World, new_world, view_of, with_view}
use Rattle.lapd_pair_laws.proofs.Consistency.{IsConsistentView, view_of_consistent}
use Rattle.lapd_recovery_laws.specs.QuickRestart.{exchange_in, restarts_quickly, run_quickly}
use Rattle.lapd_recovery_laws.proofs.QuickRuns.{every_quick_run_safe}
use Rattle.lapd_table.specs.declared.link_id.LinkId.{LinkId}
use Rattle.lapd_sides_links.specs.declared.config.Config.{Config}
use Rattle.lapd_sides_links.specs.Links.{Links, parameters_for}
use Rattle.lapd_sides.specs.Network.{Network, new_network}
use Rattle.lapd_sides.specs.User.{User, new_user}
use Rattle.lapd_two_side_laws.specs.Addressed.{those_for}
use Rattle.lapd_two_side_laws.specs.Establishments.{LinkRecord, LinkRecords}
use Rattle.lapd_side_events.specs.Interface.{fresh_link, Configs, Interface, user_behaviour, network_behaviour, by_user, by_network, with_user, with_network, from_here}
use Rattle.lapd_two_side_laws.specs.Projects.{ShowsEnd, ShowsRecord, ShowRecords, Projects, ProjectsTo}
use Rattle.lapd_side_events.specs.SideView.{Behaviour, SideView}
use Rattle.lapd_two_side_laws.proofs.OneMove.{IsReached, by_user_after, by_network_after, one_move, to_network_unskipped, to_user_unskipped}
use Rattle.lapd_two_side_laws.proofs.Timed.{new_is_timed}
use Rattle.lapd_two_side_laws.proofs.Whole.{IsNew, begins_in}
use Rattle.lapd_restart_laws.specs.RestartPremises.{IsQuick, KeepsPremises, KeepPremises}
use Rattle.lapd_restart_laws.specs.Restarts.{Change, Moves, NetworkRestarts, UserRestarts, link_after, network_after, user_after, changes, run_across, change_recorded, recorded_across, records_across}
use Rattle.lapd_restart_laws.specs.SafeAcross.{IsSafeAcross}
use Rattle.lapd_restart_laws.proofs.NoExchange.{no_exchange}
use Rattle.lapd_restart_laws.proofs.QuickWorlds.{IsOfQuickRun, quick_begins, quick_runs_are_closed, restart_leads}
use Rattle.lapd_restart_laws.proofs.RestartedSides.{IsMade, made, missing, made_by_network, made_by_user, restarted_view, stays_expected, waits_still, lacks_still, is_lost, joins, end_restarts}

-- ---- A restart of one side.

module _ (S : Type 0) (w : Behaviour S) (side : Side) (id : LinkId) (low : id.tei < 127)
    (v : SideView S) (after : S) (new : Links) where
  abbrev Later : SideView S
  Later = restarted_view S w side id low v after new

  abbrev Had : Links
  Had = (w.served v.now).links

  -- the world is unchanged, or the link's end restarts while no exchange of the side is in transit
  data Restarted (view : View) : Type 0 where
    unmoved : Projects w side id Later view → Restarted view
    restarting : exchange_in view ≡ 0 → Projects w side id Later (restarts_quickly view)
        → Restarted view

  module _ (config : Config) (links : (w.served after).links id ≡ link_after (new id) (Had id))
      (fresh : w.fresh id ≡ fresh_link config id) (quick : IsQuick side id Had new v) (view : View)
      (p : Projects w side id v view) where
    restarts_by : IsConsistentView Tagged view
        → view.station.end.parameters ≡ parameters_for config id.sapi → IsMade config id (new id)
        → ShowsEnd (w.fresh id) Had id v.delivered view.station.end → Restarted view
    restarts_by consistent same (missing is) (inl h) =
        unmoved (is_lost S w side id low v after new links view p is h)
    restarts_by consistent same (missing is) (inr (inl h)) =
        unmoved (waits_still S w side id low v after new links view p is h)
    restarts_by consistent same (missing is) (inr (inr h)) =
        unmoved (lacks_still S w side id low v after new links view p is h)
    restarts_by consistent same (made is) (inl h) =
        restarting (no_exchange S w side id v view p consistent.proceeding consistent.arriving
        (quick.quiet (ap is_some h.there) (ap is_some is)))
        (end_restarts S w side id low v after new links view p config is h same
        consistent.station.first)
    restarts_by consistent same (made is) (inr (inl h)) =
        unmoved (joins S w side id low v after new links view p config is fresh h)
    restarts_by consistent same (made is) (inr (inr h)) =
        let impossible : true ≡ false =
        sym h.removed ∙ quick.returns (ap is_some h.absent) (ap is_some is) in
        cc

still_recorded : (r : LinkRecord) (view : View) → ShowsRecord r view.station.history
    → ShowsRecord r (restarts_quickly view).station.history
unfolding restarts_quickly restarts
still_recorded r view h = record { received_in = h.received_in; sent_in = h.sent_in }

module _ (c : Configs) (id : LinkId) (low : id.tei < 127)
    (small_p : (parameters_for c.user id.sapi).k ≤ 127)
    (small_q : (parameters_for c.network id.sapi).k ≤ 127) where
  abbrev P : Parameters
  P = parameters_for c.user id.sapi

  abbrev Q : Parameters
  Q = parameters_for c.network id.sapi

  abbrev IsReachedQuickly : Interface → LinkRecords → Type 0
  IsReachedQuickly i r =
      IsReached c id (IsOfQuickRun P Q) (quick_runs_are_closed P Q small_p small_q) i r

  -- ---- One change.

  after_user : (i : Interface) (had : LinkRecords) (after : User) (new : Links)
      (r : IsReachedQuickly i had)
      → Restarted User (user_behaviour c.user) side.User id low (by_user i) after new
      (view_of side.User r.represented)
      → IsReachedQuickly (with_user
      (restarted_view User (user_behaviour c.user) side.User id low (by_user i) after new)
      i) had
  after_user i had after new r (unmoved shows) = record {
    represented = r.represented;
    reached = r.reached;
    shows =
        by_user_after c id
        (restarted_view User (user_behaviour c.user) side.User id low (by_user i) after new) i
        (view_of side.User r.represented) r.represented shows r.shows.network;
    noted = r.noted;
    reports_to_user =
        stays_expected User (user_behaviour c.user) side.User id low (by_user i) after new
        r.reports_to_user;
    reports_to_network = r.reports_to_network;
  }
  after_user i had after new r (restarting none shows) = record {
    represented =
        with_view side.User (restarts_quickly (view_of side.User r.represented)) r.represented;
    reached = restart_leads P Q small_p small_q r.represented side.User r.reached none;
    shows =
        by_user_after c id
        (restarted_view User (user_behaviour c.user) side.User id low (by_user i) after new) i
        (restarts_quickly (view_of side.User r.represented)) r.represented shows r.shows.network;
    noted = record {
      user = still_recorded had.user (view_of side.User r.represented) r.noted.user;
      network = r.noted.network;
    };
    reports_to_user =
        stays_expected User (user_behaviour c.user) side.User id low (by_user i) after new
        r.reports_to_user;
    reports_to_network = r.reports_to_network;
  }

  after_network : (i : Interface) (had : LinkRecords) (after : Network) (new : Links)
      (r : IsReachedQuickly i had)
      → Restarted Network (network_behaviour c.network) side.Network id low (by_network i) after new
      (view_of side.Network r.represented)
      → IsReachedQuickly (with_network (restarted_view Network (network_behaviour c.network)
      side.Network id low (by_network i) after new) i) had
  after_network i had after new r (unmoved shows) = record {
    represented = r.represented;
    reached = r.reached;
    shows =
        by_network_after c id (restarted_view Network (network_behaviour c.network) side.Network id
        low (by_network i) after new) i (view_of side.Network r.represented) r.represented shows
        r.shows.user;
    noted = r.noted;
    reports_to_user = r.reports_to_user;
    reports_to_network =
        stays_expected Network (network_behaviour c.network) side.Network id low (by_network i)
        after new r.reports_to_network;
  }
  after_network i had after new r (restarting none shows) = record {
    represented =
        with_view side.Network (restarts_quickly (view_of side.Network r.represented))
        r.represented;
    reached = restart_leads P Q small_p small_q r.represented side.Network r.reached none;
    shows =
        by_network_after c id (restarted_view Network (network_behaviour c.network) side.Network id
        low (by_network i) after new) i (restarts_quickly (view_of side.Network r.represented))
        r.represented shows r.shows.user;
    noted = record {
      user = r.noted.user;
      network =
          still_recorded had.network (view_of side.Network r.represented) r.noted.network;
    };
    reports_to_user = r.reports_to_user;
    reports_to_network =
        stays_expected Network (network_behaviour c.network) side.Network id low (by_network i)
        after new r.reports_to_network;
  }

  one_change : (change : Change) (i : Interface) (had : LinkRecords) → KeepsPremises c id change i
      → IsReachedQuickly i had
      → IsReachedQuickly (changes c change i) (change_recorded c id change i had)
  one_change (Moves move) i had premises r =
      one_move c id (IsOfQuickRun P Q) (quick_runs_are_closed P Q small_p small_q) low i had
      move.side move.event premises.0 premises.1 r
  one_change (NetworkRestarts known) i had quick r =
      let after = network_after c.network known i.network in
      let new = (new_network c.network known).served.links in
      let view = view_of side.Network r.represented in
      after_network i had after new r
      (restarts_by Network (network_behaviour c.network) side.Network id low (by_network i) after
      new c.network refl refl quick view r.shows.network
      (view_of_consistent Tagged side.Network r.represented r.reached.consistent)
      r.reached.network_parameters (made_by_network c.network known id) r.shows.network.link)
  one_change (UserRestarts fixed random) i had quick r =
      let after = user_after c.user fixed random i.user in
      let new = (new_user c.user fixed random).served.links in
      let view = view_of side.User r.represented in
      after_user i had after new r
      (restarts_by User (user_behaviour c.user) side.User id low (by_user i) after new c.user refl
      refl quick view r.shows.user
      (view_of_consistent Tagged side.User r.represented r.reached.consistent)
      r.reached.user_parameters (made_by_user c.user fixed random id) r.shows.user.link)

  -- ---- Every run.

  all_changes : (all : List Change) (i : Interface) (had : LinkRecords) → KeepPremises c id all i
      → IsReachedQuickly i had
      → IsReachedQuickly (run_across c all i) (recorded_across c id all i had)
  all_changes [] i had premises r = r
  all_changes (change ∷ later) i had premises r =
      all_changes later (changes c change i) (change_recorded c id change i had) premises.1
      (one_change change i had premises.0 r)

  pub safe_across : (i : Interface) → IsNew (fresh_link c.user id) i.user.served.links id P
      → IsNew (fresh_link c.network id) i.network.served.links id Q
      → those_for side.Network id i.to_user ≡ [] → those_for side.User id i.to_network ≡ []
      → (all : List Change) → KeepPremises c id all (from_here i)
      → IsSafeAcross c id all (from_here i)
  safe_across i of_u of_n no_to_user no_to_network all premises =
      let r : IsReachedQuickly (run_across c all (from_here i))
      (records_across c id all (from_here i)) =
      all_changes all (from_here i) _ premises
      (begins_in c id low (IsOfQuickRun P Q) (quick_runs_are_closed P Q small_p small_q) P Q
      (quick_begins P Q small_p small_q) i of_u of_n no_to_user no_to_network) in
      let w : World = run_quickly Tagged r.reached.moves (new_world P Q) in
      let shows : ProjectsTo c id (run_across c all (from_here i)) w =
      subst (ProjectsTo c id (run_across c all (from_here i))) r.reached.is r.shows in
      let noted : ShowRecords (records_across c id all (from_here i)) w =
      subst (ShowRecords (records_across c id all (from_here i))) r.reached.is r.noted in
      let safe = every_quick_run_safe Tagged P Q small_p small_q r.reached.moves in
      record {
        user = P;
        network = Q;
        moves = r.reached.moves;
        shows = shows;
        recorded = noted;
        safe = safe;
        right = record {
          to_network =
              to_network_unskipped c id (run_across c all (from_here i))
              (records_across c id all (from_here i)) w shows noted safe;
          to_user =
              to_user_unskipped c id (run_across c all (from_here i))
              (records_across c id all (from_here i)) w shows noted safe;
          reports_to_user = r.reports_to_user;
          reports_to_network = r.reports_to_network;
        };
      }

  is_new : (config : Config) (links : Links) → links id ≡ Some (fresh_link config id)
      → IsNew (fresh_link config id) links id (parameters_for config id.sapi)
  is_new config links is =
      inl (record {
        linked = fresh_link config id;
        there = is;
        end = refl;
        timed = new_is_timed (parameters_for config id.sapi) config.durations;
      })

  pub safe_across_from : (i : Interface) → i.user.served.links id ≡ Some (fresh_link c.user id)
      → i.network.served.links id ≡ Some (fresh_link c.network id)
      → those_for side.Network id i.to_user ≡ [] → those_for side.User id i.to_network ≡ []
      → (all : List Change) → KeepPremises c id all (from_here i)
      → IsSafeAcross c id all (from_here i)
  safe_across_from i of_u of_n no_to_user no_to_network all premises =
      safe_across i (is_new c.user i.user.served.links of_u)
      (is_new c.network i.network.served.links of_n) no_to_user no_to_network all premises
