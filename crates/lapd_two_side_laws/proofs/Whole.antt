-- The worlds that the runs of two ends lead to are not left by moves. So each link is safe after
-- every run.
use Rattle.std.proofs.Common.{◌≡◌, inl, inr, ◌<◌, ◌≤◌, List, [], ◌∷◌, ◌++◌, Some, Ok, refl, sym, ap, subst, ◌∙◌, ◌⊎◌}
use Rattle.lapd_timers.specs.Durations.{Lengths}
use Rattle.lapd_frame.specs.declared.Side.{Side}
use Rattle.lapd_frame.specs.declared.Side.TheVariants as side
use Rattle.lapd_mod128.specs.Counting.{Tagged}
use Rattle.lapd_link_definition.specs.End.{new_end}
use Rattle.lapd_link_definition.specs.Parameters.{Parameters}
use Rattle.lapd_link_definition.specs.Reports.{AreExpected}
use Rattle.lapd_pair_laws.specs.Move as world
use Rattle.lapd_pair_laws.specs.World as world_of
use Rattle.lapd_pair_laws.specs.World.{World, new_world, view_of, with_view, in_world, world_after, outcomes}
use Rattle.lapd_pair_laws.proofs.Consistency.{run_consistent, new_world_consistent}
use Rattle.lapd_pair_laws.specs.Consistent.{IsConsistentWorld}
use Rattle.lapd_pair_laws.specs.Reports.{ReportsExpected, AllReportsExpected}
use Rattle.lapd_pair_laws.specs.Safe.{AreSafe}
use Rattle.lapd_pair_laws.proofs.Reached.{every_run_safe, every_run_reports}
use Rattle.lapd_table.specs.declared.link_id.LinkId.{LinkId}
use Rattle.lapd_sides_links.specs.Links.{new_linked, Links, Linked}
use Rattle.lapd_sides.specs.Network.{Network}
use Rattle.lapd_sides.specs.User.{User}
use Rattle.lapd_two_side_laws.specs.Addressed.{those_for}
use Rattle.lapd_two_side_laws.specs.Establishments.{LinkRecords, nothing_recorded, side_recorded, run_recorded, records_of}
use Rattle.lapd_side_events.specs.Interface.{fresh_link, Configs, Interface, Move, new_interface, from_here, happens, run}
use Rattle.lapd_two_side_laws.specs.Premises.{AreTimely, GiveTeiOnce, SatisfyPremises}
use Rattle.lapd_two_side_laws.specs.Primitives.{AreExpectedOfLink, link_primitives}
use Rattle.lapd_two_side_laws.specs.Projects.{HasLink, AwaitsLink, ShowsEnd, ShowRecords, ProjectsTo, IsRight, IsSafeAt}
use Rattle.lapd_two_side_laws.proofs.OneMove.{AreClosed, IsReached, one_move, to_network_unskipped, to_user_unskipped}
use Rattle.lapd_two_side_laws.proofs.Sendings.{AreSentNow, user_sends_now, network_sends_now}
use Rattle.lapd_two_side_laws.proofs.Timed.{new_is_timed}

-- ---- Runs of the world.

-- one more move
run_more : (moves : List world.Move) (m : world.Move) (w : World)
    → world_of.run Tagged (moves ++ m ∷ []) w
    ≡ world_after (world_of.run Tagged moves w)
    (world_of.happens Tagged m (world_of.run Tagged moves w))
run_more [] m w = refl
run_more (first ∷ moves) m w = run_more moves m (world_after w (world_of.happens Tagged first w))

last_is_expected : (moves : List world.Move) (m : world.Move) (w : World)
    → AllReportsExpected (outcomes Tagged (moves ++ m ∷ []) w)
    → ReportsExpected (world_of.happens Tagged m (world_of.run Tagged moves w))
last_is_expected [] m w h = h.0
last_is_expected (first ∷ moves) m w h =
    last_is_expected moves m (world_after w (world_of.happens Tagged first w)) h.1

module _ (who : Side) (event : world.PairEvent) (w : World) (side_step : world.ViewStep)
    (is : world.acts Tagged who event (view_of who w) ≡ Ok side_step) where
  after_move : world_after w (world_of.happens Tagged (record { side = who; event = event }) w)
      ≡ with_view who side_step.view w
  unfolding world_of.happens
  after_move = ap (λ o. world_after w (in_world who w o)) is

  outs_are_expected : ReportsExpected
      (world_of.happens Tagged (record { side = who; event = event }) w)
      → AreExpected side_step.outs
  unfolding world_of.happens
  outs_are_expected h = subst (λ o. ReportsExpected (in_world who w o)) is h

-- a link exists as new, or does not exist yet
abbrev pub IsNew : Linked → Links → LinkId → Parameters → Type 0
IsNew fresh links id p = HasLink links id (new_end p) ⊎ AwaitsLink fresh links id (new_end p)

-- so it shows a new end, with no primitives delivered yet
new_shows : (fresh : Linked) (links : Links) (id : LinkId) (p : Parameters) → IsNew fresh links id p
    → ShowsEnd fresh links id [] (new_end p)
new_shows fresh links id p (inl h) = inl h
new_shows fresh links id p (inr h) = inr (inl h)

-- ---- The worlds that runs lead to.

pub record IsOfRun (p q : Parameters) (w : World) : Type 0 where
  pub moves : List world.Move
  pub is : w ≡ world_of.run Tagged moves (new_world p q)

module _ (p q : Parameters) (small_p : p.k ≤ 127) (small_q : q.k ≤ 127) where
  abbrev Reached : List world.Move → World
  Reached moves = world_of.run Tagged moves (new_world p q)

  abbrev More : List world.Move → Side → world.PairEvent → List world.Move
  More moves who event = moves ++ record { side = who; event = event } ∷ []

  more_is : (moves : List world.Move) (who : Side) (event : world.PairEvent)
      (side_step : world.ViewStep)
      → world.acts Tagged who event (view_of who (Reached moves)) ≡ Ok side_step
      → with_view who side_step.view (Reached moves) ≡ Reached (More moves who event)
  more_is moves who event side_step is =
      sym (run_more moves (record { side = who; event = event }) (new_world p q)
      ∙ after_move who event (Reached moves) side_step is)

  expected_more : (moves : List world.Move) (who : Side) (event : world.PairEvent)
      (side_step : world.ViewStep)
      → world.acts Tagged who event (view_of who (Reached moves)) ≡ Ok side_step
      → AreExpected side_step.outs
  expected_more moves who event side_step is =
      outs_are_expected who event (Reached moves) side_step is
      (last_is_expected moves (record { side = who; event = event }) (new_world p q)
      (every_run_reports Tagged p q small_p small_q (More moves who event)))

  there : (w : World) (r : IsOfRun p q w) (who : Side) (event : world.PairEvent)
      (side_step : world.ViewStep) → world.acts Tagged who event (view_of who w) ≡ Ok side_step
      → world.acts Tagged who event (view_of who (Reached r.moves)) ≡ Ok side_step
  there w r who event side_step is =
      subst (λ (x : World). world.acts Tagged who event (view_of who x) ≡ Ok side_step) r.is is

  pub runs_are_closed : AreClosed (IsOfRun p q)
  runs_are_closed = record {
    consistent =
        λ w r. subst (IsConsistentWorld Tagged) (sym r.is)
        (run_consistent Tagged r.moves (new_world p q)
        (new_world_consistent Tagged p q small_p small_q));
    user_sends =
        λ w r. subst (λ (x : World). AreSentNow x.user) (sym r.is)
        (user_sends_now p q small_p small_q r.moves);
    network_sends =
        λ w r. subst (λ (x : World). AreSentNow x.network) (sym r.is)
        (network_sends_now p q small_p small_q r.moves);
    moves = λ w who event side_step r is. record {
      moves = More r.moves who event;
      is =
          ap (λ x. with_view who side_step.view x) r.is
          ∙ more_is r.moves who event side_step (there w r who event side_step is);
    };
    reports =
        λ w who event side_step r is. expected_more r.moves who event side_step
        (there w r who event side_step is);
  }

module _ (c : Configs) (id : LinkId) (low : id.tei < 127) where
  right_of : (moves : List Move) (i : Interface) (w : World) → ProjectsTo c id (run c moves i) w
      → ShowRecords (records_of c id moves i) w → AreSafe w
      → AreExpectedOfLink (link_primitives id (run c moves i).delivered_to_user)
      → AreExpectedOfLink (link_primitives id (run c moves i).delivered_to_network)
      → IsRight c id moves i
  right_of moves i w shows noted safe to_user to_network = record {
    to_network =
        to_network_unskipped c id (run c moves i) (records_of c id moves i) w shows noted safe;
    to_user = to_user_unskipped c id (run c moves i) (records_of c id moves i) w shows noted safe;
    reports_to_user = to_user;
    reports_to_network = to_network;
  }

  -- the link is new on both sides or does not exist yet, and no octets for it are in transit
  pub begins_in : (R : World → Type 0) (closed : AreClosed R) (p q : Parameters) → R (new_world p q)
      → (i : Interface) → IsNew (fresh_link c.user id) i.user.served.links id p
      → IsNew (fresh_link c.network id) i.network.served.links id q
      → those_for side.Network id i.to_user ≡ [] → those_for side.User id i.to_network ≡ []
      → IsReached c id R closed (from_here i)
      (record { user = nothing_recorded; network = nothing_recorded })
  begins_in R closed p q new i of_u of_n no_to_user no_to_network = record {
    represented = new_world p q;
    reached = new;
    shows = record {
      user = record {
        link = new_shows _ _ id p of_u;
        incoming = no_to_user;
        outgoing = no_to_network;
        known = refl;
        given = refl;
      };
      network = record {
        link = new_shows _ _ id q of_n;
        incoming = no_to_network;
        outgoing = no_to_user;
        known = refl;
        given = refl;
      };
    };
    noted = record {
      user = record { received_in = refl; sent_in = λ place. refl };
      network = record { received_in = refl; sent_in = λ place. refl };
    };
    reports_to_user = tt;
    reports_to_network = tt;
  }

  module _ (p q : Parameters) (small_p : p.k ≤ 127) (small_q : q.k ≤ 127) where
    abbrev IsReachedByRun : Interface → LinkRecords → Type 0
    IsReachedByRun i r = IsReached c id (IsOfRun p q) (runs_are_closed p q small_p small_q) i r

    -- ---- Every run.

    all_moves : (i : Interface) (had : LinkRecords) (moves : List Move) → AreTimely c id moves i
        → GiveTeiOnce c id moves i → IsReachedByRun i had
        → IsReachedByRun (run c moves i) (run_recorded c id moves i had)
    all_moves i had [] timely stays r = r
    all_moves i had (move ∷ moves) timely stays r =
        all_moves (happens c move i) (side_recorded c id move.side move.event i had) moves timely.1
        stays.1
        (one_move c id (IsOfRun p q) (runs_are_closed p q small_p small_q) low i had move.side
        move.event timely.0 stays.0 r)

    begins : (i : Interface) → IsNew (fresh_link c.user id) i.user.served.links id p
        → IsNew (fresh_link c.network id) i.network.served.links id q
        → those_for side.Network id i.to_user ≡ [] → those_for side.User id i.to_network ≡ []
        → IsReachedByRun (from_here i)
        (record { user = nothing_recorded; network = nothing_recorded })
    begins i of_u of_n no_to_user no_to_network =
        begins_in (IsOfRun p q) (runs_are_closed p q small_p small_q) p q
        (record { moves = []; is = refl }) i of_u of_n no_to_user no_to_network

    pub link_safe_as : (i : Interface) → IsNew (fresh_link c.user id) i.user.served.links id p
        → IsNew (fresh_link c.network id) i.network.served.links id q
        → those_for side.Network id i.to_user ≡ [] → those_for side.User id i.to_network ≡ []
        → (moves : List Move) → SatisfyPremises c id moves (from_here i)
        → IsSafeAt c id moves (from_here i)
    link_safe_as i of_u of_n no_to_user no_to_network moves premises =
        let r =
        all_moves (from_here i) _ moves premises.0 premises.1
        (begins i of_u of_n no_to_user no_to_network) in
        let of_run = r.reached in
        let shows = subst (ProjectsTo c id (run c moves (from_here i))) of_run.is r.shows in
        let noted = subst (ShowRecords (records_of c id moves (from_here i))) of_run.is r.noted in
        let safe = every_run_safe Tagged p q small_p small_q of_run.moves in
        record {
          user = p;
          network = q;
          moves = of_run.moves;
          shows = shows;
          recorded = noted;
          safe = safe;
          right =
              right_of moves (from_here i) (world_of.run Tagged of_run.moves (new_world p q)) shows
              noted safe r.reports_to_user r.reports_to_network;
        }

    pub link_safe_from : (i : Interface) (m n : Lengths)
        → i.user.served.links id ≡ Some (new_linked p m)
        → i.network.served.links id ≡ Some (new_linked q n)
        → those_for side.Network id i.to_user ≡ [] → those_for side.User id i.to_network ≡ []
        → (moves : List Move) → SatisfyPremises c id moves (from_here i)
        → IsSafeAt c id moves (from_here i)
    link_safe_from i m n of_u of_n no_to_user no_to_network moves premises = link_safe_as i
        (inl (record {
          linked = new_linked p m;
          there = of_u;
          end = refl;
          timed = new_is_timed p m;
        }))
        (inl (record {
          linked = new_linked q n;
          there = of_n;
          end = refl;
          timed = new_is_timed q n;
        }))
        no_to_user no_to_network moves premises

    pub link_safe : (user : User) (network : Network) (m n : Lengths)
        → user.served.links id ≡ Some (new_linked p m)
        → network.served.links id ≡ Some (new_linked q n)
        → (moves : List Move) → SatisfyPremises c id moves (new_interface user network)
        → IsSafeAt c id moves (new_interface user network)
    link_safe user network m n of_u of_n moves premises =
        link_safe_from (new_interface user network) m n of_u of_n refl refl moves premises
