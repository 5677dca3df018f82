-- Every link that is in time is safe across restarts. A restart starts no T200, and leaves that of
-- the other side and all octets in transit unchanged.
use Rattle.std.proofs.Common.{◌≡◌, ◌*◌, ◌≤◌, ◌<◌, ◌&&◌, Bool, true, false, if◌then◌else◌, ℕ, List, [], ◌∷◌, Option, Some, None, refl, sym, subst, ◌∙◌}
use Rattle.rand_pcg.specs.Lcg.{Lcg}
use Rattle.lapd_frame.specs.declared.Side.{Side}
use Rattle.lapd_frame.specs.declared.Side.TheVariants as side
use Rattle.lapd_tei.specs.Assigner.{known_held}
use Rattle.lapd_table.specs.declared.link_id.LinkId.{LinkId}
use Rattle.lapd_sides_links.specs.Links.{Linked, is_held_below, is_link_of, is_served, links_below, new_linked, parameters_for, with_tei}
use Rattle.lapd_sides.specs.Network.{new_network}
use Rattle.lapd_sides.specs.User.{new_user}
use Rattle.lapd_side_events.specs.Interface.{Configs, Interface, happens, new_interface}
use Rattle.lapd_restart_laws.specs.RestartPremises.{KeepPremisesAsMade}
use Rattle.lapd_restart_laws.specs.Restarts.{Change, Moves, NetworkRestarts, UserRestarts, changes, counting_on, link_after}
use Rattle.lapd_restart_laws.specs.SafeAcross.{IsSafeAcross}
use Rattle.lapd_restart_laws.proofs.AcrossAsMade.{made_safe_across}
use Rattle.lapd_clock_laws.specs.Clock.{Clock, Sent, clock_after, new_clock}
use Rattle.lapd_clock_laws.specs.InTime.{IsLongEnough}
use Rattle.lapd_clock_laws.proofs.EveryRun.{HoldsOfUser, move_keeps, move_timely, new_network_long, new_user_long, starts}
use Rattle.lapd_clock_laws.proofs.LinkDeadlines.{RunsLong, t200_of}
use Rattle.lapd_clock_laws.proofs.SideClocks.{IsAwaited}
use Rattle.lapd_clock_bus_laws.specs.Across.{AreInTimeAcross, KeepTeiAsMade, OverhearOthersAcross}

-- ---- A link after a restart.

same_t200 : (new before : Option Linked) → t200_of (link_after new before) ≡ t200_of new
same_t200 None before = refl
same_t200 (Some new) None = refl
same_t200 (Some new) (Some before) = refl

some_linked : (l m : Linked) → Some l ≡ Some m → l ≡ m
some_linked l m h = cc

as_long : (least : ℕ) (new before : Option Linked) → RunsLong least new
    → RunsLong least (link_after new before)
as_long least None before long = long
as_long least (Some new) None long = long
as_long least (Some new) (Some before) long = λ l is.
    subst (λ (x : Linked). least ≤ x.timers.durations.t200)
    (some_linked (record new { end = counting_on before.end new.end }) l is) (long new refl)

module _ (c : Configs) (id : LinkId) where
  off_by : (test : Bool) (new : Linked) → new.timers.t200 ≡ None
      → t200_of (if test then Some new else None) ≡ None
  off_by true new off = off
  off_by false new off = refl

  new_network_off : (known : List ℕ)
      → t200_of ((new_network c.network known).served.links id) ≡ None
  unfolding links_below
  new_network_off known =
      off_by (is_served c.network id.sapi && is_held_below (known_held known).held 127 id.tei)
      (new_linked (parameters_for c.network id.sapi) c.network.durations) refl

  new_user_off : (fixed : Option ℕ) (random : Lcg)
      → t200_of ((new_user c.user fixed random).served.links id) ≡ None
  unfolding with_tei
  new_user_off None random = refl
  new_user_off (Some tei) random = off_by (is_link_of c.user tei id)
      (new_linked (parameters_for c.user id.sapi) c.user.durations) refl

-- T200 of the link does not run
nothing_runs : (longest : ℕ) (from to : Side) (id : LinkId)
    (link : Option Linked) (outgoing incoming : List Sent) → t200_of link ≡ None
    → IsAwaited longest from to id link outgoing incoming
nothing_runs longest from to id link outgoing incoming off = record {
  polled = λ deadline is. (let none : None ≡ Some deadline = sym off ∙ is in cc);
  answered = λ deadline is. (let none : None ≡ Some deadline = sym off ∙ is in cc);
}

-- ---- All changes.

module _ (c : Configs) (id : LinkId) (low : id.tei < 127) (longest : ℕ) (positive : 0 < longest)
    (user_long : IsLongEnough longest c.user.durations)
    (network_long : IsLongEnough longest c.network.durations) where
  abbrev Holding : Interface → Clock → Type 0
  Holding i k = HoldsOfUser c id low longest positive user_long network_long i k

  network_restarts : (known : List ℕ) (i : Interface) (k : Clock) → Holding i k
      → Holding (changes c (NetworkRestarts known) i) k
  network_restarts known i k h =
      let new = (new_network c.network known).served.links id in
      let before = i.network.served.links id in
      record {
        lines = record { incoming = h.lines.incoming; outgoing = h.lines.outgoing };
        past = h.past;
        own_awaits = h.own_awaits;
        other_awaits = nothing_runs longest side.Network side.User id (link_after new before)
            k.to_user k.to_network (same_t200 new before ∙ new_network_off c id known);
        own_long = h.own_long;
        other_long = as_long (2 * longest) new before
            (new_network_long c id low longest positive user_long network_long known);
      }

  user_restarts : (fixed : Option ℕ) (random : Lcg) (i : Interface) (k : Clock) → Holding i k
      → Holding (changes c (UserRestarts fixed random) i) k
  user_restarts fixed random i k h =
      let new = (new_user c.user fixed random).served.links id in
      let before = i.user.served.links id in
      record {
        lines = record { incoming = h.lines.incoming; outgoing = h.lines.outgoing };
        past = h.past;
        own_awaits = nothing_runs longest side.User side.Network id (link_after new before)
            k.to_network k.to_user (same_t200 new before ∙ new_user_off c id fixed random);
        other_awaits = h.other_awaits;
        own_long = as_long (2 * longest) new before
            (new_user_long c id low longest positive user_long network_long fixed random);
        other_long = h.other_long;
      }

  kept_as_made : (all : List Change) (i : Interface) (k : Clock) → OverhearOthersAcross id all
      → AreInTimeAcross longest c id all i k → KeepTeiAsMade c id all i → Holding i k
      → KeepPremisesAsMade c id all i
  kept_as_made [] i k others in_time tei h = tt
  kept_as_made (Moves move ∷ later) i k others in_time tei h = (
    (
      move_timely c id low longest positive user_long network_long move.side move.event i k
          others.0 in_time.0 h,
      tei.0,
    ),
    kept_as_made later (happens c move i) (clock_after c move.side move.event i k) others.1
        in_time.1 tei.1
        (move_keeps c id low longest positive user_long network_long move.side move.event i k
        others.0 in_time.0 h),
  )
  kept_as_made (NetworkRestarts known ∷ later) i k others in_time tei h = (
    tei.0,
    kept_as_made later (changes c (NetworkRestarts known) i) k others.1 in_time.1 tei.1
        (network_restarts known i k h),
  )
  kept_as_made (UserRestarts fixed random ∷ later) i k others in_time tei h = (
    tei.0,
    kept_as_made later (changes c (UserRestarts fixed random) i) k others.1 in_time.1 tei.1
        (user_restarts fixed random i k h),
  )

  pub made_across : (start : ℕ) (fixed : Option ℕ) (known : List ℕ) (random : Lcg)
      → (parameters_for c.user id.sapi).k ≤ 127 → (parameters_for c.network id.sapi).k ≤ 127
      → (all : List Change) → OverhearOthersAcross id all
      → AreInTimeAcross longest c id all
      (new_interface (new_user c.user fixed random) (new_network c.network known))
      (new_clock start)
      → KeepTeiAsMade c id all
      (new_interface (new_user c.user fixed random) (new_network c.network known))
      → IsSafeAcross c id all
      (new_interface (new_user c.user fixed random) (new_network c.network known))
  made_across start fixed known random small_p small_q all others in_time tei =
      let i = new_interface (new_user c.user fixed random) (new_network c.network known) in
      made_safe_across c id fixed known random low small_p small_q all
      (kept_as_made all i (new_clock start) others in_time tei
      (starts c id low longest positive user_long network_long i (new_clock start)
      (record { to_user = refl; to_network = refl })
      (record { to_user = refl; to_network = refl })
      (new_user_long c id low longest positive user_long network_long fixed random)
      (new_network_long c id low longest positive user_long network_long known)))
