-- Every link of a bus that is in time is safe.
use Rattle.std.proofs.Common.{◌≡◌, ℕ, ◌≤◌, ◌<◌, List, Option, Some, refl, ap, subst, ◌∙◌}
use Rattle.std.specs.Prelude.{option_map, slice_get}
use Rattle.std.specs.List.{AllByRecursion}
use Rattle.std.proofs.lemmas.Option.{slice_get-map}
use Rattle.lapd_link_definition.specs.Parameters.{Parameters}
use Rattle.lapd_table.specs.declared.link_id.LinkId.{LinkId}
use Rattle.lapd_sides.specs.User.{User}
use Rattle.lapd_sides_links.specs.Links.{parameters_for}
use Rattle.lapd_side_events.specs.Bus.{Bus, BusEvent, KeepsTerminal, NewTerminal, bus_step, connected, from_now, interface_of, moves_along, new_bus, recorded_anew}
use Rattle.lapd_side_events.specs.Interface.{Configs, from_here}
use Rattle.lapd_side_events.specs.SideView.{SideView}
use Rattle.lapd_two_side_laws.specs.Premises.{AreTimely}
use Rattle.lapd_two_side_laws.specs.Projects.{IsSafeAt}
use Rattle.lapd_bus_laws.specs.Holdings.{Assigns, IsClear, IsOnlyClaimant, IsReached, KeepsTeisApart}
use Rattle.lapd_bus_laws.specs.Links.{AssignsOthers, IsNewHere, IsSole, ObtainsOnce, Throughout}
use Rattle.lapd_bus_laws.proofs.Holding.{first_is_safe, holding_is_safe}
use Rattle.lapd_bus_laws.proofs.Lists.{map_back}
use Rattle.lapd_bus_laws.proofs.PremisesOfInterface.{safe_here}
use Rattle.lapd_clock_laws.specs.Clock.{Clock, Shows, new_clock}
use Rattle.lapd_clock_laws.specs.InTime as clear
use Rattle.lapd_clock_laws.specs.InTime.{AreInTime, HasLongT200, IsLongEnough, OverhearOthers}
use Rattle.lapd_clock_laws.proofs.EveryRun.{new_network_long, new_user_long, timely_from}
use Rattle.lapd_clock_bus_laws.specs.Buses.{HasLine, KeepsTei}
use Rattle.lapd_clock_bus_laws.proofs.Along.{holding_kept, timely_along}

module _ (c : Configs) (id : LinkId) (low : id.tei < 127) (longest : ℕ) (positive : 0 < longest)
    (user_long : IsLongEnough longest c.user.durations)
    (network_long : IsLongEnough longest c.network.durations) where
  along : (i : ℕ) (events : List BusEvent) (t : SideView User) (b : Bus) (k : Clock)
      → HasLongT200 longest (t.now.served.links id)
      → HasLongT200 longest (b.network.served.links id) → clear.IsClear id (interface_of t b)
      → Shows k (interface_of t b) → OverhearOthers id (moves_along c i events (from_now b))
      → AreInTime longest c id (moves_along c i events (from_now b))
      (from_here (interface_of t b)) k
      → AreTimely c id (moves_along c i events (from_now b)) (from_here (interface_of t b))
  along i events t b k long_user long_network none shows others in_time =
      timely_from c id low longest positive user_long network_long (from_here (interface_of t b))
      k (record { to_user = shows.to_user; to_network = shows.to_network })
      (record { to_user = none.to_user; to_network = none.to_network }) long_user long_network
      (moves_along c i events (from_now b)) others in_time

  there_now : (i : ℕ) (t : SideView User) (b : Bus) → slice_get b.terminals i ≡ Some t
      → slice_get (from_now b).terminals i ≡ Some (recorded_anew t)
  there_now i t b at = slice_get-map recorded_anew b.terminals i
      ∙ ap (λ (o : Option (SideView User)). option_map recorded_anew o) at

  pub terminal_safe : (i : ℕ) (p q : Parameters) (events : List BusEvent) (t : SideView User)
      (b : Bus) (k : Clock) → HasLongT200 longest (t.now.served.links id)
      → HasLongT200 longest (b.network.served.links id) → p.k ≤ 127 → q.k ≤ 127
      → AllByRecursion (KeepsTerminal i) events → slice_get b.terminals i ≡ Some t
      → IsNewHere c id p q t b → IsSole id i b → Throughout c HasLine events (from_now b)
      → Throughout c (AssignsOthers c id.tei) events (from_now b)
      → Throughout c (ObtainsOnce c id i) events (from_now b)
      → Shows k (interface_of t b)
      → OverhearOthers id (moves_along c i events (from_now b))
      → AreInTime longest c id (moves_along c i events (from_now b))
      (from_here (interface_of t b)) k
      → IsSafeAt c id (moves_along c i events (from_now b)) (from_here (interface_of t b))
  terminal_safe i p q events t b k long_user long_network small_p small_q ok at new sole lines
      assigns once shows others in_time =
      let timely = along i events t b k long_user long_network
      (record { to_user = new.to_user; to_network = new.to_network }) shows others in_time in
      safe_here c id low i p q events t b small_p small_q ok at new sole
      (timely_along c id i events (recorded_anew t) (from_now b) ok (there_now i t b at) lines
      timely) assigns once

  pub holding_safe : (i : ℕ) (b : Bus) (e : BusEvent) (after : List BusEvent) (t : SideView User)
      (k : Clock) → HasLongT200 longest (t.now.served.links id)
      → HasLongT200 longest ((bus_step c e b).network.served.links id)
      → (parameters_for c.user id.sapi).k ≤ 127 → (parameters_for c.network id.sapi).k ≤ 127
      → IsReached c b → KeepsTeisApart c e b → Assigns c id.tei e b
      → slice_get (bus_step c e b).terminals i ≡ Some t
      → IsOnlyClaimant id.tei i (bus_step c e b) → IsClear id i (bus_step c e b)
      → Throughout c (KeepsTei c id i) after (from_now (bus_step c e b))
      → Shows k (interface_of t (bus_step c e b))
      → OverhearOthers id (moves_along c i after (from_now (bus_step c e b)))
      → AreInTime longest c id (moves_along c i after (from_now (bus_step c e b)))
      (from_here (interface_of t (bus_step c e b))) k
      → IsSafeAt c id (moves_along c i after (from_now (bus_step c e b)))
      (from_here (interface_of t (bus_step c e b)))
  holding_safe i b e after t k long_user long_network small_p small_q reached is assigned at only
      none keeps shows others in_time =
      let now = bus_step c e b in
      let timely = along i after t now k long_user long_network
      (record { to_user = none.to_terminal t at; to_network = none.to_network i t at }) shows
      others in_time in
      holding_is_safe c id low i b e after reached is assigned only none.to_network
      (holding_kept c id i after (recorded_anew t) (from_now now) (there_now i t now at) keeps
      timely) t small_p small_q at (none.to_terminal t at)

  -- a terminal before its first event has nothing in transit
  connected_so : (P : SideView User → Type 0) (i : ℕ) (known : List ℕ)
      (terminals : List NewTerminal) (t : SideView User)
      → slice_get (new_bus c known terminals).terminals i ≡ Some t
      → ((new : NewTerminal) → P (connected c new)) → P t
  connected_so P i known terminals t at each =
      let new = map_back (connected c) terminals i t at in subst P new.2 (each new.0)

  pub fixed_safe : (start i : ℕ) (known : List ℕ) (terminals : List NewTerminal)
      (after : List BusEvent) (t : SideView User)
      → (parameters_for c.user id.sapi).k ≤ 127 → (parameters_for c.network id.sapi).k ≤ 127
      → slice_get (new_bus c known terminals).terminals i ≡ Some t
      → IsOnlyClaimant id.tei i (new_bus c known terminals)
      → Throughout c (KeepsTei c id i) after (from_now (new_bus c known terminals))
      → OverhearOthers id (moves_along c i after (from_now (new_bus c known terminals)))
      → AreInTime longest c id (moves_along c i after (from_now (new_bus c known terminals)))
      (from_here (interface_of t (new_bus c known terminals))) (new_clock start)
      → IsSafeAt c id (moves_along c i after (from_now (new_bus c known terminals)))
      (from_here (interface_of t (new_bus c known terminals)))
  fixed_safe start i known terminals after t small_p small_q at only keeps others in_time =
      let first = new_bus c known terminals in
      let timely = along i after t first (new_clock start)
      (connected_so (λ (u : SideView User). HasLongT200 longest (u.now.served.links id)) i known
      terminals t at (λ new. new_user_long c id low longest positive user_long network_long
      new.fixed new.random))
      (new_network_long c id low longest positive user_long network_long known)
      (connected_so (λ (u : SideView User). clear.IsClear id (interface_of u first)) i known
      terminals t at (λ new. record { to_user = refl; to_network = refl }))
      (connected_so (λ (u : SideView User). Shows (new_clock start) (interface_of u first)) i
      known terminals t at (λ new. record { to_user = refl; to_network = refl })) others in_time in
      first_is_safe c id low i known terminals after only
      (holding_kept c id i after (recorded_anew t) (from_now first) (there_now i t first at) keeps
      timely) t small_p small_q at
