-- Each holding of a TEI is safe, if sides restart too.
use Rattle.std.proofs.Common.{◌≡◌, ℕ, ◌<◌, ◌≤◌, List, [], true, Some}
use Rattle.std.specs.Prelude.{slice_get}
use Rattle.lapd_frame.specs.declared.Side.TheVariants as side
use Rattle.lapd_table.specs.declared.link_id.LinkId.{LinkId}
use Rattle.lapd_sides_links.specs.Links.{parameters_for}
use Rattle.lapd_sides.specs.User.{User}
use Rattle.lapd_two_side_laws.specs.Addressed.{those_for}
use Rattle.lapd_side_events.specs.Bus.{Bus, BusEvent, OfTerminal, OfNetwork, Join, Restart, NewTerminal, new_bus, from_now, interface_of}
use Rattle.lapd_side_events.specs.Interface.{Configs, from_here}
use Rattle.lapd_side_events.specs.SideView.{SideView}
use Rattle.lapd_bus_laws.specs.Assignments.{claims}
use Rattle.lapd_bus_laws.specs.Holdings.{KeepsTeisApart, Assigns, IsOnlyClaimant, IsClearToNetwork}
use Rattle.lapd_bus_laws.specs.Links.{IsSole, IsNobodyElses}
use Rattle.lapd_bus_laws.proofs.Holding.{IsAssigned, assigned_now, only_one, held_now, sole_now, new_now, first_new, first_held, first_sole}
use Rattle.lapd_bus_laws.proofs.Single.{KeepsApart}
use Rattle.lapd_restart_laws.specs.SafeAcross.{IsSafeAcross}
use Rattle.lapd_bus_restart_laws.specs.BusAcross.{step_across, after_across, ThroughoutAcross, changes_along}
use Rattle.lapd_bus_restart_laws.specs.HoldingsAcross.{IsReachedAcross, KeepsHoldingAcross}
use Rattle.lapd_bus_restart_laws.specs.LinksAcross.{KeepsLink}
use Rattle.lapd_bus_restart_laws.proofs.ApartAcross.{event_keeps_across, kept_apart_across}
use Rattle.lapd_bus_restart_laws.proofs.AsideAcross.{nobody_elses_across}
use Rattle.lapd_bus_restart_laws.proofs.HeldAcross.{keeps_link}
use Rattle.lapd_bus_restart_laws.proofs.LinkSafe.{link_safe_across}

pub one_claimant_across : (c : Configs) (b : Bus) (e : BusEvent) (tei i : ℕ) (t : SideView User)
    → IsReachedAcross c b → KeepsTeisApart c e b
    → slice_get (step_across c e b).terminals i ≡ Some t → claims tei t ≡ true
    → IsOnlyClaimant tei i (step_across c e b)
one_claimant_across c b e tei i t reached is = only_one c (step_across c e b)
    (event_keeps_across c e b is (kept_apart_across c b reached)) tei i t

-- an assignment is no restart
assigned_across : (c : Configs) (id : LinkId) (b : Bus) (e : BusEvent) → KeepsApart c b
    → KeepsTeisApart c e b → Assigns c id.tei e b → IsAssigned c id (step_across c e b)
assigned_across c id b (OfNetwork j event) h is assigned =
    assigned_now c id b (OfNetwork j event) h is assigned
assigned_across c id b (OfTerminal j event) h is impossible = absurd impossible
assigned_across c id b (Join j new) h is impossible = absurd impossible
assigned_across c id b (Restart known) h is impossible = absurd impossible

module _ (c : Configs) (id : LinkId) (low : id.tei < 127) (i : ℕ) (b : Bus) (e : BusEvent)
    (after : List BusEvent) (reached : IsReachedAcross c b) (is : KeepsTeisApart c e b)
    (only : IsOnlyClaimant id.tei i (step_across c e b))
    (clear : IsClearToNetwork id (step_across c e b))
    (keeps : ThroughoutAcross c (KeepsHoldingAcross c id i) after (from_now (step_across c e b)))
  where
    abbrev Now : Bus
    Now = step_across c e b

    before : KeepsApart c b
    before = kept_apart_across c b reached

    apart : KeepsApart c Now
    apart = event_keeps_across c e b is before

    pub sole_across : IsSole id i Now
    sole_across = sole_now c id i Now apart only clear

    pub link_keeps : ThroughoutAcross c (KeepsLink c id i) after (from_now Now)
    link_keeps = keeps_link c id i after (from_now Now) keeps (held_now c id i Now apart only)

    pub holding_is_nobody_elses_across : IsNobodyElses id i (after_across c after (from_now Now))
    holding_is_nobody_elses_across =
        nobody_elses_across c id low i after Now sole_across link_keeps

    pub holding_is_safe_across : (t : SideView User) → Assigns c id.tei e b
        → (parameters_for c.user id.sapi).k ≤ 127 → (parameters_for c.network id.sapi).k ≤ 127
        → slice_get Now.terminals i ≡ Some t → those_for side.Network id t.incoming ≡ []
        → IsSafeAcross c id (changes_along c i after (from_now Now))
        (from_here (interface_of t Now))
    holding_is_safe_across t assigned small_p small_q at to_terminal =
        link_safe_across c id low i after t Now small_p small_q at
        (new_now c id i Now apart only clear t (assigned_across c id b e before is assigned) at
        to_terminal) sole_across link_keeps

-- ---- From the start.

module _ (c : Configs) (id : LinkId) (low : id.tei < 127) (i : ℕ) (known : List ℕ)
    (terminals : List NewTerminal) (after : List BusEvent)
    (only : IsOnlyClaimant id.tei i (new_bus c known terminals))
    (keeps : ThroughoutAcross c (KeepsHoldingAcross c id i) after
    (from_now (new_bus c known terminals))) where
  abbrev Start : Bus
  Start = new_bus c known terminals

  first_keeps : ThroughoutAcross c (KeepsLink c id i) after (from_now Start)
  first_keeps = keeps_link c id i after (from_now Start) keeps
      (first_held c id i known terminals only)

  pub first_is_safe_across : (t : SideView User) → (parameters_for c.user id.sapi).k ≤ 127
      → (parameters_for c.network id.sapi).k ≤ 127 → slice_get Start.terminals i ≡ Some t
      → IsSafeAcross c id (changes_along c i after (from_now Start))
      (from_here (interface_of t Start))
  first_is_safe_across t small_p small_q at =
      link_safe_across c id low i after t Start small_p small_q at
      (first_new c id i known terminals t at) (first_sole c id i known terminals only) first_keeps

  pub first_is_nobody_elses_across : IsNobodyElses id i (after_across c after (from_now Start))
  first_is_nobody_elses_across = nobody_elses_across c id low i after Start
      (first_sole c id i known terminals only) first_keeps
