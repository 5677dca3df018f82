-- Each link of a TEI is safe, from the assignment of the TEI to the next: the terminal that claims
-- the TEI obtains it at most once, and no other terminal obtains it.
use Rattle.std.proofs.Common.{◌≡◌, ◌⊎◌, inl, inr, ℕ, ◌<◌, ◌≤◌, List, [], ◌∷◌, set, Bool, true, false, if◌then◌else◌, Option, Some, None, refl, sym, ap, subst, ◌∙◌}
use Rattle.std.specs.Prelude.{slice_get, is_some}
use Rattle.std.specs.List.{list_any, AllByRecursion}
use Rattle.lapd_link_definition.specs.End.{new_end}
use Rattle.lapd_frame.specs.declared.Side.TheVariants as side
use Rattle.lapd_tei.specs.declared.phase.Phase.{Phase}
use Rattle.lapd_tei.specs.declared.phase.Phase.TheVariants.{Unassigned, Awaiting, Assigned}
use Rattle.lapd_tei.specs.Terminal.{tei_of}
use Rattle.lapd_table.specs.declared.link_id.LinkId.{LinkId}
use Rattle.lapd_sides_links.specs.Links.{Links, Linked, Reaction, is_link_of, or_new, with_tei, parameters_for}
use Rattle.lapd_sides.specs.Network.{Network}
use Rattle.lapd_sides.specs.User.{User}
use Rattle.lapd_two_side_laws.specs.Addressed.{those_for}
use Rattle.lapd_side_events.specs.Interface.{Configs, fresh_link, from_here, network_behaviour}
use Rattle.lapd_two_side_laws.specs.Premises.{SatisfyPremises}
use Rattle.lapd_two_side_laws.specs.Projects.{HasLink, AwaitsLink, IsSafeAt}
use Rattle.lapd_side_events.specs.SideView.{SideView, SideEvent, reaction}
use Rattle.lapd_two_side_laws.proofs.AsMade.{new_are_own, new_of_user, new_of_network}
use Rattle.lapd_two_side_laws.proofs.Managed.{neither}
use Rattle.lapd_two_side_laws.proofs.OwnSides.{network_preserves}
use Rattle.lapd_two_side_laws.proofs.TerminalOwn.{Owns}
use Rattle.lapd_two_side_laws.proofs.Timed.{new_is_timed}
use Rattle.lapd_bus_laws.specs.Assignments.{holds, is_sent, claims, is_taken}
use Rattle.lapd_side_events.specs.Bus.{Bus, BusEvent, OfTerminal, OfNetwork, Join, Restart, NewTerminal, KeepsTerminal, connected, new_bus, recorded_anew, from_now, reached_by, left_of, on_line_of, network_does, bus_step, after_events, interface_of, moves_along}
use Rattle.lapd_bus_laws.specs.Holdings.{KeepsTeisApart, IsReached, AssignsTei, Assigns, IsOnlyClaimant, IsClearToNetwork, LeavesAlone, KeepsHolding}
use Rattle.lapd_bus_laws.specs.Links.{IsAside, IsNewHere, Throughout, IsTimelyFor, AssignsOthers, ObtainsOnce, IsSole, IsNobodyElses}
use Rattle.lapd_bus_laws.proofs.TerminalsApart.{kept_apart}
use Rattle.lapd_bus_laws.proofs.Assigns.{AssignsOne, AssignsAtMostOne, event_assigns}
use Rattle.lapd_bus_laws.proofs.Held.{IsUnclaimed, IsSpent, IsHeld, event_holds, obtains_here}
use Rattle.lapd_bus_laws.proofs.Lists.{Each, each_set, each_map, others_map, map_back, any_at, not_both, false_by}
use Rattle.lapd_bus_laws.proofs.PremisesOfInterface.{has_not, meets_now, safe_here, nobody_elses}
use Rattle.lapd_bus_laws.proofs.Single.{no_management, KeepsApart, event_keeps}

owner_holds : (phase : Phase) (n : ℕ) → Owns phase n → tei_of phase ≡ Some n
owner_holds Unassigned n own = absurd own
owner_holds (Awaiting purpose count r) n own = absurd own
owner_holds (Assigned by t) n own = ap Some own

none_by : (o : Option Linked) → (is_some o ≡ true → ⊥) → o ≡ None
none_by None none = refl
none_by (Some l) none = absurd (none refl)

-- ---- The assignment.

module _ (c : Configs) (id : LinkId) (b : Bus) (h : KeepsApart c b) where
  -- a terminal that does not hold the TEI has no link of it
  pub absent_at : (k : ℕ) (u : SideView User) → slice_get b.terminals k ≡ Some u → holds id.tei u
      ≡ false → u.now.served.links id ≡ None
  absent_at k u there unheld = none_by (u.now.served.links id) (λ link.
      has_not id.tei (tei_of u.now.management.terminal) unheld
      (owner_holds u.now.management.terminal id.tei (h.own k u there id link)))

  module _ (j : ℕ) (event : SideEvent) (t : SideView User)
      (at : slice_get b.terminals j ≡ Some t)
      (free : list_any (is_taken id.tei) b.terminals ≡ false)
      (given : AssignsTei id.tei (reaction (network_behaviour c.network) event
      (on_line_of t b)).effects) where
    abbrev Step : Reaction Network
    Step = reaction (network_behaviour c.network) event (on_line_of t b)

    -- no terminal holds the TEI
    none_holds : Each (λ (u : SideView User).
        holds id.tei u ≡ false) (network_does c j event (Some t) b).terminals
    none_holds = each_map (λ (u : SideView User). is_taken id.tei u ≡ false)
        (λ (u : SideView User). holds id.tei u ≡ false) (reached_by Step.effects.frames)
        (set b.terminals j (left_of event t))
        (λ u none. (neither (holds id.tei u) (is_sent id.tei u) none).0)
        (each_set (λ (u : SideView User).
        is_taken id.tei u ≡ false) b.terminals j (left_of event t)
        (λ k u there. any_at (is_taken id.tei) b.terminals k u free there)
        (any_at (is_taken id.tei) b.terminals j t free at))

    assigned_one : AssignsAtMostOne c.network b.network Step → AssignsOne c.network b.network Step
    assigned_one (inl nothing) = absurd (not_both _ given (nothing.delivered id.tei))
    assigned_one (inr one) = one

    abbrev One : AssignsOne c.network b.network Step
    One = assigned_one (event_assigns c.network event (on_line_of t b) h.management)

    -- the network's link is new
    pub absent_before : b.network.served.links id ≡ None
    absent_before = none_by (b.network.served.links id) (λ there.
        not_both _ given ((network_preserves c.network (on_line_of t b) event h.held).quiet id
        there))

    new_by : (links : Links) (tei : ℕ) → links id ≡ None → (with_tei c.network tei links id ≡ None)
        ⊎ (with_tei c.network tei links id ≡ Some (fresh_link c.network id))
    unfolding with_tei
    new_by links tei none = by_test (is_link_of c.network tei id)
      where
        by_test : (test : Bool) → ((if test then or_new (fresh_link c.network id) (links id)
            else links id) ≡ None) ⊎ ((if test then or_new (fresh_link c.network id) (links id)
            else links id) ≡ Some (fresh_link c.network id))
        by_test true = inr (ap (or_new (fresh_link c.network id)) none)
        by_test false = inl none

    network_is_new : HasLink Step.after.served.links id (new_end (parameters_for c.network id.sapi))
        ⊎ AwaitsLink (fresh_link c.network id) Step.after.served.links id
        (new_end (parameters_for c.network id.sapi))
    network_is_new = elim (new_by b.network.served.links One.assignment.tei absent_before) [
      | inl none ↦ inr (record { absent = One.links id ∙ none; end = refl })
      | inr fresh ↦ inl (record {
        linked = fresh_link c.network id;
        there = One.links id ∙ fresh;
        end = refl;
        timed = new_is_timed (parameters_for c.network id.sapi) c.network.durations;
      })
    ]

-- what the assignment leaves
pub record IsAssigned (c : Configs) (id : LinkId) (b : Bus) : Type 0 where
  pub unheld : Each (λ (u : SideView User). holds id.tei u ≡ false) b.terminals
  pub network : HasLink b.network.served.links id (new_end (parameters_for c.network id.sapi))
      ⊎ AwaitsLink (fresh_link c.network id) b.network.served.links id
      (new_end (parameters_for c.network id.sapi))

pub assigned_now : (c : Configs) (id : LinkId) (b : Bus) (e : BusEvent) → KeepsApart c b
    → KeepsTeisApart c e b → Assigns c id.tei e b → IsAssigned c id (bus_step c e b)
assigned_now c id b (OfNetwork j event) h is (t, at, given) =
    let free = is.assigns t at id.tei given in
    subst (λ (o : Option (SideView User)). IsAssigned c id (network_does c j event o b)) (sym at)
    (record {
      unheld = none_holds c id b h j event t at free given;
      network = network_is_new c id b h j event t at free given;
    })
assigned_now c id b (OfTerminal j event) h is impossible = absurd impossible
assigned_now c id b (Join j new) h is impossible = absurd impossible
assigned_now c id b (Restart known) h is impossible = absurd impossible

-- ---- From a bus on whose terminals are apart.

pub only_one : (c : Configs) (b : Bus) → KeepsApart c b → (tei i : ℕ) (t : SideView User)
    → slice_get b.terminals i ≡ Some t → claims tei t ≡ true → IsOnlyClaimant tei i b
only_one c b h tei i t at claim = λ k u there apart. false_by (claims tei u) (λ other.
    apart (h.claims tei k i u t there at other claim))

module _ (c : Configs) (id : LinkId) (i : ℕ) (b : Bus) (apart : KeepsApart c b)
    (only : IsOnlyClaimant id.tei i b) where
  pub held_now : IsHeld c id i (from_now b)
  held_now = record {
    others = others_map (IsUnclaimed c id i) (IsUnclaimed c id i) recorded_anew i b.terminals
        (λ u none. none) only;
    mine = λ u there. (let m = map_back recorded_anew b.terminals i u there in
        subst (IsSpent c id i) m.2 (record {
          own = apart.own i m.0 m.1;
          spent = λ past. (let no : false ≡ true = past in cc);
        }));
    management = apart.management;
  }

  module _ (clear : IsClearToNetwork id b) where
    pub sole_now : IsSole id i b
    sole_now = λ k u there aside.
        (let unheld = (neither (holds id.tei u) _ (only k u there aside)).0 in
        record {
          unheld = unheld;
          link = absent_at c id b apart k u there unheld;
          line = clear k u there;
        })

    pub new_now : (t : SideView User) → IsAssigned c id b → slice_get b.terminals i ≡ Some t
        → those_for side.Network id t.incoming ≡ []
        → IsNewHere c id (parameters_for c.user id.sapi) (parameters_for c.network id.sapi) t b
    new_now t left at to_terminal = record {
      user = inr (record {
        absent = absent_at c id b apart i t at (left.unheld i t at);
        end = refl;
      });
      network = left.network;
      to_user = to_terminal;
      to_network = clear i t at;
    }

-- ---- From the start.

module _ (c : Configs) (id : LinkId) (i : ℕ) (known : List ℕ) (terminals : List NewTerminal) where
  abbrev pub First : Bus
  First = new_bus c known terminals

  new_is_spent : (new : NewTerminal) → IsSpent c id i (recorded_anew (connected c new))
  new_is_spent new = record {
    own = new_are_own c.user new.fixed new.random;
    spent = λ past. refl;
  }

  new_is_aside : (new : NewTerminal) → claims id.tei (connected c new) ≡ false
      → IsAside id (connected c new)
  new_is_aside new none =
      let unheld = (neither (holds id.tei (connected c new)) _ none).0 in
      record {
        unheld = unheld;
        link = none_by ((connected c new).now.served.links id) (λ link.
            has_not id.tei (tei_of (connected c new).now.management.terminal) unheld
            (owner_holds (connected c new).now.management.terminal id.tei
            (new_are_own c.user new.fixed new.random id link)));
        line = refl;
      }

  pub first_new : (t : SideView User) → slice_get First.terminals i ≡ Some t
      → IsNewHere c id (parameters_for c.user id.sapi) (parameters_for c.network id.sapi) t First
  first_new t at =
      let m = map_back (connected c) terminals i t at in
      let new : IsNewHere c id (parameters_for c.user id.sapi) (parameters_for c.network id.sapi)
      (connected c m.0) First = record {
        user = new_of_user c.user id m.0.fixed m.0.random;
        network = new_of_network c.network id known;
        to_user = refl;
        to_network = refl;
      } in
      subst (λ (x : SideView User). IsNewHere c id (parameters_for c.user id.sapi)
      (parameters_for c.network id.sapi) x First) m.2 new

  module _ (only : IsOnlyClaimant id.tei i First) where
    pub first_held : IsHeld c id i (from_now First)
    first_held = record {
      others = others_map (IsUnclaimed c id i) (IsUnclaimed c id i) recorded_anew i
          First.terminals (λ u none. none) only;
      mine = λ u there.
          (let m = map_back recorded_anew First.terminals i u there in
          let n = map_back (connected c) terminals i m.0 m.1 in
          subst (IsSpent c id i) (ap recorded_anew n.2 ∙ m.2) (new_is_spent n.0));
      management = no_management c known;
    }

    pub first_sole : IsSole id i First
    first_sole = λ k u there apart.
        (let m = map_back (connected c) terminals k u there in
        subst (λ (x : SideView User). claims id.tei x ≡ false → IsAside id x) m.2
        (new_is_aside m.0) (only k u there apart))

-- ---- Every event of a holding.

module _ (c : Configs) (id : LinkId) (i : ℕ) where
  keeps_terminal : (e : BusEvent) → LeavesAlone id.tei i e → KeepsTerminal i e
  keeps_terminal (OfTerminal j event) is = is
  keeps_terminal (OfNetwork j event) is = is
  keeps_terminal (Join j new) is = is.0
  keeps_terminal (Restart known) is = is

  -- what the premises of a holding are to the link
  pub record LinkKept (events : List BusEvent) (b : Bus) : Type 0 where
    pub terminal : AllByRecursion (KeepsTerminal i) events
    pub timely : Throughout c (IsTimelyFor id i) events b
    pub assigns : Throughout c (AssignsOthers c id.tei) events b
    pub once : Throughout c (ObtainsOnce c id i) events b

  pub link_kept : (events : List BusEvent) (b : Bus) → Throughout c (KeepsHolding c id i) events b
      → IsHeld c id i b → LinkKept events b
  link_kept [] b is h = record { terminal = tt; timely = tt; assigns = tt; once = tt }
  link_kept (e ∷ es) b is h =
      let later = link_kept es (bus_step c e b) is.1
      (event_holds c id i e b is.0.leaves is.0.assigns is.0.requests h) in
      record {
        terminal = (keeps_terminal e is.0.leaves, later.terminal);
        timely = (is.0.timely, later.timely);
        assigns = (is.0.assigns, later.assigns);
        once = (obtains_here c id i e b is.0.leaves h, later.once);
      }

-- ---- The laws.

module _ (c : Configs) (id : LinkId) (low : id.tei < 127) (i : ℕ) (b : Bus)
    (after : List BusEvent) (keeps : Throughout c (KeepsHolding c id i) after (from_now b))
    (held : IsHeld c id i (from_now b)) (sole : IsSole id i b) where
  abbrev Kept : LinkKept c id i after (from_now b)
  Kept = link_kept c id i after (from_now b) keeps held

  pub keeps_premises : (t : SideView User) → slice_get b.terminals i ≡ Some t
      → SatisfyPremises c id (moves_along c i after (from_now b)) (from_here (interface_of t b))
  keeps_premises t at = meets_now c id low i after t b Kept.terminal at sole Kept.timely
      Kept.assigns Kept.once

  safe_if_new : (t : SideView User) → (parameters_for c.user id.sapi).k ≤ 127
      → (parameters_for c.network id.sapi).k ≤ 127 → slice_get b.terminals i ≡ Some t
      → IsNewHere c id (parameters_for c.user id.sapi) (parameters_for c.network id.sapi) t b
      → IsSafeAt c id (moves_along c i after (from_now b)) (from_here (interface_of t b))
  safe_if_new t small_p small_q at new = safe_here c id low i (parameters_for c.user id.sapi)
      (parameters_for c.network id.sapi) after t b small_p small_q Kept.terminal at new sole
      Kept.timely Kept.assigns Kept.once

  no_one_elses : IsNobodyElses id i (after_events c after (from_now b))
  no_one_elses = nobody_elses c id low i after b Kept.terminal sole Kept.once

pub one_claimant : (c : Configs) (b : Bus) (e : BusEvent) (tei i : ℕ) (t : SideView User)
    → IsReached c b → KeepsTeisApart c e b → slice_get (bus_step c e b).terminals i ≡ Some t
    → claims tei t ≡ true → IsOnlyClaimant tei i (bus_step c e b)
one_claimant c b e tei i t reached is =
    only_one c (bus_step c e b) (event_keeps c e b is (kept_apart c b reached)) tei i t

module _ (c : Configs) (id : LinkId) (low : id.tei < 127) (i : ℕ) (b : Bus) (e : BusEvent)
    (after : List BusEvent) (reached : IsReached c b) (is : KeepsTeisApart c e b)
    (assigned : Assigns c id.tei e b)
    (only : IsOnlyClaimant id.tei i (bus_step c e b)) (clear : IsClearToNetwork id (bus_step c e b))
    (keeps : Throughout c (KeepsHolding c id i) after (from_now (bus_step c e b))) where
  abbrev Now : Bus
  Now = bus_step c e b

  apart : KeepsApart c Now
  apart = event_keeps c e b is (kept_apart c b reached)

  pub holding_is_safe : (t : SideView User) → (parameters_for c.user id.sapi).k ≤ 127
      → (parameters_for c.network id.sapi).k ≤ 127 → slice_get Now.terminals i ≡ Some t
      → those_for side.Network id t.incoming ≡ []
      → IsSafeAt c id (moves_along c i after (from_now Now)) (from_here (interface_of t Now))
  holding_is_safe t small_p small_q at to_terminal = safe_if_new c id low i Now after keeps
      (held_now c id i Now apart only) (sole_now c id i Now apart only clear) t small_p small_q at
      (new_now c id i Now apart only clear t
      (assigned_now c id b e (kept_apart c b reached) is assigned) at to_terminal)

  pub holding_is_nobody_elses : IsNobodyElses id i (after_events c after (from_now Now))
  holding_is_nobody_elses = no_one_elses c id low i Now after keeps
      (held_now c id i Now apart only) (sole_now c id i Now apart only clear)

module _ (c : Configs) (id : LinkId) (low : id.tei < 127) (i : ℕ) (known : List ℕ)
    (terminals : List NewTerminal) (after : List BusEvent)
    (only : IsOnlyClaimant id.tei i (new_bus c known terminals))
    (keeps : Throughout c (KeepsHolding c id i) after (from_now (new_bus c known terminals))) where
  abbrev Start : Bus
  Start = new_bus c known terminals

  pub first_is_safe : (t : SideView User) → (parameters_for c.user id.sapi).k ≤ 127
      → (parameters_for c.network id.sapi).k ≤ 127 → slice_get Start.terminals i ≡ Some t
      → IsSafeAt c id (moves_along c i after (from_now Start)) (from_here (interface_of t Start))
  first_is_safe t small_p small_q at = safe_if_new c id low i Start after keeps
      (first_held c id i known terminals only) (first_sole c id i known terminals only) t small_p
      small_q at (first_new c id i known terminals t at)

  pub first_is_nobody_elses : IsNobodyElses id i (after_events c after (from_now Start))
  first_is_nobody_elses = no_one_elses c id low i Start after keeps
      (first_held c id i known terminals only) (first_sole c id i known terminals only)
