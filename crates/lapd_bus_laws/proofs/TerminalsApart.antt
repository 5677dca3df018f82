-- A bus whose terminals are apart, whatever events lead to it from a new one, has what the laws of
-- holdings need.
use Rattle.std.proofs.Common.{◌≡◌, inl, inr, ℕ, ◌&&◌, List, [], ◌∷◌, Bool, true, false, Option, Some, None, refl, sym, subst, ◌<◌}
use Rattle.std.specs.Prelude.{slice_get}
use Rattle.std.specs.List.{list_any}
use Rattle.lapd_tei.specs.declared.phase.Phase.{Phase}
use Rattle.lapd_tei.specs.declared.phase.Phase.TheVariants.{Unassigned, Awaiting, Assigned}
use Rattle.lapd_tei.specs.Terminal.{reference_of}
use Rattle.lapd_sides.specs.User.{User, has_tei}
use Rattle.lapd_side_events.specs.Interface.{Configs, user_behaviour, network_behaviour}
use Rattle.lapd_side_events.specs.SideView.{SideView, reaction, does}
use Rattle.lapd_two_side_laws.proofs.AsMade.{new_are_own, new_are_held}
use Rattle.lapd_two_side_laws.proofs.OwnSides.{AreHeld, network_preserves, AreOwn, user_preserves}
use Rattle.lapd_bus_laws.specs.Assignments.{holds, is_of_tei, is_sent, awaited, is_offer, assignments, claims, IsSingle}
use Rattle.lapd_side_events.specs.Bus.{Bus, BusEvent, OfTerminal, OfNetwork, Join, Restart, NewTerminal, connected, new_bus, reached_by, left_of, on_line_of, terminal_does, network_does, terminal_joins, bus_step, after_events}
use Rattle.lapd_bus_laws.specs.Healing.{Heals, HasNoManagementLink, IsChecked, IsAtRest, ReferencesDiffer, HoldTeis}
use Rattle.lapd_bus_laws.specs.Holdings.{IsOfBus, AreApart, IsReached}
use Rattle.lapd_bus_laws.specs.Links.{Throughout}
use Rattle.lapd_bus_laws.proofs.Healed.{event_management, checks_heal_all}
use Rattle.lapd_bus_laws.proofs.Lists.{Each, each_set, each_map, map_back, any_at, any_weaker, either_some, not_both}
use Rattle.lapd_bus_laws.proofs.Single.{KeepsApart, no_management, all_keep, new_keeps, single_from}
use Rattle.lapd_bus_laws.proofs.PremisesOfInterface.{has_so}

module _ (c : Configs) where
  abbrev IsOwn : SideView User → Type 0
  IsOwn t = AreOwn t.now

  -- what any events keep
  record IsSound (b : Bus) : Type 0 where
    pub management : HasNoManagementLink b.network
    pub own : Each IsOwn b.terminals
    pub held : AreHeld b.network

  own_after : (e : BusEvent) (b : Bus) → Each IsOwn b.terminals
      → Each IsOwn (bus_step c e b).terminals
  unfolding does
  own_after (OfTerminal j event) b h = by (slice_get b.terminals j) refl
    where
      by : (o : Option (SideView User)) → slice_get b.terminals j ≡ o
          → Each IsOwn (terminal_does c j event o b).terminals
      by None at = h
      by (Some t) at = each_set IsOwn b.terminals j (does (user_behaviour c.user) event t) h
          (user_preserves c.user t event (h j t at)).after
  own_after (OfNetwork j event) b h = by (slice_get b.terminals j) refl
    where
      by : (o : Option (SideView User)) → slice_get b.terminals j ≡ o
          → Each IsOwn (network_does c j event o b).terminals
      by None at = h
      by (Some t) at = each_map IsOwn IsOwn (reached_by (reaction (network_behaviour c.network)
          event (on_line_of t b)).effects.frames) _ (λ u own. own)
          (each_set IsOwn b.terminals j (left_of event t) h (h j t at))
  own_after (Join j new) b h = by (slice_get b.terminals j)
    where
      by : (o : Option (SideView User)) → Each IsOwn (terminal_joins c j new o b).terminals
      by None = h
      by (Some t) = each_set IsOwn b.terminals j _ h
          (new_are_own c.user new.fixed new.random)
  own_after (Restart known) b h = h

  held_after : (e : BusEvent) (b : Bus) → AreHeld b.network → AreHeld (bus_step c e b).network
  held_after (OfTerminal j event) b h = by (slice_get b.terminals j)
    where
      by : (o : Option (SideView User)) → AreHeld (terminal_does c j event o b).network
      by None = h
      by (Some t) = h
  held_after (OfNetwork j event) b h = by (slice_get b.terminals j)
    where
      by : (o : Option (SideView User)) → AreHeld (network_does c j event o b).network
      by None = h
      by (Some t) = (network_preserves c.network (on_line_of t b) event h).after
  held_after (Join j new) b h = by (slice_get b.terminals j)
    where
      by : (o : Option (SideView User)) → AreHeld (terminal_joins c j new o b).network
      by None = h
      by (Some t) = h
  held_after (Restart known) b h = new_are_held c.network known

  all_sound : (events : List BusEvent) (b : Bus)
      → Throughout c (λ (e : BusEvent) (b : Bus). IsOfBus e) events b → IsSound b
      → IsSound (after_events c events b)
  all_sound [] b is h = h
  all_sound (e ∷ es) b is h = all_sound es (bus_step c e b) is.1 (record {
    management = event_management c e b is.0 h.management;
    own = own_after e b h.own;
    held = held_after e b h.held;
  })

  new_sound : (known : List ℕ) (terminals : List NewTerminal) → IsSound (new_bus c known terminals)
  new_sound known terminals = record {
    management = no_management c known;
    own = λ k t there.
        (let m = map_back (connected c) terminals k t there in
        subst IsOwn m.2 (new_are_own c.user m.0.fixed m.0.random));
    held = new_are_held c.network known;
  }

  pub kept_apart : (b : Bus) → IsReached c b → KeepsApart c b
  kept_apart b r =
      let new = new_bus c r.known r.terminals in
      let start = after_events c r.before new in
      let sound = all_sound r.before new r.of_bus (new_sound r.known r.terminals) in
      subst (KeepsApart c) (sym r.reached) (all_keep c r.events start r.apart (record {
        claims = r.start.teis;
        references = r.start.references;
        management = sound.management;
        own = sound.own;
        held = sound.held;
      }))

  pub reached_is_single : (b : Bus) → IsReached c b → IsSingle b
  reached_is_single b r = single_from c b (kept_apart b r)

  -- the terminals of a new bus are apart, if its fixed TEIs differ
  pub new_are_apart : (known : List ℕ) (terminals : List NewTerminal)
      → IsSingle (new_bus c known terminals) → AreApart (new_bus c known terminals)
  new_are_apart known terminals single =
      let h = new_keeps c known terminals single in
      record { teis = h.claims; references = h.references }

-- ---- After checks of all TEIs.

-- without an assignment in transit, who claims a TEI holds it
claim_is_held : (tei : ℕ) (t : SideView User) → is_sent tei t ≡ false → claims tei t ≡ true
    → holds tei t ≡ true
claim_is_held tei t none h = elim (either_some (holds tei t)
    (list_any (is_offer tei t.now.management.terminal) (assignments t)) h) [
      | inl it ↦ it
      | inr offered ↦ absurd (not_both (is_sent tei t)
          (any_weaker (is_offer tei t.now.management.terminal) (is_of_tei tei) (assignments t)
          (λ a is. first (is_of_tei tei a) (has_tei a.reference
          (awaited t.now.management.terminal)) is) offered) none)
    ]
  where
    first : (a b : Bool) → (a && b) ≡ true → a ≡ true
    first true b h = refl
    first false b h = cc

awaits_last : (phase : Phase) (ri : ℕ) → awaited phase ≡ Some ri → reference_of phase ≡ Some ri
awaits_last Unassigned ri is = cc
awaits_last (Awaiting purpose count own) ri is = is
awaits_last (Assigned by tei) ri is = cc

pub healed_are_apart : (c : Configs) (b : Bus) (events : List BusEvent)
    → HasNoManagementLink b.network
    → ((tei : ℕ) → tei < 127 → Throughout c (Heals tei) events b × IsChecked c tei events b)
    → ((tei : ℕ) → IsAtRest tei (after_events c events b))
    → ReferencesDiffer (after_events c events b) → HoldTeis (after_events c events b)
    → AreApart (after_events c events b)
healed_are_apart c b events none all rest differ teis =
    let done = after_events c events b in
    let single = checks_heal_all c b events none (λ tei low.
    ((all tei low).0, (all tei low).1, rest tei)) differ teis in
    record {
      teis = λ tei i j t u hi hj ct cu. single tei i j t u hi hj
          (claim_is_held tei t (any_at (is_sent tei) done.terminals i t (rest tei) hi) ct)
          (claim_is_held tei u (any_at (is_sent tei) done.terminals j u (rest tei) hj) cu);
      references = λ ri i j t u hi hj wt wu. differ ri i j t u hi hj
          (awaits_last t.now.management.terminal ri
          (has_so ri (awaited t.now.management.terminal) wt))
          (awaits_last u.now.management.terminal ri
          (has_so ri (awaited u.now.management.terminal) wu));
    }
