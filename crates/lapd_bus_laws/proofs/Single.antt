-- Every event of a bus keeps each TEI to one terminal.
use Rattle.std.proofs.Common.{◌≡◌, inl, inr, ℕ, ◌==◌, List, [], ◌∷◌, map, set, Bool, true, false, Option, Some, None, refl, sym, ap, subst, ◌∙◌, arith}
use Rattle.std.specs.Prelude.{slice_get, ◌||◌}
use Rattle.std.specs.List.{list_any}
use Rattle.std.proofs.lemmas.Bool.Decides.{nat_tests}
use Rattle.lapd_tei.specs.declared.phase.Phase.{Phase}
use Rattle.lapd_tei.specs.Terminal.{tei_of, new_terminal}
use Rattle.lapd_sides_links.specs.Links.{Reaction, links_below}
use Rattle.lapd_sides.specs.Network.{Network, new_network}
use Rattle.lapd_sides.specs.User.{User, new_user, has_tei}
use Rattle.lapd_side_events.specs.Interface.{Configs, user_behaviour, network_behaviour}
use Rattle.lapd_side_events.specs.SideView.{SideView, SideEvent, reaction, does}
use Rattle.lapd_two_side_laws.proofs.AsMade.{new_are_own, new_are_held}
use Rattle.lapd_two_side_laws.proofs.OwnSides.{AreHeld, network_preserves, AreOwn, user_preserves}
use Rattle.lapd_bus_laws.specs.Assignments.{Assignment, holds, is_of_tei, awaited, awaits, has_reference, is_offer, is_taken, IsSingle}
use Rattle.lapd_side_events.specs.Bus.{Bus, BusEvent, OfTerminal, OfNetwork, Join, Restart, NewTerminal, connected, new_bus, OverhearsNothing, reached_by, left_of, on_line_of, with_terminal, terminal_does, network_does, terminal_joins, bus_step, after_events}
use Rattle.lapd_bus_laws.specs.Holdings.{AssignsFree, RequestsByItsOwn, JoinsWithFree, KeepsTeisApart}
use Rattle.lapd_bus_laws.specs.Links.{Throughout}
use Rattle.lapd_bus_laws.proofs.Assigns.{HasNoManagementLink, AssignsAtMostOne, event_assigns}
use Rattle.lapd_bus_laws.proofs.Claims.{Claims, Awaits, claim_is_taken, claims_before, reached_without, reached_by_assignment}
use Rattle.lapd_link_definition.proofs.Sending.{both_true}
use Rattle.lapd_bus_laws.proofs.Lists.{Each, Unique, each_set, each_map, unique_set, unique_map, map_back, any_at, any_other, either_some, some_first, not_both, false_by, any_weaker}
use Rattle.lapd_bus_laws.proofs.PremisesOfInterface.{has_so, fixed_tei}

-- ---- A terminal that starts requests nothing.

none_any : {X : Type 0} (xs : List X) → list_any (λ (x : X). false) xs ≡ true → ⊥
none_any [] h = cc
none_any (x ∷ xs) h = none_any xs h

-- if no assignment has the reference that is awaited, none is an offer
pub no_offer : (tei : ℕ) (phase : Phase) (line : List Assignment)
    → ((ri : ℕ) → awaited phase ≡ Some ri → list_any (has_reference ri) line ≡ false)
    → list_any (is_offer tei phase) line ≡ false
no_offer tei phase line unanswered = false_by _ (λ offer. by (awaited phase) refl offer)
  where
    impossible : (ri : ℕ) → has_tei ri None ≡ true → ⊥
    impossible ri is = cc

    same_reference : (ri n : ℕ) → (ri == n) ≡ true → (n == ri) ≡ true
    same_reference ri n e = grind (arith, nat_tests, e)

    by : (o : Option ℕ) → awaited phase ≡ o → list_any (is_offer tei phase) line ≡ true → ⊥
    by None is offer = none_any line (any_weaker (is_offer tei phase)
        (λ (a : Assignment). false) line (λ a it.
        absurd (impossible a.reference (ap (has_tei a.reference) (sym is)
        ∙ (both_true (is_of_tei tei a) (has_tei a.reference (awaited phase)) it).1))) offer)
    by (Some ri) is offer = not_both (list_any (has_reference ri) line)
        (any_weaker (is_offer tei phase) (has_reference ri) line (λ a it.
        same_reference ri a.reference (ap (has_tei a.reference) (sym is)
        ∙ (both_true (is_of_tei tei a) (has_tei a.reference (awaited phase)) it).1)) offer)
        (unanswered ri is)

pub requests_none : (ri : ℕ) (fixed : Option ℕ) → awaited (new_terminal fixed) ≡ Some ri → ⊥
requests_none ri None is = cc
requests_none ri (Some tei) is = cc

pub none_offered : (tei : ℕ) (fixed : Option ℕ) (line : List Assignment)
    → list_any (is_offer tei (new_terminal fixed)) line ≡ false
none_offered tei fixed line = no_offer tei (new_terminal fixed) line
    (λ ri is. absurd (requests_none ri fixed is))

pub fixed_of : (tei : ℕ) (fixed : Option ℕ) (line : List Assignment)
    → (has_tei tei (tei_of (new_terminal fixed)) || list_any (is_offer tei (new_terminal fixed))
    line) ≡ true → fixed ≡ Some tei
fixed_of tei fixed line h = elim (either_some (has_tei tei (tei_of (new_terminal fixed)))
    (list_any (is_offer tei (new_terminal fixed)) line) h) [
      | inl it ↦ fixed_tei fixed tei (has_so tei (tei_of (new_terminal fixed)) it)
      | inr offer ↦ absurd (not_both _ offer (none_offered tei fixed line))
    ]

-- ---- The invariant.

module _ (c : Configs) where
  pub record KeepsApart (b : Bus) : Type 0 where
    pub claims : (tei : ℕ) → Unique (Claims tei) b.terminals
    pub references : (ri : ℕ) → Unique (Awaits ri) b.terminals
    pub management : HasNoManagementLink b.network
    pub own : Each (λ (t : SideView User). AreOwn t.now) b.terminals
    pub held : AreHeld b.network

  abbrev IsOwn : SideView User → Type 0
  IsOwn t = AreOwn t.now

  terminal_keeps : (b : Bus) (j : ℕ) (event : SideEvent) (o : Option (SideView User))
      → OverhearsNothing event → slice_get b.terminals j ≡ o
      → RequestsByItsOwn c (OfTerminal j event) b → KeepsApart b
      → KeepsApart (terminal_does c j event o b)
  unfolding does
  terminal_keeps b j event None ok at requests h = h
  terminal_keeps b j event (Some t) ok at requests h =
      let after = does (user_behaviour c.user) event t in
      record {
        claims = λ tei. unique_set (Claims tei) b.terminals j t after at (h.claims tei) (λ claim.
            inl (claims_before c event t ok
            (λ ri waits. elim (requests t at ri waits) [
              | inl before ↦ inl before
              | inr new ↦ inr new.unanswered
            ]) tei claim));
        references =
            λ ri. unique_set (Awaits ri) b.terminals j t after at (h.references ri) (λ waits.
            elim (requests t at ri waits) [
              | inl before ↦ inl before
              | inr new ↦ inr (λ k u there apart other.
                  not_both (awaits ri u) other (any_other (awaits ri) b.terminals j k u new.others
                  there
                  apart))
            ]);
        management = h.management;
        own = each_set IsOwn b.terminals j after h.own (user_preserves c.user t event
            (h.own j t at)).after;
        held = h.held;
      }

  module _ (b : Bus) (j : ℕ) (event : SideEvent) (t : SideView User) (ok : OverhearsNothing event)
      (at : slice_get b.terminals j ≡ Some t) (assigns : AssignsFree c (OfNetwork j event) b)
      (h : KeepsApart b) where
    abbrev Done : Reaction Network
    Done = reaction (network_behaviour c.network) event (on_line_of t b)

    abbrev Left : List (SideView User)
    Left = set b.terminals j (left_of event t)

    claims_left : (tei : ℕ) → Unique (Claims tei) Left
    claims_left tei = unique_set (Claims tei) b.terminals j t (left_of event t) at (h.claims tei)
        (λ claim. inl claim)

    references_left : (ri : ℕ) → Unique (Awaits ri) Left
    references_left ri = unique_set (Awaits ri) b.terminals j t (left_of event t) at
        (h.references ri) (λ waits. inl waits)

    -- a TEI that is assigned was not claimed
    free_left : (tei : ℕ) → list_any (is_taken tei) b.terminals ≡ false
        → Each (λ (u : SideView User). is_taken tei u ≡ false) Left
    free_left tei free = each_set (λ (u : SideView User).
        is_taken tei u ≡ false) b.terminals j (left_of event t)
        (λ k u there.
        any_at (is_taken tei) b.terminals k u free there)
        (any_at (is_taken tei) b.terminals j t free at)

    claims_after : AssignsAtMostOne c.network b.network Done → (tei : ℕ)
        → Unique (Claims tei) (map (reached_by Done.effects.frames) Left)
    claims_after (inl nothing) tei = unique_map (Claims tei) (Claims tei)
        (reached_by Done.effects.frames) Left (λ k u there claim.
        reached_without tei Done.effects.frames u nothing.frames claim) (claims_left tei)
    claims_after (inr one) tei = by_test (one.assignment.tei == tei) refl
      where
        by_test : (test : Bool) → (one.assignment.tei == tei) ≡ test
            → Unique (Claims tei) (map (reached_by Done.effects.frames) Left)
        by_test false apart = unique_map (Claims tei) (Claims tei) (reached_by Done.effects.frames)
            Left
            (λ k u there claim. elim (reached_by_assignment c b.network Done one tei u claim) [
              | inl before ↦ before
              | inr new ↦ (let same = new.0 in let no : true ≡ false =
                  grind (arith, nat_tests, same, apart) in cc)
            ]) (claims_left tei)
        by_test true same =
            let e : one.assignment.tei ≡ tei = grind (arith, nat_tests, same) in
            let free = free_left tei
            (subst (λ n.
            list_any (is_taken n) b.terminals ≡ false) e
            (assigns t at one.assignment.tei one.given)) in
            unique_map (Awaits one.assignment.reference) (Claims tei)
            (reached_by Done.effects.frames) Left
            (λ k u there claim. elim (reached_by_assignment c b.network Done one tei u claim) [
              | inl before ↦ absurd (not_both (is_taken tei u) (claim_is_taken tei u before)
                  (free k u there))
              | inr new ↦ new.1
            ]) (references_left one.assignment.reference)

    management_after : AssignsAtMostOne c.network b.network Done → HasNoManagementLink Done.after
    management_after (inl nothing) = nothing.management
    management_after (inr one) = one.management

    network_did_keep : KeepsApart (network_does c j event (Some t) b)
    network_did_keep =
        let outcome = event_assigns c.network event (on_line_of t b) h.management in
        record {
          claims = claims_after outcome;
          references =
              λ ri.
              unique_map (Awaits ri) (Awaits ri) (reached_by Done.effects.frames) Left
              (λ k u there waits. waits) (references_left ri);
          management = management_after outcome;
          own = each_map IsOwn IsOwn (reached_by Done.effects.frames) Left
              (λ u own. own) (each_set IsOwn b.terminals j (left_of event t) h.own (h.own j t at));
          held = (network_preserves c.network (on_line_of t b) event h.held).after;
        }

  network_keeps : (b : Bus) (j : ℕ) (event : SideEvent) (o : Option (SideView User))
      → OverhearsNothing event → slice_get b.terminals j ≡ o → AssignsFree c (OfNetwork j event) b
      → KeepsApart b
      → KeepsApart (network_does c j event o b)
  network_keeps b j event None ok at assigns h = h
  network_keeps b j event (Some t) ok at assigns h = network_did_keep b j event t ok at assigns h

  -- a terminal starts anew, and claims its fixed TEI alone
  pub start_keeps : (b : Bus) (j : ℕ) (new : NewTerminal) (t after : SideView User)
      → slice_get b.terminals j ≡ Some t → JoinsWithFree (Join j new) b
      → ((tei : ℕ) → Claims tei after → new.fixed ≡ Some tei)
      → ((ri : ℕ) → awaited after.now.management.terminal ≡ Some ri → ⊥) → AreOwn after.now
      → KeepsApart b → KeepsApart (with_terminal j after b)
  start_keeps b j new t after at joins fixed none own h = record {
    claims = λ tei. unique_set (Claims tei) b.terminals j t after at (h.claims tei) (λ claim.
        inr (λ k u there apart other.
        not_both (is_taken tei u) (claim_is_taken tei u other)
        (any_other (is_taken tei) b.terminals j k u (joins tei (fixed tei claim)) there apart)));
    references = λ ri. unique_set (Awaits ri) b.terminals j t after at (h.references ri) (λ waits.
        absurd (none ri (has_so ri (awaited after.now.management.terminal) waits)));
    management = h.management;
    own = each_set IsOwn b.terminals j after h.own own;
    held = h.held;
  }

  join_keeps : (b : Bus) (j : ℕ) (new : NewTerminal) (o : Option (SideView User))
      → slice_get b.terminals j ≡ o → JoinsWithFree (Join j new) b → KeepsApart b
      → KeepsApart (terminal_joins c j new o b)
  join_keeps b j new None at joins h = h
  join_keeps b j new (Some t) at joins h =
      start_keeps b j new t (record t { now = new_user c.user new.fixed new.random }) at joins
      (λ tei claim. fixed_of tei new.fixed _ claim) (λ ri is. requests_none ri new.fixed is)
      (new_are_own c.user new.fixed new.random) h

  pub no_management : (known : List ℕ) → HasNoManagementLink (new_network c.network known)
  unfolding links_below
  no_management known = refl

  pub event_keeps : (e : BusEvent) (b : Bus) → KeepsTeisApart c e b → KeepsApart b
      → KeepsApart (bus_step c e b)
  event_keeps (OfTerminal j event) b is h = terminal_keeps b j event (slice_get b.terminals j)
      is.of_bus refl is.requests h
  event_keeps (OfNetwork j event) b is h = network_keeps b j event (slice_get b.terminals j)
      is.of_bus refl is.assigns h
  event_keeps (Join j new) b is h = join_keeps b j new (slice_get b.terminals j) refl is.joins h
  event_keeps (Restart known) b is h = record {
    claims = h.claims;
    references = h.references;
    management = no_management known;
    own = h.own;
    held = new_are_held c.network known;
  }

  pub all_keep : (events : List BusEvent) (b : Bus) → Throughout c (KeepsTeisApart c) events b
      → KeepsApart b → KeepsApart (after_events c events b)
  all_keep [] b is h = h
  all_keep (e ∷ es) b is h = all_keep es (bus_step c e b) is.1 (event_keeps e b is.0 h)

  -- ---- A new bus.

  or_none : (b : Bool) → (b || false) ≡ true → b ≡ true
  or_none true h = refl
  or_none false h = cc

  pub new_keeps : (known : List ℕ) (terminals : List NewTerminal)
      → IsSingle (new_bus c known terminals) → KeepsApart (new_bus c known terminals)
  new_keeps known terminals single = record {
    claims = λ tei i j t u hi hj ct cu.
        single tei i j t u hi hj (holder tei i t hi ct) (holder tei j u hj cu);
    references = λ ri i j t u hi hj wt wu. absurd (no_request ri i t hi wt);
    management = no_management known;
    own =
        λ k t there.
        (let m = map_back (connected c) terminals k t there in
        subst IsOwn m.2 (new_are_own c.user m.0.fixed m.0.random));
    held = new_are_held c.network known;
  }
    where
      holder : (tei k : ℕ) (t : SideView User) → slice_get (map (connected c) terminals) k ≡ Some t
          → Claims tei t → holds tei t ≡ true
      holder tei k t there claim =
          let m = map_back (connected c) terminals k t there in
          subst (λ (x : SideView User).
          Claims tei x → holds tei x ≡ true) m.2 (or_none (holds tei (connected c m.0))) claim

      no_request : (ri k : ℕ) (t : SideView User) → slice_get (map (connected c) terminals) k
          ≡ Some t → Awaits ri t → ⊥
      no_request ri k t there waits =
          let m = map_back (connected c) terminals k t there in
          subst (λ (x : SideView User). Awaits ri x → ⊥) m.2 (λ w. requests_none ri m.0.fixed
          (has_so ri (awaited (new_terminal m.0.fixed)) w)) waits

  pub single_from : (b : Bus) → KeepsApart b → IsSingle b
  single_from b h = λ tei i j t u hi hj ht hu.
      h.claims tei i j t u hi hj (some_first (holds tei t) _ ht) (some_first (holds tei u) _ hu)

  pub every_bus_single : (known : List ℕ) (terminals : List NewTerminal) (events : List BusEvent)
      → IsSingle (new_bus c known terminals) → Throughout c (KeepsTeisApart c) events
      (new_bus c known terminals)
      → IsSingle (after_events c events (new_bus c known terminals))
  every_bus_single known terminals events single is =
      let b = new_bus c known terminals in
      single_from (after_events c events b) (all_keep events b is
      (new_keeps known terminals single))
