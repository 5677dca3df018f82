-- If no TEI in use is freed, and the network knows those in use, it assigns only TEIs that are not.
use Rattle.std.proofs.Common.{◌≡◌, ◌⊎◌, inl, inr, ℕ, zero, suc, ◌≤◌, List, [], ◌∷◌, ◌++◌, map, set, Bool, true, false, Option, Some, None, refl, sym, ap, subst, ◌∙◌}
use Rattle.std.specs.Prelude.{slice_get, ◌||◌}
use Rattle.std.specs.List.{list_any, filter_map}
use Rattle.std.proofs.lemmas.List.Folds.{list_any-append}
use Rattle.lapd_tei.specs.Assigner.{is_held}
use Rattle.lapd_tei.specs.Terminal.{tei_of, new_terminal}
use Rattle.lapd_sides_links.specs.Links.{Reaction}
use Rattle.lapd_sides.specs.Network.{Network}
use Rattle.lapd_sides.specs.User.{User, new_user, has_tei}
use Rattle.lapd_side_events.specs.Interface.{Configs, user_behaviour, network_behaviour}
use Rattle.lapd_side_events.specs.SideView.{SideView, SideEvent, reaction, left, does}
use Rattle.lapd_bus_laws.specs.Assignments.{Assignment, assignment_in, assignments, holds, is_of_tei, is_sent, is_taken}
use Rattle.lapd_side_events.specs.Bus.{Bus, BusEvent, OfTerminal, OfNetwork, Join, Restart, NewTerminal, new_bus, OverhearsNothing, reached_by, left_of, on_line_of, terminal_does, network_does, terminal_joins, bus_step}
use Rattle.lapd_bus_laws.specs.Freeing.{IsInUse, KnowsTeisInUse, FreesUnused, JoinsKnown, LosesNone}
use Rattle.lapd_bus_laws.specs.Holdings.{AssignsFree, AssignsTei}
use Rattle.lapd_bus_laws.specs.Links.{Throughout}
use Rattle.lapd_bus_laws.proofs.Assigns.{HasNoManagementLink, AssignsAtMostOne, event_assigns}
use Rattle.lapd_bus_laws.proofs.Claims.{any_left, same_tei, claim_is_taken, obtains_claimed, reached_by_none, reached_by_one}
use Rattle.lapd_bus_laws.proofs.Lists.{either_some, some_first, some_second, not_both, false_by}
use Rattle.lapd_side_events.proofs.Indices.{equal_index}
use Rattle.lapd_bus_laws.proofs.Obtains.{event_obtains}
use Rattle.lapd_bus_laws.proofs.Single.{no_management}
use Rattle.lapd_bus_laws.proofs.PremisesOfInterface.{has_so}

-- ---- Who has a TEI in use.

-- an element that is replaced passes only if the old one did
any_after_set : {X : Type 0} (p : X → Bool) (xs : List X) (k : ℕ) (old new : X) → slice_get xs k
    ≡ Some old → (p new ≡ true → p old ≡ true) → list_any p (set xs k new) ≡ true → list_any p xs
    ≡ true
any_after_set p [] k old new at may h = cc
any_after_set p (x ∷ xs) zero old new at may h = elim (either_some (p new) (list_any p xs) h) [
  | inl it ↦ (let e : x ≡ old = cc in some_first (p x) (list_any p xs)
      (subst (λ z. p z ≡ true) (sym e) (may it)))
  | inr rest ↦ some_second (p x) (list_any p xs) rest
]
any_after_set p (x ∷ xs) (suc k) old new at may h = elim (either_some (p x)
    (list_any p (set xs k new)) h) [
      | inl it ↦ some_first (p x) (list_any p xs) it
      | inr rest ↦ some_second (p x) (list_any p xs) (any_after_set p xs k old new at may rest)
    ]

any_after_map : {X Y : Type 0} (p : Y → Bool) (q : X → Bool) (f : X → Y) (xs : List X)
    → ((x : X) → p (f x) ≡ true → q x ≡ true) → list_any p (map f xs) ≡ true → list_any q xs ≡ true
any_after_map p q f [] may h = h
any_after_map p q f (x ∷ xs) may h = elim (either_some (p (f x)) (list_any p (map f xs)) h) [
  | inl it ↦ some_first (q x) (list_any q xs) (may x it)
  | inr rest ↦ some_second (q x) (list_any q xs) (any_after_map p q f xs may rest)
]

or_none : (b : Bool) → (b || false) ≡ true → b ≡ true
or_none true h = refl
or_none false h = cc

module _ (c : Configs) where
  -- what a terminal has in use after its event, it had before
  pub taken_before : (event : SideEvent) (t : SideView User) → OverhearsNothing event → (tei : ℕ)
      → is_taken tei (does (user_behaviour c.user) event t) ≡ true → is_taken tei t ≡ true
  unfolding does
  taken_before event t ok tei h =
      let o = event_obtains c.user event t ok in
      let phase = (reaction (user_behaviour c.user) event t).after.management.terminal in
      elim (either_some (has_tei tei (tei_of phase)) (list_any (is_of_tei tei)
      (filter_map assignment_in (left event t.incoming))) h) [
        | inl holding ↦ elim (o.held tei (has_so tei (tei_of phase) holding)) [
          | inl before ↦ some_first (holds tei t) (is_sent tei t)
              (subst (λ (x : Option ℕ). has_tei tei x ≡ true) (sym before) (same_tei tei))
          | inr got ↦ claim_is_taken tei t (obtains_claimed c event t ok tei got)
        ]
        | inr sent ↦ some_second (holds tei t) (is_sent tei t)
            (any_left (is_of_tei tei) event t.incoming sent)
      ]

  record Knows (b : Bus) : Type 0 where
    pub known : KnowsTeisInUse b
    pub management : HasNoManagementLink b.network

  terminal_knows : (b : Bus) (j : ℕ) (event : SideEvent) (o : Option (SideView User))
      → OverhearsNothing event → slice_get b.terminals j ≡ o → Knows b
      → Knows (terminal_does c j event o b)
  terminal_knows b j event None ok at h = h
  terminal_knows b j event (Some t) ok at h = record {
    known =
        λ tei low used.
        h.known tei low (any_after_set (is_taken tei) b.terminals j t
        (does (user_behaviour c.user) event t) at (taken_before event t ok tei) used);
    management = h.management;
  }

  module _ (b : Bus) (j : ℕ) (event : SideEvent) (t : SideView User)
      (at : slice_get b.terminals j ≡ Some t) where
    abbrev Done : Reaction Network
    Done = reaction (network_behaviour c.network) event (on_line_of t b)

    -- in use before, but for the assignment of the event
    used_before : (tei : ℕ) → list_any (is_taken tei) (set b.terminals j (left_of event t)) ≡ true
        → IsInUse tei b
    used_before tei used = any_after_set (is_taken tei) b.terminals j t (left_of event t) at
        (λ it. it) used

    reached_taken : AssignsAtMostOne c.network b.network Done → (tei : ℕ) (u : SideView User)
        → is_taken tei (reached_by Done.effects.frames u) ≡ true
        → (is_taken tei u ≡ true) ⊎ (is_held Done.after.management.held tei ≡ true)
    reached_taken (inl nothing) tei u h = inl (ap (λ (l : List Assignment).
        holds tei u || list_any (is_of_tei tei) l) (sym
        (reached_by_none Done.effects.frames u nothing.frames)) ∙ h)
    reached_taken (inr one) tei u h = elim one.frames [
      | inl none ↦ inl (ap (λ (l : List Assignment).
          holds tei u || list_any (is_of_tei tei) l) (sym
          (reached_by_none Done.effects.frames u none)) ∙ h)
      | inr its ↦
          let more : (holds tei u || list_any (is_of_tei tei)
          (assignments u ++ one.assignment ∷ [])) ≡ true =
          ap (λ (l : List Assignment).
          holds tei u || list_any (is_of_tei tei) l)
          (sym (reached_by_one Done.effects.frames one.assignment u its)) ∙ h in
          elim (either_some (holds tei u) _ more) [
            | inl it ↦ inl (some_first (holds tei u) (is_sent tei u) it)
            | inr sent ↦ elim (either_some (is_sent tei u) (is_of_tei tei one.assignment || false)
                (sym (list_any-append (is_of_tei tei) (assignments u) (one.assignment ∷ []))
                ∙ sent)) [
                  | inl before ↦ inl (some_second (holds tei u) (is_sent tei u) before)
                  | inr new ↦ inr (subst (λ n.
                      is_held Done.after.management.held n ≡ true)
                      (same_of one.assignment tei (or_none (is_of_tei tei one.assignment) new))
                      one.now_held)
                ]
          ]
    ]
      where
        same_of : (x : Assignment) (n : ℕ) → is_of_tei n x ≡ true → x.tei ≡ n
        same_of x n is = equal_index x.tei n is

    -- a TEI in use before stays held
    stays_held : AssignsAtMostOne c.network b.network Done → FreesUnused c (OfNetwork j event) b
        → (tei : ℕ) → IsInUse tei b → is_held b.network.management.held tei ≡ true
        → is_held Done.after.management.held tei ≡ true
    stays_held (inl nothing) frees tei used held = elim (nothing.keeps tei held) [
      | inl freed ↦ absurd (not_both (list_any (is_taken tei) b.terminals) used
          (frees t at tei freed))
      | inr stays ↦ stays
    ]
    stays_held (inr one) frees tei used held = one.keeps tei held

    network_knows_after : OverhearsNothing event → FreesUnused c (OfNetwork j event) b → Knows b
        → Knows (network_does c j event (Some t) b)
    network_knows_after ok frees h =
        let outcome = event_assigns c.network event (on_line_of t b) h.management in
        record {
          known = λ tei low used. by_test outcome tei low used h frees;
          management = management_after outcome;
        }
      where
        by_test : AssignsAtMostOne c.network b.network Done → (tei : ℕ) → 64 ≤ tei
            → list_any (is_taken tei) (map (reached_by Done.effects.frames)
            (set b.terminals j (left_of event t))) ≡ true → Knows b
            → FreesUnused c (OfNetwork j event) b
            → is_held Done.after.management.held tei ≡ true
        by_test outcome tei low used h frees = by (is_held Done.after.management.held tei) refl
          where
            by : (test : Bool) → is_held Done.after.management.held tei ≡ test
                → is_held Done.after.management.held tei ≡ true
            by true is = is
            by false is =
                let before = used_before tei (any_after_map (is_taken tei) (is_taken tei)
                (reached_by Done.effects.frames) (set b.terminals j (left_of event t))
                (λ u it. elim (reached_taken outcome tei u it) [
                  | inl had ↦ had
                  | inr held ↦ absurd (not_both _ held is)
                ]) used) in
                stays_held outcome frees tei before (h.known tei low before)

        management_after : AssignsAtMostOne c.network b.network Done
            → HasNoManagementLink Done.after
        management_after (inl nothing) = nothing.management
        management_after (inr one) = one.management

  network_knows : (b : Bus) (j : ℕ) (event : SideEvent) (o : Option (SideView User))
      → OverhearsNothing event → slice_get b.terminals j ≡ o → FreesUnused c (OfNetwork j event) b
      → Knows b → Knows (network_does c j event o b)
  network_knows b j event None ok at frees h = h
  network_knows b j event (Some t) ok at frees h = network_knows_after b j event t at ok frees h

  -- a terminal that joins has its fixed TEI, and what is in transit to it
  abbrev Joined : NewTerminal → SideView User → SideView User
  Joined new t = record t { now = new_user c.user new.fixed new.random }

  joined_taken : (new : NewTerminal) (t : SideView User) (tei : ℕ) → is_taken tei (Joined new t)
      ≡ true → (is_taken tei t ≡ true) ⊎ (new.fixed ≡ Some tei)
  joined_taken new t tei h = elim (either_some (has_tei tei (tei_of (new_terminal new.fixed)))
      (is_sent tei t) h) [
        | inl it ↦ inr (own new.fixed (has_so tei (tei_of (new_terminal new.fixed)) it))
        | inr sent ↦ inl (some_second (holds tei t) (is_sent tei t) sent)
      ]
    where
      own : (f : Option ℕ) → tei_of (new_terminal f) ≡ Some tei → f ≡ Some tei
      own None is = is
      own (Some n) is = is

  join_knows : (b : Bus) (j : ℕ) (new : NewTerminal) (o : Option (SideView User))
      → slice_get b.terminals j ≡ o → JoinsKnown (Join j new) b → Knows b
      → Knows (terminal_joins c j new o b)
  join_knows b j new None at joins h = h
  join_knows b j new (Some t) at joins h = record {
    known = λ tei low used. by (is_held b.network.management.held tei) tei low used refl;
    management = h.management;
  }
    where
      by : (test : Bool) (tei : ℕ) → 64 ≤ tei → list_any (is_taken tei)
          (set b.terminals j (Joined new t)) ≡ true → is_held b.network.management.held tei ≡ test
          → is_held b.network.management.held tei ≡ true
      by true tei low used is = is
      by false tei low used is = h.known tei low (any_after_set (is_taken tei) b.terminals j t
          (Joined new t) at
          (λ it. elim (joined_taken new t tei it) [
            | inl had ↦ had
            | inr fixed ↦ absurd (not_both _ (joins tei fixed low) is)
          ]) used)

  event_knows : (e : BusEvent) (b : Bus) → LosesNone c e b → Knows b → Knows (bus_step c e b)
  event_knows (OfTerminal j event) b is h = terminal_knows b j event (slice_get b.terminals j)
      is.of_bus refl h
  event_knows (OfNetwork j event) b is h = network_knows b j event (slice_get b.terminals j)
      is.of_bus refl is.frees h
  event_knows (Join j new) b is h = join_knows b j new (slice_get b.terminals j) refl is.joins h
  event_knows (Restart known) b is h = record {
    known = is.restarts;
    management =
        no_management c known;
  }

  -- ---- The network assigns no TEI that is in use.

  assigns_unused : (e : BusEvent) (b : Bus) → LosesNone c e b → Knows b → AssignsFree c e b
  assigns_unused (OfNetwork j event) b is h = λ t there tei given.
      by t tei given (event_assigns c.network event (on_line_of t b) h.management)
    where
      by : (t : SideView User) (tei : ℕ) → AssignsTei tei
          (reaction (network_behaviour c.network) event (on_line_of t b)).effects
          → AssignsAtMostOne c.network b.network (reaction (network_behaviour c.network) event
          (on_line_of t b)) → list_any (is_taken tei) b.terminals ≡ false
      by t tei given (inl nothing) = absurd (not_both _ given (nothing.delivered tei))
      by t tei given (inr one) =
          let same = one.only tei given in
          let low = subst (λ (n : ℕ). 64 ≤ n) same one.free.from in
          let free = subst (λ (n : ℕ).
          is_held b.network.management.held n ≡ false) same one.free.free in
          false_by _ (λ used. not_both _ (h.known tei low used) free)
  assigns_unused (OfTerminal j event) b is h = tt
  assigns_unused (Join j new) b is h = tt
  assigns_unused (Restart known) b is h = tt

  all_unused : (events : List BusEvent) (b : Bus) → Throughout c (LosesNone c) events b → Knows b
      → Throughout c (AssignsFree c) events b
  all_unused [] b is h = tt
  all_unused (e ∷ es) b is h = (
    assigns_unused e b is.0 h,
    all_unused es (bus_step c e b) is.1
        (event_knows e b is.0 h),
  )

  pub freeing_is_enough : (known : List ℕ) (terminals : List NewTerminal) (events : List BusEvent)
      → KnowsTeisInUse (new_bus c known terminals) → Throughout c (LosesNone c) events
      (new_bus c known terminals)
      → Throughout c (AssignsFree c) events (new_bus c known terminals)
  freeing_is_enough known terminals events begins is = all_unused events (new_bus c known terminals)
      is (record { known = begins; management = no_management c known })
