-- Tests of a run that imply the premises, to compute worked runs.
use Rattle.std.proofs.Common.{◌≡◌, ◌⊎◌, inl, inr, ℕ, ◌==◌, ◌&&◌, not, List, [], ◌∷◌, map, Bool, true, false, Option, Some, None, refl, sym, subst, arith}
use Rattle.std.specs.Prelude.{slice_get, filter, ◌||◌, is_some}
use Rattle.std.specs.List.{list_any, remove}
use Rattle.std.proofs.lemmas.Bool.Decides.{nat_tests}
use Rattle.lapd_frame.specs.declared.Side.TheVariants as side
use Rattle.lapd_tei.specs.declared.out.TeiOut.TheVariants as outcome
use Rattle.lapd_tei.specs.Terminal.{tei_of, new_terminal}
use Rattle.lapd_table.specs.declared.link_id.LinkId.{LinkId}
use Rattle.lapd_sides_links.specs.declared.primitive.Primitive.{Primitive}
use Rattle.lapd_sides_links.specs.declared.primitive.Primitive.TheVariants.{Of, Management}
use Rattle.lapd_sides.specs.User.{User, has_tei}
use Rattle.lapd_two_side_laws.specs.Addressed.{is_for}
use Rattle.lapd_side_events.specs.Interface.{Configs, user_behaviour, network_behaviour}
use Rattle.lapd_two_side_laws.specs.Premises.{is_assignment}
use Rattle.lapd_side_events.specs.SideView.{SideView, SideEvent, Take, Lose, Expire, Ask, Overhear, reaction, does}
use Rattle.lapd_two_side_laws.proofs.Managed.{neither}
use Rattle.lapd_link_definition.proofs.Sending.{both_true}
use Rattle.lapd_two_side_laws.proofs.MoveTests.{not_so, is_timely, is_timely_so}
use Rattle.lapd_bus_laws.specs.Assignments.{holds, awaited, awaits, is_answered, claims, is_taken, IsSingle, IsHeldOnce}
use Rattle.lapd_side_events.specs.Bus.{Bus, BusEvent, OfTerminal, OfNetwork, Join, Restart, NewTerminal, connected, new_bus, OverhearsNothing, on_line_of, bus_step, after_events}
use Rattle.lapd_bus_laws.specs.Holdings.{AssignsFree, IsOwnReference, RequestsByItsOwn, RequestsUnanswered, JoinsWithFree, IsOfBus, KeepsTeisApart, IsReached, Assigns, IsOnlyClaimant, IsClear, LeavesAlone, KeepsHolding}
use Rattle.lapd_bus_laws.specs.Links.{ThroughoutBy, Throughout, IsTimelyFor, AssignsOthers}
use Rattle.lapd_bus_laws.proofs.Lists.{map_back, any_at, any_other, either_some}
use Rattle.lapd_side_events.proofs.Indices.{apart_index}
use Rattle.lapd_bus_laws.proofs.PremisesOfInterface.{has_not, has_so}
use Rattle.lapd_bus_laws.proofs.TerminalsApart.{new_are_apart}

-- ---- Any premise.

module _ (step : BusEvent → Bus → Bus) where
  abbrev pub passes_by : (BusEvent → Bus → Bool) → List BusEvent → Bus → Bool
  passes_by test [] b = true
  passes_by test (e ∷ es) b = test e b && passes_by test es (step e b)

  pub throughout_so : (P : BusEvent → Bus → Type 0) (test : BusEvent → Bus → Bool)
      → ((e : BusEvent) (b : Bus) → test e b ≡ true → P e b) → (events : List BusEvent) (b : Bus)
      → passes_by test events b ≡ true → ThroughoutBy step P events b
  throughout_so P test sound [] b h = tt
  throughout_so P test sound (e ∷ es) b h =
      let two = both_true (test e b) (passes_by test es (step e b)) h in
      (sound e b two.0, throughout_so P test sound es (step e b) two.1)

abbrev pub passes : Configs → (BusEvent → Bus → Bool) → List BusEvent → Bus → Bool
passes c test events b = passes_by (bus_step c) test events b

pub throughout_by : (c : Configs) (P : BusEvent → Bus → Type 0) (test : BusEvent → Bus → Bool)
    → ((e : BusEvent) (b : Bus) → test e b ≡ true → P e b) → (events : List BusEvent) (b : Bus)
    → passes c test events b ≡ true → Throughout c P events b
throughout_by c P test sound events b h = throughout_so (bus_step c) P test sound events b h

-- a test of the terminal at an index, if it exists
abbrev pub where_there : (SideView User → Bool) → Option (SideView User) → Bool
where_there test None = true
where_there test (Some t) = test t

pub there_so : (test : SideView User → Bool) (o : Option (SideView User)) (t : SideView User) → o
    ≡ Some t → where_there test o ≡ true → test t ≡ true
there_so test o t is h = subst (λ (x : Option (SideView User)). where_there test x ≡ true) is h

-- ---- Events of a bus.

abbrev overhears_nothing : SideEvent → Bool
overhears_nothing (Overhear octets now) = false
overhears_nothing event = true

overhears_nothing_so : (event : SideEvent) → overhears_nothing event ≡ true → OverhearsNothing event
overhears_nothing_so (Take now) h = tt
overhears_nothing_so (Lose at) h = tt
overhears_nothing_so (Expire timer of now) h = tt
overhears_nothing_so (Ask request now) h = tt
overhears_nothing_so (Overhear octets now) h = cc

abbrev pub of_bus : BusEvent → Bus → Bool
of_bus (OfTerminal j event) b = overhears_nothing event
of_bus (OfNetwork j event) b = overhears_nothing event
of_bus other b = true

pub of_bus_so : (e : BusEvent) (b : Bus) → of_bus e b ≡ true → IsOfBus e
of_bus_so (OfTerminal j event) b h = overhears_nothing_so event h
of_bus_so (OfNetwork j event) b h = overhears_nothing_so event h
of_bus_so (Join j new) b h = tt
of_bus_so (Restart known) b h = tt

abbrev pub leaves_alone : ℕ → ℕ → BusEvent → Bus → Bool
leaves_alone tei i (OfTerminal j event) b = overhears_nothing event
leaves_alone tei i (OfNetwork j event) b = overhears_nothing event
leaves_alone tei i (Join j new) b = not (j == i) && not (has_tei tei new.fixed)
leaves_alone tei i (Restart known) b = false

pub leaves_alone_so : (tei i : ℕ) (e : BusEvent) (b : Bus) → leaves_alone tei i e b ≡ true
    → LeavesAlone tei i e
leaves_alone_so tei i (OfTerminal j event) b h = overhears_nothing_so event h
leaves_alone_so tei i (OfNetwork j event) b h = overhears_nothing_so event h
leaves_alone_so tei i (Join j new) b h =
    let two = both_true (not (j == i)) (not (has_tei tei new.fixed)) h in
    (apart_index j i (not_so (j == i) two.0), has_not tei new.fixed (not_so _ two.1))
leaves_alone_so tei i (Restart known) b h = cc

-- ---- Assignments.

abbrev is_free : ℕ → List (SideView User) → Bool
is_free tei ts = not (list_any (is_taken tei) ts)

abbrev all_free : List Primitive → List (SideView User) → Bool
all_free [] ts = true
all_free (Management (outcome.Given tei) ∷ ps) ts = is_free tei ts && all_free ps ts
all_free (Management (outcome.Got tei) ∷ ps) ts = is_free tei ts && all_free ps ts
all_free (p ∷ ps) ts = all_free ps ts

free_one : (tei t : ℕ) (ps : List Primitive) (ts : List (SideView User)) → (t == tei) ≡ true
    → (is_free t ts && all_free ps ts) ≡ true → list_any (is_taken tei) ts ≡ false
free_one tei t ps ts is free =
    let same : t ≡ tei = grind (arith, nat_tests, is) in
    subst (λ n.
    list_any (is_taken n) ts ≡ false) same (not_so (list_any (is_taken t) ts)
    (both_true (is_free t ts) (all_free ps ts) free).0)

all_free_so : (tei : ℕ) (ps : List Primitive) (ts : List (SideView User)) → all_free ps ts ≡ true
    → list_any (is_assignment tei) ps ≡ true → list_any (is_taken tei) ts ≡ false
all_free_so tei [] ts free h = cc
all_free_so tei (Of id w ∷ ps) ts free h = all_free_so tei ps ts free h
all_free_so tei (Management (outcome.Given t) ∷ ps) ts free h =
    elim (either_some (t == tei) (list_any (is_assignment tei) ps) h) [
      | inl is ↦ free_one tei t ps ts is free
      | inr rest ↦ all_free_so tei ps ts (both_true (is_free t ts) (all_free ps ts) free).1 rest
    ]
all_free_so tei (Management (outcome.Got t) ∷ ps) ts free h =
    elim (either_some (t == tei) (list_any (is_assignment tei) ps) h) [
      | inl is ↦ free_one tei t ps ts is free
      | inr rest ↦ all_free_so tei ps ts (both_true (is_free t ts) (all_free ps ts) free).1 rest
    ]
all_free_so tei (Management (outcome.Free t) ∷ ps) ts free h = all_free_so tei ps ts free h
all_free_so tei (Management (outcome.Doubled t) ∷ ps) ts free h = all_free_so tei ps ts free h
all_free_so tei (Management (outcome.Gone t) ∷ ps) ts free h = all_free_so tei ps ts free h
all_free_so tei (Management (outcome.InUse t) ∷ ps) ts free h = all_free_so tei ps ts free h
all_free_so tei (Management outcome.Failed ∷ ps) ts free h = all_free_so tei ps ts free h
all_free_so tei (Management (outcome.Send m) ∷ ps) ts free h = all_free_so tei ps ts free h
all_free_so tei (Management (outcome.Start timer) ∷ ps) ts free h = all_free_so tei ps ts free h
all_free_so tei (Management (outcome.Stop timer) ∷ ps) ts free h = all_free_so tei ps ts free h

module _ (c : Configs) where
  abbrev delivered_by : SideEvent → Bus → SideView User → List Primitive
  delivered_by event b t = (reaction (network_behaviour c.network) event
      (on_line_of t b)).effects.primitives

  abbrev pub assigns_free : BusEvent → Bus → Bool
  assigns_free (OfNetwork j event) b = where_there (λ t.
      all_free (delivered_by event b t) b.terminals) (slice_get b.terminals j)
  assigns_free other b = true

  pub assigns_free_so : (e : BusEvent) (b : Bus) → assigns_free e b ≡ true → AssignsFree c e b
  assigns_free_so (OfNetwork j event) b h = λ t at tei given.
      all_free_so tei (delivered_by event b t) b.terminals
      (there_so
      (λ u. all_free (delivered_by event b u) b.terminals) (slice_get b.terminals j) t at h) given
  assigns_free_so (OfTerminal j event) b h = tt
  assigns_free_so (Join j new) b h = tt
  assigns_free_so (Restart known) b h = tt

  abbrev pub assigns_others : ℕ → BusEvent → Bus → Bool
  assigns_others tei (OfNetwork j event) b = where_there
      (λ t. not (list_any (is_assignment tei) (delivered_by event b t))) (slice_get b.terminals j)
  assigns_others tei other b = true

  pub assigns_others_so : (tei : ℕ) (e : BusEvent) (b : Bus) → assigns_others tei e b ≡ true
      → AssignsOthers c tei e b
  assigns_others_so tei (OfNetwork j event) b h = λ t at.
      not_so _ (there_so (λ u.
      not (list_any (is_assignment tei) (delivered_by event b u))) (slice_get b.terminals j) t at h)
  assigns_others_so tei (OfTerminal j event) b h = tt
  assigns_others_so tei (Join j new) b h = tt
  assigns_others_so tei (Restart known) b h = tt

  -- ---- References.

  abbrev is_own : ℕ → ℕ → SideView User → Bus → Bool
  is_own ri i t b = not (list_any (awaits ri) (remove b.terminals i)) && not (is_answered ri t)

  abbrev asks_by_own : Option ℕ → Option ℕ → ℕ → SideView User → Bus → Bool
  asks_by_own old None i t b = true
  asks_by_own old (Some ri) i t b = has_tei ri old || is_own ri i t b

  asks_by_own_so : (old new : Option ℕ) (i : ℕ) (t : SideView User) (b : Bus)
      → asks_by_own old new i t b ≡ true → (ri : ℕ) → new ≡ Some ri → (has_tei ri old ≡ true)
      ⊎ IsOwnReference ri i t b
  asks_by_own_so old None i t b h ri is = cc
  asks_by_own_so old (Some r) i t b h ri is =
      let same : r ≡ ri = cc in
      subst (λ n.
      (has_tei n old ≡ true) ⊎ IsOwnReference n i t b) same
      (elim (either_some (has_tei r old) (is_own r i t b) h) [
        | inl before ↦ inl before
        | inr own ↦ (let two = both_true (not (list_any (awaits r) (remove b.terminals i)))
            (not (is_answered r t)) own in inr (record {
              others = not_so _ two.0;
              unanswered =
                  not_so _ two.1;
            }))
      ])

  abbrev later : SideEvent → SideView User → SideView User
  later event t = does (user_behaviour c.user) event t

  abbrev asks_so : ℕ → SideEvent → Bus → SideView User → Bool
  asks_so i event b t =
      asks_by_own (awaited t.now.management.terminal)
      (awaited (later event t).now.management.terminal)
      i (later event t) b

  abbrev pub requests_by_its_own : BusEvent → Bus → Bool
  requests_by_its_own (OfTerminal i event) b = where_there (asks_so i event b)
      (slice_get b.terminals i)
  requests_by_its_own other b = true

  pub requests_by_its_own_so : (e : BusEvent) (b : Bus) → requests_by_its_own e b ≡ true
      → RequestsByItsOwn c e b
  requests_by_its_own_so (OfTerminal i event) b h = λ t at ri waits.
      asks_by_own_so (awaited t.now.management.terminal)
      (awaited (later event t).now.management.terminal) i
      (later event t) b (there_so (asks_so i event b) (slice_get b.terminals i) t at h) ri
      (has_so ri (awaited (later event t).now.management.terminal) waits)
  requests_by_its_own_so (OfNetwork j event) b h = tt
  requests_by_its_own_so (Join j new) b h = tt
  requests_by_its_own_so (Restart known) b h = tt

  -- ---- Fixed TEIs.

  abbrev joins_so : Option ℕ → List (SideView User) → Bool
  joins_so None ts = true
  joins_so (Some tei) ts = is_free tei ts

  abbrev pub joins_with_free : BusEvent → Bus → Bool
  joins_with_free (Join i new) b = joins_so new.fixed (remove b.terminals i)
  joins_with_free other b = true

  pub joins_with_free_so : (e : BusEvent) (b : Bus) → joins_with_free e b ≡ true → JoinsWithFree e b
  joins_with_free_so (Join i new) b h = λ tei is. not_so _ (subst (λ (o : Option ℕ).
      joins_so o (remove b.terminals i) ≡ true) is h)
  joins_with_free_so (OfTerminal j event) b h = tt
  joins_with_free_so (OfNetwork j event) b h = tt
  joins_with_free_so (Restart known) b h = tt

  -- ---- All premises on TEIs.

  abbrev pub keeps_teis_apart : BusEvent → Bus → Bool
  keeps_teis_apart e b = of_bus e b && (assigns_free e b &&
      (requests_by_its_own e b && joins_with_free e b))

  pub keeps_teis_apart_so : (e : BusEvent) (b : Bus) → keeps_teis_apart e b ≡ true
      → KeepsTeisApart c e b
  keeps_teis_apart_so e b h =
      let one = both_true (of_bus e b) _ h in
      let two = both_true (assigns_free e b) _ one.1 in
      let three = both_true (requests_by_its_own e b) (joins_with_free e b) two.1 in
      record {
        of_bus = of_bus_so e b one.0;
        assigns = assigns_free_so e b two.0;
        requests = requests_by_its_own_so e b three.0;
        joins = joins_with_free_so e b three.1;
      }

  -- ---- T200, and all premises of a holding.

  abbrev pub timely_for : LinkId → ℕ → BusEvent → Bus → Bool
  timely_for id i (OfTerminal j event) b = where_there (λ t.
      is_timely side.User id event t) (slice_get b.terminals i)
  timely_for id i (OfNetwork j event) b = where_there (λ t.
      is_timely side.Network id event (on_line_of t b)) (slice_get b.terminals i)
  timely_for id i other b = true

  pub timely_for_so : (id : LinkId) (i : ℕ) (e : BusEvent) (b : Bus) → timely_for id i e b ≡ true
      → IsTimelyFor id i e b
  timely_for_so id i (OfTerminal j event) b h = λ same t at.
      is_timely_so side.User id event t (there_so (λ u.
      is_timely side.User id event u) (slice_get b.terminals i) t at h)
  timely_for_so id i (OfNetwork j event) b h =
      λ t at. is_timely_so side.Network id event (on_line_of t b) (there_so (λ u.
      is_timely side.Network id event (on_line_of u b)) (slice_get b.terminals i) t at h)
  timely_for_so id i (Join j new) b h = tt
  timely_for_so id i (Restart known) b h = tt

  pub own_is_unanswered : (e : BusEvent) (b : Bus) → RequestsByItsOwn c e b → RequestsUnanswered c e b
  own_is_unanswered (OfTerminal i event) b own = λ t at ri waits. elim (own t at ri waits) [
    | inl before ↦ inl before
    | inr new ↦ inr new.unanswered
  ]
  own_is_unanswered (OfNetwork j event) b own = tt
  own_is_unanswered (Join j new) b own = tt
  own_is_unanswered (Restart known) b own = tt

  abbrev pub keeps_holding : LinkId → ℕ → BusEvent → Bus → Bool
  keeps_holding id i e b = leaves_alone id.tei i e b && (timely_for id i e b &&
      (assigns_others id.tei e b && requests_by_its_own e b))

  pub keeps_holding_so : (id : LinkId) (i : ℕ) (e : BusEvent) (b : Bus) → keeps_holding id i e b
      ≡ true → KeepsHolding c id i e b
  keeps_holding_so id i e b h =
      let one = both_true (leaves_alone id.tei i e b) _ h in
      let two = both_true (timely_for id i e b) _ one.1 in
      let three = both_true (assigns_others id.tei e b) (requests_by_its_own e b) two.1 in
      record {
        leaves = leaves_alone_so id.tei i e b one.0;
        timely = timely_for_so id i e b two.0;
        assigns = assigns_others_so id.tei e b three.0;
        requests = own_is_unanswered e b (requests_by_its_own_so e b three.1);
      }

  -- ---- Two holders, or none.

  pub no_fixed_is_single : (known : List ℕ) (terminals : List NewTerminal)
      → list_any (λ (n : NewTerminal).
      is_some n.fixed) terminals ≡ false → IsSingle (new_bus c known terminals)
  no_fixed_is_single known terminals none = λ tei i j t u hi hj ht hu. absurd (holder tei i t hi ht)
    where
      without : (tei : ℕ) (fixed : Option ℕ) → is_some fixed ≡ false
          → has_tei tei (tei_of (new_terminal fixed)) ≡ true → ⊥
      without tei None none h = cc
      without tei (Some t) none h = cc

      holder : (tei k : ℕ) (t : SideView User) → slice_get (map (connected c) terminals) k ≡ Some t
          → holds tei t ≡ true → ⊥
      holder tei k t there h =
          let m = map_back (connected c) terminals k t there in
          without tei m.0.fixed (any_at (λ (n : NewTerminal).
          is_some n.fixed) terminals k m.0 none m.1)
          (subst (λ (x : SideView User). holds tei x ≡ true) (sym m.2) h)

  -- events that keep the premises lead there from terminals without fixed TEIs
  pub reached_from_none : (known : List ℕ) (terminals : List NewTerminal)
      → list_any (λ (n : NewTerminal). is_some n.fixed) terminals ≡ false
      → (events : List BusEvent)
      → passes c keeps_teis_apart events (new_bus c known terminals) ≡ true
      → IsReached c (after_events c events (new_bus c known terminals))
  reached_from_none known terminals none events apart = record {
    known = known;
    terminals = terminals;
    before = [];
    of_bus = tt;
    start = new_are_apart c known terminals (no_fixed_is_single known terminals none);
    events = events;
    apart = throughout_by c (KeepsTeisApart c) keeps_teis_apart keeps_teis_apart_so events
        (new_bus c known terminals) apart;
    reached = refl;
  }

abbrev holds_at : ℕ → Option (SideView User) → Bool
holds_at tei None = false
holds_at tei (Some t) = holds tei t

-- the first two terminals hold this TEI
abbrev pub both_hold : ℕ → Bus → Bool
both_hold tei b = holds_at tei (slice_get b.terminals 0) && holds_at tei (slice_get b.terminals 1)

pub both_hold_it : (tei : ℕ) (b : Bus) → both_hold tei b ≡ true → IsHeldOnce tei b → ⊥
both_hold_it tei b h once = by (slice_get b.terminals 0) (slice_get b.terminals 1) refl refl h
  where
    by : (o p : Option (SideView User)) → slice_get b.terminals 0 ≡ o → slice_get b.terminals 1 ≡ p
        → (holds_at tei o && holds_at tei p) ≡ true → ⊥
    by None p first second h = cc
    by (Some t) None first second h = (let two = both_true (holds tei t) false h in let no = two.1 in
        cc)
    by (Some t) (Some u) first second h =
        let two = both_true (holds tei t) (holds tei u) h in
        let same : 0 ≡ 1 = once 0 1 t u first second two.0 two.1 in
        omega (arith, same)

pub both_hold_so : (tei : ℕ) (b : Bus) → both_hold tei b ≡ true → IsSingle b → ⊥
both_hold_so tei b h single = both_hold_it tei b h (single tei)

-- ---- The moment of the assignment.

abbrev where_assigned : Configs → ℕ → SideEvent → Bus → Option (SideView User) → Bool
where_assigned c tei event b None = false
where_assigned c tei event b (Some t) = list_any (is_assignment tei) (delivered_by c event b t)

abbrev pub assigns_now : Configs → ℕ → BusEvent → Bus → Bool
assigns_now c tei (OfNetwork j event) b = where_assigned c tei event b (slice_get b.terminals j)
assigns_now c tei other b = false

pub assigns_now_so : (c : Configs) (tei : ℕ) (e : BusEvent) (b : Bus) → assigns_now c tei e b ≡ true
    → Assigns c tei e b
assigns_now_so c tei (OfNetwork j event) b h = by (slice_get b.terminals j) refl h
  where
    by : (o : Option (SideView User)) → slice_get b.terminals j ≡ o → where_assigned c tei event b o
        ≡ true
        → (t : SideView User) × (slice_get b.terminals j ≡ Some t)
        × (list_any (is_assignment tei) (delivered_by c event b t) ≡ true)
    by None at given = cc
    by (Some t) at given = (t, at, given)
assigns_now_so c tei (OfTerminal j event) b h = cc
assigns_now_so c tei (Join j new) b h = cc
assigns_now_so c tei (Restart known) b h = cc

pub only_claimant_so : (tei i : ℕ) (b : Bus) → list_any (claims tei) (remove b.terminals i) ≡ false
    → IsOnlyClaimant tei i b
only_claimant_so tei i b none =
    λ k t there apart. any_other (claims tei) b.terminals i k t none there apart

filter_none : {X : Type 0} (p : X → Bool) (xs : List X) → list_any p xs ≡ false → filter p xs ≡ []
filter_none p [] none = refl
filter_none p (x ∷ xs) none = (let two = neither (p x) (list_any p xs) none in
    rw two.0 (filter_none p xs two.1))

abbrev pub has_octets : LinkId → SideView User → Bool
has_octets id t = list_any (is_for side.User id) t.outgoing

abbrev pub is_clear : LinkId → ℕ → Bus → Bool
is_clear id i b = not (list_any (has_octets id) b.terminals) && where_there
    (λ t. not (list_any (is_for side.Network id) t.incoming)) (slice_get b.terminals i)

pub is_clear_so : (id : LinkId) (i : ℕ) (b : Bus) → is_clear id i b ≡ true → IsClear id i b
is_clear_so id i b h =
    let two = both_true (not (list_any (has_octets id) b.terminals)) _ h in
    record {
      to_network = λ k t there.
          filter_none (is_for side.User id) t.outgoing (any_at (has_octets id) b.terminals k t
          (not_so _ two.0) there);
      to_terminal = λ t there.
          filter_none (is_for side.Network id) t.incoming
          (not_so _ (there_so (λ u.
          not (list_any (is_for side.Network id) u.incoming)) (slice_get b.terminals i) t there
          two.1));
    }
