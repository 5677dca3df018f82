-- The worked runs of a holding, computed. Each ends in a state that is not right.
use Rattle.std.proofs.Common.{◌≡◌, inl, inr, ℕ, List, [], ◌∷◌, Bool, true, false, Option, Some, None, refl, subst, arith}
use Rattle.std.specs.Prelude.{Vec, slice_get}
use Rattle.std.specs.List.{list_any}
use Rattle.std.specs.declared.alloc.Global.{Global}
use Rattle.lapd_table.specs.declared.link_id.LinkId.{LinkId}
use Rattle.lapd_sides.specs.User.{User}
use Rattle.lapd_link_definition.specs.declared.out.Letter.{Letter}
use Rattle.lapd_link_definition.specs.declared.out.Letter.TheVariants as letter
use Rattle.lapd_link_definition.specs.Reports.{IsExpected}
use Rattle.lapd_pair_laws.specs.Schedule.{one_message, two_messages}
use Rattle.lapd_sides_links.specs.declared.primitive.What.{What}
use Rattle.lapd_sides_links.specs.declared.primitive.What.TheVariants as what
use Rattle.lapd_two_side_laws.specs.Primitives.{link_primitives, given_to, known_of, IsReceived, IsExpectedOfLink, AreExpectedOfLink}
use Rattle.lapd_two_side_laws.specs.Schedule.{configs, call, IsMessage}
use Rattle.lapd_side_events.specs.SideView.{SideView}
use Rattle.lapd_two_side_laws.proofs.Computed.{Fits, holding, with_both, first_for_second, second_for_first}
use Rattle.lapd_side_events.specs.Bus.{Bus, from_now, bus_step, after_events}
use Rattle.lapd_bus_laws.specs.HoldingRuns.{IsReceivedByTerminal, IsReceivedByNetwork, KeepsAllButT200, KeepsAllButAssigning, KeepsAllButRequesting, KeepsAllButLeaving, joined, replaced, restarted, from_first, hasty, regained, leaves_sabme, assigns_second, with_old_sabme, answers_old, from_twins, taken_twice}
use Rattle.lapd_bus_laws.specs.Holdings.{RequestsByItsOwn, KeepsTeisApart, IsReached, Assigns, IsOnlyClaimant, LeavesAlone, KeepsHolding}
use Rattle.lapd_bus_laws.specs.Links.{Throughout, IsTimelyFor, AssignsOthers, IsNobodyElses}
use Rattle.lapd_bus_laws.specs.Runs.{waiting_terminal, other_random}
use Rattle.lapd_bus_laws.proofs.Checks.{throughout_by, leaves_alone, leaves_alone_so, timely_for, timely_for_so, assigns_others, assigns_others_so, requests_by_its_own, requests_by_its_own_so, keeps_teis_apart_so, keeps_holding, keeps_holding_so, reached_from_none, assigns_now_so, only_claimant_so}
use Rattle.lapd_bus_laws.proofs.Lists.{either_some}
use Rattle.lapd_sides.specs.Worked as sides
use Rattle.lapd_two_side_laws.proofs.ComputedEvents.{computed_events}

-- ---- The messages that a terminal received and submitted, and its knowledge, if it exists.

module _ (id : LinkId) where
  abbrev pub received_at : Option (SideView User) → List (List ℕ)
  received_at None = []
  received_at (Some t) = (known_of id t.delivered).received

  abbrev pub given_at : Option (SideView User) → List (List ℕ)
  given_at None = []
  given_at (Some t) = given_to id t.given

  abbrev pub acked_at : Option (SideView User) → List ℕ
  acked_at None = []
  acked_at (Some t) = (known_of id t.delivered).acked

  -- the first message counts as acknowledged, and the second alone was received
  pub not_by_network : (b : Bus) → given_at (slice_get b.terminals 0) ≡ two_messages
      → acked_at (slice_get b.terminals 0) ≡ 0 ∷ []
      → (known_of id b.delivered).received ≡ (2 ∷ []) ∷ [] → IsReceivedByNetwork id 0 b → ⊥
  not_by_network b given acked received h = by (slice_get b.terminals 0) refl given acked
    where
      by : (o : Option (SideView User)) → slice_get b.terminals 0 ≡ o → given_at o ≡ two_messages
          → acked_at o ≡ 0 ∷ [] → ⊥
      by None at is acks = cc
      by (Some t) at is acks = second_for_first _ _ _ is acks received (h t at)

abbrev delivered_at : Option (SideView User) → List What
delivered_at None = []
delivered_at (Some t) = link_primitives call t.delivered

-- the terminal received these messages, which is not right
not_by_terminal : (b : Bus) (message : List ℕ) (more : List (List ℕ))
    → received_at call (slice_get b.terminals 0) ≡ message ∷ more
    → ((received : List (List ℕ)) → received ≡ message ∷ more
    → IsReceived (given_to call b.given) (known_of call b.delivered).acked received → ⊥)
    → IsReceivedByTerminal call 0 b → ⊥
not_by_terminal b message more is wrong h = by (slice_get b.terminals 0) refl is
  where
    by : (o : Option (SideView User)) → slice_get b.terminals 0 ≡ o
        → received_at call o ≡ message ∷ more → ⊥
    by None at is = cc
    by (Some t) at is = wrong (known_of call t.delivered).received is (h t at)

-- an error that no lost frame leads to
abbrev is_unexpected_letter : Letter → Bool
is_unexpected_letter letter.F = false
is_unexpected_letter letter.G = false
is_unexpected_letter letter.H = false
is_unexpected_letter letter.I = false
is_unexpected_letter other = true

abbrev is_unexpected : What → Bool
is_unexpected (what.Report l) = is_unexpected_letter l
is_unexpected other = false

letter_unexpected : (l : Letter) → is_unexpected_letter l ≡ true → IsExpected l → ⊥
letter_unexpected letter.F h e = cc
letter_unexpected letter.G h e = cc
letter_unexpected letter.H h e = cc
letter_unexpected letter.I h e = cc
letter_unexpected other h e = e

report_unexpected : (w : What) → is_unexpected w ≡ true → IsExpectedOfLink w → ⊥
report_unexpected (what.Report l) h e = letter_unexpected l h e
report_unexpected other h e = cc

unexpected : (ws : List What) → list_any is_unexpected ws ≡ true → AreExpectedOfLink ws → ⊥
unexpected [] h e = cc
unexpected (w ∷ ws) h e = elim (either_some (is_unexpected w) (list_any is_unexpected ws) h) [
  | inl it ↦ report_unexpected w it e.0
  | inr rest ↦ unexpected ws rest e.1
]

unexpected_at : (b : Bus) → list_any is_unexpected (delivered_at (slice_get b.terminals 1)) ≡ true
    → (t : SideView User) → slice_get b.terminals 1 ≡ Some t
    → AreExpectedOfLink (link_primitives call t.delivered) → ⊥
unexpected_at b h t at = unexpected (link_primitives call t.delivered)
    (subst (λ (o : Option (SideView User)). list_any is_unexpected (delivered_at o) ≡ true) at h)

someone_elses : (b : Bus) → list_any is_unexpected (delivered_at (slice_get b.terminals 1)) ≡ true
    → IsNobodyElses call 0 b → ⊥
someone_elses b h nobody = by (slice_get b.terminals 1) refl h
  where
    apart : (n m : ℕ) → n ≡ 1 → m ≡ 0 → n ≡ m → ⊥
    apart n m one none same = omega (arith, one, none, same)

    by : (o : Option (SideView User)) → slice_get b.terminals 1 ≡ o
        → list_any is_unexpected (delivered_at o) ≡ true → ⊥
    by None at is = cc
    by (Some t) at is = (let none : link_primitives call t.delivered ≡ [] =
        nobody 1 t at (apart 1 0 refl refl) in
        let empty : list_any is_unexpected [] ≡ true = subst (λ ws.
        list_any is_unexpected ws ≡ true) none is in cc)

-- ---- T200 expires too early.

pub record Hasty (first second : Vec ℕ Global) : Type 0 where
  pub keeps : KeepsAllButT200 call 0 (hasty first second) from_first
  pub given : given_to call (after_events configs (hasty first second) from_first).given
      ≡ two_messages
  pub acked : (known_of call (after_events configs (hasty first second) from_first).delivered).acked
      ≡ 1 ∷ []
  pub received : received_at call (slice_get (after_events configs (hasty first second)
      from_first).terminals 0) ≡ one_message

hasty_holds : (v w : Vec ℕ Global) (x : Fits v (1 ∷ [])) (y : Fits w (2 ∷ []))
    → Hasty (holding v (1 ∷ []) x) (holding w (2 ∷ []) y)
unfolding computed_events
hasty_holds v w x y =
    let run = hasty (holding v (1 ∷ []) x) (holding w (2 ∷ []) y) in
    record {
      keeps = (
        throughout_by configs (λ e b.
            LeavesAlone 64 0 e) (leaves_alone 64 0) (leaves_alone_so 64 0) run from_first refl,
        throughout_by configs (AssignsOthers configs 64) (assigns_others configs 64)
            (assigns_others_so configs 64) run from_first refl,
        throughout_by configs (RequestsByItsOwn configs) (requests_by_its_own configs)
            (requests_by_its_own_so configs) run from_first refl,
      );
      given = refl;
      acked = refl;
      received = refl;
    }

pub hasty_so : (first second : Vec ℕ Global) → IsMessage 1 first → IsMessage 2 second
    → Hasty first second
hasty_so = with_both Hasty (1 ∷ []) (2 ∷ []) hasty_holds

pub hasty_is_not_right : (first second : Vec ℕ Global) → IsMessage 1 first → IsMessage 2 second
    → IsReceivedByTerminal call 0 (after_events configs (hasty first second) from_first) → ⊥
hasty_is_not_right first second one two =
    let h = hasty_so first second one two in
    not_by_terminal (after_events configs (hasty first second) from_first) (1 ∷ []) [] h.received
    (λ received is. first_for_second _ _ received h.given h.acked is)

-- ---- The TEI is assigned again.

pub record Regained (first second : Vec ℕ Global) : Type 0 where
  pub keeps : KeepsAllButAssigning call 0 (regained first second) from_first
  pub given : given_at call (slice_get (after_events configs (regained first second)
      from_first).terminals 0) ≡ two_messages
  pub acked : acked_at call (slice_get (after_events configs (regained first second)
      from_first).terminals 0) ≡ 0 ∷ []
  pub received : (known_of call (after_events configs (regained first second)
      from_first).delivered).received ≡ (2 ∷ []) ∷ []

regained_holds : (v w : Vec ℕ Global) (x : Fits v (1 ∷ [])) (y : Fits w (2 ∷ []))
    → Regained (holding v (1 ∷ []) x) (holding w (2 ∷ []) y)
unfolding computed_events
regained_holds v w x y =
    let run = regained (holding v (1 ∷ []) x) (holding w (2 ∷ []) y) in
    record {
      keeps = (
        throughout_by configs (λ e b.
            LeavesAlone 64 0 e) (leaves_alone 64 0) (leaves_alone_so 64 0) run from_first refl,
        throughout_by configs (IsTimelyFor call 0) (timely_for configs call 0)
            (timely_for_so configs call 0) run from_first refl,
        throughout_by configs (RequestsByItsOwn configs) (requests_by_its_own configs)
            (requests_by_its_own_so configs) run from_first refl,
      );
      given = refl;
      acked = refl;
      received = refl;
    }

pub regained_so : (first second : Vec ℕ Global) → IsMessage 1 first → IsMessage 2 second
    → Regained first second
regained_so = with_both Regained (1 ∷ []) (2 ∷ []) regained_holds

pub regained_is_not_right : (first second : Vec ℕ Global) → IsMessage 1 first → IsMessage 2 second
    → IsReceivedByNetwork call 0 (after_events configs (regained first second) from_first) → ⊥
regained_is_not_right first second one two =
    let h = regained_so first second one two in
    not_by_network call (after_events configs (regained first second) from_first) h.given h.acked
    h.received

-- ---- Octets of the link are in transit to the network.

pub old_is_reached : IsReached configs with_old_sabme
unfolding computed_events
old_is_reached = reached_from_none configs []
    (waiting_terminal sides.random ∷ waiting_terminal other_random ∷ []) refl leaves_sabme refl

pub old_assigns_apart : KeepsTeisApart configs assigns_second with_old_sabme
unfolding computed_events
old_assigns_apart = keeps_teis_apart_so configs assigns_second with_old_sabme refl

pub old_assigns : Assigns configs 64 assigns_second with_old_sabme
unfolding computed_events
old_assigns = assigns_now_so configs 64 assigns_second with_old_sabme refl

pub old_claims : IsOnlyClaimant 64 1 (bus_step configs assigns_second with_old_sabme)
unfolding computed_events
old_claims = only_claimant_so 64 1 (bus_step configs assigns_second with_old_sabme) refl

pub old_keeps : Throughout configs (KeepsHolding configs call 1) answers_old
    (from_now (bus_step configs assigns_second with_old_sabme))
unfolding computed_events
old_keeps = throughout_by configs (KeepsHolding configs call 1) (keeps_holding configs call 1)
    (keeps_holding_so configs call 1) answers_old (from_now
    (bus_step configs assigns_second with_old_sabme)) refl

pub old_is_not_expected : (t : SideView User) → slice_get
    (after_events configs answers_old (from_now (bus_step configs assigns_second
    with_old_sabme))).terminals 1 ≡ Some t → AreExpectedOfLink (link_primitives call t.delivered)
    → ⊥
unfolding computed_events
old_is_not_expected = unexpected_at (after_events configs answers_old
    (from_now (bus_step configs assigns_second with_old_sabme))) refl

-- ---- A terminal requests by a reference of which an assignment is in transit.

pub twice_keeps : KeepsAllButRequesting call 0 taken_twice from_twins
unfolding computed_events
twice_keeps = (
  throughout_by configs (λ e b.
      LeavesAlone 64 0 e) (leaves_alone 64 0) (leaves_alone_so 64 0) taken_twice from_twins refl,
  throughout_by configs (IsTimelyFor call 0) (timely_for configs call 0)
      (timely_for_so configs call 0) taken_twice from_twins refl,
  throughout_by configs (AssignsOthers configs 64) (assigns_others configs 64)
      (assigns_others_so configs 64) taken_twice from_twins refl,
)

pub twice_is_someone_elses : IsNobodyElses call 0 (after_events configs taken_twice from_twins) → ⊥
unfolding computed_events
twice_is_someone_elses = someone_elses (after_events configs taken_twice from_twins) refl

-- ---- A terminal joins, or the network restarts.

pub joined_keeps : KeepsAllButLeaving call 0 joined from_first
unfolding computed_events
joined_keeps = (
  throughout_by configs (IsTimelyFor call 0) (timely_for configs call 0)
      (timely_for_so configs call 0) joined from_first refl,
  throughout_by configs (AssignsOthers configs 64) (assigns_others configs 64)
      (assigns_others_so configs 64) joined from_first refl,
  throughout_by configs (RequestsByItsOwn configs) (requests_by_its_own configs)
      (requests_by_its_own_so configs) joined from_first refl,
)

pub joined_is_someone_elses : IsNobodyElses call 0 (after_events configs joined from_first) → ⊥
unfolding computed_events
joined_is_someone_elses = someone_elses (after_events configs joined from_first) refl

pub record Replaced (first second : Vec ℕ Global) : Type 0 where
  pub keeps : KeepsAllButLeaving call 0 (replaced first second) from_first
  pub given : given_at call (slice_get (after_events configs (replaced first second)
      from_first).terminals 0) ≡ two_messages
  pub acked : acked_at call (slice_get (after_events configs (replaced first second)
      from_first).terminals 0) ≡ 0 ∷ []
  pub received : (known_of call (after_events configs (replaced first second)
      from_first).delivered).received ≡ (2 ∷ []) ∷ []

replaced_holds : (v w : Vec ℕ Global) (x : Fits v (1 ∷ [])) (y : Fits w (2 ∷ []))
    → Replaced (holding v (1 ∷ []) x) (holding w (2 ∷ []) y)
unfolding computed_events
replaced_holds v w x y =
    let run = replaced (holding v (1 ∷ []) x) (holding w (2 ∷ []) y) in
    record {
      keeps = (
        throughout_by configs (IsTimelyFor call 0) (timely_for configs call 0)
            (timely_for_so configs call 0) run from_first refl,
        throughout_by configs (AssignsOthers configs 64) (assigns_others configs 64)
            (assigns_others_so configs 64) run from_first refl,
        throughout_by configs (RequestsByItsOwn configs) (requests_by_its_own configs)
            (requests_by_its_own_so configs) run from_first refl,
      );
      given = refl;
      acked = refl;
      received = refl;
    }

pub replaced_so : (first second : Vec ℕ Global) → IsMessage 1 first → IsMessage 2 second
    → Replaced first second
replaced_so = with_both Replaced (1 ∷ []) (2 ∷ []) replaced_holds

pub replaced_is_not_right : (first second : Vec ℕ Global) → IsMessage 1 first → IsMessage 2 second
    → IsReceivedByNetwork call 0 (after_events configs (replaced first second) from_first) → ⊥
replaced_is_not_right first second one two =
    let h = replaced_so first second one two in
    not_by_network call (after_events configs (replaced first second) from_first) h.given h.acked
    h.received

pub record Restarted (first second : Vec ℕ Global) : Type 0 where
  pub keeps : KeepsAllButLeaving call 0 (restarted first second) from_first
  pub given : given_to call (after_events configs (restarted first second) from_first).given
      ≡ two_messages
  pub acked : (known_of call (after_events configs (restarted first second)
      from_first).delivered).acked ≡ 0 ∷ []
  pub received : received_at call (slice_get (after_events configs (restarted first second)
      from_first).terminals 0) ≡ (2 ∷ []) ∷ []

restarted_holds : (v w : Vec ℕ Global) (x : Fits v (1 ∷ [])) (y : Fits w (2 ∷ []))
    → Restarted (holding v (1 ∷ []) x) (holding w (2 ∷ []) y)
unfolding computed_events
restarted_holds v w x y =
    let run = restarted (holding v (1 ∷ []) x) (holding w (2 ∷ []) y) in
    record {
      keeps = (
        throughout_by configs (IsTimelyFor call 0) (timely_for configs call 0)
            (timely_for_so configs call 0) run from_first refl,
        throughout_by configs (AssignsOthers configs 64) (assigns_others configs 64)
            (assigns_others_so configs 64) run from_first refl,
        throughout_by configs (RequestsByItsOwn configs) (requests_by_its_own configs)
            (requests_by_its_own_so configs) run from_first refl,
      );
      given = refl;
      acked = refl;
      received = refl;
    }

pub restarted_so : (first second : Vec ℕ Global) → IsMessage 1 first → IsMessage 2 second
    → Restarted first second
restarted_so = with_both Restarted (1 ∷ []) (2 ∷ []) restarted_holds

pub restarted_is_not_right : (first second : Vec ℕ Global) → IsMessage 1 first → IsMessage 2 second
    → IsReceivedByTerminal call 0 (after_events configs (restarted first second) from_first) → ⊥
restarted_is_not_right first second one two =
    let h = restarted_so first second one two in
    not_by_terminal (after_events configs (restarted first second) from_first) (2 ∷ []) []
    h.received (λ received is. second_for_first _ _ received h.given h.acked is)
