-- Tests that compute whether a run meets the premises. If a test returns true, the premise holds. A
-- test returns false if a terminal requests by its own last reference, which the premise permits.
use Rattle.std.proofs.Common.{◌≡◌, ◌≢◌, ℕ, Bool, true, false, List, [], ◌∷◌, Option, Some, None, subst}
use Rattle.std.proofs.lemmas.Bool.{eq-eqb, and_parts}
use Rattle.std.proofs.lemmas.List.Elements.{All-from_recursion}
use Rattle.std.specs.Prelude.{◌==◌, ◌&&◌, not}
use Rattle.std.specs.List.{AllByRecursion}
use Rattle.lapd_tei.specs.declared.bus_move.BusMove.{BusMove}
use Rattle.lapd_tei.specs.Out.{sent}
use Rattle.lapd_tei.specs.Terminal.{tei_of, reference_of}
use Rattle.lapd_tei.specs.Assigner.{is_held, known_held}
use Rattle.lapd_tei.specs.Bus.{BusState, moved}
use Rattle.lapd_tei.specs.Single.{references, freed, assigned_by, IsNobodys, FreesNobodys}
use Rattle.lapd_tei.specs.Service.{BusEvent, Move, Want, Join, Restart, event_step, IsKnown, KnowsInUse, IsNoOthers, place_of_event, AsksByItsOwn, FreesNobodysTei, RestartsKnowing, JoinsByItsOwn, Throughout}
use Rattle.lapd_tei.proofs.AssignerPreserves.{all_at}

abbrev pub every : {X : Type 0} → (X → Bool) → List X → Bool
every p [] = true
every p (x ∷ xs) = p x && every p xs

every_is : {X : Type 0} (p : X → Bool) (P : X → Type 0) → ((x : X) → p x ≡ true → P x)
    → (xs : List X) → every p xs ≡ true → AllByRecursion P xs
every_is p P sound [] test = tt
every_is p P sound (x ∷ xs) test =
    let both : (p x ≡ true) × (every p xs ≡ true) = and_parts (p x) (every p xs) test in
    (sound x both.0, every_is p P sound xs both.1)

abbrev pub is_it : Option ℕ → ℕ → Bool
is_it None n = false
is_it (Some m) n = m == n

it_is_another : (o : Option ℕ) (n : ℕ) → not (is_it o n) ≡ true → o ≢ Some n
it_is_another None n test q = absurd cc
it_is_another (Some m) n test q =
    let same : m ≡ n = cc in
    let bad : false ≡ true = subst (λ x. not x ≡ true) (eq-eqb m n same) test in absurd cc

-- ---- The parts of a premise.

abbrev pub is_nobodys : BusState → ℕ → Bool
is_nobodys b n =
    every (λ t. not (is_it (tei_of t) n)) b.terminals
    && every (λ f. not (is_it (assigned_by f.message.kind f.message.ai) n)) b.down

nobodys : (b : BusState) (n : ℕ) → is_nobodys b n ≡ true → IsNobodys b n
nobodys b n test =
    let both : (every (λ t. not (is_it (tei_of t) n)) b.terminals ≡ true) ×
    (every (λ f. not (is_it (assigned_by f.message.kind f.message.ai) n)) b.down ≡ true) =
    and_parts (every (λ t. not (is_it (tei_of t) n)) b.terminals)
    (every (λ f. not (is_it (assigned_by f.message.kind f.message.ai) n)) b.down) test in
    record {
      unheld = All-from_recursion (λ t. tei_of t ≢ Some n) b.terminals
          (every_is (λ t. not (is_it (tei_of t) n)) (λ t. tei_of t ≢ Some n)
          (λ t. it_is_another (tei_of t) n) b.terminals both.0);
      unassigned = All-from_recursion (λ f. assigned_by f.message.kind f.message.ai ≢ Some n) b.down
          (every_is (λ f. not (is_it (assigned_by f.message.kind f.message.ai) n))
          (λ f. assigned_by f.message.kind f.message.ai ≢ Some n)
          (λ f. it_is_another (assigned_by f.message.kind f.message.ai) n) b.down both.1);
    }

-- no terminal has the reference
abbrev pub is_no_ones : BusState → ℕ → Bool
is_no_ones b r = every (λ t. not (is_it (reference_of t) r)) b.terminals

no_others : (b : BusState) (place : Option ℕ) (r : ℕ) → is_no_ones b r ≡ true → IsNoOthers b place r
no_others b place r test i has =
    absurd (all_at (λ t. reference_of t ≢ Some r) b.terminals i has.terminal
    (All-from_recursion (λ t. reference_of t ≢ Some r) b.terminals
    (every_is (λ t. not (is_it (reference_of t) r)) (λ t. reference_of t ≢ Some r)
    (λ t. it_is_another (reference_of t) r) b.terminals test))
    has.there has.its)

abbrev pub is_known : List Bool → Option ℕ → Bool
is_known held None = true
is_known held (Some n) = is_held held n

known : (held : List Bool) (o : Option ℕ) → is_known held o ≡ true → IsKnown held o
known held None test = tt
known held (Some n) test = λ from. test

abbrev pub knows_in_use : List Bool → BusState → Bool
knows_in_use held b =
    every (λ t. is_known held (tei_of t)) b.terminals
    && every (λ f. is_known held (assigned_by f.message.kind f.message.ai)) b.down

in_use_known : (held : List Bool) (b : BusState) → knows_in_use held b ≡ true → KnowsInUse held b
in_use_known held b test =
    let both : (every (λ t. is_known held (tei_of t)) b.terminals ≡ true) ×
    (every (λ f. is_known held (assigned_by f.message.kind f.message.ai)) b.down ≡ true) =
    and_parts (every (λ t. is_known held (tei_of t)) b.terminals)
    (every (λ f. is_known held (assigned_by f.message.kind f.message.ai)) b.down) test in
    record {
      terminals = All-from_recursion (λ t. IsKnown held (tei_of t)) b.terminals
          (every_is (λ t. is_known held (tei_of t)) (λ t. IsKnown held (tei_of t))
          (λ t. known held (tei_of t)) b.terminals both.0);
      assignments =
          All-from_recursion (λ f. IsKnown held (assigned_by f.message.kind f.message.ai)) b.down
          (every_is (λ f. is_known held (assigned_by f.message.kind f.message.ai))
          (λ f. IsKnown held (assigned_by f.message.kind f.message.ai))
          (λ f. known held (assigned_by f.message.kind f.message.ai)) b.down both.1);
    }

-- ---- The premises of an event.

abbrev pub asks : BusState → BusEvent → Bool
asks b e = every (is_no_ones b) (references (sent (event_step b e).outs))

abbrev pub frees : BusState → BusEvent → Bool
frees b e = every (is_nobodys b) (freed (event_step b e).outs)

abbrev pub restarts : BusState → BusEvent → Bool
restarts b (Restart teis) = knows_in_use (known_held teis).held b
restarts b (Move m) = true
restarts b (Want t ri) = true
restarts b (Join t fixed) = true

abbrev pub joins : BusState → BusEvent → Bool
joins b (Join t (Some tei)) = is_nobodys b tei && is_known b.assigner.held (Some tei)
joins b (Join t None) = true
joins b (Move m) = true
joins b (Want t ri) = true
joins b (Restart teis) = true

asks_right : (b : BusState) (e : BusEvent) → asks b e ≡ true → AsksByItsOwn b e
asks_right b e test =
    every_is (is_no_ones b) (IsNoOthers b (place_of_event e)) (no_others b (place_of_event e))
    (references (sent (event_step b e).outs)) test

frees_right : (b : BusState) (e : BusEvent) → frees b e ≡ true → FreesNobodysTei b e
frees_right b e test =
    every_is (is_nobodys b) (IsNobodys b) (nobodys b) (freed (event_step b e).outs) test

restarts_right : (b : BusState) (e : BusEvent) → restarts b e ≡ true → RestartsKnowing b e
restarts_right b (Restart teis) test = in_use_known (known_held teis).held b test
restarts_right b (Move m) test = tt
restarts_right b (Want t ri) test = tt
restarts_right b (Join t fixed) test = tt

joins_right : (b : BusState) (e : BusEvent) → joins b e ≡ true → JoinsByItsOwn b e
joins_right b (Join t (Some tei)) test =
    let both : (is_nobodys b tei ≡ true) × (is_known b.assigner.held (Some tei) ≡ true) =
    and_parts (is_nobodys b tei) (is_known b.assigner.held (Some tei)) test in
    (nobodys b tei both.0, known b.assigner.held (Some tei) both.1)
joins_right b (Join t None) test = tt
joins_right b (Move m) test = tt
joins_right b (Want t ri) test = tt
joins_right b (Restart teis) test = tt

-- ---- A run.

abbrev pub moves_free : BusState → List BusMove → Bool
moves_free b [] = true
moves_free b (m ∷ ms) =
    every (is_nobodys b) (freed (moved b m).outs) && moves_free (moved b m).now ms

pub moves_free_nobodys : (b : BusState) (ms : List BusMove) → moves_free b ms ≡ true
    → FreesNobodys b ms
moves_free_nobodys b [] met = tt
moves_free_nobodys b (m ∷ ms) met =
    let both : (every (is_nobodys b) (freed (moved b m).outs) ≡ true) ×
    (moves_free (moved b m).now ms ≡ true) =
    and_parts (every (is_nobodys b) (freed (moved b m).outs)) (moves_free (moved b m).now ms) met in (
      every_is (is_nobodys b) (IsNobodys b) (nobodys b) (freed (moved b m).outs) both.0,
      moves_free_nobodys (moved b m).now ms both.1,
    )

abbrev pub throughout : (BusState → BusEvent → Bool) → BusState → List BusEvent → Bool
throughout test b [] = true
throughout test b (e ∷ es) = test b e && throughout test (event_step b e).now es

throughout_is : (test : BusState → BusEvent → Bool) (P : BusState → BusEvent → Type 0)
    → ((b : BusState) (e : BusEvent) → test b e ≡ true → P b e)
    → (b : BusState) (es : List BusEvent) → throughout test b es ≡ true → Throughout P b es
throughout_is test P right b [] met = tt
throughout_is test P right b (e ∷ es) met =
    let both : (test b e ≡ true) × (throughout test (event_step b e).now es ≡ true) =
    and_parts (test b e) (throughout test (event_step b e).now es) met in
    (right b e both.0, throughout_is test P right (event_step b e).now es both.1)

pub run_asks : (b : BusState) (es : List BusEvent) → throughout asks b es ≡ true
    → Throughout AsksByItsOwn b es
run_asks = throughout_is asks AsksByItsOwn asks_right

pub run_frees : (b : BusState) (es : List BusEvent) → throughout frees b es ≡ true
    → Throughout FreesNobodysTei b es
run_frees = throughout_is frees FreesNobodysTei frees_right

pub run_restarts : (b : BusState) (es : List BusEvent) → throughout restarts b es ≡ true
    → Throughout RestartsKnowing b es
run_restarts = throughout_is restarts RestartsKnowing restarts_right

pub run_joins : (b : BusState) (es : List BusEvent) → throughout joins b es ≡ true
    → Throughout JoinsByItsOwn b es
run_joins = throughout_is joins JoinsByItsOwn joins_right
