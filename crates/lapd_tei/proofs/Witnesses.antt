-- The premises of the law can be met, and none can be dropped.
use Rattle.std.proofs.Common.{◌≡◌, ◌≢◌, ℕ, ◌<◌, true, List, [], ◌∷◌, Some, None, refl, arith}
use Rattle.lapd_tei.specs.declared.phase.Phase.{Phase}
use Rattle.lapd_tei.specs.declared.phase.Phase.TheVariants.{Assigned}
use Rattle.lapd_tei.specs.Terminal.{tei_of}
use Rattle.lapd_tei.specs.Bus.{BusState, new_bus, run}
use Rattle.lapd_tei.specs.Single.{Single, asked, Differ, FreesNobodys}
use Rattle.lapd_tei.specs.Service.{BusEvent, in_service, after_events, AsksByItsOwn, FreesNobodysTei, RestartsKnowing, JoinsByItsOwn, MeetsInService, AreNotEnough}
use Rattle.lapd_tei.specs.Worked.{got_by_another, one_reference, freed_while_held, freed_on_its_way, reference_again, reference_on_its_way, reference_outstanding, reference_got_by, checked_while_held, checked_on_its_way, removed_while_held, restarted_while_held, restarted_on_its_way, joined_while_held, joined_on_its_way, joined_unknown}
use Rattle.lapd_tei.proofs.Computed.{throughout, asks, frees, restarts, joins, run_asks, run_frees, run_restarts, run_joins, moves_free_nobodys}

numbers_differ : (a b : ℕ) → a < b → b ≢ a
numbers_differ a b less e = omega arith

pub met_references : Differ (asked (new_bus 2) got_by_another)
met_references = ((numbers_differ 1 3 (omega arith), tt), (tt, tt))

pub met_freeing : FreesNobodys (new_bus 2) got_by_another
met_freeing = moves_free_nobodys (new_bus 2) got_by_another refl

two_hold : (b : BusState) (t u : Phase) (n : ℕ) → b.terminals ≡ t ∷ u ∷ [] → tei_of t ≡ Some n
    → tei_of u ≡ Some n → Single b → ⊥
two_hold b t u n are first second single =
    numbers_differ 0 1 (omega arith) (single 1 0 n
    (record { terminal = u; there = rw are refl; its = second })
    (record { terminal = t; there = rw are refl; its = first }))

pub references_are_needed : Single (run (new_bus 2) one_reference) → ⊥
references_are_needed =
    two_hold (run (new_bus 2) one_reference) (Assigned (Some 7) 64) (Assigned (Some 7) 64) 64 refl
    refl refl

pub holders_are_needed : Single (run (new_bus 2) freed_while_held) → ⊥
holders_are_needed =
    two_hold (run (new_bus 2) freed_while_held) (Assigned (Some 1) 64) (Assigned (Some 3) 64) 64
    refl refl refl

pub assignments_are_needed : Single (run (new_bus 2) freed_on_its_way) → ⊥
assignments_are_needed =
    two_hold (run (new_bus 2) freed_on_its_way) (Assigned (Some 1) 64) (Assigned (Some 2) 64) 64
    refl refl refl

-- ---- For a bus in service.

met_by : (known : List ℕ) (events : List BusEvent)
    → throughout asks (in_service 2 known) events ≡ true
    → throughout frees (in_service 2 known) events ≡ true
    → throughout restarts (in_service 2 known) events ≡ true
    → throughout joins (in_service 2 known) events ≡ true
    → MeetsInService (in_service 2 known) events
met_by known events asking freeing restarting joining = record {
  asking = run_asks (in_service 2 known) events asking;
  losing_none = record {
    freeing = run_frees (in_service 2 known) events freeing;
    restarting = run_restarts (in_service 2 known) events restarting;
    joining = run_joins (in_service 2 known) events joining;
  };
}

pub met_in_service : MeetsInService (in_service 2 (64 ∷ [])) reference_again
met_in_service = met_by (64 ∷ []) reference_again refl refl refl refl

pub met_on_its_way : MeetsInService (in_service 2 []) reference_on_its_way
met_on_its_way = met_by [] reference_on_its_way refl refl refl refl

both_hold : (events : List BusEvent) (t u : Phase) (n : ℕ)
    → (after_events (in_service 2 []) events).terminals ≡ t ∷ u ∷ [] → tei_of t ≡ Some n
    → tei_of u ≡ Some n
    → Single (after_events (in_service 2 []) events) → ⊥
both_hold events = two_hold (after_events (in_service 2 []) events)

pub outstanding_is_needed : AreNotEnough FreesNobodysTei RestartsKnowing JoinsByItsOwn
    reference_outstanding
outstanding_is_needed = record {
  first = run_frees (in_service 2 []) reference_outstanding refl;
  second = run_restarts (in_service 2 []) reference_outstanding refl;
  third = run_joins (in_service 2 []) reference_outstanding refl;
  doubled =
      both_hold reference_outstanding (Assigned (Some 1) 64) (Assigned (Some 1) 64) 64 refl refl
      refl;
}

pub got_by_is_needed : AreNotEnough FreesNobodysTei RestartsKnowing JoinsByItsOwn reference_got_by
got_by_is_needed = record {
  first = run_frees (in_service 2 []) reference_got_by refl;
  second = run_restarts (in_service 2 []) reference_got_by refl;
  third = run_joins (in_service 2 []) reference_got_by refl;
  doubled =
      both_hold reference_got_by (Assigned (Some 1) 64) (Assigned (Some 1) 64) 64 refl refl refl;
}

pub checked_held_is_needed : AreNotEnough AsksByItsOwn RestartsKnowing JoinsByItsOwn
    checked_while_held
checked_held_is_needed = record {
  first = run_asks (in_service 2 []) checked_while_held refl;
  second = run_restarts (in_service 2 []) checked_while_held refl;
  third = run_joins (in_service 2 []) checked_while_held refl;
  doubled =
      both_hold checked_while_held (Assigned (Some 1) 64) (Assigned (Some 3) 64) 64 refl refl refl;
}

pub removed_held_is_needed : AreNotEnough AsksByItsOwn RestartsKnowing JoinsByItsOwn
    removed_while_held
removed_held_is_needed = record {
  first = run_asks (in_service 2 []) removed_while_held refl;
  second = run_restarts (in_service 2 []) removed_while_held refl;
  third = run_joins (in_service 2 []) removed_while_held refl;
  doubled =
      both_hold removed_while_held (Assigned (Some 1) 64) (Assigned (Some 3) 64) 64 refl refl refl;
}

pub checked_assigned_is_needed : AreNotEnough AsksByItsOwn RestartsKnowing JoinsByItsOwn
    checked_on_its_way
checked_assigned_is_needed = record {
  first = run_asks (in_service 2 []) checked_on_its_way refl;
  second = run_restarts (in_service 2 []) checked_on_its_way refl;
  third = run_joins (in_service 2 []) checked_on_its_way refl;
  doubled =
      both_hold checked_on_its_way (Assigned (Some 1) 64) (Assigned (Some 3) 64) 64 refl refl refl;
}

pub restarted_held_is_needed : AreNotEnough AsksByItsOwn FreesNobodysTei JoinsByItsOwn
    restarted_while_held
restarted_held_is_needed = record {
  first = run_asks (in_service 2 []) restarted_while_held refl;
  second = run_frees (in_service 2 []) restarted_while_held refl;
  third = run_joins (in_service 2 []) restarted_while_held refl;
  doubled =
      both_hold restarted_while_held (Assigned (Some 1) 64) (Assigned (Some 3) 64) 64 refl refl
      refl;
}

pub restarted_assigned_is_needed : AreNotEnough AsksByItsOwn FreesNobodysTei JoinsByItsOwn
    restarted_on_its_way
restarted_assigned_is_needed = record {
  first = run_asks (in_service 2 []) restarted_on_its_way refl;
  second = run_frees (in_service 2 []) restarted_on_its_way refl;
  third = run_joins (in_service 2 []) restarted_on_its_way refl;
  doubled =
      both_hold restarted_on_its_way (Assigned (Some 1) 64) (Assigned (Some 3) 64) 64 refl refl
      refl;
}

pub joined_held_is_needed : AreNotEnough AsksByItsOwn FreesNobodysTei RestartsKnowing
    joined_while_held
joined_held_is_needed = record {
  first = run_asks (in_service 2 []) joined_while_held refl;
  second = run_frees (in_service 2 []) joined_while_held refl;
  third = run_restarts (in_service 2 []) joined_while_held refl;
  doubled = both_hold joined_while_held (Assigned (Some 1) 64) (Assigned None 64) 64 refl refl refl;
}

pub joined_assigned_is_needed : AreNotEnough AsksByItsOwn FreesNobodysTei RestartsKnowing
    joined_on_its_way
joined_assigned_is_needed = record {
  first = run_asks (in_service 2 []) joined_on_its_way refl;
  second = run_frees (in_service 2 []) joined_on_its_way refl;
  third = run_restarts (in_service 2 []) joined_on_its_way refl;
  doubled = both_hold joined_on_its_way (Assigned (Some 1) 64) (Assigned None 64) 64 refl refl refl;
}

pub joined_known_is_needed : AreNotEnough AsksByItsOwn FreesNobodysTei RestartsKnowing
    joined_unknown
joined_known_is_needed = record {
  first = run_asks (in_service 2 []) joined_unknown refl;
  second = run_frees (in_service 2 []) joined_unknown refl;
  third = run_restarts (in_service 2 []) joined_unknown refl;
  doubled = both_hold joined_unknown (Assigned (Some 1) 64) (Assigned None 64) 64 refl refl refl;
}
