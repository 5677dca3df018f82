-- Each premise is needed: without it, a message that was never received is acknowledged.
use Rattle.std.proofs.Common.{◌≡◌, inl, inr, ℕ, zero, suc, List, [], ◌∷◌, map, slice_get, Option, Some, refl, subst, arith}
use Rattle.lapd_link_definition.specs.Procedures.{start}
use Rattle.lapd_pair_laws.specs.Histories.{Receipt}
use Rattle.lapd_pair_laws.specs.Safe.{IsAmong, IsSafe, AreSafe}
use Rattle.lapd_pair_laws.specs.Schedule.{receipt, two_messages}
use Rattle.lapd_pair_laws.specs.Schedule as worked
use Rattle.lapd_pair_laws.specs.Premises.{run_freely, hasty, stale, overtaken}
use Rattle.lapd_pair_laws.proofs.ComputedRun.{computed_run}

-- ---- The first of two messages was received, and the second acknowledged.

never_so : (places : List ℕ)
    → map (λ place. slice_get two_messages place) places ≡ Some (1 ∷ []) ∷ [] → IsAmong 1 places → ⊥
never_so [] same among = among
never_so (place ∷ next ∷ places) same among = cc
never_so (zero ∷ []) same (inl here) = omega (arith, here)
never_so (zero ∷ []) same (inr impossible) = impossible
never_so (suc zero ∷ []) same among = grind (arith, same)
never_so (suc (suc place) ∷ []) same among = cc

not_safe : (given : List (List ℕ)) (sent_in : ℕ → Option ℕ) (acked : List ℕ)
    (received : List Receipt) (establishment : ℕ)
    → given ≡ two_messages → acked ≡ 1 ∷ [] → received ≡ receipt 0 establishment (1 ∷ []) ∷ []
    → IsSafe given sent_in acked received → ⊥
not_safe given sent_in acked received establishment are_given are_acked are_received safe =
    let plain : IsSafe two_messages sent_in (1 ∷ []) (receipt 0 establishment (1 ∷ []) ∷ []) =
    subst (λ g. IsSafe g sent_in (1 ∷ []) (receipt 0 establishment (1 ∷ []) ∷ [])) are_given
    (subst (λ a. IsSafe given sent_in a (receipt 0 establishment (1 ∷ []) ∷ [])) are_acked
    (subst (λ r. IsSafe given sent_in acked r) are_received safe)) in
    never_so plain.places plain.same (plain.acknowledged 1 (inl refl))

-- ---- The three schedules, computed.

hasty_given : (run_freely hasty worked.start).network.end.given ≡ two_messages
unfolding computed_run
hasty_given = refl

hasty_acked : (run_freely hasty worked.start).network.history.acked ≡ 1 ∷ []
unfolding computed_run
hasty_acked = refl

hasty_received : (run_freely hasty worked.start).user.history.received ≡ receipt 0 1 (1 ∷ []) ∷ []
unfolding computed_run
hasty_received = refl

pub hasty_is_not_safe : AreSafe (run_freely hasty worked.start) → ⊥
hasty_is_not_safe safe = not_safe _ _ _ _ 1 hasty_given hasty_acked hasty_received safe.1

stale_given : (run_freely stale worked.start).user.end.given ≡ two_messages
unfolding computed_run
stale_given = refl

stale_acked : (run_freely stale worked.start).user.history.acked ≡ 1 ∷ []
unfolding computed_run
stale_acked = refl

stale_received : (run_freely stale worked.start).network.history.received ≡ receipt 0 1 (1 ∷ [])
    ∷ []
unfolding computed_run
stale_received = refl

pub stale_is_not_safe : AreSafe (run_freely stale worked.start) → ⊥
stale_is_not_safe safe = not_safe _ _ _ _ 1 stale_given stale_acked stale_received safe.0

overtaken_given : (run_freely overtaken worked.start).user.end.given ≡ two_messages
unfolding computed_run
overtaken_given = refl

overtaken_acked : (run_freely overtaken worked.start).user.history.acked ≡ 1 ∷ []
unfolding computed_run
overtaken_acked = refl

overtaken_received : (run_freely overtaken worked.start).network.history.received
    ≡ receipt 0 1 (1 ∷ []) ∷ []
unfolding computed_run
overtaken_received = refl

pub overtaken_is_not_safe : AreSafe (run_freely overtaken worked.start) → ⊥
overtaken_is_not_safe safe =
    not_safe _ _ _ _ 1 overtaken_given overtaken_acked overtaken_received safe.0
