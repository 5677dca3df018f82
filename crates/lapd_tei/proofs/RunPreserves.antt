-- A run of the code is a run of the definition, and the laws hold at each of its moves.
use Rattle.std.proofs.Common.{◌≡◌, ℕ, ◌+◌, ◌<◌, ◌≤◌, zero, suc, List, [], ◌∷◌, ◌++◌, map, take, drop, length, get_or, slice_get, Some, Ok, Err, refl, sym, ap, subst, ◌∙◌, append_assoc, take-append-drop, arith}
use Rattle.std.proofs.Math.Numerals.{add-one}
use Rattle.std.proofs.lemmas.List.{map-append}
use Rattle.std.proofs.lemmas.Option.{slice_get_read}
use Rattle.lapd_tei.specs.declared.out.TeiOut.{TeiOut}
use Rattle.lapd_tei.specs.declared.bus_move.BusMove.{BusMove}
use Rattle.lapd_tei.specs.declared.bus_move.BusFault.{BusFault}
use Rattle.lapd_tei.specs.Bus.{BusState, new_bus, bus_step, moved, done, run, refusal, refusals}
use Rattle.lapd_tei.specs.Single.{Single, MeetsPremises}
use Rattle.lapd_tei.specs.Service.{BusEvent, Move, in_service, event_step, after_events, IsInOrder, Throughout, MeetsInService}
use Rattle.lapd_tei.proofs.EventsPreserve.{in_order, moves_are_events, premises_are_local}

-- ---- A run in parts.

run_append : (b : BusState) (ms ns : List BusMove) → run b (ms ++ ns) ≡ run (run b ms) ns
run_append b [] ns = refl
run_append b (m ∷ ms) ns = run_append (moved b m).now ms ns

events_append : (b : BusState) (es fs : List BusEvent)
    → after_events b (es ++ fs) ≡ after_events (after_events b es) fs
events_append b [] fs = refl
events_append b (e ∷ es) fs = events_append (event_step b e).now es fs

throughout_front : (P : BusState → BusEvent → Type 0) (b : BusState) (es fs : List BusEvent)
    → Throughout P b (es ++ fs) → Throughout P b es
throughout_front P b [] fs h = tt
throughout_front P b (e ∷ es) fs h = (h.0, throughout_front P (event_step b e).now es fs h.1)

-- ---- Runs of the code.

one_more_suc : (ms : List BusMove) (n : ℕ) (m : BusMove) → slice_get ms n ≡ Some m
    → take (suc n) ms ≡ take n ms ++ m ∷ []
one_more_suc [] n m there = absurd cc
one_more_suc (x ∷ ms) zero m there = let e : x ≡ m = cc in ap (λ y. y ∷ []) e
one_more_suc (x ∷ ms) (suc n) m there = ap (λ l. x ∷ l) (one_more_suc ms n m there)

one_more : (ms : List BusMove) (n : ℕ) (m : BusMove) → slice_get ms n ≡ Some m
    → take (n + 1) ms ≡ take n ms ++ m ∷ []
one_more ms n m there =
    subst (λ k. take k ms ≡ take n ms ++ m ∷ []) (sym (add-one n)) (one_more_suc ms n m there)

refusals_append : (b : BusState) (ms ns : List BusMove)
    → refusals b (ms ++ ns) ≡ refusals b ms + refusals (run b ms) ns
refusals_append b [] ns = omega arith
refusals_append b (m ∷ ms) ns =
    let e : refusals (moved b m).now (ms ++ ns) ≡ refusals (moved b m).now ms + refusals
    (run (moved b m).now ms) ns =
    refusals_append (moved b m).now ms ns in
    omega arith

-- the moves before this index are made, and the refused ones counted
pub record RunSoFar (b now : BusState) (ms : List BusMove) (n refused : ℕ) : Type 0 where
  pub so_far : now ≡ run b (take n ms)
  pub counted : refused ≡ refusals b (take n ms)
  pub fits : refused ≤ n

one_step : (b : BusState) (ms : List BusMove) (n : ℕ) (m : BusMove) → slice_get ms n ≡ Some m
    → run b (take (n + 1) ms) ≡ (moved (run b (take n ms)) m).now
one_step b ms n m there = rw (one_more ms n m there, run_append b (take n ms) (m ∷ [])) refl

one_count : (b : BusState) (ms : List BusMove) (n : ℕ) (m : BusMove) → slice_get ms n ≡ Some m
    → refusals b (take (n + 1) ms) ≡ refusals b (take n ms)
    + refusal (bus_step (run b (take n ms)) m)
one_count b ms n m there =
    rw (one_more ms n m there, refusals_append b (take n ms) (m ∷ [])) (omega arith)

-- one more move is made
pub more_done : (b now next : BusState) (ms : List BusMove) (n refused after : ℕ) (m : BusMove)
    (outs : List TeiOut) → n < length ms → m ≡ get_or ms n m → RunSoFar b now ms n refused
    → bus_step now m ≡ Ok (record { now = next; outs = outs }) → after ≡ refused
    → RunSoFar b next ms (n + 1) after
more_done b now next ms n refused after m outs within is h step same =
    let there : slice_get ms n ≡ Some m = slice_get_read ms (length ms) n m refl within is in
    let step_here : bus_step (run b (take n ms)) m ≡ Ok (record { now = next; outs = outs }) =
    subst (λ x. bus_step x m ≡ Ok (record { now = next; outs = outs })) h.so_far step in
    let count : refusals b (take (n + 1) ms) ≡ refusals b (take n ms) + 0 =
    one_count b ms n m there ∙ ap (λ r. refusals b (take n ms) + refusal r) step_here in
    record {
      so_far = sym (one_step b ms n m there ∙ ap (λ r. (done (run b (take n ms)) r).now) step_here);
      counted = omega (arith, h.counted);
      fits = omega (arith, h.fits);
    }

-- one more move is refused
pub more_refused : (b now next : BusState) (ms : List BusMove) (n refused after : ℕ) (m : BusMove)
    (fault : BusFault) → n < length ms → m ≡ get_or ms n m → RunSoFar b now ms n refused
    → bus_step now m ≡ Err fault → next ≡ now → after ≡ refused + 1
    → RunSoFar b next ms (n + 1) after
more_refused b now next ms n refused after m fault within is h step stays same =
    let there : slice_get ms n ≡ Some m = slice_get_read ms (length ms) n m refl within is in
    let step_here : bus_step (run b (take n ms)) m ≡ Err fault =
    subst (λ x. bus_step x m ≡ Err fault) h.so_far step in
    let count : refusals b (take (n + 1) ms) ≡ refusals b (take n ms) + 1 =
    one_count b ms n m there ∙ ap (λ r. refusals b (take n ms) + refusal r) step_here in
    record {
      so_far =
          stays
          ∙ (h.so_far
          ∙ sym (one_step b ms n
          m there ∙ ap (λ r. (done (run b (take n ms)) r).now) step_here));
      counted = omega (arith, h.counted);
      fits = omega (arith, h.fits);
    }

-- the law of a bus in service, at this index of the moves of a bus that earlier events produced
pub in_order_at : (terminals : ℕ) (known : List ℕ) (before : List BusEvent) (ms : List BusMove)
    (n : ℕ) (old now : BusState)
    → old ≡ after_events (in_service terminals known) before → now ≡ run old (take n ms)
    → MeetsInService (in_service terminals known) (before ++ map Move ms) → IsInOrder now
in_order_at terminals known before ms n old now was is met =
    let start : BusState = in_service terminals known in
    let parts : map Move ms ≡ map Move (take n ms) ++ map Move (drop n ms) =
    ap (map Move) (sym (take-append-drop n ms)) ∙ map-append Move (take n ms) (drop n ms) in
    let whole : before ++ map Move ms ≡ (before ++ map Move (take n ms)) ++ map Move (drop n ms) =
    ap (λ l. before ++ l) parts
    ∙ sym (append_assoc before (map Move (take n ms)) (map Move (drop n ms))) in
    let here : after_events start (before ++ map Move (take n ms)) ≡ now =
    events_append start before (map Move (take n ms))
    ∙ (ap (λ b. after_events b (map Move (take n ms))) (sym was)
    ∙ (moves_are_events old (take n ms) ∙ sym is)) in
    let front : (P : BusState → BusEvent → Type 0) → Throughout P start (before ++ map Move ms) →
    Throughout P start (before ++ map Move (take n ms)) =
    λ P h. throughout_front P start (before ++ map Move (take n ms)) (map Move (drop n ms))
    (subst (Throughout P start) whole h) in
    subst IsInOrder here (in_order terminals known (before ++ map Move (take n ms)) (record {
      asking = front _ met.asking;
      losing_none = record {
        freeing = front _ met.losing_none.freeing;
        restarting = front _ met.losing_none.restarting;
        joining = front _ met.losing_none.joining;
      };
    }))

-- the law of the TEIs, if the references of the whole run differ
pub single_at : (terminals : ℕ) (before ms : List BusMove) (n : ℕ) (old now : BusState)
    → old ≡ run (new_bus terminals) before → now ≡ run old (take n ms)
    → MeetsPremises terminals (before ++ ms) → Single now
single_at terminals before ms n old now was is met =
    (in_order_at terminals [] (map Move before) ms n
    old now (was ∙ sym (moves_are_events (new_bus terminals) before)) is
    (subst (MeetsInService (in_service terminals [])) (map-append Move before ms)
    (premises_are_local terminals (before ++ ms) met))).single

pub law_of_teis : (terminals : ℕ) (ms : List BusMove) → MeetsPremises terminals ms
    → Single (run (new_bus terminals) ms)
law_of_teis terminals ms met =
    subst Single (moves_are_events (new_bus terminals) ms)
    (in_order terminals [] (map Move ms) (premises_are_local terminals ms met)).single
