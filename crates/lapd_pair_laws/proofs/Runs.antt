-- The order of the messages, and of the N(R), that a side will process.
use Rattle.std.proofs.Common.{◌≡◌, ◌⊎◌, inl, inr, ℕ, ◌+◌, ◌<◌, ◌≤◌, Bool, true, false, List, [], ◌∷◌, ◌++◌, refl, sym, subst, arith}
use Rattle.lapd_pair_laws.specs.Kinds.{Message}
use Rattle.lapd_pair_laws.specs.Conjuncts.{Each, IsNext, IsRun, IsJunkThenRun, IsInOrder, IsNearTo, IsClimb}

-- ---- Runs.

next_lower : (polled : Bool) (low lower end number : ℕ) (rest : List Message) (Run : Type 0)
    → lower ≤ low → IsNext polled low end number rest Run → IsNext polled lower end number rest Run
next_lower true low lower end number rest Run le next = next
next_lower false low lower end number rest Run le next = (omega (arith, next.0), next.1, next.2)

-- a run from a number on is one from a lower number on
pub run_lower : (low lower end : ℕ) (ms : List Message) → lower ≤ low → IsRun low end ms
    → IsRun lower end ms
run_lower low lower end [] le run = tt
run_lower low lower end (m ∷ ms) le run =
    next_lower m.polled low lower end m.number ms (IsRun (m.number + 1) end ms) le run

-- the rest of a run is a run
next_rest : (polled : Bool) (low end number : ℕ) (rest : List Message)
    → IsNext polled low end number rest (IsRun (number + 1) end rest) → IsRun (number + 1) end rest
next_rest true low end number rest next = subst (λ l. IsRun (number + 1) end l) (sym next.1) tt
next_rest false low end number rest next = next.2

pub run_rest : (low end : ℕ) (m : Message) (ms : List Message) → IsRun low end (m ∷ ms)
    → IsRun (m.number + 1) end ms
run_rest low end m ms run = next_rest m.polled low end m.number ms run

-- the first number of a run is below `end`, whether its message polls or not
next_below : (polled : Bool) (low end number : ℕ) (rest : List Message) (Run : Type 0)
    → IsNext polled low end number rest Run → number < end
next_below true low end number rest Run next = omega (arith, next.0)
next_below false low end number rest Run next = next.1

pub run_below : (low end : ℕ) (m : Message) (ms : List Message) → IsRun low end (m ∷ ms)
    → m.number < end
run_below low end m ms run =
    next_below m.polled low end m.number ms (IsRun (m.number + 1) end ms) run

-- the first of a run is not below its start, unless it polls
next_from : (polled : Bool) (low end number : ℕ) (rest : List Message) (Run : Type 0)
    → IsNext polled low end number rest Run → low ≤ number ⊎ (number + 1 ≡ end)
next_from true low end number rest Run next = inr next.0
next_from false low end number rest Run next = inl next.0

-- ---- One more message, if none polls.

abbrev pub NonePolls : List Message → Type 0
NonePolls ms = Each (λ m. m.polled ≡ false) ms

-- a run continues up to a later end
next_more : (polled : Bool) (low end number : ℕ) (rest more : List Message) (Run More : Type 0)
    → polled ≡ false → (Run → More) → IsNext polled low end number rest Run
    → IsNext polled low (end + 1) number more More
next_more true low end number rest more Run More no_poll f next = cc
next_more false low end number rest more Run More no_poll f next =
    (next.0, omega (arith, next.1), f next.2)

pub run_more : (low end : ℕ) (ms : List Message) (m : Message) → low ≤ end → m.number ≡ end
    → m.polled ≡ false → NonePolls ms → IsRun low end ms → IsRun low (end + 1) (ms ++ m ∷ [])
run_more low end [] m le is no_poll none run =
    subst (λ b. IsNext b low (end + 1) m.number [] (Unit {0})) (sym no_poll)
    (omega (arith, le, is), omega (arith, is), tt)
run_more low end (n ∷ ms) m le is no_poll none run =
    let below : n.number < end = run_below low end n ms run in
    next_more n.polled low end n.number ms (ms ++ m ∷ []) (IsRun (n.number + 1) end ms)
    (IsRun (n.number + 1) (end + 1) (ms ++ m ∷ [])) none.0
    (λ rest. run_more (n.number + 1) end ms m (omega (arith, below)) is no_poll none.1 rest) run

pub junk_more : (low end : ℕ) (ms : List Message) (m : Message) → low ≤ end → m.number ≡ end
    → m.polled ≡ false → NonePolls ms → IsJunkThenRun low end ms
    → IsJunkThenRun low (end + 1) (ms ++ m ∷ [])
junk_more low end [] m le is no_poll none junk = inl (run_more low end [] m le is no_poll none tt)
junk_more low end (n ∷ ms) m le is no_poll none (inl run) =
    inl (run_more low end (n ∷ ms) m le is no_poll none run)
junk_more low end (n ∷ ms) m le is no_poll none (inr junk) =
    inr (junk.0, junk.1, junk_more low end ms m le is no_poll none.1 junk.2)

pub order_more : (rejecting : Bool) (low end : ℕ) (ms : List Message) (m : Message) → low ≤ end
    → m.number ≡ end → m.polled ≡ false → NonePolls ms → IsInOrder rejecting low end ms
    → IsInOrder rejecting low (end + 1) (ms ++ m ∷ [])
order_more true low end ms m le is no_poll none order =
    junk_more low end ms m le is no_poll none order
order_more false low end ms m le is no_poll none order =
    run_more low end ms m le is no_poll none order

-- ---- The last message is retransmitted, with a poll.

next_again : (polled : Bool) (low end number : ℕ) (rest more : List Message) (Run More : Type 0)
    → polled ≡ false → (Run → More) → IsNext polled low end number rest Run
    → IsNext polled low end number more More
next_again true low end number rest more Run More no_poll f next = cc
next_again false low end number rest more Run More no_poll f next = (next.0, next.1, f next.2)

pub run_again : (low end : ℕ) (ms : List Message) (m : Message) → m.number + 1 ≡ end
    → m.polled ≡ true → NonePolls ms → IsRun low end ms → IsRun low end (ms ++ m ∷ [])
run_again low end [] m is polls none run =
    subst (λ b. IsNext b low end m.number [] (Unit {0})) (sym polls) (is, refl)
run_again low end (n ∷ ms) m is polls none run =
    next_again n.polled low end n.number ms (ms ++ m ∷ []) (IsRun (n.number + 1) end ms)
    (IsRun (n.number + 1) end (ms ++ m ∷ [])) none.0
    (λ rest. run_again (n.number + 1) end ms m is polls none.1 rest) run

pub junk_again : (low end : ℕ) (ms : List Message) (m : Message) → m.number + 1 ≡ end
    → m.polled ≡ true → NonePolls ms → IsJunkThenRun low end ms
    → IsJunkThenRun low end (ms ++ m ∷ [])
junk_again low end [] m is polls none junk = inl (run_again low end [] m is polls none tt)
junk_again low end (n ∷ ms) m is polls none (inl run) =
    inl (run_again low end (n ∷ ms) m is polls none run)
junk_again low end (n ∷ ms) m is polls none (inr junk) =
    inr (junk.0, junk.1, junk_again low end ms m is polls none.1 junk.2)

pub order_again : (rejecting : Bool) (low end : ℕ) (ms : List Message) (m : Message)
    → m.number + 1 ≡ end → m.polled ≡ true → NonePolls ms → IsInOrder rejecting low end ms
    → IsInOrder rejecting low end (ms ++ m ∷ [])
order_again true low end ms m is polls none order = junk_again low end ms m is polls none order
order_again false low end ms m is polls none order = run_again low end ms m is polls none order

-- a run is in order for any hearer
pub run_is_junk : (low end : ℕ) (ms : List Message) → IsRun low end ms → IsJunkThenRun low end ms
run_is_junk low end [] run = tt
run_is_junk low end (m ∷ ms) run = inl run

pub run_is_order : (rejecting : Bool) (low end : ℕ) (ms : List Message) → IsRun low end ms
    → IsInOrder rejecting low end ms
run_is_order true low end ms run = run_is_junk low end ms run
run_is_order false low end ms run = run

-- ---- The first message is removed.

first_gone : (polled : Bool) (low end number : ℕ) (rest : List Message)
    → IsNext polled low end number rest (IsRun (number + 1) end rest) → IsRun low end rest
first_gone true low end number rest next = subst (λ l. IsRun low end l) (sym next.1) tt
first_gone false low end number rest next =
    run_lower (number + 1) low end rest (omega (arith, next.0)) next.2

-- messages in order for a hearer stay in order when it begins to reject
pub order_is_junk : (rejecting : Bool) (low end : ℕ) (ms : List Message)
    → IsInOrder rejecting low end ms → IsJunkThenRun low end ms
order_is_junk true low end ms order = order
order_is_junk false low end ms order = run_is_junk low end ms order

-- ---- The first message has the awaited number: it is the first of a run.

pub awaited_begins_run : (rejecting : Bool) (low end : ℕ) (m : Message) (ms : List Message)
    → m.number ≡ low → IsInOrder rejecting low end (m ∷ ms) → IsRun low end (m ∷ ms)
awaited_begins_run false low end m ms is run = run
awaited_begins_run true low end m ms is (inl run) = run
awaited_begins_run true low end m ms is (inr junk) = absurd (omega (arith, is, junk.0))

next_floor : (polled : Bool) (low end number : ℕ) (ms : List Message) → low ≤ end
    → IsNext polled low end number ms (IsRun (number + 1) end ms) → low ≤ number + 1
next_floor true low end number ms le next = omega (arith, le, next.0)
next_floor false low end number ms le next = omega (arith, next.0)

-- after it all others are near the next number
pub near_after : (low end k : ℕ) (ms : List Message) → low < end → IsRun (low + 1) end ms
    → Each (IsNearTo low k) ms → Each (IsNearTo (low + 1) k) ms
near_after low end k [] less run near = tt
near_after low end k (m ∷ ms) less run near =
    let from : (low + 1 ≤ m.number) ⊎ (m.number + 1 ≡ end) =
    next_from m.polled (low + 1) end m.number ms (IsRun (m.number + 1) end ms) run in
    let up : m.number < low + k = near.0.1 in
    let here : IsNearTo (low + 1) k m =
    elim from [
      | inl later ↦ (omega (arith, later), omega (arith, up))
      | inr last ↦
          (omega (arith, last, less), omega (arith, up))
    ] in (
      here,
      near_after low end
          k ms less (run_lower (m.number + 1) (low + 1) end
          ms (next_floor m.polled (low + 1) end m.number ms (omega (arith, less)) run)
          (run_rest (low + 1) end m ms run)) near.1,
    )

-- ---- V(S) is set back: the messages in transit become stale, above the number to be sent next.

pub all_is_junk : (low end : ℕ) (ms : List Message) → NonePolls ms
    → Each (λ m. m.polled ≡ false → low < m.number) ms → IsJunkThenRun low end ms
all_is_junk low end [] none above = tt
all_is_junk low end (m ∷ ms) none above =
    inr (above.0 none.0, none.0, all_is_junk low end ms none.1 above.1)

next_above : (polled : Bool) (low at end number : ℕ) (rest : List Message) (Run : Type 0) → at < low
    → IsNext polled low end number rest Run → polled ≡ false → at < number
next_above true low at end number rest Run less next no_poll = cc
next_above false low at end number rest Run less next no_poll = omega (arith, less, next.0)

-- if the first is not the awaited one, all of a run are above it, unless they poll
pub run_above : (low at end : ℕ) (ms : List Message) → at < low → IsRun low end ms
    → Each (λ m. m.polled ≡ false → at < m.number) ms
run_above low at end [] less run = tt
run_above low at end (m ∷ ms) less run = (
  next_above m.polled low at end
      m.number ms (IsRun (m.number + 1) end ms) less run,
  run_above low at end
      ms less (first_gone m.polled low end m.number ms run),
)

-- ---- The N(R).

pub climb_top : (low top : ℕ) (ns : List ℕ) → IsClimb low top ns → low ≤ top
climb_top low top [] climb = climb
climb_top low top (n ∷ ns) climb =
    let up : n ≤ top = climb_top n top ns climb.1 in
    let here : low ≤ n = climb.0 in omega (arith, up, here)

pub climb_to : (low top higher : ℕ) (ns : List ℕ) → top ≤ higher → IsClimb low top ns
    → IsClimb low higher ns
climb_to low top higher [] le climb = omega (arith, le, climb)
climb_to low top higher (n ∷ ns) le climb = (climb.0, climb_to n top higher ns le climb.1)

pub climb_more : (low top : ℕ) (ns : List ℕ) → IsClimb low top ns → IsClimb low top (ns ++ top ∷ [])
climb_more low top [] climb = (climb, omega arith)
climb_more low top (n ∷ ns) climb = (climb.0, climb_more n top ns climb.1)
