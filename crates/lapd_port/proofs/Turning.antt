-- Calls of a source or sink, one after the other.
use Rattle.std.proofs.Common.{◌≡◌, ℕ, ◌+◌, ◌<◌, ◌≤◌, zero, suc, sym, subst, ◌∙◌, arith, Result, Ok, Err, IsErrAnd}
use Rattle.lapd_port.specs.declared.port_fault.PortFault.{PortFault}
use Rattle.lapd_port.specs.declared.port_fault.PortFault.TheVariants.{TooManyTurns}
use Rattle.lapd_port.specs.Device.{Turns}
use Rattle.lapd_port.specs.Port.{MakesTurns}

-- as many calls as two counts differ by
abbrev pub TurnsBetween : {D : Type 0} → (D → D → Type 0) → ℕ → ℕ → D → D → Type 0
TurnsBetween turn before after old new =
    (count : ℕ) × Turns turn count old new × (after ≡ before + count)

-- one more call
pub with_turn : {D : Type 0} (turn : D → D → Type 0) (count : ℕ) (old mid new : D)
    → Turns turn count old mid → turn mid new → Turns turn (count + 1) old new
with_turn {D} turn count old mid new made step =
    let e : suc count ≡ count + 1 = omega arith in
    let F : ℕ → Type 0 = λ k. Turns turn k old new in
    subst F e (mid, made, step)

-- the calls of a piece of work that does not end in S5
pub made_some : {D T : Type 0} (turn : D → D → Type 0) (result : Result T PortFault) (count : ℕ)
    (old mid new : D) → Turns turn count old mid → turn mid new → count < 4096
    → (result ≡ Err TooManyTurns → ⊥) → MakesTurns turn result old new
made_some turn result count old mid new made step few other =
    (count + 1, with_turn turn count old mid new made step, omega arith, λ is. absurd (other is))

-- one more call
pub one_more_made : {D : Type 0} (turn : D → D → Type 0) (before after : ℕ) (old mid new : D)
    → TurnsBetween turn before after old mid → turn mid new
    → TurnsBetween turn before (after + 1) old new
one_more_made turn before after old mid new made step =
    (suc made.0, (mid, made.1, step), omega (arith, made.2))

-- calls, followed by others
pub made_after : {D : Type 0} (turn : D → D → Type 0) (n m : ℕ) (old mid new : D)
    → Turns turn n old mid → Turns turn m mid new → Turns turn (n + m) old new
made_after {D} turn n zero old mid new made more =
    let e : n ≡ n + 0 = omega arith in
    let F : ℕ → Type 0 = λ k. Turns turn k old new in
    let G : D → Type 0 = λ d. Turns turn n old d in
    subst F e (subst G (sym more) made)
made_after {D} turn n (suc m) old mid new made more =
    let e : suc (n + m) ≡ n + suc m = omega arith in
    let F : ℕ → Type 0 = λ k. Turns turn k old new in
    subst F e (more.0, made_after turn n m old mid more.0 made more.1, more.2)

-- the calls of two pieces of work: at most 4,096, and exactly 4,096 if the result is S5
pub both_made : {D T : Type 0} (turn : D → D → Type 0) (result : Result T PortFault)
    (between after : ℕ) (old mid new : D) → TurnsBetween turn 0 between old mid
    → TurnsBetween turn between after mid new → after ≤ 4096
    → (result ≡ Err TooManyTurns → after ≡ 4096) → MakesTurns turn result old new
both_made turn result between after old mid new first second most all =
    let n = first.0 in
    let m = second.0 in (
      n + m,
      made_after turn n m old mid new first.1 second.1,
      omega (arith, first.2, second.2),
      λ is. omega (arith, first.2, second.2, all is),
    )

-- the fault is passed on
pub same_fault : (result : Result ℕ PortFault) (passed fault : PortFault)
    → IsErrAnd result (λ e. e ≡ passed) → result ≡ Err fault → passed ≡ fault
same_fault (Ok answer) passed fault is e = absurd is
same_fault (Err other) passed fault is e = let h : other ≡ fault = cc in sym is ∙ h
