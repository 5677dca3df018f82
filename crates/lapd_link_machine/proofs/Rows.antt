-- A row with a test, if the machine shows its result.
use Rattle.std.proofs.Common.{◌≡◌, ℕ, ◌<◌, ◌≤◌, nat_lt, Bool, true, false, if◌then◌else◌, List, Option, Some, None, refl, ap, sym, ◌∙◌, arith}
use Rattle.std.specs.Option.{is_some}
use Rattle.std.proofs.lemmas.Bool.Decides.{nat_tests}
use Rattle.lapd_link_definition.specs.declared.out.Out.{Out}
use Rattle.lapd_link_machine.specs.declared.machine.Machine.{Machine}
use Rattle.lapd_link_machine.specs.Represents.{Represents}
use Rattle.lapd_link_definition.specs.End.{StepState}
use Rattle.lapd_supervision.specs.StateVariables.{StateVariables}
use Rattle.lapd_link_definition.specs.Established.{sends_last}
use Rattle.lapd_link_definition.specs.Parameters.{Parameters}

pub then_row : (m : Machine) (outs : List Out) (test : Bool) (x y : StepState) → test ≡ true
    → Represents m outs x → Represents m outs (if test then x else y)
then_row m outs true x y q h = h
then_row m outs false x y q h = cc

pub else_row : (m : Machine) (outs : List Out) (test : Bool) (x y : StepState) → test ≡ false
    → Represents m outs y → Represents m outs (if test then x else y)
else_row m outs true x y q h = cc
else_row m outs false x y q h = h

-- a row with a test, either way
pub ruleset rows = (then_row, else_row)

-- RC is below N200, or is N200
pub is_below : (rc_there rc n200_there n200 : ℕ) → rc_there ≡ rc → n200_there ≡ n200 → rc < n200
    → nat_lt rc_there n200_there ≡ true
is_below rc_there rc n200_there n200 p q h =
    let test : nat_lt rc n200 ≡ true = grind (arith, nat_tests) in rw (p, q) test

pub is_not_below : (rc_there rc n200_there n200 : ℕ) → rc_there ≡ rc → n200_there ≡ n200 → n200 ≤ rc
    → nat_lt rc_there n200_there ≡ false
is_not_below rc_there rc n200_there n200 p q h =
    let test : nat_lt rc n200 ≡ false = grind (arith, nat_tests) in rw (p, q) test

-- N200 of an end
pub n200_of : (p q : Parameters) (n : ℕ) → p ≡ q → n ≡ q.n200 → p.n200 ≡ n
n200_of p q n h k = let N200 : Parameters → ℕ = λ r. r.n200 in ap N200 h ∙ sym k

-- the frame that T200 sends in state 7, as the machine shows it
pub sends_last_of : (p q : Parameters) (v w : StateVariables) (b : Bool) → p ≡ q → v ≡ w
    → sends_last q.recovery w ≡ b → sends_last p.recovery v ≡ b
sends_last_of p q v w b same alike h = rw (same, alike) h

-- an option that is empty
pub is_none : {X : Type 0} (o : Option X) → is_some o ≡ false → o ≡ None
is_none None h = refl
is_none (Some x) h = cc
