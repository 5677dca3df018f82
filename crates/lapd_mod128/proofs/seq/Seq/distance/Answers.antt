use Rattle.std.proofs.Common.{ℕ, refl, subst, arith, rules}
use Rattle.lapd_mod128.specs.Counting.{Tagged, AreSteps, steps, reaches}
use Rattle.lapd_mod128.proofs.Steps.{steps_are_counted}
use Rattle.lapd_mod128.proofs.seq.Seq.distance.Goals as goal

pub returns-clause-counted : goal.returns-clause-counted
unfolding steps reaches
returns-clause-counted c =
    let P : ℕ → Type 0 = λ n. AreSteps Tagged n c.args.a c.args.b in
    subst P (omega arith)
    (steps_are_counted Tagged c.args.a c.args.b (omega arith) (omega arith) refl)

pub returns-clause-subtracted : goal.returns-clause-subtracted
unfolding steps
returns-clause-subtracted c = search rules
