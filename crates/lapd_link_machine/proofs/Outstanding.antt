-- If V(S) is not V(A), a message is sent.
use Rattle.std.proofs.Common.{◌≡◌, ◌<◌, ◌==◌, ℕ, false, arith}
use Rattle.lapd_mod128.specs.Counting.{Tagged, steps}
use Rattle.lapd_supervision.specs.StateVariables.{StateVariables, outstanding}

differ : (a b : ℕ) → (a == b) ≡ false → a < 128 → b < 128 → 0 < steps Tagged b a
unfolding steps
differ a b h low high = grind (arith, h)

pub some_are_sent : (v : StateVariables) (sent : ℕ) → v.vs < 128 → v.va < 128
    → (v.vs == v.va) ≡ false → sent ≡ outstanding Tagged v → 0 < sent
some_are_sent v sent low high h counted = omega (arith, differ v.vs v.va h low high, counted)
