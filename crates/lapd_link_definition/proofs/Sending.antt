-- The messages that are sent at the end of a step, one after another.
use Rattle.std.proofs.Common.{◌≡◌, ℕ, zero, suc, ◌+◌, ◌-◌, ◌<◌, nat_lt, Bool, true, false, ◌&&◌, length, refl, ap, ◌∙◌, arith}
use Rattle.std.proofs.lemmas.Bool.Decides.{nat_tests}
use Rattle.lapd_mod128.specs.Counting.{Reading, Tagged, reaches}
use Rattle.lapd_supervision.specs.StateVariables.{may_send}
use Rattle.lapd_link_definition.specs.EndOfStep.{may_send_next, send_all, send_next, is_established}
use Rattle.lapd_link_definition.specs.End.{StepState, unsent}
use Rattle.lapd_link_definition.specs.Procedures.{transmit_i_frame, ensure_t200}

pub both_true : (a b : Bool) → (a && b) ≡ true → (a ≡ true) × (b ≡ true)
both_true true b h = (refl, h)
both_true false b h = cc

pub below : (a b : ℕ) → nat_lt a b ≡ true → a < b
below a b h = grind (arith, nat_tests)

sends_one_more : (r : Reading) (n : ℕ) (s : StepState) → may_send_next r s ≡ true
    → send_all r (suc n) s ≡ send_all r n (send_next r s)
unfolding send_all
sends_one_more r n s go = rw go refl

-- one message is sent, and then the rest
pub sends_one : (r : Reading) (s : StepState) → may_send_next r s ≡ true
    → send_all r (unsent s.end) s ≡ send_all r (unsent (send_next r s).end) (send_next r s)
unfolding transmit_i_frame ensure_t200
sends_one r s go =
    let one =
    both_true (is_established s.end.state)
    (may_send r s.end.parameters.k s.end.window && nat_lt s.end.next (length s.end.given))
    go in
    let two =
    both_true (may_send r s.end.parameters.k s.end.window)
    (nat_lt s.end.next (length s.end.given)) one.1 in
    let free = below s.end.next (length s.end.given) two.1 in
    let more : unsent s.end ≡ suc (length s.end.given - (s.end.next + 1)) = omega (arith, free) in
    ap (λ n. send_all r n s) more ∙ sends_one_more r (length s.end.given - (s.end.next + 1)) s go

-- sending stops when no more may be sent
pub sends_none : (r : Reading) (n : ℕ) (s : StepState) → may_send_next r s ≡ false
    → send_all r n s ≡ s
unfolding send_all
sends_none r zero s stop = refl
sends_none r (suc n) s stop = rw stop refl

pub tags_reach : (va vs : ℕ) → reaches Tagged va vs ≡ true
unfolding reaches
tags_reach va vs = refl
