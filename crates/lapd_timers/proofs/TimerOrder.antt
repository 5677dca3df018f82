-- The order of the timers: each has a place of its own.
use Rattle.std.proofs.Common.{◌≡◌, ℕ, suc, zero, refl, sym, ap, ◌∙◌}
use Rattle.lapd_timers.specs.declared.timer.Timer.{Timer}
use Rattle.lapd_timers.specs.declared.timer.Timer.TheVariants.{T200, T201, T202, T203}
use Rattle.lapd_timers.specs.Due.{place}

timer_at : ℕ → Timer
timer_at zero = T200
timer_at (suc zero) = T201
timer_at (suc (suc zero)) = T202
timer_at (suc (suc (suc n))) = T203

timer_again : (t : Timer) → timer_at (place t) ≡ t
unfolding timer_at
timer_again T200 = refl
timer_again T201 = refl
timer_again T202 = refl
timer_again T203 = refl

pub same_place : (a b : Timer) → place a ≡ place b → a ≡ b
same_place a b same = sym (timer_again a) ∙ (ap timer_at same ∙ timer_again b)
