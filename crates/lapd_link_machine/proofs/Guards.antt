-- T200 runs while sent frames are outstanding: both cases of whether it runs already.
use Rattle.std.proofs.Common.{◌≡◌, Bool, true, false, refl, ap, ◌∙◌, append-nil}
use Rattle.lapd_timers.specs.declared.timer.Timer.TheVariants.{T200, T203}
use Rattle.lapd_link_definition.specs.End.{StepState}
use Rattle.lapd_link_definition.specs.Procedures.{ensure_t200, start, stop}

pub guard_starts : (s : StepState) → s.end.t200 ≡ false → start T200 (stop T203 s) ≡ ensure_t200 s
unfolding ensure_t200 start stop
guard_starts s h = rw h refl

pub guard_runs : (s : StepState) → s.end.t200 ≡ true → s ≡ ensure_t200 s
unfolding ensure_t200
guard_runs s h =
    let F : Bool → StepState = λ b. record { end = record (s.end) { t200 = b }; outs = s.outs } in
    let same : F true ≡ ensure_t200 s = rw (h, append-nil s.outs, append-nil s.outs) refl in
    ap F h ∙ same
