-- Verdicts on a case: its purpose, and the judgement on all frames that were seen.
use Rattle.std.specs.Prelude.{Bool, true, false, ℕ}
use Rattle.lapd_conform.specs.declared.judgement.Judgement.{Judgement}
use Rattle.lapd_conform.specs.declared.judgement.Judgement.TheVariants.{Allowed, Refused, TooMany, LayerThree}
use Rattle.lapd_conform.specs.declared.judgement.Verdict.{Verdict}
use Rattle.lapd_conform.specs.declared.judgement.Verdict.TheVariants.{Pass, Fail, Inconclusive}

-- A case fails if and only if no run of an allowed table has the frames. It passes if some run has
-- them and the purpose was reached.
abbrev pub verdict_of : Bool → Judgement → Verdict
verdict_of reached (Refused place) = Fail
verdict_of true Allowed = Pass
verdict_of reached other = Inconclusive
