-- The result of a case, and what it rests on.
use Rattle.std.specs.Prelude.{◌≡◌, ⊤, true, ℕ, Option, Some, None, is_some}
use Rattle.lapd_conform.specs.declared.judgement.Judgement.{Judgement}
use Rattle.lapd_conform.specs.declared.judgement.Judgement.TheVariants.{Refused}
use Rattle.lapd_conform.specs.declared.judgement.Verdict.TheVariants.{Pass, Fail}
use Rattle.lapd_conform.specs.declared.outcome.Outcome.{Outcome}
use Rattle.lapd_conform.specs.declared.outcome.Outcome.TheVariants.{NotApplicable, Played as WasPlayed}
use Rattle.lapd_conform.specs.declared.outcome.Played.{Played}

-- the place of the frame that is refused
abbrev pub place_refused : Judgement → Option ℕ
place_refused (Refused place) = Some place
place_refused other = None

-- A case that failed has the frame that is refused. A case that passed reached its purpose, and no
-- frame is refused.
pub record HasReasons (p : Played) : Type 0 where
  pub failed : p.verdict ≡ Fail → is_some p.refused ≡ true
  pub reached : p.verdict ≡ Pass → p.reason ≡ None
  pub allowed : p.verdict ≡ Pass → p.refused ≡ None

abbrev pub IsReasoned : Outcome → Type 0
IsReasoned (NotApplicable lacks) = ⊤
IsReasoned (WasPlayed p) = HasReasons p
