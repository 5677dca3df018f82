-- Timers that expire one after another, until none is due.
use Rattle.std.proofs.Common.{◌≡◌, ℕ, List, [], ◌∷◌, ◌++◌, refl, subst}
use Rattle.lapd_sides_links.specs.Effects.{Effects}
use Rattle.lapd_sides.specs.declared.either_side.EitherSide.{EitherSide}
use Rattle.lapd_sides.specs.Either.{Expires, StaysIdle}
use Rattle.lapd_cli_side_lines.specs.Calls.{ExpireInOrder}

-- these timers were due and expired, one after another
abbrev pub AreExpired : ℕ → List Effects → EitherSide → EitherSide → Type 0
AreExpired now [] old new = new ≡ old
AreExpired now (acts ∷ more) old new =
    (mid : EitherSide) × Expires now old mid acts × AreExpired now more mid new

pub one_more : (now : ℕ) (calls : List Effects) (acts : Effects) (old mid new : EitherSide)
    → AreExpired now calls old mid → Expires now mid new acts
    → AreExpired now (calls ++ acts ∷ []) old new
one_more now [] acts old mid new are due =
    (new, subst (λ (side : EitherSide). Expires now side new acts) are due, refl)
one_more now (first ∷ calls) acts old mid new are due =
    (are.0, are.1, one_more now calls acts are.0 mid new are.2 due)

pub then_none : (now : ℕ) (calls : List Effects) (old mid new : EitherSide)
    → AreExpired now calls old mid → StaysIdle now mid new → ExpireInOrder now calls old new
then_none now [] old mid new are rests =
    subst (λ (side : EitherSide). StaysIdle now side new) are rests
then_none now (acts ∷ calls) old mid new are rests =
    (are.0, are.1, then_none now calls are.0 mid new are.2 rests)
