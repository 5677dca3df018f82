-- Successive calls of a side, and their combined output.
use Rattle.std.specs.Prelude.{ℕ, List, [], ◌∷◌, flat_map}
use Rattle.lapd_sides_links.specs.declared.primitive.Primitive.{Primitive}
use Rattle.lapd_sides_links.specs.Effects.{Effects}
use Rattle.lapd_sides.specs.declared.either_side.EitherSide.{EitherSide}
use Rattle.lapd_sides.specs.Either.{Expires, StaysIdle}

-- the frames that the calls return, in order; likewise the primitives
abbrev pub frames_given : List Effects → List (List ℕ)
frames_given calls = flat_map (λ acts. acts.frames) calls

abbrev pub primitives_given : List Effects → List Primitive
primitives_given calls = flat_map (λ acts. acts.primitives) calls

-- these timers were due and expired, one after another, until no timer was due
abbrev pub ExpireInOrder : ℕ → List Effects → EitherSide → EitherSide → Type 0
ExpireInOrder now [] old new = StaysIdle now old new
ExpireInOrder now (acts ∷ more) old new =
    (mid : EitherSide) × Expires now old mid acts × ExpireInOrder now more mid new
