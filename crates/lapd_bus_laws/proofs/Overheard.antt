-- An event of the network with another terminal's line, seen from this terminal's interface.
use Rattle.std.proofs.Common.{ℕ, List, [], ◌∷◌, refl}
use Rattle.std.proofs.lemmas.List.{append-nil}
use Rattle.lapd_sides.specs.User.{User}
use Rattle.lapd_side_events.specs.SideView.{SideView, SideEvent, Take, Lose, Expire, Ask, Overhear, does}
use Rattle.lapd_side_events.specs.Interface.{Configs}
use Rattle.lapd_side_events.specs.Bus.{Bus, IsOverheard}

overheard_take : (c : Configs) (now : ℕ) (t other : SideView User) (b : Bus) (line : List (List ℕ))
    → IsOverheard c (Take now) t (record other { outgoing = line }) b
unfolding does
overheard_take c now t other b [] = rw (
  append-nil b.delivered,
  append-nil b.given,
  append-nil
      t.incoming,
) refl
overheard_take c now t other b (octets ∷ rest) = refl

pub overhears : (c : Configs) (event : SideEvent) (t other : SideView User) (b : Bus)
    → IsOverheard c event t other b
unfolding does
overhears c (Take now) t other b = overheard_take c now t other b other.outgoing
overhears c (Lose at) t other b = rw (
  append-nil b.delivered,
  append-nil b.given,
  append-nil
      t.incoming,
) refl
overhears c (Expire timer of now) t other b = refl
overhears c (Ask request now) t other b = refl
overhears c (Overhear octets now) t other b = refl
