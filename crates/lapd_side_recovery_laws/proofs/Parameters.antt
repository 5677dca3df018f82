-- Moves do not change the parameters of two ends.
use Rattle.std.proofs.Common.{◌≡◌, ◌≤◌, List, [], ◌∷◌, refl, ap, ◌∙◌}
use Rattle.lapd_mod128.specs.Counting.{Whole, Tagged}
use Rattle.lapd_link_definition.specs.Parameters.{Parameters}
use Rattle.lapd_pair_laws.specs.Invariant.{IsInvariant}
use Rattle.lapd_pair_laws.specs.Move.{Move}
use Rattle.lapd_pair_laws.specs.World.{World, happens, new_world, run, world_after}
use Rattle.lapd_pair_laws.proofs.Reached.{reached_tags}
use Rattle.lapd_pair_laws.proofs.Whole.{each_move_preserves}
use Rattle.lapd_pair_laws.proofs.Worlds.{new_holds}
use Rattle.lapd_recovery_laws.proofs.AfterOutage.{same_parameters}

stay : (moves : List Move) (w : World) → IsInvariant w
    → ((run Whole moves w).user.end.parameters ≡ w.user.end.parameters)
    × ((run Whole moves w).network.end.parameters ≡ w.network.end.parameters)
stay [] w holds = (refl, refl)
stay (move ∷ moves) w holds =
    let one = same_parameters move w holds in
    let rest = stay moves (world_after w (happens Whole move w))
    (each_move_preserves move w holds) in
    (rest.0 ∙ one.0, rest.1 ∙ one.1)

-- after every run the ends have the parameters of the new ends
pub reached_parameters : (p q : Parameters) → p.k ≤ 127 → q.k ≤ 127 → (moves : List Move)
    → ((run Tagged moves (new_world p q)).user.end.parameters ≡ p)
    × ((run Tagged moves (new_world p q)).network.end.parameters ≡ q)
reached_parameters p q small_p small_q moves =
    let same = stay moves (new_world p q) (new_holds p q small_p small_q) in
    let tags = reached_tags p q small_p small_q moves in (
      ap (λ (w : World). w.user.end.parameters) tags ∙ same.0,
      ap (λ (w : World). w.network.end.parameters) tags ∙ same.1,
    )
