-- A name for the words that a run of two ends computes with.
use Rattle.std.proofs.Common.{ℕ, zero}
use Rattle.lapd_link_definition.proofs.ComputedStep.{computed_step}
use Rattle.lapd_pair_laws.specs.Move.{story_after, view_after, receives, takes, delivers, loses, expires_200, expires_203, restarts, acts}
use Rattle.lapd_pair_laws.specs.World.{happens}
use Rattle.lapd_pair_laws.specs.Eager.{expires_eagerly, happens_eagerly}

-- all that a run of two ends computes with, and all that an eager one does
unfoldable pub computed_run : ℕ
unfolding computed_step story_after view_after receives takes delivers loses expires_200 expires_203
    restarts acts happens expires_eagerly happens_eagerly
computed_run = zero
