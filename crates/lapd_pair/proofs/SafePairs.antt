-- Every pair is safe.
use Rattle.std.proofs.Common.{◌≤◌, List, [], ◌∷◌, ◌++◌, subst}
use Rattle.std.proofs.Math.Logic.{∥∥₁_map}
use Rattle.lapd_mod128.specs.Counting.{Tagged}
use Rattle.lapd_link_definition.specs.Parameters.{Parameters}
use Rattle.lapd_pair_laws.specs.Move.{Move}
use Rattle.lapd_pair_laws.specs.World.{new_world, run}
use Rattle.lapd_pair_laws.proofs.Reached.{every_run_safe, every_run_reports, every_run_is_due, reached_tags, reached_outcomes}
use Rattle.lapd_pair.specs.declared.pair.Pair.{Pair}
use Rattle.lapd_pair.specs.Runs.{AreDueThroughout, IsSafePair}
use Rattle.lapd_pair.proofs.Pairs.{run_more}

-- the first frames are due in each world on the way
module _ (user network : Parameters) (user_window : user.k ≤ 127)
    (network_window : network.k ≤ 127) where
  due_throughout : (before after : List Move)
      → AreDueThroughout Tagged after (run Tagged before (new_world user network))
  due_throughout before [] = every_run_is_due Tagged user network user_window network_window before
  due_throughout before (move ∷ after) = (
    every_run_is_due Tagged user network user_window network_window before,
    subst (AreDueThroughout Tagged after) (run_more before move (new_world user network))
        (due_throughout (before ++ move ∷ []) after),
  )

pub pair_is_safe : (p : Pair) → ∥ IsSafePair p ∥₁
pair_is_safe p = ∥∥₁_map p.reached (λ x. record {
  user = x.user;
  network = x.network;
  moves = x.moves;
  representation = x.represent;
  same = reached_tags x.user x.network x.few_of_user x.few_of_network x.moves;
  same_outcomes = reached_outcomes x.user x.network x.few_of_user x.few_of_network x.moves;
  safe = every_run_safe Tagged x.user x.network x.few_of_user x.few_of_network x.moves;
  reports = every_run_reports Tagged x.user x.network x.few_of_user x.few_of_network x.moves;
  due = due_throughout x.user x.network x.few_of_user x.few_of_network [] x.moves;
})
