-- Own moves, and own moves and losses, are moves of the line with no early timer: the laws on them
-- are instances.
use Rattle.std.proofs.Common.{◌≡◌, ℕ, ◌*◌, ◌+◌, ◌≤◌, not, true, List, [], ◌∷◌, refl, ap, arith}
use Rattle.std.proofs.lemmas.Nat.{mul-le}
use Rattle.lapd_frame.specs.declared.Side.{Side}
use Rattle.lapd_frame.specs.declared.Side.TheVariants as side
use Rattle.lapd_mod128.specs.Counting.{Reading}
use Rattle.lapd_link_definition.specs.declared.state.State.{State}
use Rattle.lapd_link_definition.specs.declared.state.State.TheVariants.{TimerRecovery}
use Rattle.lapd_link_definition.specs.Parameters.{Parameters}
use Rattle.lapd_pair_laws.specs.Line.{Flight}
use Rattle.lapd_pair_laws.specs.Move.{PairEvent, Deliver, Lose, Expire200, Expire203, Move, Station}
use Rattle.lapd_pair_laws.specs.World.{World, view_of, new_world, happens, world_after, run, left}
use Rattle.lapd_recovery_laws.specs.EarlyTimers.{IsLineMove, AreLineMoves, is_early, earlies, if_in_8, overtaken_by, overtaken, most_line_moves, ComesBackDespiteTimers}
use Rattle.lapd_recovery_laws.specs.EveryWorld.{IsFreeWorld, WorldComesBack}
use Rattle.lapd_recovery_laws.specs.Losses.{is_loss, IsOwnOrLoss, AreOwnOrLosses, one_if, losses, ComesBackDespite}
use Rattle.lapd_recovery_laws.specs.Own.{is_line_empty, IsOwn, AreOwn}
use Rattle.lapd_recovery_laws.proofs.DespiteTimers.{every_world_comes_back_despite_early_timers}
use Rattle.lapd_recovery_laws.proofs.Lost.{at}

-- ---- Own moves and losses.

none_in_8 : (state : State) → if_in_8 state 0 ≡ 0
none_in_8 TimerRecovery = refl
none_in_8 state = refl

-- on an empty line T200 overtakes nothing
none_overtaken : (s : Side) (x y : Station) (to_user to_network : List Flight)
    → is_line_empty (at x y to_user to_network) ≡ true
    → overtaken_by Expire200 (view_of s (at x y to_user to_network)) ≡ 0
none_overtaken side.User x y [] [] empty = none_in_8 x.end.state
none_overtaken side.Network x y [] [] empty = none_in_8 y.end.state
none_overtaken s x y (frame ∷ rest) to_network empty = cc
none_overtaken s x y [] (frame ∷ rest) empty = cc

record IsTimely (r : Reading) (s : Side) (event : PairEvent) (w : World) : Type 0 where
  line : IsLineMove r (record { side = s; event = event }) w
  early : one_if (is_early event w) ≡ 0
  late : overtaken_by event (view_of s w) ≡ 0

timely : (r : Reading) (s : Side) (event : PairEvent) (w : World)
    → IsOwnOrLoss r (record { side = s; event = event }) w → IsTimely r s event w
timely r s Deliver w own =
    record { line = record { of_line = refl; admitted = own.admitted }; early = refl; late = refl }
timely r s (Lose i) w own =
    record { line = record { of_line = refl; admitted = own.admitted }; early = refl; late = refl }
timely r s Expire200 w own = record {
  line = record { of_line = refl; admitted = own.admitted };
  early = ap (λ b. one_if (not b)) own.due;
  late = none_overtaken s w.user w.network w.to_user w.to_network own.due;
}
timely r s Expire203 w own = record {
  line = record { of_line = refl; admitted = own.admitted };
  early = ap (λ b. one_if (not b)) own.due;
  late = refl;
}
timely r s event w own = let due = own.due in cc

pub record AreTimely (r : Reading) (moves : List Move) (w : World) : Type 0 where
  pub line : AreLineMoves r moves w
  pub early : earlies r moves w ≡ 0
  pub late : overtaken r moves w ≡ 0

pub are_timely : (r : Reading) (moves : List Move) (w : World) → AreOwnOrLosses r moves w
    → AreTimely r moves w
are_timely r [] w own = record { line = tt; early = refl; late = refl }
are_timely r (move ∷ moves) w own =
    let one = timely r move.side move.event w own.0 in
    let rest = are_timely r moves (world_after w (happens r move w)) own.1 in
    let a = one.early in
    let b = rest.early in
    let c = one.late in
    let d = rest.late in
    record {
      line = (one.line, rest.line);
      early = omega (arith, a, b);
      late = omega (arith, c, d);
    }

pub every_world_comes_back_despite_losses : (r : Reading) (n200 : ℕ) → 1 ≤ n200
    → (user network : Parameters) → user.k ≤ 127 → network.k ≤ 127 → 1 ≤ user.k → 1 ≤ network.k
    → (moves : List Move) → IsFreeWorld n200 (run r moves (new_world user network))
    → ComesBackDespite r n200 (run r moves (new_world user network))
every_world_comes_back_despite_losses r n200 some user network u n us ns moves a =
    of_timers (run r moves (new_world user network))
    (every_world_comes_back_despite_early_timers r n200 some user network u n us ns moves a)
  where
    of_timers : (w : World) → ComesBackDespiteTimers r n200 w → ComesBackDespite r n200 w
    of_timers w c = record {
      few = λ lost moves own le.
          let t = are_timely r moves w own in
          let early = t.early in
          let late = t.late in
          let same : most_line_moves (losses moves) (earlies r moves w) (overtaken r moves w) n200 w
          ≡ most_line_moves (losses moves) 0 0 n200 w =
          rw (early, late) refl in
          let few = c.few moves t.line in
          let more =
          mul-le (losses moves) (4 * left w + 6 * n200 + 18) lost (4 * left w + 6 * n200 + 18) le
          (omega arith) in
          omega (arith, few, same, more);
      agreed = λ moves own rests. c.agreed moves (are_timely r moves w own).line rests;
    }

-- ---- Own moves alone.

own_or_loss : (r : Reading) (s : Side) (event : PairEvent) (w : World)
    → IsOwn r (record { side = s; event = event }) w
    → IsOwnOrLoss r (record { side = s; event = event }) w × (one_if (is_loss event) ≡ 0)
own_or_loss r s Deliver w own = (record { due = refl; admitted = own.admitted }, refl)
own_or_loss r s Expire200 w own = (record { due = own.due; admitted = own.admitted }, refl)
own_or_loss r s Expire203 w own = (record { due = own.due; admitted = own.admitted }, refl)
own_or_loss r s event w own = let due = own.due in cc

pub own_or_losses : (r : Reading) (moves : List Move) (w : World) → AreOwn r moves w
    → AreOwnOrLosses r moves w × (losses moves ≡ 0)
own_or_losses r [] w own = (tt, refl)
own_or_losses r (move ∷ moves) w own =
    let one = own_or_loss r move.side move.event w own.0 in
    let rest = own_or_losses r moves (world_after w (happens r move w)) own.1 in
    let a = one.1 in let b = rest.1 in ((one.0, rest.0), omega (arith, a, b))

pub every_world_comes_back : (r : Reading) (n200 : ℕ) → 1 ≤ n200 → (user network : Parameters)
    → user.k ≤ 127 → network.k ≤ 127 → 1 ≤ user.k → 1 ≤ network.k → (moves : List Move)
    → IsFreeWorld n200 (run r moves (new_world user network))
    → WorldComesBack r n200 (run r moves (new_world user network))
every_world_comes_back r n200 some user network u n us ns moves a =
    of_losses (run r moves (new_world user network))
    (every_world_comes_back_despite_losses r n200 some user network u n us ns moves a)
  where
    of_losses : (w : World) → ComesBackDespite r n200 w → WorldComesBack r n200 w
    of_losses w c = record {
      few = λ moves own.
          let o = own_or_losses r moves w own in
          let none = o.1 in let few = c.few 0 moves o.0 (omega (arith, none)) in omega (arith, few);
      agreed = λ moves own rests. c.agreed moves (own_or_losses r moves w own).0 rests;
    }
