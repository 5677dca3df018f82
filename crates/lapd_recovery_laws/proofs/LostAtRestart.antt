-- A restart that drops all frames in transit is a move with quick restarts, followed by losses.
use Rattle.std.proofs.Common.{◌≡◌, ℕ, zero, suc, ◌==◌, if◌then◌else◌, Bool, true, false, List, [], ◌∷◌, ◌++◌, length, nat_lt, append-nil, Ok, ap, refl, sym, ◌∙◌, arith}
use Rattle.std.proofs.lemmas.Bool.Decides.{nat_tests}
use Rattle.lapd_frame.specs.Address.{other_side}
use Rattle.lapd_frame.specs.declared.Side.{Side}
use Rattle.lapd_frame.specs.declared.Side.TheVariants as side
use Rattle.lapd_mod128.specs.Counting.{Reading}
use Rattle.lapd_pair_laws.specs.Line.{Flight}
use Rattle.lapd_pair_laws.specs.Move.{Lose, Restart, Move, Station, restarts, loses, acts}
use Rattle.lapd_pair_laws.specs.World.{World, view_of, with_view, happens, world_after}
use Rattle.lapd_recovery_laws.specs.QuickRestart.{exchange_in, restarts_quickly, happens_quickly, run_quickly, losses, restart_and_losses}

-- ---- The frames to a side are lost, before other moves.

abbrev between : Station → Station → List Flight → List Flight → World
between user network to_user to_network =
    record { user = user; network = network; to_user = to_user; to_network = to_network }

some_there : (n : ℕ) → nat_lt 0 (suc n) ≡ true
some_there n = grind (arith, nat_tests)

module _ (r : Reading) (user network : Station) (rest : List Move) where
  one_to_user : (frame : Flight) (frames other : List Flight)
      → happens_quickly r (record { side = side.User; event = Lose 0 })
      (between user network (frame ∷ frames) other)
      ≡ Ok (record { world = between user network frames other; outs = [] })
  unfolding happens_quickly acts loses
  one_to_user frame frames other = rw (some_there (length frames)) refl

  lost_to_user : (frames other : List Flight)
      → run_quickly r (losses side.User (length frames) ++ rest) (between user network frames other)
      ≡ run_quickly r rest (between user network [] other)
  lost_to_user [] other = refl
  lost_to_user (frame ∷ frames) other =
      ap (λ h. run_quickly r (losses side.User (length frames) ++ rest)
      (world_after (between user network (frame ∷ frames) other) h))
      (one_to_user frame frames other) ∙ lost_to_user frames other

  one_to_network : (frame : Flight) (frames other : List Flight)
      → happens_quickly r (record { side = side.Network; event = Lose 0 })
      (between user network other (frame ∷ frames))
      ≡ Ok (record { world = between user network other frames; outs = [] })
  unfolding happens_quickly acts loses
  one_to_network frame frames other = rw (some_there (length frames)) refl

  lost_to_network : (frames other : List Flight)
      → run_quickly r (losses side.Network (length frames) ++ rest)
      (between user network other frames) ≡ run_quickly r rest (between user network other [])
  lost_to_network [] other = refl
  lost_to_network (frame ∷ frames) other =
      ap (λ h. run_quickly r (losses side.Network (length frames) ++ rest)
      (world_after (between user network other (frame ∷ frames)) h))
      (one_to_network frame frames other) ∙ lost_to_network frames other

  -- on an empty line nothing is lost
  none_to_user : (n : ℕ) (other : List Flight)
      → run_quickly r (losses side.User n ++ rest) (between user network [] other)
      ≡ run_quickly r rest (between user network [] other)
  unfolding happens_quickly acts loses
  none_to_user zero other = refl
  none_to_user (suc n) other = none_to_user n other

  none_to_network : (n : ℕ) (other : List Flight)
      → run_quickly r (losses side.Network n ++ rest) (between user network other [])
      ≡ run_quickly r rest (between user network other [])
  unfolding happens_quickly acts loses
  none_to_network zero other = refl
  none_to_network (suc n) other = none_to_network n other

-- ---- The line is empty afterwards, whether the restart was quick or not.

lines_empty : (r : Reading) (s : Side) (quick : Bool) (w : World) (to_other : List Move)
    → to_other ≡ losses (other_side s) (length (view_of s w).outgoing) ++ []
    → run_quickly r (losses s (length (view_of s w).incoming) ++ to_other)
    (with_view s (if quick then restarts_quickly (view_of s w) else restarts (view_of s w)) w)
    ≡ with_view s (restarts (view_of s w)) w
unfolding restarts restarts_quickly
lines_empty r side.User true w to_other is =
    rw is (lost_to_user r _ w.network _ w.to_user w.to_network
    ∙ lost_to_network r _ w.network [] w.to_network [])
lines_empty r side.User false w to_other is =
    rw is (none_to_user r _ w.network _ (length w.to_user) []
    ∙ none_to_network r _ w.network [] (length w.to_network) [])
lines_empty r side.Network true w to_other is =
    rw is
    (lost_to_network r w.user _ _ w.to_network w.to_user ∙ lost_to_user r w.user _ [] w.to_user [])
lines_empty r side.Network false w to_other is =
    rw is (none_to_network r w.user _ _ (length w.to_network) []
    ∙ none_to_user r w.user _ [] (length w.to_user) [])

pub restart_may_drop : (r : Reading) (s : Side) (w : World)
    → run_quickly r (restart_and_losses s (view_of s w)) w
    ≡ world_after w (happens r (record { side = s; event = Restart }) w)
unfolding happens happens_quickly acts
restart_may_drop r s w =
    lines_empty r s (exchange_in (view_of s w) == 0) w
    (losses (other_side s) (length (view_of s w).outgoing)) (sym (append-nil _))
