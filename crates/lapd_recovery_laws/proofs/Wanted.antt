-- A link that one end wants and neither releases comes up, from every world that a run leads to.
use Rattle.std.proofs.Common.{◌≡◌, ◌⊎◌, inl, inr, ℕ, ◌+◌, ◌≤◌, false, List, [], ◌∷◌, map, refl, sym, ap, ◌∙◌, arith}
use Rattle.lapd_frame.specs.declared.Side.{Side}
use Rattle.lapd_frame.specs.declared.Control.{Control}
use Rattle.lapd_frame.specs.declared.Control.TheVariants.{I, Rr, Rnr, Rej}
use Rattle.lapd_mod128.specs.Counting.{Reading, Whole, Tagged}
use Rattle.lapd_supervision.specs.Tags.{tag_control}
use Rattle.lapd_link_definition.specs.declared.state.State.TheVariants.{TeiAssigned, AwaitingEstablishment}
use Rattle.lapd_link_definition.specs.EndOfStep.{is_7_or_8}
use Rattle.lapd_link_definition.specs.End.{End}
use Rattle.lapd_link_definition.specs.Parameters.{Parameters}
use Rattle.lapd_pair_laws.specs.Consistent.{IsConsistentWorld}
use Rattle.lapd_pair_laws.specs.Invariant.{IsInvariant}
use Rattle.lapd_pair_laws.specs.Line.{Flight}
use Rattle.lapd_pair_laws.specs.Move.{PairEvent, Deliver, Lose, Expire200, Expire203, Move}
use Rattle.lapd_pair_laws.specs.Tagged.{tag_flight, tag_world}
use Rattle.lapd_pair_laws.specs.World.{World, new_world, run}
use Rattle.lapd_recovery_laws.specs.WantedLine.{StaysUp, is_dm, NoneRefused, IsWanted}
use Rattle.lapd_recovery_laws.specs.Agreed.{AreLevel, AreReleased, AreAgreed}
use Rattle.lapd_recovery_laws.specs.EarlyTimers.{IsLineMove, AreLineMoves}
use Rattle.lapd_recovery_laws.specs.EveryWorld.{IsFreeWorld}
use Rattle.lapd_recovery_laws.specs.Losses.{is_loss, one_if, losses}
use Rattle.lapd_recovery_laws.proofs.AfterOutage.{facts_after, wanting_by_tags}
use Rattle.lapd_recovery_laws.proofs.CountedMoves.{after}
use Rattle.lapd_recovery_laws.proofs.DespiteTimers.{despite_timers, line_moves_by_tags}
use Rattle.lapd_recovery_laws.proofs.DiscSent.{no_disc_after_run}
use Rattle.lapd_recovery_laws.proofs.EveryWorld.{free_world_by_tags}
use Rattle.lapd_recovery_laws.proofs.KeepsWanted.{Wants, IsUndisturbed, undisturbed, delivery_keeps}
use Rattle.lapd_recovery_laws.proofs.OutageWorlds.{Facts}
use Rattle.lapd_recovery_laws.proofs.OwnOnTags.{are_level_on_tags, at_rest_on_tags}
use Rattle.lapd_recovery_laws.proofs.RunsEmpty as runs
use Rattle.lapd_recovery_laws.proofs.TimersWanted.{t200_keeps, t203_keeps}

-- ---- Every move but a loss keeps the line wanted.

module _ (N : ℕ) where
  abbrev Rest : List Move → Type 0
  Rest moves =
      (w : World) → Facts N w → IsUndisturbed w → AreLineMoves Whole moves w → losses moves ≡ 0
      → IsUndisturbed (run Whole moves w)

  first : (s : Side) (event : PairEvent) (w : World) (moves : List Move) → Facts N w
      → IsUndisturbed w → Rest moves → IsLineMove Whole (record { side = s; event = event }) w
      → AreLineMoves Whole moves (after s event w) → one_if (is_loss event) + losses moves ≡ 0
      → IsUndisturbed (run Whole moves (after s event w))
  first s Deliver w moves f k rest one own none =
      rest (after s Deliver w) (facts_after N (record { side = s; event = Deliver }) w f)
      (delivery_keeps N s w f k one.admitted) own (omega (arith, none))
  first s Expire200 w moves f k rest one own none =
      rest (after s Expire200 w) (facts_after N (record { side = s; event = Expire200 }) w f)
      (t200_keeps s w f.have k one.admitted) own (omega (arith, none))
  first s Expire203 w moves f k rest one own none =
      rest (after s Expire203 w) (facts_after N (record { side = s; event = Expire203 }) w f)
      (t203_keeps s w f.have k one.admitted) own (omega (arith, none))
  first s (Lose i) w moves f k rest one own none = absurd (omega (arith, none))
  first s event w moves f k rest one own none = let impossible = one.of_line in cc

  pub stays_wanted : (moves : List Move) (w : World) → Facts N w → IsUndisturbed w
      → AreLineMoves Whole moves w → losses moves ≡ 0 → IsUndisturbed (run Whole moves w)
  stays_wanted [] w f k own none = k
  stays_wanted (move ∷ moves) w f k own none =
      first move.side move.event w moves f k
      (λ v facts wanted rest nothing. stays_wanted moves v facts wanted rest nothing) own.0 own.1
      none

-- an end in state 4 does not want the link
wants_not : (x : End) (outgoing incoming : List Flight) → x.state ≡ TeiAssigned
    → Wants x outgoing incoming → ⊥
wants_not x outgoing incoming is (inl (inl opened)) =
    let shut : is_7_or_8 x.state ≡ false = ap is_7_or_8 is in cc
wants_not x outgoing incoming is (inl (inr waits)) =
    let impossible : TeiAssigned ≡ AwaitingEstablishment = sym is ∙ waits.0 in cc
wants_not x outgoing incoming is (inr asks) =
    let impossible : TeiAssigned ≡ AwaitingEstablishment = sym is ∙ asks.0 in cc

-- ends that agree, and one of them wants the link
pub wanted_level : (w : World) → IsUndisturbed w → AreAgreed w → AreLevel w.user.end w.network.end
wanted_level w k a = by_ends a.ends k.either
  where
    by_ends : AreReleased w.user.end w.network.end ⊎ AreLevel w.user.end w.network.end
        → Wants w.user.end w.to_network w.to_user ⊎ Wants w.network.end w.to_user w.to_network
        → AreLevel w.user.end w.network.end
    by_ends (inr level) either = level
    by_ends (inl r) (inl mine) =
        absurd (wants_not w.user.end w.to_network w.to_user r.mine mine)
    by_ends (inl r) (inr its) =
        absurd (wants_not w.network.end w.to_user w.to_network r.its its)

stays_up_on_tags : (w : World) → IsInvariant w → IsConsistentWorld Whole w → StaysUp Whole w
    → StaysUp Tagged (tag_world w)
stays_up_on_tags w i preserved up moves own none rests =
    at_rest_on_tags (λ v. AreLevel v.user.end v.network.end) (λ v. AreLevel v.user.end v.network.end)
    (λ v. are_level_on_tags v.user.end v.network.end) moves w i preserved
    (up moves (line_moves_by_tags moves w i preserved own).own none) rests

-- ---- After every run, on whole numbers and on tags.

dm_by_tags : (control : Control) → is_dm (tag_control control) ≡ is_dm control
unfolding tag_control
dm_by_tags (I ns nr p) = refl
dm_by_tags (Rr nr pf) = refl
dm_by_tags (Rnr nr pf) = refl
dm_by_tags (Rej nr pf) = refl
dm_by_tags control = refl

refused_by_tags : (fs : List Flight) → NoneRefused (map tag_flight fs) → NoneRefused fs
refused_by_tags [] calm = tt
refused_by_tags (f ∷ fs) calm = (sym (dm_by_tags f.control) ∙ calm.0, refused_by_tags fs calm.1)

wanted_by_tags : (w : World) → IsWanted (tag_world w) → IsWanted w
wanted_by_tags w k = record {
  ends = wanting_by_tags w.user.end w.network.end k.ends;
  to_user = refused_by_tags w.to_user k.to_user;
  to_network = refused_by_tags w.to_network k.to_network;
}

pub every_wanted_line_comes_up : (r : Reading) (n200 : ℕ) → 1 ≤ n200 → (user network : Parameters)
    → user.k ≤ 127 → network.k ≤ 127 → 1 ≤ user.k → 1 ≤ network.k → (moves : List Move)
    → IsFreeWorld n200 (run r moves (new_world user network))
    → IsWanted (run r moves (new_world user network))
    → StaysUp r (run r moves (new_world user network))
every_wanted_line_comes_up r n200 some user network u n us ns moves a k =
    runs.by_readings user network u n moves (λ w. IsFreeWorld n200 w × IsWanted w)
    (λ r w. StaysUp r w) (λ w p. (free_world_by_tags n200 w p.0, wanted_by_tags w p.1))
    stays_up_on_tags (λ p. up_whole p.0 p.1) r (a, k)
  where
    reached : World
    reached = run Whole moves (new_world user network)

    up_whole : IsFreeWorld n200 reached → IsWanted reached → StaysUp Whole reached
    up_whole a k moves_on own none rests =
        let facts = runs.facts user network u n moves us ns n200 a.user_retries a.network_retries in
        let wanted =
        undisturbed reached k (no_disc_after_run user network u n us ns moves
        k.ends.mine.not_releasing k.ends.its.not_releasing) in
        wanted_level (run Whole moves_on reached)
        (stays_wanted n200 moves_on reached facts wanted own none)
        ((despite_timers n200 some reached facts (runs.preserved user network u n moves)
        a.user_free a.network_free).agreed moves_on own rests)
