-- Agreement is kept after every run, on whole numbers and on tags.
use Rattle.std.proofs.Common.{◌≡◌, ◌⊎◌, inl, inr, ℕ, ◌≤◌, ◌==◌, ◌&&◌, not, true, false, List, ◌∷◌, map, refl, sym, ap, subst, ◌∙◌, arith, []}
use Rattle.lapd_frame.specs.declared.Role.{Role}
use Rattle.lapd_frame.specs.declared.Role.TheVariants.{Command, Answer}
use Rattle.lapd_frame.specs.declared.Control.{Control}
use Rattle.lapd_frame.specs.declared.Control.TheVariants.{I, Rr, Rnr, Rej}
use Rattle.lapd_mod128.specs.Counting.{Reading, Whole, Tagged, tag}
use Rattle.lapd_supervision.specs.Tags.{tag_variables, tag_control}
use Rattle.lapd_link_definition.specs.End.{End}
use Rattle.lapd_link_definition.specs.Parameters.{Parameters}
use Rattle.lapd_link_definition.specs.Tagging.{tag_end}
use Rattle.lapd_pair_laws.specs.Consistent.{IsConsistentWorld}
use Rattle.lapd_pair_laws.specs.Invariant.{IsInvariant}
use Rattle.lapd_pair_laws.specs.Kinds.{kind_of, kinds, tally, poll_of, final_of}
use Rattle.lapd_pair_laws.specs.Line.{Flight}
use Rattle.lapd_pair_laws.specs.Move.{PairEvent, Move}
use Rattle.lapd_pair_laws.specs.Tagged.{tag_flight, tag_world}
use Rattle.lapd_pair_laws.specs.World.{World, new_world, world_after, happens, run, left}
use Rattle.lapd_pair_laws.proofs.Consistency.{run_consistent}
use Rattle.lapd_pair_laws.proofs.TaggedMoves.{left_on_tags}
use Rattle.lapd_pair_laws.proofs.Whole.{each_move_preserves}
use Rattle.lapd_recovery_laws.proofs.RunsEmpty.{after_runs}
use Rattle.lapd_recovery_laws.specs.Agreed.{AreReleased}
use Rattle.lapd_recovery_laws.specs.Deliveries.{frames}
use Rattle.lapd_recovery_laws.specs.EarlyTimers.{is_early, overtaken, most_line_moves}
use Rattle.lapd_recovery_laws.specs.EveryWorld.{IsFreeWorld}
use Rattle.lapd_recovery_laws.specs.KeptAgreement.{is_answered, polls_in_transit, are_in_step, is_out_of_step, earlies_out_of_step, IsEqual, AreEqual, AreInAgreement, KeepsAgreement}
use Rattle.lapd_recovery_laws.specs.Losses.{one_if}
use Rattle.lapd_recovery_laws.proofs.DespiteTimers.{despite_timers, early_on_tags, line_moves_by_tags}
use Rattle.lapd_recovery_laws.proofs.EveryWorld.{free_world_by_tags}
use Rattle.lapd_recovery_laws.proofs.OwnOnTags.{world_on_tags, ran_on_tags}
use Rattle.lapd_recovery_laws.proofs.RunsEmpty as runs
use Rattle.lapd_recovery_laws.proofs.KeepsAgreement.{Kept, settled, settled_by_tags, world_keeps}

-- ---- After every run, on whole numbers and on tags.

-- a frame on tags polls, and answers a poll, if it does so on whole numbers
same_polls : (role : Role) (control : Control) (info : List ℕ) (place : ℕ)
    → (poll_of (kind_of role (tag_control control) info place)
    ≡ poll_of (kind_of role control info place))
    × (final_of (kind_of role (tag_control control) info place)
    ≡ final_of (kind_of role control info place))
unfolding tag_control
same_polls Command (I ns nr p) info place = (refl, refl)
same_polls Answer (I ns nr p) info place = (refl, refl)
same_polls Command (Rr nr true) info place = (refl, refl)
same_polls Command (Rr nr false) info place = (refl, refl)
same_polls Answer (Rr nr true) info place = (refl, refl)
same_polls Answer (Rr nr false) info place = (refl, refl)
same_polls Command (Rnr nr true) info place = (refl, refl)
same_polls Command (Rnr nr false) info place = (refl, refl)
same_polls Answer (Rnr nr true) info place = (refl, refl)
same_polls Answer (Rnr nr false) info place = (refl, refl)
same_polls Command (Rej nr pf) info place = (refl, refl)
same_polls Answer (Rej nr true) info place = (refl, refl)
same_polls Answer (Rej nr false) info place = (refl, refl)
same_polls role control info place = (refl, refl)

polls_on_tags : (fs : List Flight)
    → (tally poll_of (kinds (map tag_flight fs)) ≡ tally poll_of (kinds fs))
    × (tally final_of (kinds (map tag_flight fs)) ≡ tally final_of (kinds fs))
polls_on_tags [] = (refl, refl)
polls_on_tags (f ∷ fs) =
    let one = same_polls f.role f.control f.info f.place in
    let rest = polls_on_tags fs in
    let a = one.0 in
    let b = one.1 in
    let c = rest.0 in
    let d = rest.1 in
    (omega (arith, a, c), omega (arith, b, d))

in_transit_on_tags : (out back : List Flight)
    → polls_in_transit (map tag_flight out) (map tag_flight back) ≡ polls_in_transit out back
in_transit_on_tags out back =
    let a = (polls_on_tags out).0 in let b = (polls_on_tags back).1 in omega (arith, a, b)

pub in_step_on_tags : (w : World) → are_in_step (tag_world w) ≡ are_in_step w
in_step_on_tags w =
    ap (λ n. (n == 0) && (is_answered w.user.end.state
    (polls_in_transit (map tag_flight w.to_network) (map tag_flight w.to_user))
    && is_answered w.network.end.state
    (polls_in_transit (map tag_flight w.to_user) (map tag_flight w.to_network))))
    (left_on_tags w)
    ∙ ap (λ n. (left w == 0) && (is_answered w.user.end.state n
    && is_answered w.network.end.state
    (polls_in_transit (map tag_flight w.to_user) (map tag_flight w.to_network))))
    (in_transit_on_tags w.to_network w.to_user)
    ∙ ap (λ n. (left w == 0) && (is_answered w.user.end.state
    (polls_in_transit w.to_network w.to_user) && is_answered w.network.end.state n))
    (in_transit_on_tags w.to_user w.to_network)

pub out_on_tags : (event : PairEvent) (w : World)
    → is_out_of_step event (tag_world w) ≡ is_out_of_step event w
out_on_tags event w =
    ap (λ b. b && not (are_in_step (tag_world w))) (early_on_tags event w)
    ∙ ap (λ b. is_early event w && not b) (in_step_on_tags w)

outs_on_tags : (moves : List Move) (w : World) → IsInvariant w → IsConsistentWorld Whole w
    → earlies_out_of_step Tagged moves (tag_world w) ≡ earlies_out_of_step Whole moves w
outs_on_tags [] w i preserved = refl
outs_on_tags (move ∷ moves) w i preserved =
    let now = world_after w (happens Whole move w) in
    let one = ap one_if (out_on_tags move.event w) in
    let rest =
    ap (λ v. earlies_out_of_step Tagged moves v) (world_on_tags move w i preserved)
    ∙ outs_on_tags moves now (each_move_preserves move w i)
    (run_consistent Whole (move ∷ []) w preserved) in
    omega (arith, one, rest)

equal_on_tags : (x y : End) → IsEqual x y → IsEqual (tag_end x) (tag_end y)
unfolding tag_variables
equal_on_tags x y e = record {
  open_state = e.open_state;
  acknowledged = ap tag e.acknowledged;
  received = ap tag e.received;
}

pub in_agreement_on_tags : (w : World) → AreInAgreement w → AreInAgreement (tag_world w)
in_agreement_on_tags w a = record { empty = left_on_tags w ∙ a.empty; ends = by_ends a.ends }
  where
    by_ends : AreReleased w.user.end w.network.end ⊎ AreEqual w.user.end w.network.end
        → AreReleased (tag_end w.user.end) (tag_end w.network.end)
        ⊎ AreEqual (tag_end w.user.end) (tag_end w.network.end)
    by_ends (inl r) = inl (record { mine = r.mine; its = r.its })
    by_ends (inr e) =
        inr (record {
          mine = equal_on_tags w.user.end w.network.end e.mine;
          its = equal_on_tags w.network.end w.user.end e.its;
        })

keeps_on_tags : (N : ℕ) (w : World) → IsInvariant w → IsConsistentWorld Whole w → Kept N w
    → KeepsAgreement Tagged N (tag_world w)
keeps_on_tags N w i preserved k = record {
  reached = λ moves own none le.
      let a = line_moves_by_tags moves w i preserved own in
      let l : left (tag_world w) ≡ left w = left_on_tags w in
      let f : frames (tag_world w) ≡ frames w = runs.frames_on_tags w in
      let out = outs_on_tags moves w i preserved in
      let late = a.late in
      let same : most_line_moves 0 (earlies_out_of_step Tagged moves (tag_world w))
      (overtaken Tagged moves (tag_world w)) N (tag_world w)
      ≡ most_line_moves 0 (earlies_out_of_step Whole moves w) (overtaken Whole moves w) N w =
      rw (out, late, l, f) refl in
      ran moves (k.reached moves a.own none (omega (arith, same, le)));
  kept =
      λ a moves own none. ran moves (k.kept (settled_by_tags N w (settled N (tag_world w) a)) moves
      (line_moves_by_tags moves w i preserved own).own none);
  idle = λ is its_is off its_off. in_step_on_tags w ∙ k.in_step is its_is off its_off;
}
  where
    ran : (moves : List Move) → AreInAgreement (run Whole moves w)
        → AreInAgreement (run Tagged moves (tag_world w))
    ran moves a =
        subst AreInAgreement (sym (ran_on_tags moves w i preserved))
        (in_agreement_on_tags (run Whole moves w) a)

abbrev Law : ℕ → Reading → World → Type 0
Law N Whole w = Kept N w
Law N Tagged w = KeepsAgreement Tagged N w

by_law : (N : ℕ) (r : Reading) (w : World) → Law N r w → KeepsAgreement r N w
by_law N Whole w k = record {
  reached = k.reached;
  idle = k.in_step;
  kept = λ agreed own_moves own none. k.kept (settled N w agreed) own_moves own none;
}
by_law N Tagged w k = k

pub every_agreement_is_kept : (r : Reading) (n200 : ℕ) → 1 ≤ n200 → (user network : Parameters)
    → user.k ≤ 127 → network.k ≤ 127 → 1 ≤ user.k → 1 ≤ network.k → (moves : List Move)
    → IsFreeWorld n200 (run r moves (new_world user network))
    → KeepsAgreement r n200 (run r moves (new_world user network))
every_agreement_is_kept r n200 some user network u n us ns moves a =
    by_law n200 r (run r moves (new_world user network))
    (after_runs (λ w. IsFreeWorld n200 w) (Law n200)
    (λ w facts preserved a. let f =
    facts n200 a.user_retries a.network_retries in
    world_keeps n200 w (record { facts = f; preserved = preserved })
    (despite_timers n200 some w f preserved a.user_free a.network_free))
    (free_world_by_tags n200) (keeps_on_tags n200) r user network u n us ns moves a)
