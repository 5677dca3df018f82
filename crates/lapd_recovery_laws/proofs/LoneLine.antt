-- An end in state 7 or 8 finds its peer in state 4, and brings it up, by own moves in any order: a
-- situation of an outage in which neither end releases.
use Rattle.std.proofs.Common.{◌≡◌, ◌⊎◌, inl, inr, ℕ, ◌+◌, ◌-◌, ◌*◌, ◌≤◌, false, List, [], length, sym, ap, subst, arith}
use Rattle.lapd_mod128.specs.Counting.{Reading, Whole, Tagged}
use Rattle.lapd_link_definition.specs.EndOfStep.{is_7_or_8}
use Rattle.lapd_link_definition.specs.End.{End, unsent, waiting}
use Rattle.lapd_link_definition.specs.Parameters.{Parameters}
use Rattle.lapd_link_definition.specs.Tagging.{tag_end}
use Rattle.lapd_pair_laws.specs.Consistent.{IsConsistentWorld}
use Rattle.lapd_pair_laws.specs.Invariant.{IsInvariant}
use Rattle.lapd_pair_laws.specs.Move.{Move}
use Rattle.lapd_pair_laws.specs.Parties.{party}
use Rattle.lapd_pair_laws.specs.Tagged.{tag_world}
use Rattle.lapd_pair_laws.specs.World.{World, swapped, new_world, run, left}
use Rattle.lapd_pair_laws.proofs.DrainsAfterRuns.{unmapped}
use Rattle.lapd_pair_laws.proofs.TaggedMoves.{left_on_tags, safe_on_tags}
use Rattle.lapd_pair_laws.proofs.Whole.{each_run_preserves}
use Rattle.lapd_pair_laws.proofs.Worlds.{safe_by_invariant, exchanged}
use Rattle.lapd_recovery_laws.specs.LoneLine.{IsLone, IsLoneLine, most_lone_moves, IsUpAnew, ComesUpAnew}
use Rattle.lapd_recovery_laws.proofs.AfterOutage.{finds_few, returns_from}
use Rattle.lapd_recovery_laws.proofs.DespiteLosses.{are_timely, own_or_losses}
use Rattle.lapd_recovery_laws.proofs.KeepsWanted.{NoneReleased, IsUndisturbed, undisturbed_swapped}
use Rattle.lapd_recovery_laws.proofs.OutageWorlds.{Facts, released_is_kept}
use Rattle.lapd_recovery_laws.proofs.OwnOnTags.{are_own_by_tags, are_level_on_tags, agreed_on_tags, at_rest_on_tags}
use Rattle.lapd_recovery_laws.proofs.RunsEmpty.{in_queue, left_waits, after_runs}
use Rattle.lapd_recovery_laws.proofs.SendsOn.{AreIgnored}
use Rattle.lapd_recovery_laws.proofs.Situations.{Alone4, alone_4, Half, Coming}
use Rattle.lapd_recovery_laws.proofs.Wanted.{stays_wanted, wanted_level}

-- ---- The start.

unsent_few : (w : World) → IsInvariant w → unsent w.user.end ≤ waiting w.user.end
unsent_few w i =
    let x = party i.user_base w.user in
    let le : w.user.end.first ≤ w.user.end.next =
    in_queue x.state x.asked x.leaving x.sends i.both.mine.preserved in
    omega (arith, le)

module _ (n200 : ℕ) where
  -- what the moves need to know of a lone user
  record Begins (N : ℕ) (w : World) : Type 0 where
    alone : Alone4 N (most_lone_moves n200 w) w
    wanted : IsUndisturbed w

  begins : (N : ℕ) (w : World) → IsInvariant w → left w ≡ waiting w.user.end + waiting w.network.end
      → IsLone n200 w.user.end w.network.end → w.to_user ≡ [] → w.to_network ≡ [] → Begins N w
  begins N w i all l to_user to_network = record {
    alone = record {
      open_state = l.open_state;
      network = l.released;
      to_user = to_user;
      ignored = subst AreIgnored (sym to_network) tt;
      most =
          let none : length w.to_network ≡ 0 = ap (λ fs. length fs) to_network in
          let mine = unsent_few w i in
          let its : unsent w.network.end ≤ waiting w.network.end =
          unsent_few (swapped w) (exchanged w i) in
          let found =
          finds_few w.user.end.state w.user.end.parameters.n200
          (w.user.end.parameters.n200 - w.user.end.rc) (omega arith) in
          let few = l.retries in
          omega (arith, all, none, mine, its, found, few);
    };
    wanted = record {
      mine = record {
        not_releasing =
            λ in_6. let shut : is_7_or_8 w.user.end.state ≡ false = ap is_7_or_8 in_6 in
            let opened = l.open_state in cc;
        none_pending =
            λ in_5. absurd
            (let shut : is_7_or_8 w.user.end.state ≡ false = ap is_7_or_8 in_5 in
            let opened = l.open_state in cc);
      };
      its = released_is_kept w.network.end l.released;
      either = inl (inl (inl l.open_state));
      to_user = subst NoneReleased (sym to_user) tt;
      to_network = subst NoneReleased (sym to_network) tt;
    };
  }

  comes_up : (N : ℕ) → 1 ≤ N → (w : World) → Facts N w → IsConsistentWorld Whole w
      → Coming N (most_lone_moves n200 w) w → IsUndisturbed w → ComesUpAnew Whole n200 w
  comes_up N some w f preserved c wanted =
      let back = returns_from N some (most_lone_moves n200 w) w c f preserved in
      record {
        few = λ moves own. back.few moves own;
        up = λ moves own rests.
            let now = run Whole moves w in
            let agreed = back.agreed moves own rests in
            let o = own_or_losses Whole moves w own in
            record {
              agreed = agreed;
              level =
                  wanted_level now
                  (stays_wanted N moves w f wanted (are_timely Whole moves w o.0).line o.1) agreed;
              safe = safe_by_invariant now (each_run_preserves moves w f.holds);
            };
      }

  lone_line_comes_up : (w : World)
      → ((N : ℕ) → w.user.end.parameters.n200 ≤ N → w.network.end.parameters.n200 ≤ N → Facts N w)
      → IsConsistentWorld Whole w → IsLoneLine n200 w → ComesUpAnew Whole n200 w
  lone_line_comes_up w facts preserved l = by_ends l.ends
    where
      N : ℕ
      N = w.user.end.parameters.n200 + w.network.end.parameters.n200 + 1

      f : Facts N w
      f = facts N (omega arith) (omega arith)

      all : left w ≡ waiting w.user.end + waiting w.network.end
      all = left_waits w preserved

      same : most_lone_moves n200 (swapped w) ≡ most_lone_moves n200 w
      same = omega arith

      by_ends : IsLone n200 w.user.end w.network.end ⊎ IsLone n200 w.network.end w.user.end
          → ComesUpAnew Whole n200 w
      by_ends (inl lone) =
          let b = begins N w f.holds all lone l.to_user l.to_network in
          comes_up N (omega arith) w f preserved (inr (inl (alone_4 b.alone))) b.wanted
      by_ends (inr lone) =
          let b =
          begins N (swapped w) (exchanged w f.holds) (omega (arith, all)) lone l.to_network
          l.to_user in
          comes_up N (omega arith) w f preserved
          (inr (inr (subst (λ m. Half N m (swapped w)) same (alone_4 b.alone))))
          (undisturbed_swapped (swapped w) b.wanted)

-- ---- After every run, on whole numbers and on tags.

up_on_tags : (w : World) → IsUpAnew w → IsUpAnew (tag_world w)
up_on_tags w u = record {
  agreed = agreed_on_tags w u.agreed;
  level = are_level_on_tags w.user.end w.network.end u.level;
  safe = (safe_on_tags w).1 u.safe;
}

comes_up_on_tags : (n200 : ℕ) (w : World) → IsInvariant w → IsConsistentWorld Whole w
    → ComesUpAnew Whole n200 w → ComesUpAnew Tagged n200 (tag_world w)
comes_up_on_tags n200 w i preserved c = record {
  few = λ moves own.
      let most : most_lone_moves n200 (tag_world w) ≡ most_lone_moves n200 w =
      ap (λ n. 3 * n + 2 * n200 + 5) (left_on_tags w) in
      let few = c.few moves (are_own_by_tags moves w i preserved own) in
      omega (arith, most, few);
  up = λ moves own rests.
      at_rest_on_tags (λ v. IsUpAnew v) (λ v. IsUpAnew v) up_on_tags moves w i preserved
      (c.up moves (are_own_by_tags moves w i preserved own)) rests;
}

lone_by_tags : (n200 : ℕ) (x y : End) → IsLone n200 (tag_end x) (tag_end y) → IsLone n200 x y
lone_by_tags n200 x y l =
    record { open_state = l.open_state; retries = l.retries; released = l.released }

lone_line_by_tags : (n200 : ℕ) (w : World) → IsLoneLine n200 (tag_world w) → IsLoneLine n200 w
lone_line_by_tags n200 w l = record {
  ends = by_ends l.ends;
  to_user = unmapped w.to_user l.to_user;
  to_network = unmapped w.to_network l.to_network;
}
  where
    by_ends : IsLone n200 (tag_end w.user.end) (tag_end w.network.end)
        ⊎ IsLone n200 (tag_end w.network.end) (tag_end w.user.end)
        → IsLone n200 w.user.end w.network.end ⊎ IsLone n200 w.network.end w.user.end
    by_ends (inl lone) = inl (lone_by_tags n200 w.user.end w.network.end lone)
    by_ends (inr lone) = inr (lone_by_tags n200 w.network.end w.user.end lone)

pub every_lone_line_comes_up : (r : Reading) (n200 : ℕ) (user network : Parameters) → user.k ≤ 127
    → network.k ≤ 127 → 1 ≤ user.k → 1 ≤ network.k → (moves : List Move)
    → IsLoneLine n200 (run r moves (new_world user network))
    → ComesUpAnew r n200 (run r moves (new_world user network))
every_lone_line_comes_up r n200 =
    after_runs (λ w. IsLoneLine n200 w) (λ r w. ComesUpAnew r n200 w)
    (λ w facts preserved l. lone_line_comes_up n200 w facts preserved l) (lone_line_by_tags n200)
    (comes_up_on_tags n200) r
