-- The own moves on tags are those on whole numbers.
use Rattle.std.proofs.Common.{◌≡◌, ◌⊎◌, inl, inr, List, [], ◌∷◌, map, is_ok, refl, sym, ap, subst, ◌∙◌}
use Rattle.lapd_mod128.specs.Counting.{Whole, Tagged, tag}
use Rattle.lapd_supervision.specs.Tags.{tag_variables}
use Rattle.lapd_link_definition.specs.End.{End}
use Rattle.lapd_link_definition.specs.Tagging.{tag_end}
use Rattle.lapd_pair_laws.specs.Consistent.{IsConsistentWorld}
use Rattle.lapd_pair_laws.specs.Line.{Flight}
use Rattle.lapd_pair_laws.specs.Move.{PairEvent, Expire200, Expire203, Move}
use Rattle.lapd_pair_laws.specs.Tagged.{tag_flight, tag_world}
use Rattle.lapd_pair_laws.specs.World.{World, world_after, happens, run}
use Rattle.lapd_pair_laws.specs.Invariant.{IsInvariant}
use Rattle.lapd_pair_laws.proofs.Consistency.{run_consistent}
use Rattle.lapd_pair_laws.proofs.Reached.{near_moves}
use Rattle.lapd_pair_laws.proofs.TaggedMoves.{run_on_tags, left_on_tags, after_on_tags}
use Rattle.lapd_pair_laws.proofs.Whole.{each_move_preserves, each_run_preserves}
use Rattle.lapd_pair_laws.proofs.DrainsAfterRuns.{admitted_on_tags, move_tagged}
use Rattle.lapd_recovery_laws.specs.Own.{is_empty, is_due, IsOwn, AreOwn, Rests}
use Rattle.lapd_recovery_laws.specs.Agreed.{IsLevel, AreLevel, AreReleased, AreAgreed}

-- ---- Moves.

pub world_on_tags : (move : Move) (w : World) → IsInvariant w → IsConsistentWorld Whole w
    → world_after (tag_world w) (happens Tagged move (tag_world w))
    ≡ tag_world (world_after w (happens Whole move w))
world_on_tags move w i preserved =
    ap (λ r. world_after (tag_world w) r) (move_tagged move w i preserved)
    ∙ after_on_tags w (happens Whole move w)

empty_on_tags : (l : List Flight) → is_empty (map tag_flight l) ≡ is_empty l
empty_on_tags [] = refl
empty_on_tags (f ∷ fs) = refl

pub due_on_tags : (event : PairEvent) (w : World) → is_due event (tag_world w) ≡ is_due event w
due_on_tags Expire200 w = rw (empty_on_tags w.to_user, empty_on_tags w.to_network) refl
due_on_tags Expire203 w = rw (empty_on_tags w.to_user, empty_on_tags w.to_network) refl
due_on_tags event w = refl

pub ok_on_tags : (move : Move) (w : World) → IsInvariant w → IsConsistentWorld Whole w
    → is_ok (happens Tagged move (tag_world w)) ≡ is_ok (happens Whole move w)
ok_on_tags move w i preserved =
    ap is_ok (move_tagged move w i preserved) ∙ admitted_on_tags (happens Whole move w)

own_by_tags : (move : Move) (w : World) → IsInvariant w → IsConsistentWorld Whole w
    → IsOwn Tagged move (tag_world w) → IsOwn Whole move w
own_by_tags move w i preserved own = record {
  due = sym (due_on_tags move.event w) ∙ own.due;
  admitted = sym (ok_on_tags move w i preserved) ∙ own.admitted;
}

own_on_tags : (move : Move) (w : World) → IsInvariant w → IsConsistentWorld Whole w
    → IsOwn Whole move w → IsOwn Tagged move (tag_world w)
own_on_tags move w i preserved own = record {
  due = due_on_tags move.event w ∙ own.due;
  admitted = ok_on_tags move w i preserved ∙ own.admitted;
}

pub are_own_by_tags : (moves : List Move) (w : World) → IsInvariant w → IsConsistentWorld Whole w
    → AreOwn Tagged moves (tag_world w) → AreOwn Whole moves w
are_own_by_tags [] w i preserved own = tt
are_own_by_tags (move ∷ moves) w i preserved own =
    let now = world_after w (happens Whole move w) in (
      own_by_tags move w i preserved own.0,
      are_own_by_tags moves now (each_move_preserves move w i)
          (run_consistent Whole (move ∷ []) w preserved)
          (subst (λ v. AreOwn Tagged moves v) (world_on_tags move w i preserved) own.1),
    )

pub rests_by_tags : (w : World) → IsInvariant w → IsConsistentWorld Whole w
    → Rests Tagged (tag_world w) → Rests Whole w
rests_by_tags w i preserved rests = λ move own. rests move (own_on_tags move w i preserved own)

pub ran_on_tags : (moves : List Move) (w : World) → IsInvariant w → IsConsistentWorld Whole w
    → run Tagged moves (tag_world w) ≡ tag_world (run Whole moves w)
ran_on_tags moves w i preserved = run_on_tags moves w preserved (near_moves moves w i preserved)

-- what holds where no own move is possible, if it carries over
pub at_rest_on_tags : (P Q : World → Type 0) → ((v : World) → P v → Q (tag_world v))
    → (moves : List Move) (w : World) → IsInvariant w → IsConsistentWorld Whole w
    → (Rests Whole (run Whole moves w) → P (run Whole moves w))
    → Rests Tagged (run Tagged moves (tag_world w)) → Q (run Tagged moves (tag_world w))
at_rest_on_tags P Q on_tags moves w i preserved whole rests =
    let now = run Whole moves w in
    let same : run Tagged moves (tag_world w) ≡ tag_world now = ran_on_tags moves w i preserved in
    subst Q (sym same)
    (on_tags now (whole (rests_by_tags now (each_run_preserves moves w i)
    (run_consistent Whole moves w preserved) (subst (λ v. Rests Tagged v) same rests))))

-- ---- Worlds.

level_on_tags : (x y : End) → IsLevel x y → IsLevel (tag_end x) (tag_end y)
unfolding tag_variables
level_on_tags x y l = record {
  established = l.established;
  acknowledged = ap tag l.acknowledged;
  received = ap tag l.received;
}

pub are_level_on_tags : (x y : End) → AreLevel x y → AreLevel (tag_end x) (tag_end y)
are_level_on_tags x y l = record { mine = level_on_tags x y l.mine; its = level_on_tags y x l.its }

pub agreed_on_tags : (w : World) → AreAgreed w → AreAgreed (tag_world w)
agreed_on_tags w a = record {
  to_user = ap (λ l. map tag_flight l) a.to_user;
  to_network = ap (λ l. map tag_flight l) a.to_network;
  empty = left_on_tags w ∙ a.empty;
  user_stopped = a.user_stopped;
  network_stopped = a.network_stopped;
  ends = by_ends a.ends;
}
  where
    by_ends : AreReleased w.user.end w.network.end ⊎ AreLevel w.user.end w.network.end
        → AreReleased (tag_end w.user.end) (tag_end w.network.end)
        ⊎ AreLevel (tag_end w.user.end) (tag_end w.network.end)
    by_ends (inl released) = inl (record { mine = released.mine; its = released.its })
    by_ends (inr level) = inr (are_level_on_tags w.user.end w.network.end level)
