use Rattle.std.proofs.Common.{is_none, sym, ap, subst, ◌∙◌, arith}
use Rattle.lapd_mod128.specs.Counting.{Tagged}
use Rattle.lapd_recovery_laws.specs.Own.{tried, first_own, recovering}
use Rattle.lapd_pair.specs.Moves.{move_of}
use Rattle.lapd_pair.proofs.Recovering.{one_more, no_more, none_recovered, as_recovered, own_stopped_at, come_back}
use Rattle.lapd_pair.proofs.Repeated.{AreMade, none_mapped, none_is_not_some, one_made, no_move_is_left, all_made}
use Rattle.lapd_pair.proofs.SafePairs.{pair_is_safe}
use Rattle.lapd_pair.proofs.SafeReaders.{readings_are_safe}
use Rattle.lapd_pair.proofs.pair.Pair.recover.Goals as goal

pub loop-moves-init : goal.loop-moves-init
loop-moves-init c = none_recovered c.args.self.now

pub loop-moves-preserved : goal.loop-moves-preserved
loop-moves-preserved c =
    one_made (first_own Tagged tried) (recovering Tagged) (one_more Tagged) c.args.self.now
    c.loop-moves.self c.apply_into.new.self c.loop-moves.moves (move_of c.in-Some.mv)
    c.apply_into.new.outs.items c.loop-moves.invariant c.in-Some.ensures c.in-Ok.ensures.ok

-- ---- No further move is possible.

pub returns-in_default-clause-ok : goal.returns-in_default-clause-ok
returns-in_default-clause-ok c =
    λ w s. as_recovered _ _ w (no_move_is_left (first_own Tagged tried) (recovering Tagged)
    (no_more Tagged) c.args.self.now c.loop-moves.self c.loop-moves.moves c.loop-moves.invariant
    c.in_default.ensures w s _
    (omega (arith, c.most_recovery_moves-most.ensures.bound w s, c.loop-moves-test.true)))

pub returns-in_default-clause-agreed : goal.returns-in_default-clause-agreed
returns-in_default-clause-agreed c =
    come_back c.args.self.now c.loop-moves.self _ (returns-in_default-clause-ok c)
    c.most_recovery_moves-most.ensures.retries

pub returns-in_default-clause-safe : goal.returns-in_default-clause-safe
returns-in_default-clause-safe c = pair_is_safe _

pub returns-in_default-clause-readers : goal.returns-in_default-clause-readers
returns-in_default-clause-readers c = readings_are_safe _

-- ---- An allocation fails.

pub returns-in-Err-clause-err : goal.returns-in-Err-clause-err
returns-in-Err-clause-err c =
    λ w s. own_stopped_at c.args.self.now c.loop-moves.self c.apply_into.new.self c.loop-moves.moves
    (move_of c.in-Some.mv) c.in-Err.fault c.loop-moves.invariant c.in-Some.ensures
    c.in-Err.ensures.err c.in-Err.ensures.unchanged w s
    (omega (arith, c.most_recovery_moves-most.ensures.bound w s, c.loop-moves-test.true))

-- ---- All moves are made.

pub returns-clause-ok : goal.returns-clause-ok
returns-clause-ok c =
    λ w s. as_recovered _ _ w (all_made (first_own Tagged tried) (recovering Tagged) c.args.self.now
    c.loop-moves.self c.most_recovery_moves-most.result c.is_none.result
    (subst (λ n. AreMade (recovering Tagged) c.args.self.now n c.loop-moves.self)
    (omega (arith, c.loop-moves-test.false, c.loop-moves.auto.moves-end))
    c.loop-moves.invariant)
    (λ u su. none_is_not_some c.next_own_move-2.result c.is_none.result c.is_none.ensures ∙ sym
    (none_mapped (λ m. move_of m) c.next_own_move-2.result) ∙ ap is_none
    (c.next_own_move-2.ensures u su))
    w s _ (c.most_recovery_moves-most.ensures.bound w s))

pub returns-clause-agreed : goal.returns-clause-agreed
returns-clause-agreed c =
    come_back c.args.self.now c.loop-moves.self _ (returns-clause-ok c)
    c.most_recovery_moves-most.ensures.retries

pub returns-clause-safe : goal.returns-clause-safe
returns-clause-safe c = pair_is_safe _

pub returns-clause-readers : goal.returns-clause-readers
returns-clause-readers c = readings_are_safe _
