use Rattle.std.proofs.Common.{◌≡◌, ◌<◌, map, get_or, length, sym, ap, ◌∙◌, arith}
use Rattle.std.proofs.Math.ListN.{get_or-map}
use Rattle.std.proofs.lemmas.List.{length-map}
use Rattle.lapd_pair.specs.Moves.{move_of}
use Rattle.lapd_pair.proofs.Runs.{one_done, one_skipped, stopped, all_done, all_reported}
use Rattle.lapd_pair.proofs.SafePairs.{pair_is_safe}
use Rattle.lapd_pair.proofs.SafeReaders.{readings_are_safe}
use Rattle.lapd_pair.proofs.pair.Pair.run.Goals as goal
use Rattle.lapd_pair.proofs.pair.Pair.run.Goals.{in-Ok, in-Err+else-is_memory}

pub returns-then-is_memory-clause-err : goal.returns-then-is_memory-clause-err
returns-then-is_memory-clause-err c =
    let moves = map move_of c.args.moves.now in
    let at = c.loop-at.at in
    let m = move_of c.index-moves-at.result in
    let within : at < length moves = rw (length-map c.args.moves.now move_of) c.loop-at-test.true in
    let there : get_or moves at m ≡ m =
    get_or-map move_of c.args.moves.now at c.index-moves-at.result
    ∙ ap move_of (sym c.index-moves-at.is) in
    stopped c.args.self.now c.loop-at.self c.apply_into.new.self moves at c.loop-at.refused m
    c.in-Err.fault within there (sym c.is_memory.ensures ∙ c.if-is_memory.true)
    c.in-Err.ensures.err c.in-Err.ensures.unchanged c.loop-at.invariant

pub loop-at-preserved : goal.loop-at-preserved
loop-at-preserved c =
    let moves = map move_of c.args.moves.now in
    let at = c.loop-at.at in
    let m = move_of c.index-moves-at.result in
    let within : at < length moves = rw (length-map c.args.moves.now move_of) c.loop-at-test.true in
    let there : get_or moves at m ≡ m =
    get_or-map move_of c.args.moves.now at c.index-moves-at.result
    ∙ ap move_of (sym c.index-moves-at.is) in
    elim c.match-apply_into.branch [
      | in-Ok w ↦ rw w.refused-is (one_done c.args.self.now c.loop-at.self c.apply_into.new.self
          moves at c.loop-at.refused m c.apply_into.new.outs.items within there
          w.in-Ok.ensures.ok w.in-Ok.ensures.reports c.loop-at.invariant)
      | in-Err+else-is_memory w ↦ rw w.refused-is
          (one_skipped c.args.self.now c.loop-at.self c.apply_into.new.self moves at
          c.loop-at.refused m w.in-Err.fault within there
          (sym w.is_memory.ensures ∙ w.if-is_memory.false) w.in-Err.ensures.err
          w.in-Err.ensures.unchanged c.loop-at.invariant)
    ]

pub returns-clause-ok : goal.returns-clause-ok
returns-clause-ok c = λ w s.
    let moves = map move_of c.args.moves.now in
    let end : c.loop-at.at ≡ length moves =
    rw (length-map c.args.moves.now move_of)
    (omega (arith, c.loop-at-test.false, c.loop-at.far-at)) in
    all_done c.args.self.now c.loop-at.self moves c.loop-at.at c.loop-at.refused end
    c.loop-at.invariant w s

pub returns-clause-reports : goal.returns-clause-reports
returns-clause-reports c = λ w s.
    let moves = map move_of c.args.moves.now in
    let end : c.loop-at.at ≡ length moves =
    rw (length-map c.args.moves.now move_of)
    (omega (arith, c.loop-at-test.false, c.loop-at.far-at)) in
    all_reported c.args.self.now c.loop-at.self moves c.loop-at.at c.loop-at.refused end
    c.loop-at.invariant w s

pub returns-then-is_memory-clause-reports : goal.returns-then-is_memory-clause-reports
returns-then-is_memory-clause-reports c = c.loop-at.invariant.reports

pub returns-clause-safe : goal.returns-clause-safe
returns-clause-safe c = pair_is_safe _

pub returns-clause-readers : goal.returns-clause-readers
returns-clause-readers c = readings_are_safe _
