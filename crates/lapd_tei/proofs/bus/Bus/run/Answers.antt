use Rattle.std.proofs.Common.{◌≡◌, ◌<◌, length, sym, ◌∙◌, arith}
use Rattle.lapd_tei.specs.declared.bus_move.BusFault.TheVariants.{NothingThere, HeardBefore, Memory}
use Rattle.lapd_tei.proofs.RunPreserves.{more_done, more_refused, single_at, in_order_at}
use Rattle.lapd_tei.proofs.bus.Bus.run.Goals as goal
use Rattle.lapd_tei.proofs.bus.Bus.run.Goals.{in-Ok, in-Err-NothingThere, in-Err-HeardBefore}

pub loop-place-preserved : goal.loop-place-preserved
loop-place-preserved c =
    let within : c.loop-place.place < length c.args.moves.now = omega arith in
    elim c.match-apply.branch [
      | in-Ok w ↦ more_done c.args.self.now c.loop-place.self c.apply.new.self c.args.moves.now
          c.loop-place.place c.loop-place.refused c.match-apply.refused c.index-moves-place.result
          w.in-Ok.field-0.items
          within c.index-moves-place.is c.loop-place.invariant w.in-Ok.ensures.done w.refused-is
      | in-Err-NothingThere w ↦ more_refused c.args.self.now c.loop-place.self c.apply.new.self
          c.args.moves.now c.loop-place.place c.loop-place.refused c.match-apply.refused
          c.index-moves-place.result w.in-Err-NothingThere.field-0
          within c.index-moves-place.is c.loop-place.invariant
          (w.in-Err-NothingThere.ensures.refused
          (λ e. let bad : NothingThere ≡ Memory = sym w.in-Err-NothingThere.field-0-is ∙ e
          in cc)) w.in-Err-NothingThere.ensures.unchanged w.refused-is
      | in-Err-HeardBefore w ↦ more_refused c.args.self.now c.loop-place.self c.apply.new.self
          c.args.moves.now c.loop-place.place c.loop-place.refused c.match-apply.refused
          c.index-moves-place.result w.in-Err-HeardBefore.field-0
          within c.index-moves-place.is c.loop-place.invariant
          (w.in-Err-HeardBefore.ensures.refused
          (λ e. let bad : HeardBefore ≡ Memory = sym w.in-Err-HeardBefore.field-0-is ∙ e
          in cc)) w.in-Err-HeardBefore.ensures.unchanged w.refused-is
    ]

pub returns-in-Err-Memory-clause-single : goal.returns-in-Err-Memory-clause-single
returns-in-Err-Memory-clause-single c = λ terminals before was met.
    single_at terminals before c.args.moves.now c.loop-place.place c.args.self.now c.apply.new.self
    was (c.in-Err-Memory.ensures.unchanged ∙ c.loop-place.invariant.so_far) met

pub returns-clause-single : goal.returns-clause-single
returns-clause-single c = λ terminals before was met.
    single_at terminals before c.args.moves.now c.loop-place.place c.args.self.now c.loop-place.self
    was c.loop-place.invariant.so_far met

pub returns-in-Err-Memory-clause-in_order : goal.returns-in-Err-Memory-clause-in_order
returns-in-Err-Memory-clause-in_order c = λ terminals known before was met.
    in_order_at terminals known before c.args.moves.now c.loop-place.place c.args.self.now
    c.apply.new.self was (c.in-Err-Memory.ensures.unchanged ∙ c.loop-place.invariant.so_far) met

pub returns-clause-in_order : goal.returns-clause-in_order
returns-clause-in_order c = λ terminals known before was met.
    in_order_at terminals known before c.args.moves.now c.loop-place.place c.args.self.now
    c.loop-place.self was c.loop-place.invariant.so_far met
