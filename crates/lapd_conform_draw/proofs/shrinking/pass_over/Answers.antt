use Rattle.std.proofs.Common.{sym, subst}
use Rattle.lapd_conform_draw.specs.declared.round.Round.{Round}
use Rattle.lapd_conform_draw.specs.Parts.{Part}
use Rattle.lapd_conform_draw.proofs.Cuts.{part_of_part, whole}
use Rattle.lapd_conform_draw.proofs.shrinking.pass_over.Goals as goal
use Rattle.lapd_conform_draw.proofs.shrinking.pass_over.Goals.{then-branch, else-branch}

pub loop-turn-init : goal.loop-turn-init
loop-turn-init g c = whole _

pub loop-turn-preserved : goal.loop-turn-preserved
loop-turn-preserved g c = elim c.if-branch.branch [
  | then-branch w ↦ subst (λ (r : Round). Part r.stimuli.items c.args.round.stimuli.items)
      (sym w.least-is) (part_of_part c.in_ok-shorter.ensures c.loop-turn.invariant)
  | else-branch w ↦ subst (λ (r : Round). Part r.stimuli.items c.args.round.stimuli.items)
      (sym w.least-is) c.loop-turn.invariant
]
