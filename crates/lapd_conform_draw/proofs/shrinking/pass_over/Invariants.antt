use Rattle.lapd_conform_draw.specs.Parts.{Part}
use Rattle.lapd_conform_draw.proofs.shrinking.pass_over.Given as goal

abbrev pub invariant-loop-turn : goal.invariant-loop-turn
invariant-loop-turn g l = Part l.least.stimuli.items l.fn.round.stimuli.items
