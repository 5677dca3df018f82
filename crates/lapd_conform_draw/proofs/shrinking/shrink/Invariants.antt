use Rattle.lapd_conform_draw.specs.Parts.{Part}
use Rattle.lapd_conform_draw.proofs.shrinking.shrink.Given as goal

abbrev pub invariant-loop-pass : goal.invariant-loop-pass
invariant-loop-pass g l = Part l.least.stimuli.items l.fn.round.stimuli.items
