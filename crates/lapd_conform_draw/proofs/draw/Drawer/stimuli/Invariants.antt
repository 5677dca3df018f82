use Rattle.std.proofs.Common.{◌≡◌, length}
use Rattle.lapd_conform_draw.proofs.draw.Drawer.stimuli.Given as goal

abbrev pub invariant-loop-turn : goal.invariant-loop-turn
invariant-loop-turn l = length l.stimuli.items ≡ l._turn
