use Rattle.std.proofs.Common.{◌≡◌, ◌++◌, take}
use Rattle.std.specs.Vec.{vec_capacity}
use Rattle.lapd_sides_links.proofs.acts.copy_frames.Given as goal

abbrev pub invariant-loop-frame : goal.invariant-loop-frame
invariant-loop-frame l =
    (l.to.items ≡ l.initial.to.items ++ take l.frame-index l.frames)
    × (vec_capacity l.to ≡ vec_capacity l.initial.to)
