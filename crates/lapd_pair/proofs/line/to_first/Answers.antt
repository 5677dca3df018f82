use Rattle.std.proofs.Common.{refl, arith}
use Rattle.lapd_pair.proofs.Lines.{moved_to_first}
use Rattle.lapd_pair.proofs.line.to_first.Goals as goal

pub returns : goal.returns
returns c =
    moved_to_first c.args.first c.args.place _ c.args.frames.now _ _ c.requires (omega arith) refl
    c.rotate_right.ensures.after
