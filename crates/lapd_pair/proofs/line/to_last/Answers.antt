use Rattle.std.proofs.Common.{refl}
use Rattle.lapd_pair.proofs.Lines.{moved_to_last}
use Rattle.lapd_pair.proofs.line.to_last.Goals as goal

pub returns : goal.returns
returns c =
    moved_to_last c.args.at c.args.end _ c.args.frames.now _ _ c.requires.before c.requires.within
    refl refl c.rotate_left.ensures.after
