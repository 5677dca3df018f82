use Rattle.lapd_conform_draw.proofs.Cuts.{cut_is_part}
use Rattle.lapd_conform_draw.proofs.round.Round.without.Goals as goal

pub returns-clause-part : goal.returns-clause-part
returns-clause-part c =
    cut_is_part c.args.place c.args.count c.as_slice.ensures.value c.in_ok-stimuli.ensures
