use Rattle.std.proofs.Common.{refl}
use Rattle.lapd_sides_links.proofs.Acting.{shown_with_durations}
use Rattle.lapd_sides_links.proofs.link_set.LinkSet.set_durations.Goals as goal

pub returns : goal.returns
returns c =
    λ side links shown. shown_with_durations c.args.durations side c.args.self.now _ links refl
    c.set_durations.ensures shown
