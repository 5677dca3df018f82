use Rattle.lapd_sides_links.proofs.Acting.{first_of_all_links}
use Rattle.lapd_sides_links.proofs.link_set.LinkSet.first.Goals as goal

pub returns : goal.returns
returns c =
    λ side links shown. first_of_all_links side c.args.self.now links c.first.result shown
    c.first.ensures
