use Rattle.lapd_sides_links.proofs.Tournaments.{first_of_all}
use Rattle.lapd_sides_links.proofs.tournament.Tournament.first.Goals as goal

pub returns : goal.returns
returns c =
    rw (← c.self.view_is) (first_of_all c.self.inside.nodes.items c.self.inside.top
    c.self.inside.first c.self.invariant.1 c.self.invariant.0)
