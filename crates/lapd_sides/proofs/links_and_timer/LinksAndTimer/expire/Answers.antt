use Rattle.lapd_frame.specs.declared.Side.{Side}
use Rattle.lapd_sides_links.specs.Links.{Links, in_links, link_expires}
use Rattle.lapd_sides.proofs.Receiving.{stepped}
use Rattle.lapd_sides.proofs.links_and_timer.LinksAndTimer.expire.Goals as goal

pub returns-clause-step : goal.returns-clause-step
returns-clause-step c = λ side links here.
    stepped c.expire.result side links c.args.self.now
    (record c.args.self.now { links = c.expire.new.self }) c.args.acts.now c.expire.new.acts
    (λ (at : Side) (l : Links). in_links c.args.id
    (link_expires at c.args.id c.args.now c.args.timer) l)
    c.requires.empty here c.expire.ensures.ok c.expire.ensures.err c.expire.ensures.unchanged
    c.expire.ensures.nothing
