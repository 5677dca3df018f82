use Rattle.lapd_frame.specs.declared.Side.{Side}
use Rattle.lapd_sides_links.specs.Links.{no_links, links_below}
use Rattle.lapd_sides_links.specs.Shown.{ShowLinks}
use Rattle.lapd_sides_links.proofs.link_set.LinkSet.add_held.Given as goal

abbrev pub invariant-loop-tei : goal.invariant-loop-tei
invariant-loop-tei l =
    (side : Side) → ShowLinks side l.initial.self no_links
    → ShowLinks side l.self (links_below l.config l.assigner.held l.tei)
