use Rattle.std.proofs.Common.{sym, subst}
use Rattle.lapd_sides_links.specs.declared.link_set.LinkSet.{LinkSet}
use Rattle.lapd_sides_links.specs.Shown.{ShowLinks}
use Rattle.lapd_sides_links.proofs.link_set.LinkSet.remove_and_deliver.Goals.{in-Some, in_default}
use Rattle.lapd_sides_links.proofs.link_set.LinkSet.remove_and_deliver.Goals as goal

pub returns-clause-shown : goal.returns-clause-shown
returns-clause-shown c = λ side links shown. c.remove.ensures side links (elim c.match-link.branch [
  | in-Some w ↦ subst (λ (s : LinkSet). ShowLinks side s links) (sym w.self-is) shown
  | in_default w ↦ subst (λ (s : LinkSet). ShowLinks side s links) (sym w.self-is) shown
])
