use Rattle.std.proofs.Common.{sym, ap, get_or, ◌∙◌}
use Rattle.lapd_table.specs.LinkTable.{IsKey}
use Rattle.lapd_table.proofs.Places.{one_more}
use Rattle.lapd_table.proofs.link_table.LinkTable.slot.Goals as goal

pub returns-then-place-gt0-clause-found : goal.returns-then-place-gt0-clause-found
unfolding IsKey
returns-then-place-gt0-clause-found c =
    let its = c.from.ensures ∙ c.place.ensures.value in
    let at = ap (λ i. get_or c.args.self.now.places i 0) (sym its) in
    let more = one_more _ _ c.if-place-gt0.true c.from-then-place-gt0.ensures in
    c.args.self.now.places_fit c.args.id.now _ c.place.ensures.tei (at ∙ more)
