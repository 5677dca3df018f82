use Rattle.std.proofs.Common.{ap, sym, option_copied, ◌∙◌}
use Rattle.lapd_table.specs.LinkTable.{link_at}
use Rattle.lapd_sides_links.proofs.Acting.{absent_of, no_timers, timers_there}
use Rattle.lapd_sides_links.proofs.link_set.LinkSet.timers.Goals as goal

pub returns-in-Some : goal.returns-in-Some
returns-in-Some c =
    λ side links shown. c.get.ensures ∙ timers_there side c.args.self.now links c.args.id.now
    c.in-Some.field-0.now
    (sym c.link.ensures.value ∙ ap (λ found. option_copied found) c.in-Some.is) shown

pub returns-in-None : goal.returns-in-None
returns-in-None c =
    λ side links shown. no_timers side c.args.self.now links c.args.id.now
    (absent_of c.link.result (link_at c.args.self.now.table c.args.id.now) c.link.ensures.value
    c.in-None.is) shown
