use Rattle.std.proofs.Common.{◌≡◌, None, ◌++◌, subst}
use Rattle.lapd_frame.specs.declared.Sapi.TheVariants.{Call}
use Rattle.lapd_table.specs.declared.link_id.LinkId.{LinkId}
use Rattle.lapd_sides_links.specs.Links.{of_sapi, with_link, primitives_at_removal}
use Rattle.lapd_sides_links.specs.Shown.{ShowLinks}
use Rattle.lapd_sides_links.proofs.Arrivals.{both_removed, both_delivered}
use Rattle.lapd_sides_links.proofs.link_set.LinkSet.remove_tei.Goals as goal

pub returns-clause-shown : goal.returns-clause-shown
returns-clause-shown c = λ side links shown.
    let first =
    subst (λ (id : LinkId). ShowLinks side c.remove_and_deliver.new.self
    (with_link id None links)) c.link_id.ensures
    (c.remove_and_deliver.ensures.shown side links shown) in
    let second =
    subst (λ (id : LinkId). ShowLinks side c.remove_and_deliver-2.new.self
    (with_link id None (with_link (of_sapi Call c.args.tei) None links)))
    c.link_id-2.ensures (c.remove_and_deliver-2.ensures.shown side _ first) in
    both_removed side c.args.self.now c.remove_and_deliver-2.new.self c.args.tei links shown second

pub returns-clause-delivered : goal.returns-clause-delivered
returns-clause-delivered c = λ side links shown.
    let first =
    subst (λ (id : LinkId). ShowLinks side c.remove_and_deliver.new.self
    (with_link id None links)) c.link_id.ensures
    (c.remove_and_deliver.ensures.shown side links shown) in
    both_delivered _ c.remove_and_deliver.new.acts.primitives _ c.args.tei links
    (subst (λ (id : LinkId). c.remove_and_deliver.new.acts.primitives ≡ c.args.acts.now.primitives
    ++ primitives_at_removal id (links id)) c.link_id.ensures
    (c.remove_and_deliver.ensures.delivered side links shown))
    (subst (λ (id : LinkId). c.remove_and_deliver-2.new.acts.primitives ≡
    c.remove_and_deliver.new.acts.primitives ++ primitives_at_removal id
    (with_link (of_sapi Call c.args.tei) None links id)) c.link_id-2.ensures
    (c.remove_and_deliver-2.ensures.delivered side _ first))
