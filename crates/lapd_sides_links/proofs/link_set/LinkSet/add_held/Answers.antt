use Rattle.std.proofs.Common.{◌≡◌, ℕ, ◌+◌, sym, ap, subst, ◌∙◌}
use Rattle.lapd_tei.specs.Assigner.{is_held}
use Rattle.lapd_sides_links.specs.declared.link_set.LinkSet.{LinkSet}
use Rattle.lapd_sides_links.specs.Links.{links_below, with_tei}
use Rattle.lapd_sides_links.specs.Shown.{ShowLinks}
use Rattle.lapd_sides_links.proofs.Known.{none_below, held_next, unheld_next}
use Rattle.lapd_sides_links.proofs.link_set.LinkSet.add_held.Goals.{then-holds+in_ok-add_tei, else-holds}
use Rattle.lapd_sides_links.proofs.link_set.LinkSet.add_held.Goals as goal

pub loop-tei-init : goal.loop-tei-init
loop-tei-init c =
    λ side shown. none_below side c.args.self.now c.args.config.now c.args.assigner.now.held shown

pub loop-tei-preserved : goal.loop-tei-preserved
loop-tei-preserved c = λ side shown.
    let config = c.args.config.now in
    let held = c.args.assigner.now.held in
    let tei = c.loop-tei.tei in
    let before = c.loop-tei.invariant side shown in
    let reporting : c.holds.result ≡ is_held held tei =
    c.holds.ensures ∙ ap (is_held held) c.own_tei-tei.ensures in
    elim c.if-holds.branch [
      | then-holds+in_ok-add_tei w ↦ subst
          (λ (k : LinkSet). ShowLinks side k (links_below config held (tei + 1))) (sym w.self-is)
          (held_next side w.add_tei.new.self config held tei (sym reporting ∙ w.if-holds.true)
          (subst (λ (t : ℕ). ShowLinks side w.add_tei.new.self
          (with_tei config t (links_below config held tei))) c.own_tei-tei.ensures
          (w.in_ok-add_tei.ensures.ok side _ before)))
      | else-holds w ↦ subst (λ (k : LinkSet). ShowLinks side k (links_below config held (tei + 1)))
          (sym w.self-is)
          (unheld_next side c.loop-tei.self config held tei (sym reporting ∙ w.if-holds.false)
          before)
    ]
