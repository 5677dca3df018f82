use Rattle.std.proofs.Common.{ℕ, Option, sym, subst, ◌∙◌}
use Rattle.lapd_sides.specs.Management.{links_with}
use Rattle.lapd_sides_links.specs.Shown.{ShowLinks}
use Rattle.lapd_sides.proofs.Calling.{on_err}
use Rattle.lapd_sides.proofs.links_and_timer.LinksAndTimer.admit.Goals as goal

pub returns-in_err-add_tei-clause-unchanged : goal.returns-in_err-add_tei-clause-unchanged
returns-in_err-add_tei-clause-unchanged c =
    on_err c.from_residual.result _ (λ side s shown. record {
      links = c.in_err-add_tei.ensures.unchanged side s.links shown.links;
      timers = shown.timers;
    })

pub returns-in_ok-add_tei-clause-ok : goal.returns-in_ok-add_tei-clause-ok
returns-in_ok-add_tei-clause-ok c = λ side s shown. record {
  links =
      subst
      (λ (t : Option ℕ). ShowLinks side c.add_tei.new.self (links_with c.args.config.now t s.links))
      (sym c.in-Some.is ∙ c.given.ensures.value)
      (c.in_ok-add_tei.ensures.ok side s.links shown.links);
  timers = shown.timers;
}
