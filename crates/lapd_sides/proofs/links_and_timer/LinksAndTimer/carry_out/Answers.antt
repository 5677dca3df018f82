use Rattle.std.proofs.Common.{◌≡◌, ℕ, Option, Some, None, ◌++◌, refl, sym, ap, subst, ◌∙◌}
use Rattle.std.specs.List.{filter_map}
use Rattle.lapd_tei.specs.Out.{tei_given, tei_freed}
use Rattle.lapd_sides_links.specs.Effects.{outcome_of, managed}
use Rattle.lapd_sides_links.specs.Links.{Links}
use Rattle.lapd_sides.specs.Management.{links_with, links_without, removal_primitives}
use Rattle.lapd_sides_links.specs.Shown.{ShowLinks}
use Rattle.lapd_sides.proofs.Managing.{carried_out, frames_first, primitives_behind, behind_nothing}
use Rattle.lapd_sides.proofs.links_and_timer.LinksAndTimer.carry_out.Goals as goal

pub returns-in-Some-clause-done : goal.returns-in-Some-clause-done
returns-in-Some-clause-done c = λ config s shown.
    let side = c.args.side in
    let outs = c.args.outs.now in
    let links : Links = links_with config (tei_given outs) s.links in
    let is : Some c.in-Some.tei ≡ tei_freed outs = sym c.in-Some.is ∙ c.freed.ensures in
    carried_out side config c.args.now outs s c.remove_tei.new.self c.time_management.new.timers
    c.args.self.now.discarded c.remove_tei.new.acts
    (subst (λ (t : Option ℕ). ShowLinks side c.remove_tei.new.self (links_without t links)) is
    (c.remove_tei.ensures.shown side links shown.links))
    (c.time_management.ensures ∙ ap (managed c.args.now outs) shown.timers)
    (frames_first c.args.acts.now c.put_messages.new.acts c.deliver_outcomes.new.acts
    c.remove_tei.new.acts _ c.requires.empty c.put_messages.ensures.frames
    c.deliver_outcomes.ensures.frames c.remove_tei.ensures.frames)
    (subst (λ (t : Option ℕ). c.remove_tei.new.acts.primitives ≡ filter_map outcome_of outs ++
    removal_primitives t links) is
    (primitives_behind c.args.acts.now c.put_messages.new.acts c.deliver_outcomes.new.acts
    c.remove_tei.new.acts _ _ c.requires.empty c.put_messages.ensures.primitives
    c.deliver_outcomes.ensures.primitives
    (c.remove_tei.ensures.delivered side links shown.links)))

pub returns-in_default-clause-done : goal.returns-in_default-clause-done
returns-in_default-clause-done c = λ config s shown.
    let side = c.args.side in
    let outs = c.args.outs.now in
    let links : Links = links_with config (tei_given outs) s.links in
    let is : None ≡ tei_freed outs = sym c.in_default.is ∙ c.freed.ensures in
    let acts = c.deliver_outcomes.new.acts in
    carried_out side config c.args.now outs s c.args.self.now.links c.time_management.new.timers
    c.args.self.now.discarded acts
    (subst (λ (t : Option ℕ). ShowLinks side c.args.self.now.links (links_without t links)) is
    shown.links)
    (c.time_management.ensures ∙ ap (managed c.args.now outs) shown.timers)
    (frames_first c.args.acts.now c.put_messages.new.acts acts acts _ c.requires.empty
    c.put_messages.ensures.frames c.deliver_outcomes.ensures.frames refl)
    (subst (λ (t : Option ℕ). acts.primitives ≡ filter_map outcome_of outs ++ removal_primitives t
    links) is
    (primitives_behind c.args.acts.now c.put_messages.new.acts acts acts _ _ c.requires.empty
    c.put_messages.ensures.primitives c.deliver_outcomes.ensures.primitives
    (behind_nothing acts.primitives)))
