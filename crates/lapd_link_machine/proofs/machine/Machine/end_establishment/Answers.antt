use Rattle.std.proofs.Common.{◌≡◌, false, sym, ap, subst, ◌∙◌}
use Rattle.lapd_link_definition.specs.declared.out.Out.{Out}
use Rattle.lapd_link_definition.specs.declared.state.State.TheVariants.{TeiAssigned}
use Rattle.lapd_link_definition.specs.AwaitingEstablishment.{end_establishment, release_primitive}
use Rattle.lapd_link_definition.specs.Procedures.{put, release_pending_to, state_to}
use Rattle.lapd_link_machine.specs.Represents.{Represents}
use Rattle.lapd_link_machine.proofs.machine.Machine.end_establishment.Goals as goal

pub returns-clause-step : goal.returns-clause-step
unfolding end_establishment
returns-clause-step c = λ s h.
    let same : c.release_primitive-out.result ≡ release_primitive s.end.release_pending =
    c.release_primitive-out.ensures ∙ ap release_primitive (sym h.release_pending) in
    subst (λ (out : Out). Represents c.state_to.new.self c.put.new.outs.items
    (state_to TeiAssigned (release_pending_to false (put out s)))) same
    (c.state_to.ensures.step _ _ (c.release_pending_to.ensures.step _ _ (c.put.ensures.step _ h)))
