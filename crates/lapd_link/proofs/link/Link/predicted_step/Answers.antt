use Rattle.std.proofs.Common.{refl}
use Rattle.lapd_frame.specs.PredictedFrame.{predicted_control, predicted_role}
use Rattle.lapd_link_definition.specs.Input.{Heard}
use Rattle.lapd_link_machine.proofs.BetweenSteps.{step_done, settles}
use Rattle.lapd_link_machine.proofs.Predicted.{if_some, stays_between_when_predicted}
use Rattle.lapd_link.proofs.link.Link.predicted_step.Goals as goal

pub invariant_of-self : goal.invariant_of-self
invariant_of-self c = record {
  between =
      stays_between_when_predicted c.predicted_step.result (predicted_control c.args.kind c.args.nr)
      (predicted_role c.args.kind) _ _ c.args.self.now.between c.predicted_step.ensures.step
      c.predicted_step.ensures.unchanged
      c.predicted_step.ensures.numbers;
}

pub returns-clause-ok : goal.returns-clause-ok
returns-clause-ok c = if_some c.predicted_step.result _ _ (λ outs step e h.
    let done = step e h in (
      _,
      step_done (Heard (predicted_control c.args.kind c.args.nr) (predicted_role c.args.kind)) e
          refl,
      done.put,
      settles _ _ _ done,
    )) c.predicted_step.ensures.step
