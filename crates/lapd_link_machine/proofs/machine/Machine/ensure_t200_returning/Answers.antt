use Rattle.std.proofs.Common.{List, [], ◌∷◌, ◌++◌, subst, ◌∙◌}
use Rattle.lapd_timers.specs.declared.timer.Timer.TheVariants.{T200, T203}
use Rattle.lapd_link_definition.specs.declared.out.Out.{Out}
use Rattle.lapd_link_definition.specs.declared.out.Out.TheVariants.{Start, Stop}
use Rattle.lapd_link_definition.specs.End.{StepState}
use Rattle.lapd_link_definition.specs.Procedures.{out_where}
use Rattle.lapd_link_machine.specs.Represents.{Represents}
use Rattle.lapd_link_machine.proofs.Guards.{guard_starts, guard_runs}
use Rattle.lapd_link_machine.proofs.Predicted.{two_behind, none_behind, same_outs}
use Rattle.lapd_link_machine.proofs.machine.Machine.ensure_t200_returning.Goals as goal

pub returns-then-self : goal.returns-then-self
returns-then-self c = record {
  step = λ s outs h.
      same_outs _ _ _ _ (none_behind outs)
      (subst (λ (t : StepState). Represents c.args.self.now outs t)
      (guard_runs s (h.t200 ∙ c.if-self.true)) h);
}

pub returns-else-self : goal.returns-else-self
returns-else-self c = record {
  step = λ s outs h.
      let stopped : List Out = out_where c.stop_t203_returning-stops.result (Stop T203) in
      let started : List Out = Start T200 ∷ [] in
      same_outs _ _ _ _ (two_behind outs stopped started)
      (subst (λ (t : StepState). Represents c.start_t200_returning.new.self
      ((outs ++ stopped) ++ started) t) (guard_starts s (h.t200 ∙ c.if-self.false))
      (c.start_t200_returning.ensures.step _ (outs ++ stopped)
      (c.stop_t203_returning-stops.ensures.step s outs h)));
}
