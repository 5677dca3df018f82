use Rattle.std.proofs.Common.{rules}
use Rattle.lapd_link_definition.specs.Input.{input_of}
use Rattle.lapd_link_machine.proofs.BetweenSteps.{end_of, shows_end, settles, stays_between, step_done, step_refused}
use Rattle.lapd_link.specs.Link.{setup_of}
use Rattle.lapd_link.proofs.Frames.{frames_of_machine}
use Rattle.lapd_link.proofs.link.Link.handle_into.Goals as goal

pub invariant_of-self : goal.invariant_of-self
invariant_of-self c = record {
  between =
      let m = c.args.self.now.machine in
      let shown = shows_end m c.args.self.now.between in
      let none = c.in-None.ensures (end_of m) shown in
      stays_between (input_of c.args.event) m _ _ _ c.args.self.now.between
      (step_done (input_of c.args.event) (end_of m) none) (c.step.ensures.step _ shown)
      c.step.ensures.numbers;
}

pub returns-in-Some-clause-err : goal.returns-in-Some-clause-err
returns-in-Some-clause-err c =
    λ e h. step_refused (input_of c.args.event) e c.in-Some.fault (c.in-Some.ensures e h)

pub returns-in-None-clause-ok : goal.returns-in-None-clause-ok
returns-in-None-clause-ok c = λ e h.
    let done = c.step.ensures.step _ h in
    (_, step_done (input_of c.args.event) e (c.in-None.ensures e h), done.put, settles _ _ _ done)

pub returns-in-None-clause-frames : goal.returns-in-None-clause-frames
returns-in-None-clause-frames c =
    frames_of_machine (setup_of c.args.self.now) c.args.self.now.machine c.step.new.self
    (input_of c.args.event) c.step.new.outs.items c.args.self.now.between
    (λ e h.
    let done = c.step.ensures.step _ h in
    (_, step_done (input_of c.args.event) e (c.in-None.ensures e h), done.put, settles _ _ _ done))

pub step-requires-clause-empty : goal.step-requires-clause-empty
step-requires-clause-empty c = search rules

pub returns-in-Some-clause-empty : goal.returns-in-Some-clause-empty
returns-in-Some-clause-empty c = search rules
