use Rattle.std.proofs.Common.{refl, sym, ◌∙◌}
use Rattle.lapd_link_definition.specs.End.{begin}
use Rattle.lapd_link_definition.specs.Input.{Give}
use Rattle.lapd_link_machine.proofs.BetweenSteps.{end_of, shows_end, settles, stays_between, step_done, step_refused, not_full, is_full, queued_and_closed}
use Rattle.lapd_link.specs.Link.{setup_of}
use Rattle.lapd_link.proofs.Frames.{frames_of_machine}
use Rattle.lapd_link.proofs.link.Link.give_into.Goals as goal

pub invariant_of-self : goal.invariant_of-self
invariant_of-self c = record {
  between =
      let m = c.args.self.now.machine in
      let message = c.args.message.items in
      let shown = shows_end m c.args.self.now.between in
      let none =
      not_full _ _ (c.in_default.ensures message (end_of m)
      (sym (c.len.ensures ∙ c.args.message.ok.0)) shown) (sym c.in-Ok.ensures.full) in
      let done =
      c.end_step.ensures.step _
      (rw c.clear.ensures (c.in-Ok.ensures.ok (begin (end_of m)) _ shown)) in
      stays_between (Give message) m _ _ _ c.args.self.now.between
      (step_done (Give message) (end_of m) (sym none))
      (queued_and_closed _ _ message (end_of m) none done) c.end_step.ensures.numbers;
}

pub returns-in-Some-clause-err : goal.returns-in-Some-clause-err
returns-in-Some-clause-err c = (
  refl,
  λ e h. step_refused (Give c.args.message.items) e
      c.in-Some.fault (sym (c.in-Some.ensures c.args.message.items e
      (sym (c.len.ensures ∙ c.args.message.ok.0)) h)),
)

pub returns-in-Ok-clause-ok : goal.returns-in-Ok-clause-ok
returns-in-Ok-clause-ok c = λ e h.
    let message = c.args.message.items in
    let none =
    not_full _ _
    (c.in_default.ensures message e (sym (c.len.ensures ∙ c.args.message.ok.0)) h)
    (sym c.in-Ok.ensures.full) in
    let done =
    queued_and_closed _ _ message e none
    (c.end_step.ensures.step _ (rw c.clear.ensures (c.in-Ok.ensures.ok (begin e) _ h))) in
    (_, step_done (Give message) e (sym none), done.put, settles _ _ _ done)

pub returns-in-Ok-clause-frames : goal.returns-in-Ok-clause-frames
returns-in-Ok-clause-frames c =
    frames_of_machine (setup_of c.args.self.now) c.args.self.now.machine c.end_step.new.self
    (Give c.args.message.items) c.end_step.new.outs.items c.args.self.now.between
    (λ e h.
    let message = c.args.message.items in
    let none =
    not_full _ _
    (c.in_default.ensures message e (sym (c.len.ensures ∙ c.args.message.ok.0)) h)
    (sym c.in-Ok.ensures.full) in
    let done =
    queued_and_closed _ _ message e none
    (c.end_step.ensures.step _ (rw c.clear.ensures (c.in-Ok.ensures.ok (begin e) _ h))) in
    (_, step_done (Give message) e (sym none), done.put, settles _ _ _ done))

pub returns-in-Err-clause-err : goal.returns-in-Err-clause-err
returns-in-Err-clause-err c = (
  c.in-Err.ensures.returned,
  λ e h.
      let message = c.args.message.items in
      step_refused (Give message) e _ (is_full _ _
      (c.in_default.ensures message e (sym (c.len.ensures ∙ c.args.message.ok.0)) h)
      (sym c.in-Err.ensures.full)),
)
