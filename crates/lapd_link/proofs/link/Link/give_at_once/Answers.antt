use Rattle.std.proofs.Common.{refl, sym, ◌∙◌}
use Rattle.lapd_link_definition.specs.Input.{Give}
use Rattle.lapd_link_machine.proofs.BetweenSteps.{step_done, settles, not_full, queued_and_closed}
use Rattle.lapd_link_machine.proofs.Given.{if_ok, not_when_refused, on_err, stays_between_when_given}
use Rattle.lapd_link.proofs.link.Link.give_at_once.Goals as goal

pub invariant_of-self : goal.invariant_of-self
invariant_of-self c = record {
  between =
      stays_between_when_given c.give_at_once.result c.args.message.items _ _
      c.args.self.now.between
      (λ e h. c.in-None.ensures c.args.message.items e
      (sym (c.len.ensures ∙ c.args.message.ok.0)) h)
      c.give_at_once.ensures.step c.give_at_once.ensures.room c.give_at_once.ensures.unchanged
      c.give_at_once.ensures.numbers;
}

pub returns-in-None-clause-ok : goal.returns-in-None-clause-ok
returns-in-None-clause-ok c = if_ok c.give_at_once.result _ _ _ (λ outs step room e h.
    let message = c.args.message.items in
    let none =
    not_full _ _ (c.in-None.ensures message e (sym (c.len.ensures ∙ c.args.message.ok.0)) h)
    room in
    let done = queued_and_closed _ _ message e none (step e h) in (
      _,
      step_done (Give message) e (sym none),
      done.put,
      settles _ _ _ done,
    )) c.give_at_once.ensures.step c.give_at_once.ensures.room

pub returns-in-Some-clause-declined : goal.returns-in-Some-clause-declined
returns-in-Some-clause-declined c =
    λ e h. not_when_refused c.args.message.items e _
    (c.in-Some.ensures c.args.message.items e (sym (c.len.ensures ∙ c.args.message.ok.0)) h)

pub returns-in-None-clause-declined : goal.returns-in-None-clause-declined
returns-in-None-clause-declined c =
    on_err c.give_at_once.result _ _ (λ waits e h. rw (waits e h) refl)
    c.give_at_once.ensures.declined
