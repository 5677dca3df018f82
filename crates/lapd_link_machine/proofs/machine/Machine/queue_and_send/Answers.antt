use Rattle.std.proofs.Common.{sym, ◌∙◌}
use Rattle.lapd_link_definition.specs.End.{begin}
use Rattle.lapd_link_machine.proofs.Given.{state_when_queued, one_unsent, still_open, not_at_once, not_when_full}
use Rattle.lapd_link_machine.proofs.machine.Machine.queue_and_send.Goals as goal

pub send_at_once-requires : goal.send_at_once-requires
send_at_once-requires c =
    let m = c.args.self.now in
    let n = c.queue_up.new.self in
    let message = c.args.message.items in
    let idle = c.is_open.ensures.idle c.if-not-is_open.false in
    record {
      state = state_when_queued m n message c.requires.between c.in-Ok.ensures.ok idle.state;
      one = one_unsent m n message c.requires.between c.in-Ok.ensures.ok idle.sent;
      window_open =
          still_open m n message c.requires.between c.in-Ok.ensures.ok
          (c.is_open.ensures.window_open c.if-not-is_open.false);
    }

pub returns-in-Ok-clause-step : goal.returns-in-Ok-clause-step
returns-in-Ok-clause-step c =
    λ e h. c.send_at_once.ensures.step _ (c.in-Ok.ensures.ok (begin e) _ h)

pub returns-then-not-is_open-clause-declined : goal.returns-then-not-is_open-clause-declined
returns-then-not-is_open-clause-declined c =
    λ e h. not_at_once c.args.self.now e c.requires.between.within h
    (sym c.is_open.ensures.exactly ∙ c.if-not-is_open.true)

pub returns-in-Err-clause-declined : goal.returns-in-Err-clause-declined
returns-in-Err-clause-declined c =
    λ e h. not_when_full c.args.self.now e h (sym c.in-Err.ensures.full)
