use Rattle.std.proofs.Common.{true, false, refl, sym, ◌∙◌}
use Rattle.lapd_frame.specs.declared.Role.TheVariants.{Command, Answer}
use Rattle.lapd_frame.specs.declared.Control.TheVariants.{I, Rr}
use Rattle.lapd_link_machine.proofs.Predicted.{counted_when_idle, idle_only_if, not_predicted, predicted_of_row}
use Rattle.lapd_link_machine.proofs.machine.Machine.predicted_row.Goals as goal

pub predicted_i_frame-requires : goal.predicted_i_frame-requires
predicted_i_frame-requires c =
    let idle = c.is_idle.ensures.idle c.if-not-is_idle.false in
    record { idle = idle; counted = counted_when_idle c.args.self.now c.requires.between idle }

pub predicted_response-requires : goal.predicted_response-requires
predicted_response-requires c =
    let idle = c.is_idle.ensures.idle c.if-not-is_idle.false in
    record { idle = idle; counted = counted_when_idle c.args.self.now c.requires.between idle }

pub predicted_poll-requires : goal.predicted_poll-requires
predicted_poll-requires c =
    let idle = c.is_idle.ensures.idle c.if-not-is_idle.false in
    record { idle = idle; counted = counted_when_idle c.args.self.now c.requires.between idle }

pub returns-then-not-is_idle-clause-declined : goal.returns-then-not-is_idle-clause-declined
returns-then-not-is_idle-clause-declined c =
    λ e h. rw (idle_only_if c.args.self.now e
    c.requires.between.within h (sym c.is_idle.ensures.exactly ∙ c.if-not-is_idle.true)) refl

pub returns-in-Message-clause-step : goal.returns-in-Message-clause-step
returns-in-Message-clause-step c =
    rw c.in-Message.is (predicted_of_row c.predicted_i_frame.result
    (I c.in-Message.ns c.args.nr false) Command _ _
    (c.is_idle.ensures.idle c.if-not-is_idle.false) refl c.predicted_i_frame.ensures.step)

pub returns-in-Acknowledgement-clause-step : goal.returns-in-Acknowledgement-clause-step
returns-in-Acknowledgement-clause-step c =
    rw c.in-Acknowledgement.is (predicted_of_row c.predicted_response.result (Rr c.args.nr false)
    Answer _ _ (c.is_idle.ensures.idle c.if-not-is_idle.false) refl
    c.predicted_response.ensures.step)

pub returns-in-Poll-clause-step : goal.returns-in-Poll-clause-step
returns-in-Poll-clause-step c =
    rw c.in-Poll.is (predicted_of_row c.predicted_poll.result (Rr c.args.nr true) Command _ _
    (c.is_idle.ensures.idle c.if-not-is_idle.false) refl c.predicted_poll.ensures.step)

pub returns-in-Message-clause-declined : goal.returns-in-Message-clause-declined
returns-in-Message-clause-declined c =
    rw c.in-Message.is (not_predicted c.predicted_i_frame.result (I c.in-Message.ns c.args.nr false)
    Command c.args.self.now c.predicted_i_frame.ensures.declined)

pub returns-in-Acknowledgement-clause-declined : goal.returns-in-Acknowledgement-clause-declined
returns-in-Acknowledgement-clause-declined c =
    rw c.in-Acknowledgement.is (not_predicted c.predicted_response.result (Rr c.args.nr false)
    Answer c.args.self.now c.predicted_response.ensures.declined)

pub returns-in-Poll-clause-declined : goal.returns-in-Poll-clause-declined
returns-in-Poll-clause-declined c =
    rw c.in-Poll.is (not_predicted c.predicted_poll.result (Rr c.args.nr true) Command
    c.args.self.now c.predicted_poll.ensures.declined)
