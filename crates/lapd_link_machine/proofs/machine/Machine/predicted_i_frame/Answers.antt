use Rattle.std.proofs.Common.{◌≡◌, true, false, None, refl, sym, ap, ◌∙◌}
use Rattle.std.proofs.lemmas.Bool.{not-false}
use Rattle.lapd_mod128.specs.Counting.{Tagged}
use Rattle.lapd_supervision.specs.StateVariables.{StateVariables, is_accepted, i_frame_response, after_i_frame, is_valid_nr, outstanding}
use Rattle.lapd_supervision.proofs.Outstanding.{outstanding_after_i_frame}
use Rattle.lapd_link_definition.specs.Procedures.{i_frame_ns}
use Rattle.lapd_link_definition.specs.Established.{multiple_frame_established, i_frame_nr}
use Rattle.lapd_link_machine.proofs.Predicted.{accepted_is_not_answered, third_is_false, then_ends, else_ends, if_none, if_some}
use Rattle.lapd_link_machine.proofs.machine.Machine.predicted_i_frame.Goals as goal

pub acknowledge_and_end-requires-clause-counted : goal.acknowledge_and_end-requires-clause-counted
acknowledge_and_end-requires-clause-counted c =
    c.requires.counted
    ∙ sym (ap (outstanding Tagged) c.take_ns-window.ensures.window
    ∙ outstanding_after_i_frame Tagged Tagged c.args.ns false c.args.self.now.window)

pub returns-clause-step : goal.returns-clause-step
unfolding multiple_frame_established i_frame_ns i_frame_nr after_i_frame
returns-clause-step c = if_some c.acknowledge_and_end.result _ _ (λ outs step s h.
    let accepted : is_accepted c.args.ns s.end.window ≡ true =
    ap (is_accepted c.args.ns) h.window ∙ sym c.take_ns-window.ensures.accepted
    ∙ not-false c.take_ns-window.result.1.accepted c.if-not-receipt.false in
    let answer : i_frame_response Tagged c.args.ns false s.end.window ≡ None =
    accepted_is_not_answered c.args.ns s.end.window accepted in
    let window : after_i_frame Tagged c.args.ns false s.end.window ≡ c.take_ns-window.result.0 =
    ap (after_i_frame Tagged c.args.ns false) h.window
    ∙ sym c.take_ns-window.ensures.window in
    let valid : is_valid_nr Tagged c.args.nr (after_i_frame Tagged c.args.ns false s.end.window) ≡
    true =
    ap (is_valid_nr Tagged c.args.nr) window ∙ step.0 in
    let busy : StateVariables → _ = λ v. v.peer_busy in
    let ready : s.end.window.peer_busy ≡ false =
    ap busy h.window ∙ sym c.peer_busy.ensures ∙ c.if-peer_busy.false in
    then_ends _ _ _ _ _ valid (else_ends _ _ _ _ _ ready (step.1 _ (record {
      parameters = h.parameters;
      state = h.state;
      rc = h.rc;
      window = window;
      layer3_initiated = h.layer3_initiated;
      release_pending = h.release_pending;
      t200 = h.t200;
      t203 = h.t203;
      queue = h.queue;
      room = h.room;
      put = rw (h.put, accepted, answer) refl;
    })))) c.acknowledge_and_end.ensures.step

pub returns-clause-declined : goal.returns-clause-declined
unfolding is_valid_nr after_i_frame
returns-clause-declined c = if_none c.acknowledge_and_end.result _ _
    (λ invalid. third_is_false _ _ _
    (ap (is_valid_nr Tagged c.args.nr) (sym c.take_ns-window.ensures.window) ∙ invalid))
    c.acknowledge_and_end.ensures.declined
