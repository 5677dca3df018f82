use Rattle.std.proofs.Common.{[], ◌∷◌, refl, sym, ap, ◌∙◌}
use Rattle.lapd_frame.specs.Control.{field_of_message}
use Rattle.lapd_mod128.specs.Counting.{Tagged}
use Rattle.lapd_supervision.specs.StateVariables.{after_sending, next_i_frame}
use Rattle.lapd_link_definition.specs.declared.out.Out.TheVariants.{SendMessage}
use Rattle.lapd_link_definition.specs.Procedures.{transmit_i_frame}
use Rattle.lapd_link_machine.proofs.Given.{ends_with_one}
use Rattle.lapd_link_machine.proofs.Tails.{tail_place, tail_sent, room_sent}
use Rattle.lapd_link_machine.proofs.machine.Machine.send_at_once.Goals as goal

pub returns : goal.returns
unfolding transmit_i_frame
returns c = record {
  step =
      λ s h. rw
      (ends_with_one c.args.self.now [] s c.requires.state c.requires.one c.requires.window_open h)
      (c.ensure_t200_returning-effect.ensures.step _
      (SendMessage c.sent-place.result (field_of_message c.send_message-window.result.1) ∷ [])
      (record {
        parameters = h.parameters;
        state = h.state;
        rc = h.rc;
        window = ap (after_sending Tagged) h.window ∙ sym c.send_message-window.ensures.window;
        layer3_initiated = h.layer3_initiated;
        release_pending = h.release_pending;
        t200 = h.t200;
        t203 = h.t203;
        queue = rw c.sent_one.ensures (tail_sent _ _ _ _ h.queue);
        room = rw c.sent_one.ensures (room_sent _ _ h.room);
        put =
            rw (
              h.put,
              tail_place _ _ _ _ h.queue,
              ap next_i_frame h.window,
              c.sent-place.ensures.count,
              c.send_message-window.ensures.field,
            ) refl;
      }));
}
