use Rattle.std.proofs.Common.{◌≡◌, sym, ◌∙◌, append-nil}
use Rattle.lapd_link_definition.specs.declared.out.Out.TheVariants.{Dropped}
use Rattle.lapd_link_definition.specs.End.{waiting}
use Rattle.lapd_link_definition.specs.Procedures.{discard_i_queue}
use Rattle.lapd_link_machine.proofs.Tails.{tail_waiting, tail_emptied, counted_above, counted_none}
use Rattle.lapd_link_machine.proofs.machine.Machine.discard_i_queue.Goals as goal
use Rattle.lapd_queue.specs.Waiting.{emptied}

pub returns-then-dropped-gt0-clause-step : goal.returns-then-dropped-gt0-clause-step
unfolding discard_i_queue emptied
returns-then-dropped-gt0-clause-step c = λ s h.
    let count : waiting s.end ≡ c.discard-dropped.result =
    tail_waiting _ _ _ _ h.queue ∙ sym c.discard-dropped.ensures.dropped in
    record {
      parameters = h.parameters;
      state = h.state;
      rc = h.rc;
      window = h.window;
      layer3_initiated = h.layer3_initiated;
      release_pending = h.release_pending;
      t200 = h.t200;
      t203 = h.t203;
      queue = rw c.discard-dropped.ensures.empty (tail_emptied _ _ _ _ h.queue);
      room = rw c.discard-dropped.ensures.empty h.room;
      put =
          rw (h.put, count, counted_above c.discard-dropped.result Dropped c.if-dropped-gt0.true)
          (sym c.push.ensures.items);
    }

pub returns-else-dropped-gt0-clause-step : goal.returns-else-dropped-gt0-clause-step
unfolding discard_i_queue emptied
returns-else-dropped-gt0-clause-step c = λ s h.
    let count : waiting s.end ≡ c.discard-dropped.result =
    tail_waiting _ _ _ _ h.queue ∙ sym c.discard-dropped.ensures.dropped in
    record {
      parameters = h.parameters;
      state = h.state;
      rc = h.rc;
      window = h.window;
      layer3_initiated = h.layer3_initiated;
      release_pending = h.release_pending;
      t200 = h.t200;
      t203 = h.t203;
      queue = rw c.discard-dropped.ensures.empty (tail_emptied _ _ _ _ h.queue);
      room = rw c.discard-dropped.ensures.empty h.room;
      put =
          rw (h.put, count, counted_none c.discard-dropped.result Dropped c.if-dropped-gt0.false)
          (append-nil _);
    }
