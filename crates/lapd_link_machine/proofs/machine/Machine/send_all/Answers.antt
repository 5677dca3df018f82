use Rattle.std.proofs.Common.{refl, sym, ◌∙◌, ap, arith, ◌≡◌, ◌+◌, true≢false}
use Rattle.lapd_mod128.specs.Counting.{Tagged}
use Rattle.lapd_supervision.specs.StateVariables.{outstanding}
use Rattle.lapd_supervision.proofs.Outstanding.{outstanding_after_sending}
use Rattle.lapd_link_definition.specs.EndOfStep.{is_established}
use Rattle.lapd_link_definition.proofs.Sending.{sends_one, sends_none, tags_reach}
use Rattle.lapd_link_machine.proofs.machine.Machine.send_all.Goals as goal

pub loop-self-smaller : goal.loop-self-smaller
loop-self-smaller c =
    let few = c.loop-self-test.ensures.few refl in
    let reached = tags_reach c.loop-self.self.window.va c.loop-self.self.window.vs in
    let more : outstanding Tagged c.ensure_t200.new.self.window ≡ outstanding Tagged
    c.loop-self.self.window + 1 =
    ap (outstanding Tagged)
    (c.ensure_t200.ensures.window ∙ c.transmit_i_frame.ensures.window)
    ∙ outstanding_after_sending Tagged c.loop-self.self.window reached
    (omega (arith, few)) in
    omega (arith, few, more)

pub loop-self-preserved : goal.loop-self-preserved
loop-self-preserved c =
    let few = c.loop-self-test.ensures.few refl in
    let reached = tags_reach c.loop-self.self.window.va c.loop-self.self.window.vs in
    let more : outstanding Tagged c.ensure_t200.new.self.window ≡ outstanding Tagged
    c.loop-self.self.window + 1 =
    ap (outstanding Tagged)
    (c.ensure_t200.ensures.window ∙ c.transmit_i_frame.ensures.window)
    ∙ outstanding_after_sending Tagged c.loop-self.self.window reached
    (omega (arith, few)) in
    let len = c.ensure_t200.ensures.len in
    let before = c.transmit_i_frame.ensures.len in
    let room = c.loop-self.invariant.room in
    record {
      room =
          rw c.ensure_t200.ensures.t200
          (omega (arith, more, few, rw c.transmit_i_frame.ensures.t200 at len, before, room));
      none = λ h. let still = c.loop-self.invariant.none h in
          absurd (true≢false (sym (c.loop-self-test.ensures.established refl)
          ∙ ap is_established still.0 ∙ h));
      untold =
          c.ensure_t200.ensures.untold ∙ c.transmit_i_frame.ensures.untold
          ∙ c.loop-self.invariant.untold;
      same = λ s h.
          let so_far = c.loop-self.invariant.same s h in
          let t = so_far.0 in
          let goes = sym (c.loop-self-test.ensures.shown t _ so_far.1) in (
            _,
            c.ensure_t200.ensures.step _ (c.transmit_i_frame.ensures.step t so_far.1),
            so_far.2 ∙ sends_one Tagged t goes,
          );
    }

pub returns-clause-step : goal.returns-clause-step
returns-clause-step c = λ s h.
    let so_far = c.loop-self.invariant.same s h in
    let t = so_far.0 in
    let stops = sym (c.loop-self-test.ensures.shown t _ so_far.1) in
    rw (so_far.2 ∙ sends_none Tagged _ t stops) so_far.1
