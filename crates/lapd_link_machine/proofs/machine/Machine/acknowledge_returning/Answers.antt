use Rattle.std.proofs.Common.{◌≡◌, ◌≤◌, ◌-◌, refl, sym, ap, ◌∙◌, arith}
use Rattle.std.proofs.lemmas.List.{length-drop}
use Rattle.lapd_mod128.specs.Counting.{Tagged}
use Rattle.lapd_supervision.proofs.Outstanding.{acknowledged_count_at_most}
use Rattle.lapd_supervision.specs.StateVariables.{with_va, acknowledged_count}
use Rattle.lapd_link_definition.specs.Procedures.{acknowledge}
use Rattle.lapd_link_machine.proofs.Tails.{tail_acknowledged}
use Rattle.lapd_link_machine.proofs.machine.Machine.acknowledge_returning.Goals as goal
use Rattle.lapd_queue.specs.Waiting.{without_first}

pub acknowledge-requires : goal.acknowledge-requires
acknowledge-requires c =
    let reported : c.from-count.result ≡ acknowledged_count Tagged c.args.nr
    c.args.self.now.window =
    c.from-count.ensures ∙ c.requires.taken.count in
    omega (
      arith,
      reported,
      c.requires.counted,
      acknowledged_count_at_most Tagged c.args.nr c.args.self.now.window
          c.requires.taken.valid,
    )

pub returns-clause-step : goal.returns-clause-step
unfolding acknowledge without_first
returns-clause-step c = λ s outs h.
    let reported : c.from-count.result ≡ acknowledged_count Tagged c.args.nr
    c.args.self.now.window =
    c.from-count.ensures ∙ c.requires.taken.count in
    let count : acknowledged_count Tagged c.args.nr s.end.window ≡ c.from-count.result =
    ap (acknowledged_count Tagged c.args.nr) h.window ∙ sym reported in
    let few : c.from-count.result ≤ c.args.self.now.queue.sent =
    omega (
      arith,
      reported,
      c.requires.counted,
      acknowledged_count_at_most Tagged c.args.nr c.args.self.now.window
          c.requires.taken.valid,
    ) in
    record {
      parameters = h.parameters;
      state = h.state;
      rc = h.rc;
      window = ap (with_va c.args.nr) h.window ∙ sym c.requires.taken.window;
      layer3_initiated = h.layer3_initiated;
      release_pending = h.release_pending;
      t200 = h.t200;
      t203 = h.t203;
      queue =
          rw (count, c.acknowledge.ensures.left)
          (tail_acknowledged _ _ _ c.from-count.result _ h.queue few
          c.acknowledge.ensures.were_there);
      room = rw c.acknowledge.ensures.left h.room;
      put = rw (h.put, count) refl;
    }

pub returns-clause-idle : goal.returns-clause-idle
unfolding without_first
returns-clause-idle c = λ idle. record {
  state = idle.state;
  sent =
      rw c.acknowledge.ensures.left (ap (λ n. n - c.from-count.result) idle.sent
      ∙ sym (length-drop c.from-count.result c.args.self.now.queue.messages));
}
