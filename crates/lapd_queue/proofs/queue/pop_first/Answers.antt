use Rattle.std.proofs.Common.{arith, ap, ◌∙◌}
use Rattle.circular_buffer.specs.Buffer.{buffer}
use Rattle.lapd_queue.proofs.Messages.{rest_of_one}
use Rattle.lapd_queue.proofs.queue.pop_first.Goals as goal

pub returns-then-len-eq1-clause-items : goal.returns-then-len-eq1-clause-items
returns-then-len-eq1-clause-items c =
    c.pop_back.ensures.items
    ∙ ap (λ rest. buffer rest c.args.messages.now.capacity) (rest_of_one c.args.messages.now.items
    (omega (arith, c.len.ensures.len, c.if-len-eq1.true)))
