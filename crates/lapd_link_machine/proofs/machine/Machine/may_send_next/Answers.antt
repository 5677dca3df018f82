use Rattle.std.proofs.Common.{sym, ◌∙◌, arith}
use Rattle.lapd_mod128.specs.Counting.{Tagged}
use Rattle.lapd_supervision.proofs.Outstanding.{may_send_leaves_room}
use Rattle.lapd_link_machine.proofs.machine.Machine.may_send_next.Goals as goal

pub returns-then-is_established-clause-few : goal.returns-then-is_established-clause-few
returns-then-is_established-clause-few c = λ may.
    let few =
    may_send_leaves_room Tagged c.k.result c.args.self.now.window
    (sym c.may_send.ensures ∙ may) in
    omega (arith, few, c.k.ensures.high)
