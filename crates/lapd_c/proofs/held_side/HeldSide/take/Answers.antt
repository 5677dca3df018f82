use Rattle.std.proofs.Common.{sym, ◌∙◌}
use Rattle.lapd_sides.specs.Either.{Takes}
use Rattle.lapd_c.proofs.Asked.{asked, counted_in_turn}
use Rattle.lapd_c.proofs.CountedCalls.{takes}
use Rattle.lapd_c.proofs.held_side.HeldSide.take.Goals as goal

pub returns-in-Ok : goal.returns-in-Ok
returns-in-Ok c =
    let old = c.args.self.now in
    let mid = c.make_ready.new.self in
    let q = c.take-result.new.self in
    let after = c.count_results.new.counts in
    asked (Takes c.args.octets.now c.args.now) c.args.octets.now c.take-result.result
    c.code_of.result
    c.code_of.ensures (takes c.args.octets.now c.args.now c.take-result.result) old mid q after
    c.make_ready.ensures.rest c.in-Ok.ensures.ready
    (counted_in_turn c.args.octets.now old mid q c.count_received.new.counts after
    c.make_ready.ensures.rest
    c.in-Ok.ensures.ready c.count_received.ensures c.count_results.ensures)
    (sym c.is_full.ensures ∙ c.if-is_full.false) c.take-result.ensures
