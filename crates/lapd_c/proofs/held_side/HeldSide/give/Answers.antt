use Rattle.std.proofs.Common.{[], sym, ◌∙◌}
use Rattle.lapd_sides.specs.Either.{Gives}
use Rattle.lapd_c.proofs.Asked.{asked, counted_alone}
use Rattle.lapd_c.proofs.CountedCalls.{gives}
use Rattle.lapd_c.proofs.held_side.HeldSide.give.Goals as goal

pub returns-in-Ok : goal.returns-in-Ok
returns-in-Ok c =
    let old = c.args.self.now in
    let mid = c.make_ready.new.self in
    let q = c.give-result.new.self in
    let after = c.count_results.new.counts in
    asked (Gives c.args.id.now c.args.octets.now c.args.now) [] c.give-result.result
    c.code_of.result
    c.code_of.ensures (gives c.args.id.now c.args.octets.now c.args.now c.give-result.result) old
    mid q after
    c.make_ready.ensures.rest c.in-Ok.ensures.ready
    (counted_alone old mid q after c.make_ready.ensures.rest c.count_results.ensures)
    (sym c.is_full.ensures ∙ c.if-is_full.false) c.give-result.ensures
