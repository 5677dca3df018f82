use Rattle.std.proofs.Common.{[], sym, ◌∙◌}
use Rattle.lapd_sides.specs.Either.{Answers}
use Rattle.lapd_c.proofs.Asked.{asked, counted_alone}
use Rattle.lapd_c.proofs.CountedCalls.{answers}
use Rattle.lapd_c.proofs.held_side.HeldSide.request.Goals as goal

pub returns-in-Ok : goal.returns-in-Ok
returns-in-Ok c =
    let old = c.args.self.now in
    let mid = c.make_ready.new.self in
    let q = c.request-result.new.self in
    let after = c.count_results.new.counts in
    asked (Answers c.args.request c.args.now) [] c.request-result.result c.code_of.result
    c.code_of.ensures (answers c.args.request c.args.now c.request-result.result) old mid q after
    c.make_ready.ensures.rest c.in-Ok.ensures.ready
    (counted_alone old mid q after c.make_ready.ensures.rest c.count_results.ensures)
    (sym c.is_full.ensures ∙ c.if-is_full.false) c.request-result.ensures
