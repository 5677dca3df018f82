use Rattle.lapd_cli_live.proofs.Sessions.{first_held, types_next, types_quit}
use Rattle.lapd_cli_live.proofs.input.run_typed_lines.Goals as goal

pub returns-then-not-branch : goal.returns-then-not-branch
returns-then-not-branch g c =
    let first =
    first_held (λ line. line.items) c.in_ok-line.field-0 c.in-Some.line c.as_slice.result.now
    c.loop-line.typed.text.items c.next_line.new.self.text.items
    c.in-Some.is c.as_slice.ensures.value c.in_ok-line.ensures in
    types_quit g.P.Console.tidy c.in_ok-run_typed.field-0 c.args.typed.now.text.items
    c.loop-line.typed.text.items c.next_line.new.self.text.items c.as_slice.result.now
    c.next_line.new.self.text.items _ _ _ c.loop-line.invariant first c.in_ok-run_typed.ensures
    c.if-not-branch.true

pub loop-line-preserved : goal.loop-line-preserved
loop-line-preserved g c =
    let first =
    first_held (λ line. line.items) c.in_ok-line.field-0 c.in-Some.line c.as_slice.result.now
    c.loop-line.typed.text.items c.next_line.new.self.text.items
    c.in-Some.is c.as_slice.ensures.value c.in_ok-line.ensures in
    types_next g.P.Console.tidy c.in_ok-run_typed.field-0 c.args.typed.now.text.items
    c.loop-line.typed.text.items c.next_line.new.self.text.items c.as_slice.result.now
    _ _ _ c.loop-line.invariant first c.in_ok-run_typed.ensures c.if-not-branch.false
