use Rattle.lapd_cli_live.proofs.Sessions.{first_held, next_stops, takes_line}
use Rattle.lapd_cli_live.proofs.input.run_script_lines.Goals as goal

pub returns-in_err-run_script_line : goal.returns-in_err-run_script_line
returns-in_err-run_script_line g c =
    let first =
    first_held (λ line. line.items) c.in_ok-line.field-0 c.in-Some.line c.as_slice.result.now
    c.loop-line.lines.text.items c.next_line.new.self.text.items
    c.in-Some.is c.as_slice.ensures.value c.in_ok-line.ensures in
    next_stops c.from_residual-in_err-run_script_line.result c.in_err-run_script_line.field-0.0
    c.args.lines.now.text.items c.loop-line.lines.text.items
    c.next_line.new.self.text.items c.as_slice.result.now c.next_line.new.self.text.items
    c.args.number.now c.loop-line.number c.run_script_line.new.number
    c.run_script_line.new.number _ _ _ c.loop-line.invariant first c.in_err-run_script_line.ensures
    c.from_residual-in_err-run_script_line.ensures.1

pub loop-line-preserved : goal.loop-line-preserved
loop-line-preserved g c =
    let first =
    first_held (λ line. line.items) c.in_ok-line.field-0 c.in-Some.line c.as_slice.result.now
    c.loop-line.lines.text.items c.next_line.new.self.text.items
    c.in-Some.is c.as_slice.ensures.value c.in_ok-line.ensures in
    takes_line c.args.lines.now.text.items c.loop-line.lines.text.items
    c.next_line.new.self.text.items c.as_slice.result.now
    c.args.number.now c.loop-line.number c.run_script_line.new.number _ _ _ c.loop-line.invariant
    first c.in_ok-run_script_line.ensures
