use Rattle.std.proofs.Common.{Ok, Err, true, false}
use Rattle.lapd_cli_live.proofs.Sessions.{around_ends, script_further, end_stops, line_by, part_by, part_stops, script_ends}
use Rattle.lapd_cli_live.proofs.input.run_script.Goals as goal

pub returns-in_err-read_part : goal.returns-in_err-read_part
returns-in_err-read_part g c =
    around_ends (g.R.Read.remaining c.args.script.now) c.args.serve_on
    c.from_residual-in_err-read_part.result c.in_err-read_part.field-0.0 _ _
    c.from_residual-in_err-read_part.ensures.1

pub returns-in_err-run_script_line : goal.returns-in_err-run_script_line
returns-in_err-run_script_line g c =
    end_stops (g.R.Read.remaining c.args.script.now) (g.R.Read.remaining c.loop-read.script)
    (g.R.Read.remaining c.read_part.new.lines) c.loop-read.lines.text.items
    c.read_part.new.read.text.items c.loop-read.number c.in_ok-await_input.field-0 c.args.serve_on
    c.from_residual-in_err-run_script_line.result
    c.in_err-run_script_line.field-0.0 _ _ _ _ c.loop-read.invariant c.in_ok-await_input.ensures
    (part_by c.in_ok-read_part.field-0 false _ _ _ _ c.if-not-branch.true c.in_ok-read_part.ensures)
    (line_by (Err c.in_err-run_script_line.field-0.0) _ _ c.loop-read.number
    c.run_script_line.new.number _ _ c.last_line.ensures c.in_err-run_script_line.ensures)
    c.from_residual-in_err-run_script_line.ensures.1

pub returns-then-not-branch : goal.returns-then-not-branch
returns-then-not-branch g c =
    script_ends (g.R.Read.remaining c.args.script.now) (g.R.Read.remaining c.loop-read.script)
    (g.R.Read.remaining c.read_part.new.lines) c.loop-read.lines.text.items
    c.read_part.new.read.text.items c.loop-read.number c.run_script_line.new.number
    c.in_ok-await_input.field-0 c.args.serve_on _ _ _ _ _ c.loop-read.invariant
    c.in_ok-await_input.ensures
    (part_by c.in_ok-read_part.field-0 false _ _ _ _ c.if-not-branch.true c.in_ok-read_part.ensures)
    (line_by (Ok tt) _ _ c.loop-read.number c.run_script_line.new.number _ _ c.last_line.ensures
    c.in_ok-run_script_line.ensures)
    c.in_ok-serve_to_end.ensures

pub returns-in_err-run_script_lines : goal.returns-in_err-run_script_lines
returns-in_err-run_script_lines g c =
    part_stops (g.R.Read.remaining c.args.script.now) (g.R.Read.remaining c.loop-read.script)
    (g.R.Read.remaining c.read_part.new.lines) c.loop-read.lines.text.items
    c.read_part.new.read.text.items c.loop-read.number c.in_ok-await_input.field-0 c.args.serve_on
    c.from_residual-in_err-run_script_lines.result
    c.in_err-run_script_lines.field-0.0 _ _ _ _ c.loop-read.invariant c.in_ok-await_input.ensures
    (part_by c.in_ok-read_part.field-0 true _ _ _ _ c.if-not-branch.false c.in_ok-read_part.ensures)
    c.in_err-run_script_lines.ensures
    c.from_residual-in_err-run_script_lines.ensures.1

pub loop-read-preserved : goal.loop-read-preserved
loop-read-preserved g c =
    script_further (g.R.Read.remaining c.args.script.now) (g.R.Read.remaining c.loop-read.script)
    (g.R.Read.remaining c.read_part.new.lines) c.loop-read.lines.text.items
    c.read_part.new.read.text.items c.run_script_lines.new.lines.text.items c.loop-read.number
    c.run_script_lines.new.number c.in_ok-await_input.field-0 _ _ _ _
    c.loop-read.invariant c.in_ok-await_input.ensures
    (part_by c.in_ok-read_part.field-0 true _ _ _ _ c.if-not-branch.false
    c.in_ok-read_part.ensures)
    c.in_ok-run_script_lines.ensures

pub returns-in_err-serve_to_end : goal.returns-in_err-serve_to_end
returns-in_err-serve_to_end g c =
    around_ends (g.R.Read.remaining c.args.script.now) c.args.serve_on
    c.from_residual-in_err-serve_to_end.result c.in_err-serve_to_end.field-0.0 _ _
    c.from_residual-in_err-serve_to_end.ensures.1
