use Rattle.std.proofs.Common.{true, false}
use Rattle.lapd_cli_live.specs.Log.{state_of}
use Rattle.lapd_cli_live.specs.Sessions.{session_of}
use Rattle.lapd_cli_live.proofs.Sessions.{err_says_nothing, last_by, part_by, session_closed, session_further, session_last_quits, session_quits, session_served}
use Rattle.lapd_cli_live.proofs.input.converse.Goals as goal

pub returns-in-Closed : goal.returns-in-Closed
returns-in-Closed g c =
    session_closed g.P.Console.tidy c.args.serve_on (g.R.Read.remaining c.args.lines.now)
    (g.R.Read.remaining c.loop-read.lines) c.loop-read.typed.text.items
    c.in_ok-await_input.field-0 _ (session_of g.O.Outside.io_events g.O.Outside.impaired_by
    g.W.Write.contents g.P.Console.reported c.loop-read.live c.loop-read.console)
    (state_of g.O.Outside.io_events g.O.Outside.impaired_by g.W.Write.contents
    c.await_input.new.self) c.loop-read.invariant c.in_ok-await_input.ensures c.in-Closed.is

pub returns-in_err-read_part : goal.returns-in_err-read_part
returns-in_err-read_part g c =
    err_says_nothing (g.R.Read.remaining c.args.lines.now) c.from_residual-in_err-read_part.result _
    _ c.from_residual-in_err-read_part.ensures.1

pub returns-in_err-run_last : goal.returns-in_err-run_last
returns-in_err-run_last g c =
    err_says_nothing (g.R.Read.remaining c.args.lines.now) c.from_residual-in_err-run_last.result _
    _
    c.from_residual-in_err-run_last.ensures.1

pub returns-then-not-branch-2 : goal.returns-then-not-branch-2
returns-then-not-branch-2 g c =
    session_last_quits g.P.Console.tidy c.args.serve_on c.in_ok-run_last.field-0
    (g.R.Read.remaining c.args.lines.now) (g.R.Read.remaining c.loop-read.lines)
    (g.R.Read.remaining c.read_part.new.lines) c.loop-read.typed.text.items
    c.read_part.new.read.text.items c.in_ok-await_input.field-0 _
    (session_of g.O.Outside.io_events g.O.Outside.impaired_by g.W.Write.contents
    g.P.Console.reported c.loop-read.live c.loop-read.console)
    (state_of g.O.Outside.io_events g.O.Outside.impaired_by g.W.Write.contents
    c.await_input.new.self)
    (session_of g.O.Outside.io_events g.O.Outside.impaired_by g.W.Write.contents
    g.P.Console.reported c.run_last.new.live c.run_last.new.console) c.loop-read.invariant
    c.in_ok-await_input.ensures
    (part_by c.in_ok-read_part.field-0 false _ _ _ _ c.if-not-branch.true c.in_ok-read_part.ensures)
    (last_by g.P.Console.tidy _ _ c.in_ok-run_last.field-0 _ _ c.last_line.ensures
    c.in_ok-run_last.ensures) c.if-not-branch-2.true

pub returns-then-not-branch : goal.returns-then-not-branch
returns-then-not-branch g c =
    session_served g.P.Console.tidy c.args.serve_on c.in_ok-run_last.field-0 c.serve_to_end.result
    (g.R.Read.remaining c.args.lines.now) (g.R.Read.remaining c.loop-read.lines)
    (g.R.Read.remaining c.read_part.new.lines) c.loop-read.typed.text.items
    c.read_part.new.read.text.items c.in_ok-await_input.field-0 _
    (session_of g.O.Outside.io_events g.O.Outside.impaired_by g.W.Write.contents
    g.P.Console.reported c.loop-read.live c.loop-read.console)
    (state_of g.O.Outside.io_events g.O.Outside.impaired_by g.W.Write.contents
    c.await_input.new.self)
    (session_of g.O.Outside.io_events g.O.Outside.impaired_by g.W.Write.contents
    g.P.Console.reported c.run_last.new.live c.run_last.new.console)
    (state_of g.O.Outside.io_events g.O.Outside.impaired_by g.W.Write.contents
    c.serve_to_end.new.live) c.loop-read.invariant c.in_ok-await_input.ensures
    (part_by c.in_ok-read_part.field-0 false _ _ _ _ c.if-not-branch.true c.in_ok-read_part.ensures)
    (last_by g.P.Console.tidy _ _ c.in_ok-run_last.field-0 _ _ c.last_line.ensures
    c.in_ok-run_last.ensures) c.if-not-branch-2.false c.serve_to_end.ensures

pub returns-in_err-run_typed_lines : goal.returns-in_err-run_typed_lines
returns-in_err-run_typed_lines g c =
    err_says_nothing (g.R.Read.remaining c.args.lines.now)
    c.from_residual-in_err-run_typed_lines.result _ _
    c.from_residual-in_err-run_typed_lines.ensures.1

pub returns-then-not-branch-3 : goal.returns-then-not-branch-3
returns-then-not-branch-3 g c =
    session_quits g.P.Console.tidy c.args.serve_on c.in_ok-run_typed_lines.field-0
    (g.R.Read.remaining c.args.lines.now) (g.R.Read.remaining c.loop-read.lines)
    (g.R.Read.remaining c.read_part.new.lines) c.loop-read.typed.text.items
    c.read_part.new.read.text.items c.run_typed_lines.new.typed.text.items
    c.in_ok-await_input.field-0 _ (session_of g.O.Outside.io_events g.O.Outside.impaired_by
    g.W.Write.contents g.P.Console.reported c.loop-read.live c.loop-read.console)
    (state_of g.O.Outside.io_events g.O.Outside.impaired_by g.W.Write.contents
    c.await_input.new.self)
    (session_of g.O.Outside.io_events g.O.Outside.impaired_by g.W.Write.contents
    g.P.Console.reported c.run_typed_lines.new.live c.run_typed_lines.new.console)
    c.loop-read.invariant
    c.in_ok-await_input.ensures (part_by c.in_ok-read_part.field-0 true _ _ _ _
    c.if-not-branch.false c.in_ok-read_part.ensures) c.in_ok-run_typed_lines.ensures
    c.if-not-branch-3.true

pub loop-read-preserved : goal.loop-read-preserved
loop-read-preserved g c =
    session_further g.P.Console.tidy c.in_ok-run_typed_lines.field-0
    (g.R.Read.remaining c.args.lines.now) (g.R.Read.remaining c.loop-read.lines)
    (g.R.Read.remaining c.read_part.new.lines) c.loop-read.typed.text.items
    c.read_part.new.read.text.items c.run_typed_lines.new.typed.text.items
    c.in_ok-await_input.field-0 _ (session_of g.O.Outside.io_events g.O.Outside.impaired_by
    g.W.Write.contents g.P.Console.reported c.loop-read.live c.loop-read.console)
    (state_of g.O.Outside.io_events g.O.Outside.impaired_by g.W.Write.contents
    c.await_input.new.self)
    (session_of g.O.Outside.io_events g.O.Outside.impaired_by g.W.Write.contents
    g.P.Console.reported c.run_typed_lines.new.live c.run_typed_lines.new.console)
    c.loop-read.invariant
    c.in_ok-await_input.ensures (part_by c.in_ok-read_part.field-0 true _ _ _ _
    c.if-not-branch.false c.in_ok-read_part.ensures) c.in_ok-run_typed_lines.ensures
    c.if-not-branch-3.false
