use Rattle.std.proofs.Common.{sym, subst, ◌∙◌, arith}
use Rattle.lapd_cli_live.specs.Log.{state_of}
use Rattle.lapd_cli_live.specs.Sessions.{ExecutesAs}
use Rattle.lapd_cli_live.specs.declared.executed.Executed.{Executed}
use Rattle.lapd_cli_live.specs.declared.executed.Executed.TheVariants as executed
use Rattle.lapd_cli_wire.specs.declared.outside.Lines.TheVariants.{Ignored}
use Rattle.lapd_cli_live.proofs.Sessions.{this_stops}
use Rattle.lapd_cli_live.proofs.input.run_script_line.Goals as goal

pub returns-in-Bad : goal.returns-in-Bad
returns-in-Bad g c =
    this_stops executed.Bad c.args.line.now c.args.number.now c.in-Some.this _ _ (omega arith)
    (sym c.is_passed_over.ensures ∙ c.if-is_passed_over.false)
    (subst (λ (x : Executed). ExecutesAs x c.args.line.now Ignored
    (state_of g.O.Outside.io_events g.O.Outside.impaired_by g.W.Write.contents
    c.args.live.now)
    (state_of g.O.Outside.io_events g.O.Outside.impaired_by g.W.Write.contents
    c.execute_line.new.self)) c.in-Bad.is c.in_ok-execute_line.ensures)

pub returns-in-Unmet : goal.returns-in-Unmet
returns-in-Unmet g c = λ behind. (
  c.in-Some.this,
  this_stops executed.Unmet c.args.line.now c.args.number.now c.in-Some.this _ _ (omega arith)
      (sym c.is_passed_over.ensures ∙ c.if-is_passed_over.false)
      (subst (λ (x : Executed). ExecutesAs x c.args.line.now Ignored
      (state_of g.O.Outside.io_events g.O.Outside.impaired_by g.W.Write.contents
      c.args.live.now)
      (state_of g.O.Outside.io_events g.O.Outside.impaired_by g.W.Write.contents
      c.execute_line.new.self)) c.in-Unmet.is c.in_ok-execute_line.ensures) behind,
)
