use Rattle.std.proofs.Common.{OnOk, subst}
use Rattle.lapd_cli_script.specs.Script.{lines_of}
use Rattle.lapd_cli_script.specs.WalkState.{walk_lines}
use Rattle.lapd_cli_script.proofs.Lines.{EndsAs-without_comments, state_after-without_comments}
use Rattle.lapd_cli_script.proofs.Walks.{WalkEnds-handed, represents_submitted, if_known}
use Rattle.lapd_cli_script.proofs.script.walk.Goals as goal

pub returns-clause-ended : goal.returns-clause-ended
returns-clause-ended g c = λ s h.
    if_known (g.R.Read.remaining c.args.script.now) _ _
    (λ octets w. EndsAs-without_comments g.C.Command.step s c.flush_rest.result (lines_of octets)
    (g.W.Write.contents c.args.out.now) (g.W.Write.contents c.flush_rest.new.out)
    (WalkEnds-handed g.C.Command.represents g.C.Command.step s c.walk_script-ended.result
    c.flush_rest.result (walk_lines octets) c.walk_script-ended.new.command w.0
    (g.W.Write.contents c.args.out.now) (g.W.Write.contents c.walk_script-ended.new.out)
    (g.W.Write.contents c.flush_rest.new.out) w.1 c.flush_rest.ensures.bytes
    c.flush_rest.ensures.ended))
    (c.walk_script-ended.ensures s h)

pub returns-clause-state : goal.returns-clause-state
returns-clause-state g c = λ s h.
    if_known (g.R.Read.remaining c.args.script.now) _ _
    (λ octets w. subst (λ t. OnOk c.flush_rest.result
    (g.C.Command.represents c.walk_script-ended.new.command t))
    (state_after-without_comments g.C.Command.step s (lines_of octets))
    (represents_submitted g.C.Command.represents g.C.Command.step s c.walk_script-ended.result
    c.flush_rest.result (walk_lines octets) c.walk_script-ended.new.command w.0
    (g.W.Write.contents c.args.out.now) (g.W.Write.contents c.walk_script-ended.new.out) w.1
    c.flush_rest.ensures.ended))
    (c.walk_script-ended.ensures s h)
