use Rattle.std.proofs.Common.{option_map, subst}
use Rattle.std.specs.Io.KnownBytes.{Appends}
use Rattle.lapd_cli_link_commands.specs.Pair.{pair_step}
use Rattle.lapd_cli_link_commands.specs.RepresentsLadder.{taken_of}
use Rattle.lapd_cli_link_commands.proofs.Drawings.{line_drawn, line_failed}
use Rattle.lapd_cli_link_commands.proofs.pair_ladder.DrawerCommand.run.Goals as goal

pub returns-in_err-execute : goal.returns-in_err-execute
returns-in_err-execute g c = λ w h.
    line_failed w c.args.line.now (pair_step w c.args.line.now)
    c.from_residual-in_err-execute.result c.in_err-execute.field-0.0 c.execute.new.self _ _
    c.from_residual-in_err-execute.ensures.1 (c.in_err-execute.ensures w h)

pub returns : goal.returns
returns g c = λ w h.
    let old = g.W.Write.contents c.args.out.now in
    let new = g.W.Write.contents c.write_all.new.self in
    line_drawn w c.args.line.now (pair_step w c.args.line.now)
    (option_map taken_of c.in_ok-taken.taken) c.execute.new.self c.draw.new.self old new
    (c.in_ok-taken.ensures.ok w (c.pair.ensures w h)) (c.in_ok-execute.ensures w h)
    c.in_ok-draw.ensures.ok c.draw.ensures.same
    (subst (Appends old new) c.as_slice.ensures.value c.in_ok-write_all.ensures.bytes)
