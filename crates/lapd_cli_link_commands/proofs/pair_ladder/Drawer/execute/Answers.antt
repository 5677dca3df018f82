use Rattle.lapd_cli_link_commands.specs.Pair.{pair_step}
use Rattle.lapd_cli_link_commands.proofs.Drawings.{text_kept}
use Rattle.lapd_cli_link_commands.proofs.pair_ladder.Drawer.execute.Goals as goal

pub returns-in-Ok : goal.returns-in-Ok
returns-in-Ok c = λ w h.
    text_kept (pair_step w c.args.line.now)
    (record c.args.self.now { settler = c.run.new.self; text = c.run.new.out })
    c.clear.new.self.items c.clear.ensures.items (c.in-Ok.ensures w h)
