use Rattle.lapd_pair_laws.specs.World.{new_world}
use Rattle.lapd_cli_link_commands.proofs.Drawings.{head_failed, with_head}
use Rattle.lapd_cli_link_commands.proofs.pair_ladder.draw_pair.Goals as goal

pub returns-in-Ok : goal.returns-in-Ok
returns-in-Ok g c =
    with_head (g.R.Read.remaining c.args.script.now) (new_world c.args.user c.args.network)
    c.draw_moves.result _ _ _ c.in-Ok.ensures.ok c.draw_moves.ensures

pub returns-in-Err : goal.returns-in-Err
returns-in-Err g c =
    head_failed (g.R.Read.remaining c.args.script.now) (new_world c.args.user c.args.network)
    (g.W.Write.contents c.args.out.now) (g.W.Write.contents c.put_line.new.out)
