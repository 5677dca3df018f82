use Rattle.lapd_pair_laws.specs.World.{new_world}
use Rattle.lapd_cli_link_commands.proofs.Closed.{closed}
use Rattle.lapd_cli_link_commands.specs.Pair.{pair_step}
use Rattle.lapd_cli_link_commands.specs.RepresentsWorld.{IsSettler}
use Rattle.lapd_cli_link_commands.proofs.settler.pair.Goals as goal

pub returns-in-Ok-walk : goal.returns-in-Ok-walk
returns-in-Ok-walk g c =
    let w = new_world c.args.user c.args.network in
    closed pair_step IsSettler _ w c.walk.new.command _ _ _ _
    (c.in-Ok-walk.ensures.ended w c.in-Ok.ensures)
    (c.in-Ok-walk.ensures.state w c.in-Ok.ensures) c.close.ensures.ok c.close.ensures.err
