use Rattle.lapd_cli_side_commands.proofs.SideWalks.{user_served}
use Rattle.lapd_cli_side_commands.proofs.sides.user.Goals as goal

pub returns-clause-served : goal.returns-clause-served
returns-clause-served g c =
    user_served c.in-Ok.side c.args.config c.args.fixed (g.R.Read.remaining c.args.script.now) _ _ _
    c.in-Ok.ensures c.run_side.ensures.served
