use Rattle.lapd_frame.specs.declared.Side.TheVariants.{Network, User}
use Rattle.lapd_cli_link_commands.specs.Loop.{line_to}
use Rattle.lapd_cli_link_commands.proofs.Crossed.{both_crossed, crossed_behind, on_ok}
use Rattle.lapd_cli_link_commands.proofs.looper.Looper.cross.Goals as goal

pub returns-clause-ok : goal.returns-clause-ok
returns-clause-ok g c = λ w h.
    let representation = c.pair-pair.ensures w h in
    let user =
    crossed_behind (λ frame. frame.items) c.line.result.now c.behind.result.now
    c.args.before.to_user (line_to User w) _ _ _ _ c.behind.ensures
    (c.line.ensures w representation) c.in_ok-cross_all.ensures.ok in
    on_ok c.cross_all-2.result
    (λ network. both_crossed _ _ _ _ _ _ _ _ user
    (crossed_behind (λ frame. frame.items) c.line-2.result.now c.behind-2.result.now
    c.args.before.to_network (line_to Network w) _ _ _ _ c.behind-2.ensures
    (c.line-2.ensures w representation) network))
    c.cross_all-2.ensures.ok
