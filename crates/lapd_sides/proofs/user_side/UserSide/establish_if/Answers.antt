use Rattle.std.proofs.Common.{[], Bool, sym, subst}
use Rattle.lapd_frame.specs.declared.Side.{Side}
use Rattle.lapd_link_definition.specs.Input.{Establish}
use Rattle.lapd_sides_links.specs.Links.{Links, in_links, link_acts}
use Rattle.lapd_frame.specs.declared.Side.TheVariants as side
use Rattle.lapd_sides.specs.Calls.{HasFollowed}
use Rattle.lapd_sides.specs.ShowsUser.{ShowTerminal, ShowUser}
use Rattle.lapd_sides.specs.SideState.{link_of}
use Rattle.lapd_sides.specs.User.{establishes}
use Rattle.lapd_sides.proofs.Steps.{relinked, step_follows}
use Rattle.lapd_sides.proofs.user_side.UserSide.establish_if.Goals as goal

pub returns-then-pending-clause-done : goal.returns-then-pending-clause-done
unfolding link_of
returns-then-pending-clause-done c =
    λ config s shown. subst (λ (pending : Bool). HasFollowed ShowUser
    (relinked c.args.self.now c.act.new.self) config c.args.acts.now c.act.new.acts
    (establishes pending c.args.now c.args.id s)) (sym c.if-pending.true)
    (step_follows ShowTerminal side.User c.act.result c.args.self.now c.act.new.self config s
    c.args.acts.now c.act.new.acts
    (λ (at : Side) (links : Links). in_links c.args.id
    (link_acts at c.args.id c.args.now Establish []) links) shown c.act.ensures.ok
    c.act.ensures.err c.act.ensures.unchanged c.act.ensures.nothing)
