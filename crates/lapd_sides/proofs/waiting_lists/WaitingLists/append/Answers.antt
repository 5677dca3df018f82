use Rattle.std.proofs.Common.{◌∙◌}
use Rattle.lapd_sides.proofs.Backlogs.{both_on_ok, wait_behind}
use Rattle.lapd_sides.proofs.waiting_lists.WaitingLists.append.Goals as goal

pub returns-clause-moved : goal.returns-clause-moved
returns-clause-moved c =
    let waits = c.self.inside in
    rw (← (c.self.view_is ∙ c.close_up.ensures)) (both_on_ok c.move_behind.result _ _ _
    (wait_behind waits.removed_frames waits.removed_primitives waits.frames.items
    c.move_behind.new.frames.items waits.primitives.items c.move_behind.new.primitives.items
    c.args.acts.now
    c.self.invariant.0
    c.self.invariant.1) c.move_behind.ensures.frames c.move_behind.ensures.primitives)
