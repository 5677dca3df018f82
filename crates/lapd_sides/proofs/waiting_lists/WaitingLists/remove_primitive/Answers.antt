use Rattle.lapd_sides.proofs.Backlogs.{primitive_removed}
use Rattle.lapd_sides.proofs.waiting_lists.WaitingLists.remove_primitive.Goals as goal

pub returns : goal.returns
returns c =
    rw (← c.self.view_is)
    (primitive_removed c.self.inside.removed_primitives c.self.inside.primitives.items _)
