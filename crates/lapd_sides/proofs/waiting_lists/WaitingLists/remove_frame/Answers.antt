use Rattle.lapd_sides.proofs.Backlogs.{frame_removed}
use Rattle.lapd_sides.proofs.waiting_lists.WaitingLists.remove_frame.Goals as goal

pub returns : goal.returns
returns c =
    rw (← c.self.view_is) (frame_removed c.self.inside.removed_frames c.self.inside.frames.items _)
