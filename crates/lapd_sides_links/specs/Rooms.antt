-- The maximum results of a step of a link, and the room that must be free for them before it.
use Rattle.std.specs.Prelude.{◌≡◌, ◌≤◌, ◌+◌, ◌&&◌, Bool, nat_le, length}
use Rattle.lapd_link_definition.specs.Input.{Input}
use Rattle.lapd_link_machine.specs.Bounds.{most_outputs}
use Rattle.lapd_sides_links.specs.declared.acts.TheConstants.{MOST_PRIMITIVES_OF_STEP, MOST_FRAMES, MOST_PRIMITIVES}
use Rattle.lapd_sides_links.specs.Effects.{Effects, no_effects}

-- no frame and no primitive yet, so that there is room for the results of any call
abbrev pub IsEmpty : Effects → Type 0
IsEmpty acts = acts ≡ no_effects

-- there is room for everything that a step may produce for this input
pub record HasRoomFor (input : Input) (acts : Effects) : Type 0 where
  pub frames : length acts.frames + most_outputs input ≤ MOST_FRAMES
  pub primitives : length acts.primitives + MOST_PRIMITIVES_OF_STEP ≤ MOST_PRIMITIVES

-- a step for this input produced no more than that
pub record AddsAtMost (input : Input) (old new : Effects) : Type 0 where
  pub frames : length new.frames ≤ length old.frames + most_outputs input
  pub primitives : length new.primitives ≤ length old.primitives + MOST_PRIMITIVES_OF_STEP

-- ---- Predicted steps, and messages that are sent at once: at most two frames and two primitives.

-- there is room for everything that such a step may produce
pub record HasRoomForPredicted (acts : Effects) : Type 0 where
  pub frames : length acts.frames + 2 ≤ MOST_FRAMES
  pub primitives : length acts.primitives + 2 ≤ MOST_PRIMITIVES

abbrev pub has_room_for_predicted : Effects → Bool
has_room_for_predicted acts = nat_le (length acts.frames + 2) MOST_FRAMES
    && nat_le (length acts.primitives + 2) MOST_PRIMITIVES
