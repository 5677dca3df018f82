-- The end that the machine of a link represents, and the terms in which its methods are stated.
use Rattle.std.specs.Prelude.{◌≡◌, ◌≤◌, ◌+◌, ℕ, List}
use Rattle.arrayvec.specs.ArrayVec.{ArrayVec, array_vec_len}
use Rattle.lapd_link_definition.specs.declared.out.Out.{Out}
use Rattle.lapd_link_definition.specs.End.{StepState}
use Rattle.lapd_link_machine.specs.declared.machine.Machine.{Machine}
use Rattle.lapd_link_machine.specs.declared.machine.TheConstants.{MOST_OUTPUTS}
use Rattle.lapd_link_machine.specs.Tail.{IsTail}

-- A machine, with the outputs of the step so far, represents an end within a step, on tags. It does
-- not store how many establishments the end has had, or the messages before its queue.
pub record Represents (m : Machine) (outs : List Out) (s : StepState) : Type 0 where
  pub parameters : s.end.parameters ≡ m.params
  pub state : s.end.state ≡ m.state
  pub rc : s.end.rc ≡ m.rc
  pub window : s.end.window ≡ m.window
  pub layer3_initiated : s.end.layer3_initiated ≡ m.layer3_initiated
  pub release_pending : s.end.release_pending ≡ m.release_pending
  pub t200 : s.end.t200 ≡ m.t200
  pub t203 : s.end.t203 ≡ m.t203
  pub queue : IsTail s.end.given s.end.first s.end.next m.queue
  pub room : s.end.parameters.room ≡ m.queue.room
  pub put : s.outs ≡ outs

-- a method has the same effect on the machine and its outputs as the action on any end that the
-- machine represents
abbrev pub MachineDoes : Machine → ArrayVec Out → Machine → ArrayVec Out → (StepState → StepState)
    → Type 0
MachineDoes old old_outs new new_outs action = (s : StepState) → Represents old old_outs.items s
    → Represents new new_outs.items (action s)

-- the same for an action without outputs
abbrev pub DoesQuietly : Machine → Machine → (StepState → StepState) → Type 0
DoesQuietly old new action = (s : StepState) (outs : List Out) → Represents old outs s
    → Represents new outs (action s)

-- there is room for this many more outputs
abbrev pub HasOutputRoom : ℕ → ArrayVec Out → Type 0
HasOutputRoom n outs = array_vec_len outs + n ≤ MOST_OUTPUTS

-- at most this many outputs are added
abbrev pub Grows : ℕ → ArrayVec Out → ArrayVec Out → Type 0
Grows n old new = array_vec_len new ≤ array_vec_len old + n
