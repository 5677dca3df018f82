use Rattle.std.proofs.Common.{◌≡◌, ◌≤◌, ◌+◌, ◌-◌, if◌then◌else◌, false}
use Rattle.arrayvec.specs.ArrayVec.{array_vec_len}
use Rattle.lapd_mod128.specs.Counting.{Tagged}
use Rattle.lapd_supervision.specs.StateVariables.{outstanding}
use Rattle.lapd_link_definition.specs.EndOfStep.{send_all, is_established}
use Rattle.lapd_link_definition.specs.End.{StepState, unsent}
use Rattle.lapd_link_machine.specs.Bounds.{primitive_count}
use Rattle.lapd_link_machine.specs.Represents.{Represents}
use Rattle.lapd_link_machine.proofs.machine.Machine.send_all.Given as goal

-- the rest of the loop sends the same messages as the whole, and there is room for all messages
-- that the window allows
abbrev pub invariant-loop-self : goal.invariant-loop-self
invariant-loop-self l = record {
  room : array_vec_len l.outs + (127 - outstanding Tagged l.self.window)
      + (if l.self.t200 then 0 else 2) ≤ 135;
  none : is_established l.initial.self.state ≡ false
      → (l.self.state ≡ l.initial.self.state)
      × (array_vec_len l.outs ≡ array_vec_len l.initial.outs);
  untold : primitive_count l.outs.items ≡ primitive_count l.initial.outs.items;
  same : (s : StepState) → Represents l.initial.self l.initial.outs.items s
      → (t : StepState) × Represents l.self l.outs.items t
      × (send_all Tagged (unsent s.end) s ≡ send_all Tagged (unsent t.end) t);
}

abbrev pub decreases-loop-self : goal.decreases-loop-self
decreases-loop-self l = 127 - outstanding Tagged l.self.window
