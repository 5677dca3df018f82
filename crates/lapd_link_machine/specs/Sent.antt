-- Properties that a machine keeps between two steps: the number of sent messages, the room of its
-- queue, the bound of its window, that it counts by tags, and that no message is longer than a
-- frame carries.
use Rattle.std.specs.Prelude.{◌≡◌, ◌≤◌, ℕ, Bool, true, false, length}
use Rattle.std.specs.List.{All}
use Rattle.lapd_frame.specs.Frame.{n201}
use Rattle.lapd_mod128.specs.Counting.{Tagged}
use Rattle.lapd_supervision.specs.StateVariables.{StateVariables, AreTags, outstanding, is_valid_nr, with_va, acknowledged_count, acknowledges_all}
use Rattle.lapd_supervision.specs.declared.advance.Advance.{Advance}
use Rattle.lapd_link_definition.specs.declared.state.State.{State}
use Rattle.lapd_link_definition.specs.declared.state.State.TheVariants.{TeiAssigned, AwaitingEstablishment, AwaitingRelease, MultipleFrameEstablished, TimerRecovery}
use Rattle.lapd_link_machine.specs.declared.machine.Machine.{Machine}

-- as many messages are sent as I frames are outstanding
abbrev pub SentAreOutstanding : Machine → Type 0
SentAreOutstanding m = m.queue.sent ≡ outstanding Tagged m.window

-- How many messages are sent in each state: the outstanding ones while the link is established or
-- re-establishes by itself, otherwise none.
abbrev pub sent_in_state : State → Bool → Bool → StateVariables → ℕ
sent_in_state TeiAssigned layer3_initiated release_pending v = 0
sent_in_state AwaitingEstablishment true release_pending v = 0
sent_in_state AwaitingEstablishment false true v = 0
sent_in_state AwaitingEstablishment false false v = outstanding Tagged v
sent_in_state AwaitingRelease layer3_initiated release_pending v = 0
sent_in_state MultipleFrameEstablished layer3_initiated release_pending v = outstanding Tagged v
sent_in_state TimerRecovery layer3_initiated release_pending v = outstanding Tagged v

pub record IsBetweenSteps (m : Machine) : Type 0 where
  pub sent : m.queue.sent ≡ sent_in_state m.state m.layer3_initiated m.release_pending m.window
  pub within : m.queue.sent ≤ length m.queue.messages
  pub room : m.params.room ≡ m.queue.room
  pub few : m.params.k ≤ 127
  pub numbers : AreTags m.window
  pub short : All (λ message. length message ≤ n201) m.queue.messages

-- The window after a valid N(R), and what it acknowledges.
pub record IsTaken (nr : ℕ) (before : StateVariables) (taken : StateVariables × Advance) :
    Type 0 where
  pub valid : is_valid_nr Tagged nr before ≡ true
  pub window : taken.0 ≡ with_va nr before
  pub count : taken.1.count ≡ acknowledged_count Tagged nr before
  pub all : taken.1.all ≡ acknowledges_all nr before
