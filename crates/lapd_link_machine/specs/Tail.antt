-- The I queue as the tail of all messages of layer 3.
use Rattle.std.specs.Prelude.{◌≡◌, ◌≤◌, ◌+◌, ℕ, List, length, drop}
use Rattle.lapd_queue.specs.Waiting.{Waiting}

-- the queue holds the accepted messages from place `first` on; those before place `next` are sent
pub record IsTail (given : List (List ℕ)) (first next : ℕ) (queue : Waiting) : Type 0 where
  pub messages : drop first given ≡ queue.messages
  pub within : first ≤ length given
  pub next_is : next ≡ first + queue.sent
