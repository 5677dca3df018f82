-- The I queue as a value: the messages in it, and how many of them have been sent (Q.921 5.5, 5.6).
use Rattle.std.specs.Prelude.{ℕ, ◌+◌, ◌-◌, ◌≤◌, List, [], ◌∷◌, ◌++◌, drop}

-- the octets of the messages, oldest first; how many at the front are sent; the most messages that
-- it can hold
pub record Waiting : Type 0 where
  pub messages : List (List ℕ)
  pub sent : ℕ
  pub room : ℕ

-- no more messages are sent than it holds, and it holds no more than there is room for
pub record IsSound (sent waiting room : ℕ) : Type 0 where
  pub sent_waits : sent ≤ waiting
  pub waiting_fits : waiting ≤ room
  pub room_in_range : room ≤ 1024

-- an empty queue
unfoldable pub with_room : ℕ → Waiting
with_room n = record { messages = []; sent = 0; room = n }

-- one more message, at the end, unsent (Q.921 5.6.1)
unfoldable pub with_message : List ℕ → Waiting → Waiting
with_message octets q = record q { messages = q.messages ++ octets ∷ [] }

-- the first unsent message is sent now (Q.921 5.6.1)
unfoldable pub one_more_sent : Waiting → Waiting
one_more_sent q = record q { sent = q.sent + 1 }

-- the first `n` messages, which were sent, are acknowledged and removed (Q.921 5.6.3.2)
unfoldable pub without_first : ℕ → Waiting → Waiting
without_first n q = record q { messages = drop n q.messages; sent = q.sent - n }

-- all messages are unsent again, to be retransmitted (Q.921 5.6.4)
unfoldable pub all_unsent : Waiting → Waiting
all_unsent q = record q { sent = 0 }

-- all messages are discarded (Q.921 5.5.1, 5.5.3)
unfoldable pub emptied : Waiting → Waiting
emptied q = record q { messages = []; sent = 0 }
