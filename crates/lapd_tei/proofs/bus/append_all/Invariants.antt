use Rattle.std.proofs.Common.{◌≡◌, ◌≤◌, ◌+◌, ◌-◌, ◌++◌, length, take}
use Rattle.std.specs.VecDeque.{deque_len, deque_capacity}
use Rattle.lapd_tei.proofs.bus.append_all.Given as goal

abbrev pub invariant-loop-message : goal.invariant-loop-message
invariant-loop-message l =
    (l.up.items ≡ l.initial.up.items ++ take l.message-index l.messages)
    × (deque_len l.up + (length l.messages - l.message-index) ≤ deque_capacity l.up)
