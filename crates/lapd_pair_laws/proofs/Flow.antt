-- The remaining work from one side to the other: the measure that each move reduces.
use Rattle.std.proofs.Common.{◌≡◌, ◌⊎◌, ℕ, ◌+◌, ◌-◌, ◌*◌, ◌<◌, ◌≤◌, Bool, true, false, List, [], ◌∷◌, length}
use Rattle.lapd_link_definition.specs.declared.state.State.{State}
use Rattle.lapd_link_definition.specs.declared.state.State.TheVariants.{MultipleFrameEstablished, TimerRecovery}
use Rattle.lapd_link_definition.specs.End.{End}
use Rattle.lapd_pair_laws.specs.Safe.{IsAmong}
use Rattle.lapd_pair_laws.specs.Kinds.{Message, Kind, messages, numbers, rejections, tally, poll_of, final_of}

-- a side as a sender: whether T200 runs, whether it takes the peer to be busy, V(S), V(A), and how
-- many messages are unsent
pub record Source : Type 0 where
  pub state : State
  pub t200 : Bool
  pub busy : Bool
  pub vs : ℕ
  pub va : ℕ
  pub unsent : ℕ

-- a side as a receiver
pub record Sink : Type 0 where
  pub vr : ℕ
  pub rejecting : Bool

abbrev pub source : End → Source
source e = record {
  state = e.state;
  t200 = e.t200;
  busy = e.window.peer_busy;
  vs = e.window.vs;
  va = e.window.va;
  unsent = length e.given - e.next;
}

abbrev pub sink : End → Sink
sink e = record { vr = e.window.vr; rejecting = e.window.rejecting }

-- ---- All missing messages are in transit.

-- all numbers from `low` on below `end`, and nothing else
abbrev pub IsWhole : ℕ → ℕ → List Message → Type 0
IsWhole low end [] = low ≡ end
IsWhole low end (m ∷ ms) = (m.number ≡ low) × IsWhole (low + 1) end ms

-- stale messages above `low` may precede them
abbrev pub IsJunkThenWhole : ℕ → ℕ → List Message → Type 0
IsJunkThenWhole low end [] = low ≡ end
IsJunkThenWhole low end (m ∷ ms) =
    IsWhole low end (m ∷ ms) ⊎ ((low < m.number) × IsJunkThenWhole low end ms)

abbrev pub IsInTransit : Bool → ℕ → ℕ → List Message → Type 0
IsInTransit false low end ms = IsWhole low end ms
IsInTransit true low end ms = IsJunkThenWhole low end ms

-- x needs no recovery: the messages that y awaits are in transit up to V(S), no REJ is, and T200
-- will be stopped if it runs
pub record IsClean (x : Source) (y : Sink) (out back : List Kind) : Type 0 where
  pub in_7 : x.state ≡ MultipleFrameEstablished
  pub free : x.busy ≡ false
  pub arriving : IsInTransit y.rejecting y.vr x.vs (messages out)
  pub wanted : rejections back ≡ []
  pub timed : x.t200 ≡ false → x.vs ≡ x.va
  pub stopped : x.t200 ≡ true → (y.vr < x.vs) ⊎ IsAmong x.vs (numbers back)

-- the stage of x: it needs no recovery; it waits for T200, or for a REJ; its poll is in transit;
-- the answer is
pub data Stage : Type 0 where
  Clean : Stage
  Waiting : Stage
  Polling : Stage
  Answered : Stage

abbrev pub IsAt : Stage → Source → Sink → List Kind → List Kind → Type 0
IsAt Clean x y out back = IsClean x y out back
IsAt Waiting x y out back = (x.state ≡ MultipleFrameEstablished) × (x.t200 ≡ true)
IsAt Polling x y out back = (x.state ≡ TimerRecovery) × (tally poll_of out ≡ 1)
IsAt Answered x y out back = (x.state ≡ TimerRecovery) × (tally final_of back ≡ 1)

-- counts a REJ that may still be sent
abbrev pub fresh : Bool → ℕ
fresh true = 0
fresh false = 1

abbrev pub burden : ℕ → Source → Sink → ℕ
burden n x y = 3 * x.unsent + 2 * (x.vs - y.vr) + fresh y.rejecting + n

abbrev pub weight : Stage → Source → Sink → ℕ
weight Clean x y = 2 * x.unsent + (x.vs - y.vr)
weight Waiting x y = burden 3 x y
weight Polling x y = burden 1 x y
weight Answered x y = burden 0 x y

pub record Stream (x : Source) (y : Sink) (out back : List Kind) (n : ℕ) : Type 0 where
  pub stage : Stage
  pub so : IsAt stage x y out back
  pub most : weight stage x y ≤ n

-- both directions, with the frames in transit
pub record Flow (x y : End) (out back : List Kind) (n : ℕ) : Type 0 where
  pub a : ℕ
  pub b : ℕ
  pub mine : Stream (source x) (sink y) out back a
  pub its : Stream (source y) (sink x) back out b
  pub most : length out + length back + a + b ≤ n

-- the weight of the stream has fallen from n by this much
pub record Lighter (by : ℕ) (x : Source) (y : Sink) (out back : List Kind) (n : ℕ) : Type 0 where
  pub some : by ≤ n
  pub stream : Stream x y out back (n - by)
