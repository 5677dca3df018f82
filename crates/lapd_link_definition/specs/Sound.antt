-- How the two places of an end agree with its counters between two steps: in states 7 and 8,
-- message number n of the present establishment is at place first + (n - V(A)).
use Rattle.std.specs.Prelude.{◌≡◌, ◌≤◌, ◌+◌, ℕ, Bool, true, false, length}
use Rattle.lapd_mod128.specs.Counting.{Reading, steps, reaches}
use Rattle.lapd_link_definition.specs.declared.state.State.{State}
use Rattle.lapd_link_definition.specs.declared.state.State.TheVariants.{TeiAssigned, AwaitingEstablishment, AwaitingRelease, MultipleFrameEstablished, TimerRecovery}
use Rattle.lapd_link_definition.specs.End.{End}

-- all sent messages are outstanding: there are as many as steps from V(A) to V(S), at most 127
-- (Q.921 5.9.5)
pub record AreOutstanding (r : Reading) (first next given va vs : ℕ) : Type 0 where
  pub places : next ≡ first + steps r va vs
  pub within : next ≤ given
  pub reached : reaches r va vs ≡ true
  pub at_most : steps r va vs ≤ 127

-- nothing is sent
pub record AreUnsent (first next given : ℕ) : Type 0 where
  pub places : next ≡ first
  pub within : next ≤ given

-- While the data link itself re-establishes, messages of the last establishment may be outstanding.
-- A request of layer 3 to establish, or a release, has dropped them.
abbrev pub AreAwaiting : Reading → Bool → Bool → ℕ → ℕ → ℕ → ℕ → ℕ → Type 0
AreAwaiting r true leaving first next given va vs = AreUnsent first next given
AreAwaiting r false true first next given va vs = AreUnsent first next given
AreAwaiting r false false first next given va vs = AreOutstanding r first next given va vs

abbrev pub IsSoundIn : Reading → State → End → Type 0
IsSoundIn r TeiAssigned e = AreUnsent e.first e.next (length e.given)
IsSoundIn r AwaitingEstablishment e = AreAwaiting r e.layer3_initiated e.release_pending e.first
    e.next (length e.given) e.window.va e.window.vs
IsSoundIn r AwaitingRelease e = AreUnsent e.first e.next (length e.given)
IsSoundIn r MultipleFrameEstablished e = AreOutstanding r e.first e.next
    (length e.given) e.window.va e.window.vs
IsSoundIn r TimerRecovery e = AreOutstanding r e.first e.next
    (length e.given) e.window.va e.window.vs

abbrev pub IsSound : Reading → End → Type 0
IsSound r e = IsSoundIn r e.state e
