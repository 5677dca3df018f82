-- Facts that every end keeps between two steps, besides the invariant: T200 runs if the end waits
-- for the peer, and every message that may be sent has been sent.
use Rattle.std.specs.Prelude.{◌≡◌, ℕ, ◌≤◌, Bool, true, false}
use Rattle.lapd_mod128.specs.Counting.{Whole}
use Rattle.lapd_link_definition.specs.declared.state.State.{State}
use Rattle.lapd_link_definition.specs.declared.state.State.TheVariants.{TeiAssigned, AwaitingEstablishment, AwaitingRelease, MultipleFrameEstablished, TimerRecovery}
use Rattle.lapd_link_definition.specs.EndOfStep.{is_7_or_8, may_send_next}
use Rattle.lapd_link_definition.specs.End.{End, begin}
use Rattle.lapd_pair_laws.specs.World.{World}

-- In state 7, T200 runs if a message is outstanding (Q.921 5.6.1) or the end takes the peer to be
-- busy (5.6.5). In state 5 it does not take the peer to be busy.
abbrev pub IsTimedIn : State → Bool → ℕ → ℕ → Bool → Type 0
IsTimedIn TeiAssigned t200 vs va busy = Unit {0}
IsTimedIn AwaitingEstablishment t200 vs va busy = busy ≡ false
IsTimedIn AwaitingRelease t200 vs va busy = Unit {0}
IsTimedIn MultipleFrameEstablished t200 vs va busy = t200 ≡ false → (vs ≡ va) × (busy ≡ false)
IsTimedIn TimerRecovery t200 vs va busy = Unit {0}

abbrev pub IsTimed : End → Type 0
IsTimed e = IsTimedIn e.state e.t200 e.window.vs e.window.va e.window.peer_busy

-- every message that may be sent has been sent, and no acknowledgement is pending
pub record IsClosed (e : End) : Type 0 where
  pub sent : may_send_next Whole (begin e) ≡ false
  pub acknowledged : is_7_or_8 e.state ≡ true → e.window.ack_pending ≡ false

-- both, with a window of at least 1
pub record IsSettledEnd (e : End) : Type 0 where
  pub timed : IsTimed e
  pub closed : IsClosed e
  pub some : 1 ≤ e.parameters.k

pub record AreSettledEnds (w : World) : Type 0 where
  pub user : IsSettledEnd w.user.end
  pub network : IsSettledEnd w.network.end
