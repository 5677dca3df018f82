-- The state of a link in the form that C reads: its end of the state table as numbers.
use Rattle.std.specs.Prelude.{ℕ, Bool, true, false, replicate}
use Rattle.lapd_link_definition.specs.End.{End, waiting}
use Rattle.lapd_link_definition.specs.State.{state_number}
use Rattle.lapd_c.specs.declared.link_state.LinkState.{LinkState}

abbrev pub flag : Bool → ℕ
flag false = 0
flag true = 1

abbrev pub state_of : End → LinkState
state_of e = record {
  state = state_number e.state;
  rc = e.rc;
  vs = e.window.vs;
  va = e.window.va;
  vr = e.window.vr;
  peer_busy = flag e.window.peer_busy;
  own_busy = flag e.window.own_busy;
  rejecting = flag e.window.rejecting;
  waiting = waiting e;
  reserved = replicate 2 0;
}

-- the value for a link that does not exist
abbrev pub no_state : LinkState
no_state = record {
  state = 0;
  rc = 0;
  vs = 0;
  va = 0;
  vr = 0;
  peer_busy = 0;
  own_busy = 0;
  rejecting = 0;
  waiting = 0;
  reserved = replicate 2 0;
}
