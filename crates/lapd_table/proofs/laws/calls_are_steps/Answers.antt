use Rattle.lapd_table.proofs.Calls.{dispatched, not_dispatched, stepped, refused}
use Rattle.lapd_table.proofs.laws.calls_are_steps.Goals as goal

pub returns : goal.returns
returns c = record {
  dispatched = dispatched;
  not_dispatched = not_dispatched;
  stepped = stepped;
  refused = refused;
}
