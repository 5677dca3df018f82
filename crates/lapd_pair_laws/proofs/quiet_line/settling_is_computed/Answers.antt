use Rattle.lapd_pair_laws.proofs.Worked.{new_settles, sabme_settles, three_settle, three_settle_by_last, busy_settles}
use Rattle.lapd_pair_laws.proofs.quiet_line.settling_is_computed.Goals as goal

pub returns : goal.returns
returns c = record {
  new_pair = new_settles;
  sabme = sabme_settles;
  three = three_settle;
  three_by_last = three_settle_by_last;
  busy = busy_settles;
}
