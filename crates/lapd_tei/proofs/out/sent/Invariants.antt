use Rattle.std.proofs.Common.{◌≡◌, ◌++◌, ◌≤◌, drop}
use Rattle.arrayvec.specs.ArrayVec.{array_vec_len}
use Rattle.lapd_tei.specs.Out.{sent}
use Rattle.lapd_tei.proofs.out.sent.Given as goal

abbrev pub invariant-loop-out : goal.invariant-loop-out
invariant-loop-out l = record {
  messages : l.messages.items ++ sent (drop l.out-index l.outs.items) ≡ sent l.outs.items;
  room : array_vec_len l.messages ≤ l.out-index;
}
