use Rattle.lapd_pair_laws.proofs.Recording.{in_order_then, settled_then, begun_then, unsent_then, proper_then}
use Rattle.lapd_pair_laws.proofs.histories.outputs_are_recorded.Goals as goal

pub returns : goal.returns
returns c = record {
  rest = in_order_then;
  settled = settled_then;
  begun = begun_then;
  unsent = unsent_then;
  proper = proper_then;
}
