use Rattle.std.proofs.Common.{◌∙◌, refl}
use Rattle.lapd_cli_wire.proofs.delays.Delays.put_off.Goals as goal

pub returns-clause-put_off : goal.returns-clause-put_off
returns-clause-put_off c = record {
  frame = c.in_ok-frame.frame;
  octets_are = c.in_ok-frame.ensures.octets;
  moment = c.in_ok-frame.ensures.moment ∙ c.moment_of_next-moment.ensures;
  behind = c.in_ok-push_back.ensures.items;
  latest = c.moment_of_next-moment.ensures;
  impairment = refl;
  random = refl;
}
