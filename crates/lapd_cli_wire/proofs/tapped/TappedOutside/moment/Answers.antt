use Rattle.std.proofs.Common.{refl}
use Rattle.lapd_cli_wire.proofs.Passed.{passed_beside}
use Rattle.lapd_cli_wire.proofs.tapped.TappedOutside.moment.Goals as goal

pub invariant_of-self-2 : goal.invariant_of-self-2
invariant_of-self-2 g c = record {
  are_passed =
      passed_beside c.args.self.now.own _ _ _ _ c.args.self.now.are_passed
      c.in_ok-now.ensures.io_events refl;
}
