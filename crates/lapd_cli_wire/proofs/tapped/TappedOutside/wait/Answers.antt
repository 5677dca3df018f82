use Rattle.lapd_cli_wire.proofs.Passed.{passed_waited}
use Rattle.lapd_cli_wire.proofs.tapped.TappedOutside.wait.Goals as goal

pub invariant_of-self : goal.invariant_of-self
invariant_of-self g c = record {
  are_passed =
      passed_waited c.args.self.now.own _ _ _ c.args.until c.wait.result
      c.args.self.now.are_passed c.wait.ensures.io_events c.wait.ensures.err;
}
