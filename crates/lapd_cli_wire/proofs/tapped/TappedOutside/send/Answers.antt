use Rattle.lapd_cli_wire.proofs.Passed.{passes_since}
use Rattle.lapd_cli_wire.proofs.tapped.TappedOutside.send.Goals as goal

pub invariant_of-self-2 : goal.invariant_of-self-2
invariant_of-self-2 g c =
    record {
      are_passed =
          passes_since c.args.self.now.own _ _ _ _ _ c.args.self.now.are_passed
          c.in_ok-sending.ensures.io_events c.pass.ensures.passed_frames;
    }
