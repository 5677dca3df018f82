use Rattle.std.proofs.Common.{◌∙◌, refl, take}
use Rattle.lapd_cli_side_commands.specs.LineOutputs.{line_of, octets_of}
use Rattle.lapd_cli_side_commands.proofs.Serving.{one_printed, one_written}
use Rattle.lapd_cli_side_commands.proofs.line_output.LineOutput.forward.Goals as goal

pub loop-sent-preserved : goal.loop-sent-preserved
loop-sent-preserved g c =
    let frames = take c.args.self.now.count c.deref.result.now in (
      one_written octets_of frames c.loop-sent.sent-index c.sent-item.result _ _ _ _
          c.loop-sent-test.true c.sent-item.is refl c.loop-sent.invariant.0
          c.in_default.ensures.text,
      c.send.ensures.source ∙ c.loop-sent.invariant.1,
      one_printed line_of frames c.loop-sent.sent-index c.sent-item.result c.line.result.now _ _ _
          c.loop-sent-test.true c.sent-item.is c.line.ensures c.loop-sent.invariant.2
          c.in_ok-write_all.ensures.bytes,
    )
