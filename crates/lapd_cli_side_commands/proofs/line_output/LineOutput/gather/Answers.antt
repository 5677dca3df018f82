use Rattle.std.proofs.Common.{◌∙◌}
use Rattle.lapd_cli_side_commands.specs.LineOutputs.{sent_of, traced_of}
use Rattle.lapd_cli_side_lines.specs.SideTexts.{frame_text_line}
use Rattle.lapd_cli_side_commands.proofs.Serving.{one_preserved, one_traced}
use Rattle.lapd_cli_side_commands.proofs.line_output.LineOutput.gather.Goals as goal

pub loop-frame-preserved : goal.loop-frame-preserved
loop-frame-preserved c =
    let frames = c.frames-frame-items.result.now in (
      one_preserved (λ frame. frame.items) frames c.loop-frame.frame-index c.frame-item.result
          c.as_slice.result.now
          (sent_of c.args.self.now) (sent_of c.loop-frame.self) (sent_of c.add.new.self)
          c.loop-frame-test.true c.frame-item.is
          c.as_slice.ensures.value c.loop-frame.invariant.0 c.in_ok-add.ensures.sent,
      one_traced (frame_text_line c.args.style c.args.side) (λ frame. frame.items) frames
          c.loop-frame.frame-index c.frame-item.result c.as_slice.result.now
          (traced_of c.args.self.now) (traced_of c.loop-frame.self) (traced_of c.add.new.self)
          c.loop-frame-test.true c.frame-item.is
          c.as_slice.ensures.value c.loop-frame.invariant.1 c.in_ok-add.ensures.traced,
      c.in_ok-add.ensures.delivered ∙ c.loop-frame.invariant.2,
    )
