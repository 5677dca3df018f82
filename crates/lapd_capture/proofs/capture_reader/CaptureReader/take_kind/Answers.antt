use Rattle.std.proofs.Common.{ap, min, ◌+◌, ◌∙◌}
use Rattle.lapd_capture.proofs.Steps.{enhanced_is_passed, simple_is_passed}
use Rattle.lapd_capture.proofs.capture_reader.CaptureReader.take_kind.Goals as goal

pub returns-in_ok-pass_packet-in-6-clause-step : goal.returns-in_ok-pass_packet-in-6-clause-step
returns-in_ok-pass_packet-in-6-clause-step g c = λ left e.
    enhanced_is_passed g.R.Read.remaining c.args.self.now c.pass_packet.new.self c.args.kind
    c.args.count c.args.head.now c.enhanced_packet-item.result c.block_moment-moment.result
    c.saturating_add-self.result left c.in-6.is (c.enhanced_packet-item.ensures.exact left)
    (c.block_moment-moment.ensures left)
    (c.saturating_add-self.ensures ∙ ap (λ k. min (c.args.self.now.missing + k) 18446744073709551615)
    (c.block_missing.ensures left))
    c.in_ok-pass_packet-in-6.ensures.ok e

pub returns-in_ok-pass_packet-in-3-clause-step : goal.returns-in_ok-pass_packet-in-3-clause-step
returns-in_ok-pass_packet-in-3-clause-step g c = λ left e.
    simple_is_passed g.R.Read.remaining c.args.self.now c.pass_packet-in-3.new.self c.args.kind
    c.args.count c.args.head.now c.simple_packet-item.result
    left c.in-3.is (c.simple_packet-item.ensures.exact left) c.in_ok-pass_packet-in-3.ensures.ok e
