use Rattle.lapd_capture.proofs.Steps.{record_is_found}
use Rattle.lapd_capture.proofs.capture_reader.CaptureReader.find_in_record.Goals as goal

pub returns-clause-step : goal.returns-clause-step
returns-clause-step g c = λ left e.
    record_is_found g.R.Read.remaining c.args.self.now c.pass_packet.new.self c.args.header.now
    c.args.captured c.u32_at.result c.item_on-item.result c.record_moment-moment.result
    c.u32_at.ensures.number c.item_on-item.ensures.exact c.record_moment-moment.ensures
    c.in_ok-pass_packet.ensures.ok left e
