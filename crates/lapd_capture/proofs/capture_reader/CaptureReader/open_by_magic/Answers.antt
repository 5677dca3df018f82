use Rattle.std.proofs.Common.{rules}
use Rattle.lapd_capture.specs.Reader.{reading_of}
use Rattle.lapd_capture.proofs.Steps.{pcap_magic, same_opening}
use Rattle.lapd_capture.proofs.capture_reader.CaptureReader.open_by_magic.Goals as goal

pub returns-in-Some : goal.returns-in-Some
returns-in-Some g c = λ left e.
    same_opening g.R.Read.remaining _ _ c.open_pcap.result c.open_pcap.new.self
    (pcap_magic (reading_of c.args.self.now left) c.args.magic.now left c.u32_at-number.result
    c.units_of_pcap.result c.in-Some.order (search rules) c.u32_at-number.ensures.number
    (search rules)
    (search rules) c.units_of_pcap.ensures)
    (c.open_pcap.ensures left e)
