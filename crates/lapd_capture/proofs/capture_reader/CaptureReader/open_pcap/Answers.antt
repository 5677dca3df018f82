use Rattle.std.proofs.Common.{drop}
use Rattle.lapd_capture.specs.Reader.{reading_of}
use Rattle.lapd_capture.proofs.Steps.{pcap_begun, pcap_cut, same_opening}
use Rattle.lapd_capture.proofs.Taken.{all_taken, too_few}
use Rattle.lapd_capture.proofs.capture_reader.CaptureReader.open_pcap.Goals as goal

pub returns-in-Part : goal.returns-in-Part
returns-in-Part g c = λ left e.
    let few =
    too_few _ _ _ c.take_all.new.octets left 20 c.in_ok-take_all.ensures.taken c.in-Part.is
    c.take_all.auto.octets e in
    pcap_cut c.args.order c.args.units (reading_of c.args.self.now left) few

pub returns : goal.returns
returns g c = λ left e.
    let t =
    all_taken _ _ _ c.take_all.new.octets left 20 c.in_ok-take_all.ensures.taken c.in-All.is
    c.take_all.auto.octets e in
    same_opening g.R.Read.remaining _ _ c.set_link.result c.set_link.new.self
    (pcap_begun c.args.order c.args.units (reading_of c.args.self.now left) c.of.result
    c.u32_at.result c.take_all.new.octets t.0 t.1 c.u32_at.ensures.number c.of.ensures)
    (c.set_link.ensures (drop 20 left) t.2)
