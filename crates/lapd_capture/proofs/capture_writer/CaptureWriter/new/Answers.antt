use Rattle.std.proofs.Common.{rules}
use Rattle.lapd_capture.proofs.capture_writer.CaptureWriter.new.Goals as goal

pub returns-clause-head : goal.returns-clause-head
returns-clause-head g c = search rules
