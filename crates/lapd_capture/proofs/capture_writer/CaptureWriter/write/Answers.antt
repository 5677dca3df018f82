use Rattle.std.proofs.Common.{rules}
use Rattle.lapd_capture.proofs.capture_writer.CaptureWriter.write.Goals as goal

pub returns-clause-record_of : goal.returns-clause-record_of
returns-clause-record_of g c = search rules
