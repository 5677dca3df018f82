use Rattle.lapd_capture.proofs.ReadBack.{head_is_read, record_is_read}
use Rattle.lapd_capture.proofs.laws.written_is_read.Goals as goal

pub returns-clause-head : goal.returns-clause-head
returns-clause-head c = head_is_read

pub returns-clause-next : goal.returns-clause-next
returns-clause-next c = record_is_read
