use Rattle.std.proofs.Common.{◌≡◌, ◌∙◌}
use Rattle.lapd_frame.specs.Fault.{fault_name}
use Rattle.lapd_cli_answer.specs.Session.{IsAnswerer}
use Rattle.lapd_cli_script.proofs.Printed.{printed}
use Rattle.lapd_cli_answer.proofs.answerer.Answerer.receive_fault.Goals as goal

pub returns-in-None : goal.returns-in-None
returns-in-None g c = λ s h.
    let text : c.as_bytes.result.now ≡ fault_name c.args.fault.now.kind =
    c.as_bytes.ensures.value ∙ c.name.ensures in
    rw c.in-None.is (printed IsAnswerer _ s c.put_line.result _ _ _ h
    (rw text at c.put_line.ensures.ok) c.put_line.ensures.err)
