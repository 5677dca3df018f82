use Rattle.std.proofs.Common.{◌≡◌, ◌∙◌}
use Rattle.lapd_link.specs.State.{state_number}
use Rattle.lapd_cli_answer.specs.Session.{IsAnswerer}
use Rattle.lapd_cli_script.proofs.Printed.{printed}
use Rattle.lapd_cli_answer.proofs.answerer.Answerer.put_state.Goals as goal

pub returns : goal.returns
returns g c = λ s h.
    let number : c.from.result ≡ state_number s.end.state =
    c.from.ensures ∙ c.state.ensures s.end h.end in
    rw c.in_ok-nothing.ensures (printed IsAnswerer _ s c.put_number.result _ _ _ h
    (rw number at c.put_number.ensures.ok) c.put_number.ensures.err)
