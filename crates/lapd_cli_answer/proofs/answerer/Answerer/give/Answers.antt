use Rattle.std.proofs.Common.{[], ◌∙◌, sym, arith}
use Rattle.lapd_cli_answer.specs.Answer.{Session, messages_of}
use Rattle.lapd_cli_answer.specs.Outputs.{outs_text}
use Rattle.lapd_cli_answer.specs.Session.{IsAnswerer}
use Rattle.lapd_cli_answer.proofs.Framed.{text_of_step}
use Rattle.lapd_cli_script.proofs.Printed.{printed}
use Rattle.lapd_cli_answer.proofs.answerer.Answerer.give.Goals as goal

pub returns-in-Ok : goal.returns-in-Ok
returns-in-Ok g c = λ s h.
    let done = c.in-Ok.ensures.ok s.end h.end in
    let next : Session = record { setup = s.setup; end = done.0.end } in
    let representation : IsAnswerer (record {
      alloc = c.args.self.now.alloc;
      link = c.give_into.new.self;
      outs = c.give_into.new.outs;
      octets = c.args.self.now.octets;
    }) next =
    record { setup = c.in-Ok.ensures.setup ∙ h.setup; end = done.3 } in
    let text =
    text_of_step c.give_into.new.self next [] c.give_into.new.outs.items
    c.in-Ok.ensures.frames representation (omega arith) in
    rw (c.in_ok-message.ensures, done.1)
    (printed IsAnswerer (outs_text s.setup (messages_of done.0.end) [] done.0.outs) next
    c.put_outs.result _ _ _ representation
    (rw (done.2, sym text) (c.put_outs.ensures.ok next representation))
    c.put_outs.ensures.err)
