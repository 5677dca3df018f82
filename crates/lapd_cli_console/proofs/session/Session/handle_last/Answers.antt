use Rattle.std.proofs.Common.{◌≡◌, ◌≢◌, [], length, sym, ap, ◌∙◌}
use Rattle.std.specs.Vec.{vec_len}
use Rattle.lapd_cli_console.specs.Typed.{typing_of}
use Rattle.lapd_cli_console.proofs.Answered.{last_answered, on_err_same}
use Rattle.lapd_cli_console.proofs.Typed.{last_handled}
use Rattle.lapd_cli_console.proofs.session.Session.handle_last.Goals as goal

pub returns-clause-left : goal.returns-clause-left
returns-clause-left g c = λ at_end.
    let some : c.args.self.now.typed.items ≢ [] = λ e.
    let none : vec_len c.args.self.now.typed ≡ 0 =
    sym c.as_slice.ensures.len ∙ ap length (c.as_slice.ensures.value ∙ e) in
    let same = rw none at c.is_empty.ensures in
    let no = c.if-is_empty.false in
    cc in
    last_handled c.handle.result (typing_of c.args.self.now) (typing_of c.handle.new.self)
    c.in_ok-line.line.items c.as_slice.result.now c.new.result.items
    (g.R.Read.remaining c.args.self.now.reader) (g.R.Read.remaining c.handle.new.self.reader)
    (ap g.R.Read.remaining c.handle.ensures.reader)
    c.handle.ensures.ok c.handle.ensures.err c.in_ok-line.ensures c.as_slice.ensures.value
    c.new.ensures.items c.requires.used_up at_end c.requires.no_feed some

pub returns-clause-answers : goal.returns-clause-answers
returns-clause-answers g c = λ at_end.
    let some : c.args.self.now.typed.items ≢ [] = λ e.
    let none : vec_len c.args.self.now.typed ≡ 0 =
    sym c.as_slice.ensures.len ∙ ap length (c.as_slice.ensures.value ∙ e) in
    let same = rw none at c.is_empty.ensures in
    let no = c.if-is_empty.false in
    cc in
    last_answered c.handle.result (typing_of c.args.self.now) (typing_of c.handle.new.self)
    c.in_ok-line.line.items c.as_slice.result.now c.new.result.items
    (g.A.Answers.answered c.args.self.now.answers) (g.A.Answers.answered c.handle.new.self.answers)
    (g.R.Read.remaining c.args.self.now.reader) (g.R.Read.remaining c.handle.new.self.reader)
    (ap g.R.Read.remaining c.handle.ensures.reader)
    c.handle.ensures.ok c.handle.ensures.err c.handle.ensures.answered
    (on_err_same c.handle.result g.A.Answers.answered _ _ c.handle.ensures.unanswered)
    c.in_ok-line.ensures c.as_slice.ensures.value c.new.ensures.items c.requires.used_up at_end
    c.requires.no_feed some
