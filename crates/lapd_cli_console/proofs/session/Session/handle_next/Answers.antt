use Rattle.std.proofs.Common.{ap, sym, ◌∙◌, ◌∷◌, ◌++◌}
use Rattle.lapd_cli_console.specs.Typed.{typing_of}
use Rattle.lapd_cli_console.proofs.Answered.{on_err_same, whole_answered}
use Rattle.lapd_cli_console.proofs.Typed.{whole_handled}
use Rattle.lapd_cli_console.proofs.session.Session.handle_next.Goals as goal

pub returns-in_ok-behind-in-Some-clause-left : goal.returns-in_ok-behind-in-Some-clause-left
returns-in_ok-behind-in-Some-clause-left g c =
    let found = c.in-Some.ensures.found in
    let behind = c.in_ok-behind-in-Some.ensures in
    whole_handled c.handle.result (typing_of c.args.self.now) (typing_of c.handle.new.self)
    c.in_ok-line-in-Some.line.items c.in-Some.line.now c.in_ok-behind-in-Some.behind.items
    (g.R.Read.remaining c.args.self.now.reader) (g.R.Read.remaining c.handle.new.self.reader)
    (ap g.R.Read.remaining c.handle.ensures.reader)
    c.handle.ensures.ok c.handle.ensures.err c.in_ok-line-in-Some.ensures c.requires found.0
    (sym c.as_slice.ensures.value ∙ found.1
    ∙ ap (λ rest. c.in-Some.line.now ++ 10 ∷ rest) (sym behind.items))

pub returns-in_ok-behind-in-Some-clause-answers : goal.returns-in_ok-behind-in-Some-clause-answers
returns-in_ok-behind-in-Some-clause-answers g c =
    let found = c.in-Some.ensures.found in
    let behind = c.in_ok-behind-in-Some.ensures in
    whole_answered c.handle.result (typing_of c.args.self.now) (typing_of c.handle.new.self)
    c.in_ok-line-in-Some.line.items c.in-Some.line.now c.in_ok-behind-in-Some.behind.items
    (g.A.Answers.answered c.args.self.now.answers) (g.A.Answers.answered c.handle.new.self.answers)
    (g.R.Read.remaining c.args.self.now.reader) (g.R.Read.remaining c.handle.new.self.reader)
    (ap g.R.Read.remaining c.handle.ensures.reader)
    c.handle.ensures.ok c.handle.ensures.err c.handle.ensures.answered
    (on_err_same c.handle.result g.A.Answers.answered _ _ c.handle.ensures.unanswered)
    c.in_ok-line-in-Some.ensures c.requires found.0
    (sym c.as_slice.ensures.value ∙ found.1
    ∙ ap (λ rest. c.in-Some.line.now ++ 10 ∷ rest) (sym behind.items))
