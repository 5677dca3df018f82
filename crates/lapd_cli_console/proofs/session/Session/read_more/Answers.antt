use Rattle.std.proofs.Common.{refl}
use Rattle.lapd_cli_console.specs.Typed.{typing_of}
use Rattle.lapd_cli_console.proofs.Answered.{more_answered}
use Rattle.lapd_cli_console.proofs.Typed.{more_read}
use Rattle.lapd_cli_console.proofs.session.Session.read_more.Goals as goal

pub returns-in_err-read_until-clause-left : goal.returns-in_err-read_until-clause-left
returns-in_err-read_until-clause-left g c =
    more_read (typing_of c.args.self.now) _ c.read_until.new.buf.items
    (g.R.Read.remaining c.args.self.now.reader) (g.R.Read.remaining c.read_until.new.self) refl refl
    refl refl
    c.read_until.ensures.appends c.read_until.ensures.none_lost

pub returns-in_err-read_until-clause-answers : goal.returns-in_err-read_until-clause-answers
returns-in_err-read_until-clause-answers g c =
    more_answered (typing_of c.args.self.now) _ c.read_until.new.buf.items
    (g.A.Answers.answered c.args.self.now.answers)
    (g.R.Read.remaining c.args.self.now.reader) (g.R.Read.remaining c.read_until.new.self) refl refl
    refl
    c.read_until.ensures.appends c.read_until.ensures.none_lost
