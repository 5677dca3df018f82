use Rattle.std.proofs.Common.{◌≡◌}
use Rattle.std.specs.Io.KnownBytes.{Keeps}
use Rattle.lapd_cli_console.specs.Answered.{KeepsAnswers, all_answers}
use Rattle.lapd_cli_console.specs.Typed.{left_to_pass}
use Rattle.lapd_cli_console.proofs.session.Session.fill.Given as goal

abbrev pub invariant-loop-round : goal.invariant-loop-round
invariant-loop-round g l = record {
  left : Keeps (left_to_pass g.R.Read.remaining l.initial.self)
      (left_to_pass g.R.Read.remaining l.self);
  answers : KeepsAnswers (all_answers g.R.Read.remaining g.A.Answers.answered l.initial.self)
      (all_answers g.R.Read.remaining g.A.Answers.answered l.self);
  fault : l.self.fault ≡ l.initial.self.fault;
}
