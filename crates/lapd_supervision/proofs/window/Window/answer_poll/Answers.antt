use Rattle.std.proofs.Common.{rules}
use Rattle.lapd_supervision.proofs.window.Window.answer_poll.Goals as goal

pub returns-clause-control : goal.returns-clause-control
returns-clause-control c = search rules
