use Rattle.std.proofs.Common.{rules}
use Rattle.lapd_supervision.proofs.window.Window.enquiry.Goals as goal

pub returns-clause-window : goal.returns-clause-window
returns-clause-window c = search rules
