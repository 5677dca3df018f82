use Rattle.std.proofs.Common.{rules}
use Rattle.lapd_sides.proofs.user_side.TerminalManagementManagement.is_for_layer_3.Goals as goal

pub returns-then-serves : goal.returns-then-serves
returns-then-serves c = search rules

pub returns-else-serves : goal.returns-else-serves
returns-else-serves c = search rules
